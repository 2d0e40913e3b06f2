-- What the two sides keep between commands, and which commands they pass.
use Rattle.std.specs.Prelude.{◌≡◌, ℕ, List, [], ◌∷◌, ◌++◌, false, length}
use Rattle.svga_cmd.specs.Spelling.{Spells}
use Rattle.svga_cmd.specs.declared.command.Command.{Command}
use Rattle.svga_cmd.specs.declared.command.Command.TheVariants.{Fence}
use Rattle.svga_cmd.specs.declared.page.PageKey.{PageKey}
use Rattle.svga_link.specs.Ends.{DriverSeen}
use Rattle.svga_model.specs.Acts.{Do}
use Rattle.svga_model.specs.Faults.{IsAdmissible}
use Rattle.svga_model.specs.Fences.{fences}
use Rattle.svga_model.specs.Runs.{run}
use Rattle.svga_model.specs.States.{State}
use Rattle.svga_model.specs.Touches.{Touches}
use Rattle.svga_ring.specs.Committed.{commands}
use Rattle.svga_ring.specs.Conditions.{IsNextFence, NoneOpen, first_state}
use Rattle.svga_ring.specs.Noting.{holds}
use Rattle.svga_ring.specs.Views.{DeviceView, DriverView}

-- a driver that runs, with no reservation begun and no request open
pub record IsReady (d : DriverSeen) : Type 0 where
  pub runs : d.view.stopped ≡ false
  pub none_begun : d.reserved ≡ 0
  pub none_open : NoneOpen d.view

-- these words spell a command that may be the next one, and touches no page
pub record IsNext (d : DriverView) (c : Command) (words : List ℕ) : Type 0 where
  pub spelled : Spells c words
  pub admissible : IsAdmissible (run (first_state d) d.acts) (Do c)
  pub touches_none : (s : State) (key : PageKey) → Touches s (Do c) key → ⊥
  pub fence : IsNextFence d.terms.first (commands d.acts) d.seen c

-- until a command is committed these stay
pub record Stays (d left : DriverView) : Type 0 where
  pub terms : left.terms ≡ d.terms
  pub acts : left.acts ≡ d.acts
  pub sent : left.sent ≡ d.sent
  pub seen : left.seen ≡ d.seen
  pub request : left.request ≡ d.request
  pub replies : left.reply_loads ≡ d.reply_loads
  pub stopped : left.stopped ≡ d.stopped
  pub lent : left.lent ≡ d.lent

-- the command is sent with these words
pub record HasSent (c : Command) (words : List ℕ) (d left : DriverView) : Type 0 where
  pub terms : left.terms ≡ d.terms
  pub seen : left.seen ≡ d.seen
  pub acts : left.acts ≡ d.acts ++ Do c ∷ []
  pub lent : left.lent ≡ d.lent
  pub sent : left.sent ≡ d.sent ++ words

-- how many fences the driver has sent
abbrev pub fence_count : DriverView → ℕ
fence_count d = length (fences (commands d.acts))

-- a device that has read nothing since STOP, and holds no page
pub record IsWaiting (e : DeviceView) : Type 0 where
  pub none_read : e.read ≡ []
  pub none_held : (key : PageKey) → holds e.noted key ≡ false

-- the device takes such a command without a page, and without a fence's number
pub record IsPlain (c : Command) (words : List ℕ) : Type 0 where
  pub spelled : Spells c words
  pub touches_none : (s : State) (key : PageKey) → Touches s (Do c) key → ⊥
  pub no_fence : (value : ℕ) → c ≡ Fence value → ⊥
