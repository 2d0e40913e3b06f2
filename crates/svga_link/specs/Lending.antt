-- Pages and requests of the driver's end: when they may be lent, taken and asked for, and what that makes of
-- a view.
use Rattle.std.specs.Prelude.{◌≡◌, ℕ, ◌≤◌, [], ◌∷◌, ◌++◌, List, length, false, true}
use Rattle.std.specs.FinMap as map
use Rattle.std.specs.FinSet as set
use Rattle.svga_cmd.specs.Pages.{IsKey}
use Rattle.svga_cmd.specs.declared.page.PageKey.{PageKey}
use Rattle.svga_model.specs.Acts.{Chain, Put}
use Rattle.svga_model.specs.Faults.{IsAdmissible}
use Rattle.svga_model.specs.Fences.{fences, register_after}
use Rattle.svga_model.specs.Runs.{run}
use Rattle.svga_model.specs.Touches.{Touches}
use Rattle.svga_ring.specs.Committed.{commands}
use Rattle.svga_ring.specs.Conditions.{NoneOpen, first_state}
use Rattle.svga_ring.specs.Layouts.{word_address}
use Rattle.svga_ring.specs.Requests.{next_request}
use Rattle.svga_ring.specs.SoundPages.{TouchesAt, known_done}
use Rattle.svga_ring.specs.Views.{DriverView, loaded}
use Rattle.svga_link.specs.Ends.{DriverSeen}

-- FENCE was loaded: so many fences have passed, no fewer than were seen before, and the register shows so
-- many
pub record FenceTold (before after : DriverView) (found : ℕ) : Type 0 where
  pub seen : ℕ
  pub view : after ≡ record before { seen = seen; fence_loads = loaded before.fence_loads found }
  pub register : found ≡ register_after before.terms.first seen
  pub least : before.seen ≤ seen
  pub most : seen ≤ length (fences (commands before.acts))

-- a page is lent with these bytes
abbrev pub lending : DriverView → PageKey → List ℕ → DriverView
lending d key bytes = record d { acts = d.acts ++ Put key bytes ∷ []; lent = set.insert d.lent key }

-- A page may be taken back: it is lent, no request is open, and no command that isn't known to be done
-- touches it.
pub record MayTakeBack (d : DriverView) (key : PageKey) : Type 0 where
  pub key_is : IsKey d.terms.limits key
  pub lent : set.contains d.lent key ≡ true
  pub none_open : NoneOpen d
  pub untouched : (n : ℕ) → known_done d.acts d.passed d.seen ≤ n → TouchesAt (first_state d) d.acts n key → ⊥

-- a page is taken back
abbrev pub taking : DriverView → PageKey → DriverView
taking d key = record d { lent = set.remove d.lent key }

-- A chain may be asked for: the driver runs, no request is open, all that was sent is taken by the last load
-- of STOP, the chain is admissible after all acts, and each page that it touches is lent.
pub record MayAskFor (d : DriverView) (id first : ℕ) : Type 0 where
  pub runs : d.stopped ≡ false
  pub none_open : NoneOpen d
  pub all_taken : d.stop_loads.last ≡ word_address d.layout (length d.sent)
  pub admissible : IsAdmissible (run (first_state d) d.acts) (Chain id first)
  pub pages_lent : (key : PageKey) → Touches (run (first_state d) d.acts) (Chain id first) key
      → set.contains d.lent key ≡ true

-- it is asked for
abbrev pub asking : DriverView → ℕ → ℕ → DriverView
asking d id first =
    record d { acts = d.acts ++ Chain id first ∷ []; request = next_request d.request id first }

-- the reply was loaded
abbrev pub with_reply : DriverView → ℕ → DriverView
with_reply d found = record d { reply_loads = loaded d.reply_loads found }

-- the driver has stopped
abbrev pub stopping : DriverView → DriverView
stopping d = record d { stopped = true }

-- a page's slot is taken out empty, its page is put into it and given, or is taken with it, and it is brought
-- home empty
abbrev pub with_slot_out : DriverView → PageKey → DriverView
with_slot_out d key = record d { out = set.insert d.out key }

abbrev pub giving : DriverView → PageKey → List ℕ → DriverView
giving d key bytes = record d {
  acts = d.acts ++ Put key bytes ∷ [];
  lent = set.insert d.lent key;
  out = set.remove d.out key;
}

abbrev pub taking_out : DriverView → PageKey → DriverView
taking_out d key = record d { lent = set.remove d.lent key; out = set.insert d.out key }

abbrev pub with_slot_home : DriverView → PageKey → DriverView
with_slot_home d key = record d { out = set.remove d.out key }

-- the end, with other bytes in a page that is with it
abbrev pub with_page : DriverSeen → PageKey → List ℕ → DriverSeen
with_page d key bytes = record d { pages = map.insert d.pages key bytes }
