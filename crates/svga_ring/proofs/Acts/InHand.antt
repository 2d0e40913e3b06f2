-- The act in hand: the command that was read, or else the chain that is out and was loaded.
use Rattle.std.proofs.Common.{◌≡◌, ◌≢◌, inl, inr, ℕ, ◌+◌, List, ◌∷◌, ◌++◌, true, false, not, ◌&&◌, ◌==◌, Some, sym, ap, subst, ◌∙◌, arith, add-one}
use Rattle.std.proofs.lemmas.Bool.{cases_eq, false_from_ne_true}
use Rattle.std.proofs.lemmas.Bool.Decides.{nat_tests}
use Rattle.std.proofs.lemmas.Option.{same_Some}
use Rattle.std.specs.FinSet as set
use Rattle.std.specs.List.{slice_get}
use Rattle.svga_cmd.specs.Spelling.{Spells}
use Rattle.svga_cmd.specs.declared.command.Command.{Command}
use Rattle.svga_cmd.specs.declared.page.PageKey.{PageKey}
use Rattle.svga_cmd.specs.declared.session.Session.{Session}
use Rattle.svga_model.specs.Acts.{Act, Do}
use Rattle.svga_model.specs.Faults.{IsAdmissible, fault_of}
use Rattle.svga_model.specs.Runs.{run}
use Rattle.svga_model.specs.States.{State, opening_state}
use Rattle.svga_model.specs.Steps.{step}
use Rattle.svga_model.specs.Touches.{Touches, touches}
use Rattle.svga_ring.proofs.Acts.KnownDone.{known_are_done}
use Rattle.svga_ring.proofs.Acts.Float.{floats}
use Rattle.svga_ring.proofs.Words.Told.{in_hand}
use Rattle.svga_ring.proofs.Acts.Settled.{act_at, all_before_chain, no_chain_behind, puts_page_among, settled_at, settled_next}
use Rattle.svga_ring.specs.Committed.{before, behind, commands, puts_of}
use Rattle.svga_ring.specs.Core.{Core}
use Rattle.svga_ring.specs.Requests.{IsChainOut, Request, is_chain_out, is_ring_request}
use Rattle.svga_ring.specs.Sound.{IsSound}
use Rattle.svga_ring.specs.SoundPages.{TouchesInHand, by_chain, by_command, reached}

-- the state before all acts, and the one that those which are settled leave
abbrev pub opening_of : Session → State
opening_of k = opening_state k.limits k.first

abbrev pub settled_of : Session → Core → State
settled_of k c = reached (opening_of k) c.device.done (is_chain_out c.driver.request c.device.answered)
    c.driver.acts

-- the act in hand touches the page
abbrev pub IsTouchedInHand : Session → Core → PageKey → Type 0
IsTouchedInHand k c key =
    TouchesInHand (opening_of k) c.driver.acts c.device.done c.device.read c.driver.request c.device.wanted
    c.device.answered key

-- so the page isn't with the driver
pub hand_lent : (k : Session) (c : Core) (key : PageKey) → IsSound k c → IsTouchedInHand k c key
    → set.contains c.driver.lent key ≡ true
hand_lent k c key o (by_command command spells touched) =
    o.clear.with_driver_free c.device.done key (known_are_done o.of_words) touched
hand_lent k c key o (by_chain none out same touched) = o.clear.request_free key out touched

-- A request that isn't open to the driver is answered,
pub is_answered : {k : Session} {c : Core} → IsSound k c → c.driver.request.number ≡ c.driver.reply_loads.last
    → c.driver.request.number ≡ c.device.answered
is_answered {c = c} o settled =
    let number : ℕ = c.driver.request.number in
    elim (cases_eq number c.device.answered) as (λ _. number ≡ c.device.answered) [
      | inl same ↦ same
      | inr differ ↦ absurd (o.requests.out_is_open differ settled)
    ]

-- and where the last one is answered no chain is out.
pub none_out : (r : Request) (answered : ℕ) → r.number ≡ answered → is_chain_out r answered ≡ false
none_out r answered same =
    let one : (r.number == answered) ≡ true = grind (arith, nat_tests) in
    ap (λ b. not b && not (is_ring_request r)) one

-- One that isn't answered, and asks for no other end of the ring, is a chain that is out.
pub chain_out : (r : Request) (answered : ℕ) → r.number ≢ answered → is_ring_request r ≡ false
    → IsChainOut r answered
chain_out r answered waits no_ring =
    let other : (r.number == answered) ≡ false = grind (arith, nat_tests, waits) in
    ap (λ b. not b && not (is_ring_request r)) other ∙ ap not no_ring

-- with command n what is settled is its step further; it touches there what it touches in its turn, and has
-- no fault
pub record IsSettledNext (s : State) (acts : List Act) (n : ℕ) (c : Command) : Type 0 where
  pub further : reached s (n + 1) false acts ≡ step (reached s n false acts) (Do c)
  pub same_touches : (key : PageKey)
      → touches (reached s n false acts) (Do c) key ≡ touches (run s (before n acts)) (Do c) key
  pub admits : IsAdmissible (reached s n false acts) (Do c)

-- The command in hand
module _ (k : Session) (c : Core) (command : Command) (o : IsSound k c)
    (spells : Spells command c.device.read) where
  -- is the next one that isn't done,
  pub is_next : slice_get (commands c.driver.acts) c.device.done ≡ Some command
  is_next = (in_hand command o.of_words spells).is

  -- ahead of which no chain is out,
  pub no_chain : is_chain_out c.driver.request c.device.answered ≡ false
  no_chain = false_from_ne_true (is_chain_out c.driver.request c.device.answered) (λ out.
      let next = in_hand command o.of_words spells in
      let last = o.requests.out_is_last_chain out in
      let all = all_before_chain c.driver.request c.driver.acts c.device.done last o.runs.chains_done in
      omega (arith, all, next.there))

  -- and is done behind the Puts that stand behind it.
  pub settles : IsSettledNext (opening_of k) c.driver.acts c.device.done command
  settles =
      let s = opening_of k in
      let acts : List Act = c.driver.acts in
      let n : ℕ = c.device.done in
      let front : List Act = before n acts in
      let rest : List Act = behind n acts in
      let none = no_chain_behind acts n n command o.runs.chains_done (omega arith) is_next in
      let floating = floats s acts front rest (Do command) (act_at acts n command is_next)
      o.of_words.acts.in_turn (λ put. put) (λ key touched puts.
      o.clear.later_puts n key (omega arith) (command, is_next, touched) (puts_page_among rest key puts)) in
      let here : reached s n false acts ≡ run s (front ++ puts_of rest) =
      ap (run s) (settled_at acts n command is_next none) in
      let behind_it : reached s (n + 1) false acts ≡ run s (front ++ Do command ∷ puts_of rest) =
      ap (λ m. reached s m false acts) (add-one n) ∙ ap (run s) (settled_next acts n command is_next none) in
      record {
        further = behind_it ∙ floating.last ∙ ap (λ t. step t (Do command)) (sym here);
        same_touches = λ key. ap (λ t. touches t (Do command) key) here ∙ floating.same_touches key;
        admits = ap (λ t. fault_of t (Do command)) here ∙ floating.admits;
      }

  -- It touches what the act in hand does.
  pub touches_next : (key : PageKey) → IsTouchedInHand k c key
      → Touches (run (opening_of k) (before c.device.done c.driver.acts)) (Do command) key
  touches_next key (by_command x read touched) =
      subst (λ y. Touches (run (opening_of k) (before c.device.done c.driver.acts)) (Do y) key)
      (same_Some touched.0 command (sym touched.1 ∙ is_next)) touched.2
  touches_next key (by_chain empty out loaded touched) = absurd (let none = no_chain in cc (none, out))
