-- What the device keeps is what a valid state keeps.
use Rattle.std.proofs.Common.{ℕ, zero, suc, List, [], ◌∷◌, All, Bool, true, false, cond, not, ◌&&◌, sym, subst}
use Rattle.std.proofs.lemmas.List.Elements.{All-cons, All-head, All-nil, All-tail}
use Rattle.svga_cmd.specs.declared.session.Session.{Session}
use Rattle.svga_model.proofs.ValidRuns.{run_good}
use Rattle.svga_model.proofs.ValidStateLaws.{opening_good}
use Rattle.svga_model.specs.Acts.{Act, Do, Put, Chain, IsAct}
use Rattle.svga_model.specs.States.{opening_state}
use Rattle.svga_model.specs.ValidStates.{IsKept}
use Rattle.svga_ring.specs.Committed.{has_chain, puts_of, settled}
use Rattle.svga_ring.specs.Core.{Core}
use Rattle.svga_ring.specs.Requests.{is_chain_out}
use Rattle.svga_ring.specs.Sound.{IsSound}

all_puts : (P : Act → Type 0) (acts : List Act) → All P acts → All P (puts_of acts)
all_puts P [] all = All-nil P
all_puts P (Do c ∷ acts) all = all_puts P acts (All-tail P (Do c) acts all)
all_puts P (Put key bytes ∷ acts) all = All-cons P (Put key bytes) (puts_of acts) (All-head P (Put key bytes) acts all) (all_puts P acts (All-tail P (Put key bytes) acts all))
all_puts P (Chain id first ∷ acts) all = all_puts P acts (All-tail P (Chain id first) acts all)

chosen_all : (P : Act → Type 0) (b : Bool) (xs ys : List Act) → All P xs → All P ys → All P (cond b xs ys)
chosen_all P true xs ys a b = a
chosen_all P false xs ys a b = b

all_settled : (P : Act → Type 0) (n : ℕ) (out : Bool) (acts : List Act) → All P acts → All P (settled n out acts)
all_settled P n out [] all = All-nil P
all_settled P zero out (Do c ∷ acts) all = all_puts P acts (All-tail P (Do c) acts all)
all_settled P (suc n) out (Do c ∷ acts) all = All-cons P (Do c) (settled n out acts) (All-head P (Do c) acts all) (all_settled P n out acts (All-tail P (Do c) acts all))
all_settled P n out (Put key bytes ∷ acts) all = All-cons P (Put key bytes) (settled n out acts) (All-head P (Put key bytes) acts all) (all_settled P n out acts (All-tail P (Put key bytes) acts all))
all_settled P n out (Chain id first ∷ acts) all = chosen_all P (out && not (has_chain acts)) (puts_of acts) (Chain id first ∷ settled n out acts)
    (all_puts P acts (All-tail P (Chain id first) acts all))
    (All-cons P (Chain id first) (settled n out acts) (All-head P (Chain id first) acts all) (all_settled P n out acts (All-tail P (Chain id first) acts all)))

pub kept_good : (k : Session) (c : Core) → IsSound k c → IsKept c.device.kept
kept_good k c o =
    let acts : List Act = settled c.device.done (is_chain_out c.driver.request c.device.answered) c.driver.acts in
    subst IsKept (sym o.runs.kept_is_run)
    (run_good (opening_state k.limits k.first) acts (opening_good k.limits k.first k.within.device)
    (all_settled (IsAct k.limits) c.device.done (is_chain_out c.driver.request c.device.answered) c.driver.acts o.of_words.acts.each)).kept
