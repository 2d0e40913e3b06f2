-- An act in the middle of others is done after the Puts behind it, of which none is of a page that it
-- touches.
use Rattle.std.proofs.Common.{◌≡◌, List, ◌∷◌, ◌++◌, length, None, sym, ap, ◌∙◌, arith, length-append}
use Rattle.svga_cmd.specs.declared.page.PageKey.{PageKey}
use Rattle.svga_model.proofs.ActLaws.{none_is}
use Rattle.svga_model.proofs.RunLaws.{run_whole}
use Rattle.svga_model.specs.Acts.{Act}
use Rattle.svga_model.specs.Faults.{IsAdmissible, fault_of}
use Rattle.svga_model.specs.Runs.{done, run}
use Rattle.svga_model.specs.States.{State}
use Rattle.svga_model.specs.Steps.{step}
use Rattle.svga_model.specs.Touches.{IsPut, touches}
use Rattle.svga_ring.proofs.Acts.PutsBehind.{IsApart, puts_fault, puts_step, puts_touches}
use Rattle.svga_ring.proofs.Acts.Runs.{first_of_all, front_done}
use Rattle.svga_ring.proofs.Acts.Settled.{puts_are}
use Rattle.svga_ring.specs.Committed.{puts_of}

-- The act x stands between front and rest, and all acts are admissible in their turn.
pub record Floats (s : State) (front rest : List Act) (x : Act) : Type 0 where
  -- it touches where the acts before it and the Puts behind it are done what it touches where the acts before
  -- it are
  pub same_touches : (key : PageKey) → touches (run s (front ++ puts_of rest)) x key
      ≡ touches (run s front) x key
  -- it is admissible there, and is done last
  pub admits : fault_of (run s (front ++ puts_of rest)) x ≡ None
  pub last : run s (front ++ x ∷ puts_of rest) ≡ step (run s (front ++ puts_of rest)) x

pub floats : (s : State) (acts front rest : List Act) (x : Act) → acts ≡ front ++ x ∷ rest
    → done s acts ≡ length acts
    → (IsPut x → ⊥) → IsApart (run s front) x (puts_of rest) → Floats s front rest x
floats s acts front rest x is all no_put apart =
    let t : State = run s front in
    let puts = puts_are rest in
    let whole : done s (front ++ x ∷ rest) ≡ length (front ++ x ∷ rest) =
    ap (done s) (sym is) ∙ all ∙ ap length is in
    let of_front = front_done s front (x ∷ rest) whole in
    let parts = (run_whole s front (x ∷ rest) of_front).1 in
    let behind : done t (x ∷ rest) ≡ length (x ∷ rest) =
    omega (arith, whole, of_front, parts, length-append front (x ∷ rest)) in
    let admits : IsAdmissible t x = none_is (fault_of t x) (first_of_all t x rest behind).admits in
    let goes_on = (run_whole s front (puts_of rest) of_front).0 in record {
      same_touches = λ key. ap (λ u. touches u x key) goes_on
          ∙ puts_touches t x (puts_of rest) key puts apart;
      admits = ap (λ u. fault_of u x) goes_on ∙ puts_fault t x (puts_of rest) puts apart ∙ admits;
      last = (run_whole s front (x ∷ puts_of rest) of_front).0
          ∙ puts_step t x (puts_of rest) puts no_put admits apart
          ∙ ap (λ u. step u x) (sym goes_on);
    }
