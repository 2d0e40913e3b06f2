-- An act, and Puts behind it of pages that it doesn't touch.
use Rattle.std.proofs.Common.{◌≡◌, inl, inr, ℕ, suc, List, [], ◌∷◌, length, All, true, is_none, refl, sym, ap, ◌∙◌}
use Rattle.std.proofs.lemmas.List.Elements.{All-head, All-tail}
use Rattle.svga_cmd.specs.declared.page.PageKey.{PageKey}
use Rattle.svga_model.proofs.PutLaws.{put_admissible}
use Rattle.svga_model.proofs.RunLaws.{done-first, run-first}
use Rattle.svga_model.proofs.TouchPuts.{put_fault, put_step, put_touches}
use Rattle.svga_model.specs.Acts.{Act, Put}
use Rattle.svga_model.specs.Faults.{IsAdmissible, fault_of}
use Rattle.svga_model.specs.Runs.{done, run}
use Rattle.svga_model.specs.States.{State}
use Rattle.svga_model.specs.Steps.{step}
use Rattle.svga_model.specs.Touches.{IsPut, Touches, touches}
use Rattle.svga_ring.specs.SoundPages.{PutsPage}

-- none of the Puts is of a page that the act touches
abbrev pub IsApart : State → Act → List Act → Type 0
IsApart t x ps = (key : PageKey) → Touches t x key → PutsPage ps key → ⊥

-- a run goes on behind a Put
put_first : (t : State) (key : PageKey) (bytes : List ℕ) (ps : List Act)
    → run t (Put key bytes ∷ ps) ≡ run (step t (Put key bytes)) ps
put_first t key bytes ps = run-first t (Put key bytes) ps true (ap is_none (put_admissible t key bytes))

-- the first Put isn't of a page that the act touches
first_apart : (t : State) (x : Act) (key : PageKey) (bytes : List ℕ) (ps : List Act)
    → IsApart t x (Put key bytes ∷ ps) → Touches t x key → ⊥
first_apart t x key bytes ps apart touched = apart key touched (bytes, inl refl)

-- nor are the others, in the state that it leaves
rest_apart : (t : State) (x : Act) (key : PageKey) (bytes : List ℕ) (ps : List Act)
    → IsApart t x (Put key bytes ∷ ps) → IsApart (step t (Put key bytes)) x ps
rest_apart t x key bytes ps apart other touched puts =
    let before = put_touches t x key other bytes (first_apart t x key bytes ps apart) in
    apart other (sym before ∙ touched) (puts.0, inr puts.1)

pub puts_done : (t : State) (ps : List Act) → All IsPut ps → done t ps ≡ length ps
puts_done t [] puts = refl
puts_done t (Put key bytes ∷ ps) puts =
    done-first t (Put key bytes) ps true (ap is_none (put_admissible t key bytes))
    ∙ ap suc (puts_done (step t (Put key bytes)) ps (All-tail IsPut (Put key bytes) ps puts))
puts_done t (act ∷ ps) puts = absurd (All-head IsPut act ps puts)

-- what the act touches, and how it is judged, is as before
pub puts_touches : (t : State) (x : Act) (ps : List Act) (key : PageKey) → All IsPut ps → IsApart t x ps
    → touches (run t ps) x key ≡ touches t x key
puts_touches t x [] key puts apart = refl
puts_touches t x (Put other bytes ∷ ps) key puts apart =
    let rest = All-tail IsPut (Put other bytes) ps puts in
    ap (λ u. touches u x key) (put_first t other bytes ps)
    ∙ puts_touches (step t (Put other bytes)) x ps key rest (rest_apart t x other bytes ps apart)
    ∙ put_touches t x other key bytes (first_apart t x other bytes ps apart)
puts_touches t x (act ∷ ps) key puts apart = absurd (All-head IsPut act ps puts)

pub puts_fault : (t : State) (x : Act) (ps : List Act) → All IsPut ps → IsApart t x ps
    → fault_of (run t ps) x ≡ fault_of t x
puts_fault t x [] puts apart = refl
puts_fault t x (Put key bytes ∷ ps) puts apart =
    let rest = All-tail IsPut (Put key bytes) ps puts in
    ap (λ u. fault_of u x) (put_first t key bytes ps)
    ∙ puts_fault (step t (Put key bytes)) x ps rest (rest_apart t x key bytes ps apart)
    ∙ put_fault t x key bytes (first_apart t x key bytes ps apart)
puts_fault t x (act ∷ ps) puts apart = absurd (All-head IsPut act ps puts)

-- so it may be done behind them
pub puts_step : (t : State) (x : Act) (ps : List Act) → All IsPut ps → (IsPut x → ⊥) → IsAdmissible t x
    → IsApart t x ps → run t (x ∷ ps) ≡ step (run t ps) x
puts_step t x [] puts no_put admits apart = run-first t x [] true (ap is_none admits)
puts_step t x (Put key bytes ∷ ps) puts no_put admits apart =
    let off = first_apart t x key bytes ps apart in
    let rest = All-tail IsPut (Put key bytes) ps puts in
    let u : State = step t (Put key bytes) in
    let still : IsAdmissible u x = put_fault t x key bytes off ∙ admits in
    run-first t x (Put key bytes ∷ ps) true (ap is_none admits)
    ∙ put_first (step t x) key bytes ps
    ∙ ap (λ v. run v ps) (sym (put_step t x key bytes no_put off))
    ∙ sym (run-first u x ps true (ap is_none still))
    ∙ puts_step u x ps rest no_put still (rest_apart t x key bytes ps apart)
    ∙ ap (λ v. step v x) (sym (put_first t key bytes ps))
puts_step t x (act ∷ ps) puts no_put admits apart = absurd (All-head IsPut act ps puts)
