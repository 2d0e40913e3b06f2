-- A Put of a page that an act doesn't touch changes places with the act.
use Rattle.std.proofs.Common.{◌≡◌, ℕ, refl, sym, ap, subst, ◌∙◌, List, true, Option, Some, None}
use Rattle.svga_cmd.specs.declared.blit.Blit.{Blit}
use Rattle.svga_cmd.specs.declared.command.Command.TheVariants.{Update, Fence, DefineScreen, DestroyScreen, DefineGmrfb, BlitToScreen, BlitToGmrfb, DefineGmr2, RemapGmr2}
use Rattle.svga_cmd.specs.declared.gmrfb.Gmrfb.{Gmrfb}
use Rattle.svga_cmd.specs.declared.page.PageKey.{PageKey}
use Rattle.svga_model.specs.Acts.{Act, Do, Put, Chain}
use Rattle.svga_model.specs.BlitEffects.{blit_writes}
use Rattle.svga_model.specs.Faults.{fault_of}
use Rattle.svga_model.specs.Memories.{with_page}
use Rattle.svga_model.specs.States.{State}
use Rattle.svga_model.specs.Steps.{places_for, read_back, step}
use Rattle.svga_model.specs.Touches.{AgreeOn, IsPut, Touches, has_page, touches}
use Rattle.svga_model.proofs.TouchLaws.{gmrfb_places, same_fault, same_kept, same_touches, shown_memory}
use Rattle.svga_model.proofs.TouchWrites.{written_put}
use Rattle.svga_model.proofs.PutLaws.{page_other}

-- a Put of a page that an act doesn't touch leaves the pages that it touches
put_agrees : (s : State) (act : Act) (key : PageKey) (bytes : List ℕ)
    → (Touches s act key → ⊥) → AgreeOn s (step s (Put key bytes)) act
put_agrees s act key bytes off q has =
    sym (page_other s.memory key q bytes (λ is. off (subst (λ k. Touches s act k) is has)))

-- it leaves the act's fault
pub put_fault : (s : State) (act : Act) (key : PageKey) (bytes : List ℕ)
    → (Touches s act key → ⊥) → fault_of (step s (Put key bytes)) act ≡ fault_of s act
put_fault s act key bytes off = sym (same_fault s (step s (Put key bytes)) act refl (put_agrees s act key bytes off))

-- it leaves what the act touches
pub put_touches : (s : State) (act : Act) (key other : PageKey) (bytes : List ℕ)
    → (Touches s act key → ⊥) → touches (step s (Put key bytes)) act other ≡ touches s act other
put_touches s act key other bytes off =
    sym (same_touches s (step s (Put key bytes)) act other refl (put_agrees s act key bytes off))

-- a blit back leaves the same memory before and behind a Put of a page that isn't its region's
read_back_put : (s : State) (g : Option Gmrfb) (b : Blit) (key : PageKey) (bytes : List ℕ)
    → (has_page (gmrfb_places s.kept g) key ≡ true → ⊥)
    → (read_back (step s (Put key bytes)) g b).memory ≡ with_page (read_back s g b).memory key bytes
read_back_put s None b key bytes off = refl
read_back_put s (Some g) b key bytes off =
    written_put (places_for s g) s.memory (blit_writes s.kept.screens g b) key bytes off

-- each act leaves the same memory before and behind a Put of a page that it doesn't touch
put_memory : (s : State) (act : Act) (key : PageKey) (bytes : List ℕ)
    → (IsPut act → ⊥) → (Touches s act key → ⊥)
    → (step (step s (Put key bytes)) act).memory ≡ with_page (step s act).memory key bytes
put_memory s (Do (Update x y width height)) key bytes no_put off = refl
put_memory s (Do (Fence value)) key bytes no_put off = refl
put_memory s (Do (DefineScreen d)) key bytes no_put off = refl
put_memory s (Do (DestroyScreen id)) key bytes no_put off = refl
put_memory s (Do (DefineGmrfb g)) key bytes no_put off = refl
put_memory s (Do (BlitToScreen b)) key bytes no_put off =
    shown_memory (step s (Put key bytes)) s.kept.gmrfb b
    ∙ ap (λ memory. with_page memory key bytes) (sym (shown_memory s s.kept.gmrfb b))
put_memory s (Do (BlitToGmrfb b)) key bytes no_put off = read_back_put s s.kept.gmrfb b key bytes off
put_memory s (Do (DefineGmr2 region pages)) key bytes no_put off = refl
put_memory s (Do (RemapGmr2 region offset pages entries)) key bytes no_put off = refl
put_memory s (Put other old) key bytes no_put off = absurd (no_put tt)
put_memory s (Chain id first) key bytes no_put off = refl

-- each act leaves the same state
pub put_step : (s : State) (act : Act) (key : PageKey) (bytes : List ℕ)
    → (IsPut act → ⊥) → (Touches s act key → ⊥)
    → step (step s (Put key bytes)) act ≡ step (step s act) (Put key bytes)
put_step s act key bytes no_put off =
    let kept = same_kept s (step s (Put key bytes)) act refl (put_agrees s act key bytes off) in
    let memory = put_memory s act key bytes no_put off in
    λ i. record { kept = sym kept i; memory = memory i }
