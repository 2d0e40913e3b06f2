-- The worked UPDATE that goes past the edges of the framebuffer and of a screen.
use Rattle.std.proofs.Common.{◌≡◌, ℕ, ◌<◌, ◌≤◌, ◌∙◌, List, [], ◌∷◌, Option, Some, None, pos, slice_index, arith, refl, ap}
use Rattle.std.specs.Prelude.{unwrap_or}
use Rattle.std.specs.FinMap as map
use Rattle.std.proofs.lemmas.Bool.Decides.{nat_tests}
use Rattle.svga_cmd.specs.Limits.{frame_page_count}
use Rattle.svga_cmd.specs.Pages.{Memory, page_at}
use Rattle.svga_cmd.specs.declared.command.Command.TheVariants.{Update}
use Rattle.svga_cmd.specs.declared.limits.Limits.{Limits}
use Rattle.svga_cmd.specs.declared.page.PageKey.TheVariants.{Frame}
use Rattle.svga_cmd.specs.declared.screen.ScreenDef.{ScreenDef}
use Rattle.svga_model.proofs.WorkedScreens.{definitions_after, new_row, row_after}
use Rattle.svga_model.specs.Acts.{Do}
use Rattle.svga_model.specs.BlitEffects.{colour_on, update_colour}
use Rattle.svga_model.specs.BlitExamples.{screen_def}
use Rattle.svga_model.specs.Faults.{IsAdmissible, fault_of}
use Rattle.svga_model.specs.Memories.{region_byte}
use Rattle.svga_model.specs.Regions.{frame_places}
use Rattle.svga_model.specs.Screens.{Screen, definitions_of, row_of}
use Rattle.svga_model.specs.States.{State}
use Rattle.svga_model.specs.Worked.{AreRows, IsSmall, after_update, colour_from, shown_at, small_screen}

-- the screen of 2 by 2 pixels
abbrev pub small_def : ScreenDef
small_def = screen_def 0 2 2 (pos 0) (pos 0)

-- what the UPDATE gives to a pixel, with these limits
abbrev pub fresh : Memory → Limits → ScreenDef → ℕ → ℕ → Option ℕ
fresh memory l d x y = update_colour (region_byte memory (frame_places (frame_page_count l))) l 1 0 9 9 d x y

-- the limits with a framebuffer of 2 by 2 pixels
abbrev pub with_small : Limits → Limits
with_small l = record l { gfb_width = 2; gfb_height = 2 }

small_limits : (s : State) → IsSmall s → s.kept.limits ≡ with_small s.kept.limits
small_limits s small = λ i. record s.kept.limits { gfb_width = small.width i; gfb_height = small.height i }

-- a row of one colour and of that at byte i of a page
abbrev pub row_with : ℕ → ℕ → Option (List ℕ) → List ℕ
row_with left i o = left ∷ colour_from (slice_index (unwrap_or o [])) i ∷ []

module _ (memory : Memory) (l : Limits) (o : Option Screen) (bytes : List ℕ)
    (page : page_at memory (Frame 0) ≡ Some bytes) where
  upper_given : new_row (fresh memory (with_small l) small_def) o 2 0 ≡ row_with (colour_on o 0 0) 4 (Some bytes)
  unfolding region_byte
  upper_given = ap (row_with (colour_on o 0 0) 4) page

  lower_given : new_row (fresh memory (with_small l) small_def) o 2 1 ≡ row_with (colour_on o 0 1) 12 (Some bytes)
  unfolding region_byte
  lower_given = ap (row_with (colour_on o 0 1) 12) page

module _ (s : State) (small : IsSmall s) where
  row_given : (y : ℕ) → y < 2 → row_of (after_update s).kept.screens 0 y
      ≡ Some (new_row (fresh s.memory (with_small s.kept.limits) small_def) (map.get s.kept.screens 0) 2 y)
  row_given y high =
      row_after (λ id. fresh s.memory s.kept.limits) s.kept.screens 0 small_def (omega arith)
      (ap (λ f. f 0) small.screens) y high
      ∙ ap (λ l. Some (new_row (fresh s.memory l small_def) (map.get s.kept.screens 0) 2 y)) (small_limits s small)

  pub updated_rows : (bytes : List ℕ) → page_at s.memory (Frame 0) ≡ Some bytes
      → AreRows (after_update s) (row_with (shown_at s 0 0 0) 4 (Some bytes)) (row_with (shown_at s 0 0 1) 12 (Some bytes))
  updated_rows bytes page = record {
    upper_row = row_given 0 (omega arith) ∙ ap Some (upper_given s.memory s.kept.limits older bytes page);
    lower_row = row_given 1 (omega arith) ∙ ap Some (lower_given s.memory s.kept.limits older bytes page);
  } where
    older : Option Screen
    older = map.get s.kept.screens 0

  pub updated_definitions : definitions_of (after_update s).kept.screens ≡ small_screen
  updated_definitions = definitions_after (λ id. fresh s.memory s.kept.limits) s.kept.screens none ∙ small.screens where
    past : (id : ℕ) → 16 ≤ id → small_screen id ≡ None
    past id high = grind (arith, nat_tests)

    none : (id : ℕ) → 16 ≤ id → definitions_of s.kept.screens id ≡ None
    none id high = ap (λ f. f id) small.screens ∙ past id high

-- no rule refuses an UPDATE
pub update_admissible : (s : State) → IsAdmissible s (Do (Update 1 0 9 9))
unfolding fault_of
update_admissible s = refl
