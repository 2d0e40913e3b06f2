use Rattle.std.proofs.Common.{ap, subst, sym, ◌∙◌, length, List, [], ℕ}
use Rattle.std.proofs.lemmas.List.{length-replicate}
use Rattle.std.specs.FinMap as map
use Rattle.svga_screen.proofs.ScreenLaws.{no_pictures, screens_from-none}
use Rattle.svga_screen.specs.Kept.{ArePictures, screens_from}
use Rattle.svga_screen.proofs.screens.Screens.new.Goals as goal

pub invariant_of-result : goal.invariant_of-result
invariant_of-result c = record {
  definitions = c.new-defs.ensures.valid;
  count = ap (λ r. length r.lists) c.in_ok-pictures.ensures ∙ length-replicate {A = List ℕ} 16 [];
  whole_room = ap (λ r. r.room) c.in_ok-pictures.ensures ∙ sym (ap (λ s. s.budget) c.new-defs.ensures.empty);
  each = subst (λ s. ArePictures (map.get s.screens) c.in_ok-pictures.pictures.lists) (sym c.new-defs.ensures.empty)
      (no_pictures c.in_ok-pictures.pictures.lists (ap (λ r. r.lists) c.in_ok-pictures.ensures));
}

pub returns : goal.returns
returns c =
    ap (λ s. record { budget = s.budget; screens = screens_from (map.get s.screens) c.in_ok-pictures.pictures.lists }) c.new-defs.ensures.empty
    ∙ ap (λ screens. record { budget = c.args.budget; screens = screens }) (screens_from-none c.in_ok-pictures.pictures.lists)
