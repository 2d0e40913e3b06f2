-- The blit's pixels on a screen are those of the area that its rectangle shares with it.
use Rattle.std.proofs.Common.{◌≡◌, ◌*◌, ◌∙◌, subst, pos, ◌+ℤ◌, to_z, of_z, w32, w64, arith}
use Rattle.std.proofs.lemmas.Int.{ints, to_z-of_z}
use Rattle.std.specs.List.{list_any, range_with_len}
use Rattle.svga_model.specs.BlitPixels.{blit_offset}
use Rattle.svga_model.specs.Colours.{pixel_length}
use Rattle.svga_model.specs.Regions.{region_places}
use Rattle.svga_screen.specs.Clips.{IsClip}
use Rattle.svga_shape.proofs.RowLaws.{area_rows}
use Rattle.svga_shape.specs.Spans.{breaks, some_in_span}
use Rattle.svga_shape.proofs.blits.area_breaks.Goals as goal

pub returns : goal.returns
returns c =
    let places = region_places c.args.regions.now.frame c.args.regions.now.regions c.args.gmrfb.now.region in
    let test = breaks c.args.rule places in
    let g = c.args.gmrfb.now in
    let b = c.args.blit.now in
    let d = c.args.def.now in
    let area = c.clip-area.result in
    let x : to_z w32 (of_z w32 c.args.x) ≡ c.args.x = to_z-of_z w32 c.args.x c.ranges.x in
    let y : to_z w32 (of_z w32 c.args.y) ≡ c.args.y = to_z-of_z w32 c.args.y c.ranges.y in
    let left : to_z w64 (of_z w64 c.place-left.result) ≡ c.args.x +ℤ pos area.left = omega (arith, ints) in
    let clip = subst (λ z. IsClip b.rect c.args.x z d.width d.height area) y
    (subst (λ z. IsClip b.rect z (to_z w32 (of_z w32 c.args.y)) d.width d.height area) x c.clip-area.ensures) in
    c.rows_break.ensures
    ∙ (λ i. list_any
    (λ v. some_in_span test (blit_offset g b (left i) (y i +ℤ pos v)) (area.width * pixel_length g.format))
    (range_with_len area.top area.height))
    ∙ area_rows test g b c.args.x c.args.y d.width d.height area clip
