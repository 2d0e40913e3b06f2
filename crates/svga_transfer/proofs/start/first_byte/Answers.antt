-- The number of a byte that the region has fits 64 bits.
use Rattle.std.proofs.Common.{◌≡◌, ◌<◌, ◌^◌, ap, ◌∙◌, IfSome, to_z, of_z, w64, rules, arith}
use Rattle.std.proofs.lemmas.Int.{ints}
use Rattle.svga_model.specs.BlitFaults.{is_outside}
use Rattle.svga_model.specs.BlitPixels.{blit_offset}
use Rattle.svga_model.specs.Regions.{places_of, region_places}
use Rattle.svga_transfer.proofs.Reached.{start_fits}
use Rattle.svga_transfer.proofs.start.first_byte.Goals as goal

pub overflow_cast-result : goal.overflow_cast-result
overflow_cast-result c =
    let r = c.args.regions.now in
    let g = c.args.gmrfb.now in
    let b = c.args.blit.now in
    let x : to_z w64 (of_z w64 c.args.x) ≡ c.args.x = omega (arith, ints) in
    let y : to_z w64 (of_z w64 c.args.y) ≡ c.args.y = omega (arith, ints) in
    let start : c.pixel_start.result ≡ blit_offset g b c.args.x c.args.y =
    c.pixel_start.ensures.value ∙ (λ i. blit_offset g b (x i) (y i)) in
    let small : IfSome c.length-places.result (λ k. k < 2 ^ 32) = search rules in
    let within = ap (is_outside (region_places r.frame r.regions g.region)) start ∙ c.requires.within in
    let fits = start_fits (places_of r.frame r.regions g.region) c.length-places.result c.pixel_start.result
    c.length-places.ensures small within in
    omega (arith, ints)
