-- The bytes of a run's pixels lie on pages that are there.
use Rattle.std.proofs.Common.{◌≡◌, ℕ, ◌+◌, ◌*◌, ◌<◌, sym, subst, inl, List, [], ◌∷◌, Option, Some, false, ℤ, pos, ◌+ℤ◌, ◌≤ℤ◌, ◌<ℤ◌, arith}
use Rattle.std.proofs.lemmas.Int.{ints}
use Rattle.svga_cmd.specs.Pages.{Memory}
use Rattle.svga_cmd.specs.declared.blit.Blit.{Blit}
use Rattle.svga_cmd.specs.declared.gmrfb.Gmrfb.{Gmrfb}
use Rattle.svga_cmd.specs.declared.screen.ScreenDef.{ScreenDef}
use Rattle.svga_model.specs.BlitFaults.{is_outside}
use Rattle.svga_model.specs.BlitPixels.{ScreenPixel, blit_offset, covers}
use Rattle.svga_model.specs.Colours.{pixel_length}
use Rattle.svga_model.specs.Members.{IsIn}
use Rattle.svga_model.specs.Regions.{Places}
use Rattle.svga_transfer.proofs.Reached.{IsReached, byte_reached, row_there, row_within}
use Rattle.svga_transfer.proofs.WholeTests.{all_sides}
use Rattle.svga_transfer.specs.Reach.{AreMapped, HasBytes, HasPages}
use Rattle.svga_transfer.specs.Runs.{IsRun, first_of}
use Rattle.svga_transfer.specs.declared.runs.Run.{Run}

-- the first of some pixels is one of them
first_is_in : (ss : List ScreenPixel) (q : ScreenPixel) → first_of ss ≡ Some q → IsIn q ss
first_is_in [] q e = absurd (cc)
first_is_in (s ∷ ss) q e = inl (cc)

module _ (definitions : ℕ → Option ScreenDef) (g : Gmrfb) (b : Blit) (Y : ℤ) (r : Run) (run : IsRun definitions b Y r)
    (top : b.rect.top ≤ℤ Y) (bottom : Y <ℤ b.rect.bottom) (places : Places)
    (are : AreMapped definitions g b places) where
  -- each byte of each of its pixels is one of the region's, on a mapped place
  each_reached : (k : ℕ) → k < r.length → (j : ℕ) → j < pixel_length g.format
      → IsReached places (blit_offset g b (r.from +ℤ pos k) Y +ℤ pos j)
  each_reached k low j l =
      let X = r.from +ℤ pos k in
      let q : ScreenPixel = record { screen = r.screen; x = r.x + k; y = r.y } in
      let inside = all_sides b.rect.left b.rect.right b.rect.top b.rect.bottom X Y (omega (arith, ints, run.inside))
      (omega (arith, ints, run.inside)) top bottom in
      let covered = first_is_in (covers definitions b.screen X Y) q (run.first k low) in
      byte_reached definitions g b places are X Y q inside covered j l

  -- the first of them is one
  pub first_within : is_outside places (blit_offset g b r.from Y) ≡ false
  first_within = row_within g b places r.from Y r.length each_reached run.some

  -- and each lies on a page that is there
  pub run_there : (m : Memory) (i count : ℕ) → HasPages m places → pos i ≡ blit_offset g b r.from Y
      → count ≡ r.length * pixel_length g.format → HasBytes m places i count
  run_there m i count has begins size =
      subst (HasBytes m places i) (sym size) (row_there g b places r.from Y r.length each_reached m i has begins)
