-- The first of the screens' pixels that a place covers, and a blit to one screen.
use Rattle.std.proofs.Common.{◌≡◌, ◌≢◌, ℕ, zero, suc, ◌+◌, ◌<◌, inl, inr, refl, sym, subst, List, [], ◌∷◌, filter_map, All, Option, Some, None, true, false, ◌||◌, ◌==◌, cond, ℤ, pos, ◌+ℤ◌, arith}
use Rattle.std.proofs.lemmas.Bool.Decides.{nat_tests}
use Rattle.std.proofs.lemmas.Int.{ints}
use Rattle.std.proofs.lemmas.List.Elements.{All-cons, All-nil}
use Rattle.std.specs.List.{cons_option, range_with_len}
use Rattle.svga_cmd.specs.declared.blit.Blit.{Blit}
use Rattle.svga_cmd.specs.declared.constants.TheConstants.{SVGA_ID_INVALID}
use Rattle.svga_cmd.specs.declared.gmrfb.Gmrfb.{Gmrfb}
use Rattle.svga_cmd.specs.declared.screen.ScreenDef.{ScreenDef}
use Rattle.svga_model.proofs.PaintedMembers.{in_filter_map, in_range}
use Rattle.svga_model.proofs.PaintedPixels.{blit_pixel_is}
use Rattle.svga_model.proofs.PaintedPlaces.{IsAt, covered_pixel, on_screen}
use Rattle.svga_model.specs.BlitPixels.{BlitPixel, ScreenPixel, blit_pixels, covered_on, covers}
use Rattle.svga_model.specs.Members.{IsIn}

-- what holds of each element holds of all
all_members : {X : Type 0} (P : X → Type 0) (xs : List X) → ((x : X) → IsIn x xs → P x) → All P xs
all_members P [] each = All-nil P
all_members P (x ∷ xs) each = All-cons P x xs (each x (inl refl)) (all_members P xs (λ y there. each y (inr there)))

-- others are of screens with higher ids
abbrev AreHigher : ℕ → List ScreenPixel → Type 0
AreHigher id others = All (λ r. id < r.screen) others

-- a pixel of the screen with this id, if there is one, in front of those of screens with higher ids
one_more : (o : Option ScreenPixel) (id : ℕ) (rest : List ScreenPixel)
    → ((s : ScreenPixel) → o ≡ Some s → id ≡ s.screen) → ((r : ScreenPixel) → IsIn r rest → id < r.screen)
    → (q : ScreenPixel) (others : List ScreenPixel) → (rest ≡ q ∷ others → AreHigher q.screen others)
    → cons_option o rest ≡ q ∷ others → AreHigher q.screen others
one_more None id rest named higher q others more e = more e
one_more (Some s) id rest named higher q others more e =
    let first : s ≡ q = cc in
    let same : rest ≡ others = cc in
    let is : id ≡ q.screen = subst (λ t. id ≡ t.screen) first (named s refl) in
    all_members (λ r. q.screen < r.screen) others
    (λ r there. let above = higher r (subst (λ t. IsIn r t) (sym same) there) in omega arith)

-- of pixels that are given of the ids from one on, each of its screen's id, the first has the least
first_is_least : (f : ℕ → Option ScreenPixel) → ((id : ℕ) (s : ScreenPixel) → f id ≡ Some s → id ≡ s.screen)
    → (from count : ℕ) (q : ScreenPixel) (others : List ScreenPixel)
    → filter_map f (range_with_len from count) ≡ q ∷ others → AreHigher q.screen others
first_is_least f named from zero q others e = absurd (cc)
first_is_least f named from (suc count) q others e =
    one_more (f from) from (filter_map f (range_with_len (from + 1) count)) (named from) higher q others
    (first_is_least f named (from + 1) count q others) e
  where
    higher : (r : ScreenPixel) → IsIn r (filter_map f (range_with_len (from + 1) count)) → from < r.screen
    higher r there =
        let given = in_filter_map f (range_with_len (from + 1) count) r there in
        let past = in_range (from + 1) count given.0 given.1 in
        let is = named given.0 r given.2 in
        omega arith

-- a pixel of a screen that isn't given in virtual coordinates
on_one_screen : (d : ScreenDef) (screen : ℕ) (X Y : ℤ) (q : ScreenPixel) → screen ≢ SVGA_ID_INVALID → IsAt d screen X Y q
    → (q.screen ≡ screen) × (pos q.x ≡ X) × (pos q.y ≡ Y)
on_one_screen d screen X Y q one at =
    let no : (screen == SVGA_ID_INVALID) ≡ false = grind (arith, nat_tests) in
    let named = subst (λ t. (t || screen == q.screen) ≡ true) no at.meant in
    let x = subst (λ t. cond t d.x (pos 0) +ℤ pos q.x ≡ X) no at.x in
    let y = subst (λ t. cond t d.y (pos 0) +ℤ pos q.y ≡ Y) no at.y in
    (grind (arith, nat_tests), omega (arith, ints), omega (arith, ints))

module _ (definitions : ℕ → Option ScreenDef) where
  covered_first : (screen : ℕ) (X Y : ℤ) (q : ScreenPixel) (others : List ScreenPixel)
      → covers definitions screen X Y ≡ q ∷ others → AreHigher q.screen others
  covered_first screen X Y = first_is_least (λ id. covered_on (definitions id) id screen X Y)
      (λ id s e. (on_screen (definitions id) id screen X Y s e).2) 0 16

  -- each pixel of a blit covers some pixel of a screen, and the first of them is of the screen with the least
  -- id
  pub least : (g : Gmrfb) (b : Blit) (p : BlitPixel) → IsIn p (blit_pixels definitions g b)
      → (q : ScreenPixel) × (others : List ScreenPixel) × (covers definitions b.screen p.x p.y ≡ q ∷ others)
      × All (λ r. q.screen < r.screen) others
  least g b p pixel =
      let it = blit_pixel_is definitions g b p pixel in
      (it.first, it.others, it.covered, covered_first b.screen p.x p.y it.first it.others it.covered)

  -- a blit to one screen covers pixels of that screen alone, at the blit's own places
  pub alone : (b : Blit) (p : BlitPixel) (q : ScreenPixel) → b.screen < 16
      → IsIn q (covers definitions b.screen p.x p.y) → (q.screen ≡ b.screen) × (pos q.x ≡ p.x) × (pos q.y ≡ p.y)
  alone b p q low covered =
      let on = covered_pixel definitions b.screen p.x p.y q covered in
      on_one_screen on.0 b.screen p.x p.y q (λ e. absurd (omega arith)) on.2
