-- The pictures of a device's screens change as a head's do.
use Rattle.std.proofs.Common.{◌≡◌, ℕ, ◌<◌, Bool, true, false, cond, refl, sym, ap, subst, ◌∙◌, Option, Some, None, IsSome, IfSome, List, [], ◌∷◌, length, arith}
use Rattle.std.specs.Cmp.{nat_cmp_total as total}
use Rattle.std.specs.FinMap as map
use Rattle.std.specs.FinMap.{nat_cmp-IsAntisymmetric as exact}
use Rattle.std.specs.Ordering.{eq_by_cmp, nat_cmp}
use Rattle.std.specs.Prelude.{option_and_then, option_map, slice_get, map as map_list}
use Rattle.svga_cmd.proofs.Maps.{get_kept, get_other, get_removed, get_same, is_insert, is_remove, same_gets}
use Rattle.svga_cmd.specs.declared.screen.ScreenDef.{ScreenDef}
use Rattle.svga_model.specs.Screens as screens
use Rattle.svga_model.specs.Screens.{AreScreens, IsOnScreen, IsScreen, Screen, Screens, black_screen, definitions_of, row_of, with_screen, without_screen}
use Rattle.svga_model.specs.Pictures.{picture_row, pictures_of}
use Rattle.svga_head.specs.Changes.{IsOnPicture, painted_over, painted_picture, with_picture, without_picture}

abbrev rows_in : ℕ × Screen → ℕ × List (List ℕ)
rows_in e = (e.0, e.1.rows)

pick : (b : Bool) (s : Screen) (o : Option Screen) → cond b (Some s.rows) (option_map (λ t. t.rows) o) ≡ option_map (λ t. t.rows) (cond b (Some s) o)
pick true s o = refl
pick false s o = refl

find_rows : (q : ℕ) (es : List (ℕ × Screen)) → map.find nat_cmp q (map_list rows_in es) ≡ option_map (λ s. s.rows) (map.find nat_cmp q es)
find_rows q [] = refl
find_rows q (e ∷ es) = ap (cond (eq_by_cmp nat_cmp q e.0) (Some e.1.rows)) (find_rows q es) ∙ pick (eq_by_cmp nat_cmp q e.0) e.1 (map.find nat_cmp q es)

-- the picture of an id is the rows of its screen
pub get-pictures_of : (s : Screens) (q : ℕ) → map.get (pictures_of s) q ≡ option_map (λ t. t.rows) (map.get s q)
unfolding pictures_of
get-pictures_of s q = map.get-from_entries total (map_list rows_in (map.entries s)) q ∙ (find_rows q (map.entries s) ∙ ap (option_map (λ t. t.rows)) (sym (map.get-entries s q)))

-- no screens have no pictures
pub pictures_of-empty : pictures_of map.empty ≡ map.empty
pictures_of-empty = same_gets total exact (pictures_of map.empty) map.empty
    (λ q. get-pictures_of map.empty q ∙ (ap (option_map (λ t. t.rows)) (map.get-empty nat_cmp q) ∙ sym (map.get-empty nat_cmp q)))

-- a screen is put at its id
pictures_of-insert : (s : Screens) (id : ℕ) (t : Screen) → pictures_of (map.insert s id t) ≡ map.insert (pictures_of s) id t.rows
pictures_of-insert s id t = is_insert total exact (pictures_of s) (pictures_of (map.insert s id t)) id t.rows
    (get-pictures_of (map.insert s id t) id ∙ ap (option_map (λ u. u.rows)) (get_same total exact s id t))
    (λ q ne. get-pictures_of (map.insert s id t) q ∙ (ap (option_map (λ u. u.rows)) (get_other total exact s id q t ne) ∙ sym (get-pictures_of s q)))

pub pictures_of-with_screen : (s : Screens) (d : ScreenDef) → pictures_of (with_screen s d) ≡ with_picture d.id d.width d.height (pictures_of s)
pictures_of-with_screen s d = pictures_of-insert s d.id (black_screen d)

pub pictures_of-without_screen : (s : Screens) (id : ℕ) → pictures_of (without_screen s id) ≡ without_picture id (pictures_of s)
pictures_of-without_screen s id = is_remove total exact (pictures_of s) (pictures_of (map.remove s id)) id
    (get-pictures_of (map.remove s id) id ∙ ap (option_map (λ u. u.rows)) (get_removed total exact s id))
    (λ q ne. get-pictures_of (map.remove s id) q ∙ (ap (option_map (λ u. u.rows)) (get_kept total exact s id q ne) ∙ sym (get-pictures_of s q)))

painted_at : (s : Screens) (id : ℕ) (o : Option Screen) (x y : ℕ) (cs : List ℕ) → pictures_of (screens.painted_over s id o x y cs) ≡ painted_over id (option_map (λ t. t.rows) o) x y cs (pictures_of s)
painted_at s id None x y cs = refl
painted_at s id (Some t) x y cs = pictures_of-insert s id (screens.painted_screen t x y cs)

pub pictures_of-painted : (s : Screens) (id x y : ℕ) (cs : List ℕ) → pictures_of (screens.painted s id x y cs) ≡ painted_picture id x y cs (pictures_of s)
pictures_of-painted s id x y cs = painted_at s id (map.get s id) x y cs ∙ ap (λ o. painted_over id o x y cs (pictures_of s)) (sym (get-pictures_of s id))

row_in : (o : Option Screen) (y : ℕ) → option_and_then (λ rows. slice_get rows y) (option_map (λ t. t.rows) o) ≡ option_and_then (λ t. slice_get t.rows y) o
row_in None y = refl
row_in (Some t) y = refl

-- a row of a picture is that of its screen
pub row_of_screen : (s : Screens) (id y : ℕ) → picture_row (pictures_of s) id y ≡ row_of s id y
row_of_screen s id y = ap (option_and_then (λ rows. slice_get rows y)) (get-pictures_of s id) ∙ row_in (map.get s id) y

-- a screen that is defined has a picture
pub defined_picture : (s : Screens) (id : ℕ) → IsSome (definitions_of s id) → IsSome (map.get (pictures_of s) id)
defined_picture s id there = subst IsSome (sym (get-pictures_of s id)) (go (map.get s id) there) where
  go : (o : Option Screen) → IsSome (option_map (λ t. t.def) o) → IsSome (option_map (λ t. t.rows) o)
  go None h = h
  go (Some t) h = refl

-- what lies on a screen lies on its picture
pub on_picture : (budget : ℕ) (s : Screens) (id x y len : ℕ) → AreScreens budget s → IsOnScreen (definitions_of s id) x y len → IsOnPicture (map.get (pictures_of s) id) x y len
on_picture budget s id x y len valid on = subst (λ o. IsOnPicture o x y len) (sym (get-pictures_of s id)) (go (map.get s id) (valid.each id) on) where
  go : (o : Option Screen) → IfSome o (IsScreen id) → IsOnScreen (option_map (λ t. t.def) o) x y len → IsOnPicture (option_map (λ t. t.rows) o) x y len
  go None h on' = absurd on'
  go (Some t) h on' =
      let high : y < length t.rows = omega (arith, h.rows, on'.high) in
      record { high = high; wide = omega (arith, h.columns y [] high, on'.wide) }
