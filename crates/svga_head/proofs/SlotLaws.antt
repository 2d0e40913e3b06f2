-- Pictures in slots.
use Rattle.std.proofs.Common.{◌≡◌, ◌≢◌, ℕ, ◌<◌, ◌≤◌, refl, sym, ap, ◌∙◌, Option, Some, None, List, length, arith, slice_index_or, slice_set, inl, inr, replicate, get_or-set_same, get_or-set_other}
use Rattle.std.proofs.lemmas.List.{get_or_default, set-get_or}
use Rattle.std.specs.Prelude.{option_and_then, option_map, slice_get}
use Rattle.svga_cmd.specs.declared.constants.TheConstants.{SCREEN_IDS}
use Rattle.svga_model.specs.Tabulated.{tabulated}
use Rattle.std.proofs.lemmas.Bool.{cases_lt}
use Rattle.std.specs.Cmp.{nat_cmp_total}
use Rattle.std.specs.FinMap as maps
use Rattle.std.specs.FinMap.{nat_cmp-IsAntisymmetric}
use Rattle.svga_cmd.proofs.Maps.{is_insert, is_remove}
use Rattle.svga_model.proofs.TabulatedLaws.{get-tabulated, get-tabulated_past}
use Rattle.svga_head.specs.Mirrors.{pictures_in}
use Rattle.svga_head.specs.Changes.{painted_over, painted_picture, painted_rows, without_picture}
use Rattle.svga_model.specs.Pictures.{Pictures, picture_row}

module _ (slots : List (Option (List (List ℕ)))) where
  pub get-pictures_in : (id : ℕ) → id < SCREEN_IDS → maps.get (pictures_in slots) id ≡ slice_index_or slots id None
  get-pictures_in id l = get-tabulated SCREEN_IDS (λ k. slice_index_or slots k None) id l

  pub get-pictures_in_past : (id : ℕ) → SCREEN_IDS ≤ id → maps.get (pictures_in slots) id ≡ None
  get-pictures_in_past id l = get-tabulated_past SCREEN_IDS (λ k. slice_index_or slots k None) id l

  pub remove_past : (id : ℕ) → SCREEN_IDS ≤ id → pictures_in slots ≡ without_picture id (pictures_in slots)
  remove_past id l = is_remove nat_cmp_total nat_cmp-IsAntisymmetric (pictures_in slots) (pictures_in slots) id (get-pictures_in_past id l) (λ q ne. refl)

module _ (slots : List (Option (List (List ℕ)))) (id : ℕ) (o : Option (List (List ℕ))) (l : id < SCREEN_IDS) (count : length slots ≡ SCREEN_IDS) where
  here : maps.get (pictures_in (slice_set slots id o)) id ≡ o
  here = get-pictures_in (slice_set slots id o) id l ∙ get_or-set_same slots id o None (omega arith)

  others : (q : ℕ) → q ≢ id → maps.get (pictures_in (slice_set slots id o)) q ≡ maps.get (pictures_in slots) q
  others q ne = elim (cases_lt q SCREEN_IDS) as (λ _. maps.get (pictures_in (slice_set slots id o)) q ≡ maps.get (pictures_in slots) q) [
    | inl less ↦ get-pictures_in (slice_set slots id o) q less ∙ (get_or-set_other slots id q o None ne ∙ sym (get-pictures_in slots q less))
    | inr past ↦ get-pictures_in_past (slice_set slots id o) q past ∙ sym (get-pictures_in_past slots q past)
  ]

  pub set_insert : (p : List (List ℕ)) → o ≡ Some p → pictures_in (slice_set slots id o) ≡ maps.insert (pictures_in slots) id p
  set_insert p e = is_insert nat_cmp_total nat_cmp-IsAntisymmetric (pictures_in slots) (pictures_in (slice_set slots id o)) id p (here ∙ e) others

  pub set_remove : o ≡ None → pictures_in (slice_set slots id o) ≡ without_picture id (pictures_in slots)
  set_remove e = is_remove nat_cmp_total nat_cmp-IsAntisymmetric (pictures_in slots) (pictures_in (slice_set slots id o)) id (here ∙ e) others

-- no slot is full
pub none_in : pictures_in (replicate SCREEN_IDS None) ≡ maps.empty
unfolding tabulated
none_in = refl

-- a picture that is painted in its slot
pub painted_in : (slots : List (Option (List (List ℕ)))) (id x y : ℕ) (cs : List ℕ) (o : Option (List (List ℕ))) → id < SCREEN_IDS → length slots ≡ SCREEN_IDS → slice_index_or slots id None ≡ o
    → pictures_in (slice_set slots id (option_map (painted_rows x y cs) o)) ≡ painted_over id o x y cs (pictures_in slots)
painted_in slots id x y cs None l count e = ap pictures_in (ap (slice_set slots id) (sym e) ∙ set-get_or slots id None)
painted_in slots id x y cs (Some rows) l count e = set_insert slots id (Some (painted_rows x y cs rows)) l count (painted_rows x y cs rows) refl

pub painted_slot : (slots : List (Option (List (List ℕ)))) (id x y : ℕ) (cs : List ℕ) → id < SCREEN_IDS → length slots ≡ SCREEN_IDS
    → pictures_in (slice_set slots id (option_map (painted_rows x y cs) (slice_index_or slots id None))) ≡ painted_picture id x y cs (pictures_in slots)
painted_slot slots id x y cs l count = painted_in slots id x y cs (slice_index_or slots id None) l count refl ∙ ap (λ o. painted_over id o x y cs (pictures_in slots)) (sym (get-pictures_in slots id l))

-- where there is no picture nothing is painted
painted_nowhere : (ps : Pictures) (id x y : ℕ) (cs : List ℕ) (o : Option (List (List ℕ))) → o ≡ None → ps ≡ painted_over id o x y cs ps
painted_nowhere ps id x y cs o e = ap (λ p. painted_over id p x y cs ps) (sym e)

pub painted_past : (slots : List (Option (List (List ℕ)))) (id x y : ℕ) (cs : List ℕ) → SCREEN_IDS ≤ id → pictures_in slots ≡ painted_picture id x y cs (pictures_in slots)
painted_past slots id x y cs l = painted_nowhere (pictures_in slots) id x y cs (maps.get (pictures_in slots) id) (get-pictures_in_past slots id l)

-- a row of the picture in a slot
pub row_in : (slots : List (Option (List (List ℕ)))) (id y : ℕ) (o : Option (List (List ℕ))) → id < SCREEN_IDS → o ≡ slice_index_or slots id None → option_and_then (λ rows. slice_get rows y) o ≡ picture_row (pictures_in slots) id y
row_in slots id y o l e = ap (option_and_then (λ rows. slice_get rows y)) (e ∙ sym (get-pictures_in slots id l))

pub row_past : (slots : List (Option (List (List ℕ)))) (id y : ℕ) → SCREEN_IDS ≤ id → None ≡ picture_row (pictures_in slots) id y
row_past slots id y l = ap (option_and_then (λ rows. slice_get rows y)) (sym (get-pictures_in_past slots id l))

-- a slot that is there, whatever is read past the end
pub at_slot : (slots : List (Option (List (List ℕ)))) (id : ℕ) (d : Option (List (List ℕ))) → id < SCREEN_IDS → length slots ≡ SCREEN_IDS → slice_index_or slots id d ≡ slice_index_or slots id None
at_slot slots id d l count = get_or_default slots id d None (omega arith)
