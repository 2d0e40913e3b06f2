-- What is written in the row of lendings.
use Rattle.std.proofs.Common.{◌≡◌, ℕ, refl, sym, ap, ◌∙◌, Option, Some, None, false, List, length, option_and_then, slice_index_or, slice_set, replicate, map as map_list}
use Rattle.std.specs.FinMap as map
use Rattle.svga_cmd.specs.Pages.{IsKey, is_key}
use Rattle.svga_cmd.specs.declared.limits.Limits.{Limits}
use Rattle.svga_cmd.specs.declared.page.PageKey.{PageKey}
use Rattle.svga_driver.proofs.Rows.{any_default, empty_row, map_index, map_length, map_none, map_set, row_at, row_emptied, row_map, row_off, row_set, row_within}
use Rattle.svga_driver.specs.LendingSet.{LendingSet, command_of, commands_in, lendings_in, with_lent, with_touched, without}
use Rattle.svga_driver.specs.declared.lending.Lending.{Lending}
use Rattle.svga_driver.specs.declared.lending.Lending.TheVariants.{Touched, Untouched}
use Rattle.svga_ring.specs.SharedTable.{page_count, slot_number}

abbrev pub set_of : Limits → List (Option Lending) → LendingSet
set_of l row = record { limits = l; lent = lendings_in l row; touched = commands_in l row }

abbrev pub last : Option Lending → Option ℕ
last o = option_and_then command_of o

module _ (l : Limits) (row : List (Option Lending)) (key : PageKey) (is : IsKey l key)
    (each : length row ≡ page_count l)
    (i : ℕ) (at : i ≡ slot_number l key) where
  each_command : length (map_list last row) ≡ page_count l
  each_command = map_length last row ∙ each

  pub set_lent : set_of l (slice_set row i (Some Untouched)) ≡ with_lent (set_of l row) key
  set_lent = λ j. record {
    limits = l;
    lent = (ap (λ n. lendings_in l (slice_set row n (Some Untouched))) at
        ∙ row_set l row key Untouched is each) j;
    touched = (ap (λ n. commands_in l (slice_set row n (Some Untouched))) at
        ∙ ap (row_map l) (map_set last row (slot_number l key) (Some Untouched))
        ∙ row_emptied l (map_list last row) key is each_command) j;
  }

  pub set_without : set_of l (slice_set row i None) ≡ without (set_of l row) key
  set_without = λ j. record {
    limits = l;
    lent = (ap (λ n. lendings_in l (slice_set row n None)) at ∙ row_emptied l row key is each) j;
    touched = (ap (λ n. commands_in l (slice_set row n None)) at
        ∙ ap (row_map l) (map_set last row (slot_number l key) None)
        ∙ row_emptied l (map_list last row) key is each_command) j;
  }

  pub set_touched : (command fences : ℕ)
      → set_of l (slice_set row i (Some (Touched command fences))) ≡ with_touched
      (set_of l row) key command fences
  set_touched command fences = λ j. record {
    limits = l;
    lent = (ap (λ n. lendings_in l (slice_set row n (Some (Touched command fences)))) at
        ∙ row_set l row key (Touched command fences) is each) j;
    touched = (ap (λ n. commands_in l (slice_set row n (Some (Touched command fences)))) at
        ∙ ap (row_map l) (map_set last row (slot_number l key) (Some (Touched command fences)))
        ∙ row_set l (map_list last row) key command is each_command) j;
  }

  pub lent_at : (o : Option Lending) → o ≡ slice_index_or row i o → map.get (lendings_in l row) key ≡ o
  lent_at o found = row_at l row key is ∙ any_default row (slot_number l key) None o
      (row_within l row key is each)
      ∙ ap (λ n. slice_index_or row n o) (sym at) ∙ sym found

  pub touched_at : (o : Option Lending) → o ≡ slice_index_or row i o
      → map.get (commands_in l row) key ≡ last o
  touched_at o found = row_at l (map_list last row) key is ∙ map_index last row (slot_number l key) None
      ∙ ap last (sym (row_at l row key is) ∙ lent_at o found)

pub none_lent : (l : Limits) (n : ℕ)
    → set_of l (replicate n None) ≡ record { limits = l; lent = map.empty; touched = map.empty }
none_lent l n = λ j. record {
  limits = l;
  lent = empty_row l n j;
  touched = (ap (row_map l) (map_none last n refl) ∙ empty_row l n) j;
}

-- and of no other keys
pub lent_off : (l : Limits) (row : List (Option Lending)) (key : PageKey) → length row ≡ page_count l
    → is_key l key ≡ false → map.get (lendings_in l row) key ≡ None
lent_off l row key each out = row_off l row key each out

pub touched_off : (l : Limits) (row : List (Option Lending)) (key : PageKey) → length row ≡ page_count l
    → is_key l key ≡ false → map.get (commands_in l row) key ≡ None
touched_off l row key each out = row_off l (map_list last row) key (map_length last row ∙ each) out
