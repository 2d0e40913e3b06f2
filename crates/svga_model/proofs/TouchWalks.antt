-- A chain's walk, and what its reading gives, depend on the table pages that it comes to alone.
use Rattle.std.proofs.Common.{◌≡◌, ℕ, zero, suc, ◌+◌, refl, ap, ◌∙◌, List, [], ◌∷◌, ◌++◌, length, Bool, true, ◌||◌, Option, Some, None, unwrap_or, Err, cond, nat_le}
use Rattle.std.specs.List.{list_any}
use Rattle.svga_cmd.specs.declared.constants.TheConstants.{MAX_DESCRIPTORS}
use Rattle.svga_cmd.specs.declared.fault.Fault.TheVariants as fault
use Rattle.svga_cmd.specs.declared.page.PageKey.{PageKey}
use Rattle.svga_cmd.specs.declared.page.PageKey.TheVariants.{Guest}
use Rattle.svga_cmd.specs.Pages.{Memory, page_at}
use Rattle.svga_model.specs.Standing.{first_standing}
use Rattle.svga_model.specs.Touches.{is_page}
use Rattle.svga_model.specs.Walks.{TablePosition, Tables, descriptor_at, descriptor_in, last_of, last_tests, listed_pages, next_position, outcome_after, positions_from, run_pages, tables_of, unless, walk, walk_outcome}
use Rattle.svga_model.proofs.TouchPages.{or_true, page_there}

-- tables that have the same at these places
abbrev pub AreSameAt : Tables → Tables → List TablePosition → Type 0
AreSameAt a b [] = Unit {0}
AreSameAt a b (at ∷ places) = (a at.table ≡ b at.table) × AreSameAt a b places

-- the table page of one of these places
abbrev pub is_entered : PageKey → List TablePosition → Bool
is_entered key places = list_any (λ at. is_page key (Some (Guest at.table))) places

-- the tables of memories with the same on the places' pages
pub same_tables : (m n : Memory) (places : List TablePosition)
    → ((key : PageKey) → is_entered key places ≡ true → page_at m key ≡ page_at n key)
    → AreSameAt (tables_of m) (tables_of n) places
same_tables m n [] same = tt
same_tables m n (at ∷ places) same = (
  ap (λ p. unwrap_or p [])
      (same (Guest at.table) (ap (λ b. b || is_entered (Guest at.table) places) (page_there (Guest at.table)))),
  same_tables m n places (λ key has.
      same key (or_true (is_page key (Some (Guest at.table))) (is_entered key places) has)),
)

-- the walks are the same
pub same_places : (n guest : ℕ) (a b : Tables) (at : Option TablePosition)
    → AreSameAt a b (positions_from n guest a at) → positions_from n guest a at ≡ positions_from n guest b at
unfolding positions_from
same_places zero guest a b at same = refl
same_places (suc n) guest a b None same = refl
same_places (suc n) guest a b (Some at) same =
    ap (λ ps. at ∷ ps) (same_places n guest a b (next_position guest at (descriptor_at a at)) same.1)
    ∙ ap (λ p. at ∷ positions_from n guest b (next_position guest at (descriptor_in p at.pair))) same.0

-- the last place has the same table page
same_last : (a b : Tables) (at : TablePosition) (places : List TablePosition)
    → AreSameAt a b (at ∷ places) → a (last_of at places).table ≡ b (last_of at places).table
same_last a b at [] same = same.0
same_last a b at (next ∷ places) same = same_last a b next places same.1

-- the same pages are listed
same_listed : (a b : Tables) (places : List TablePosition)
    → AreSameAt a b places → listed_pages a places ≡ listed_pages b places
same_listed a b [] same = refl
same_listed a b (at ∷ places) same = λ i.
    run_pages (descriptor_in (same.0 i) at.pair) ++ same_listed a b places same.1 i

-- the walk's outcome is the same
same_after : (guest count : ℕ) (a b : Tables) (pages : List ℕ) (places : List TablePosition)
    → AreSameAt a b places → outcome_after guest a count pages places ≡ outcome_after guest b count pages places
same_after guest count a b pages [] same = refl
same_after guest count a b pages (at ∷ places) same =
    let last : TablePosition = last_of at places in
    let steps : ℕ = count + length (at ∷ places) in
    λ i. unless (first_standing (last_tests guest steps last (descriptor_in (same_last a b at places same i) last.pair)))
    (pages ++ same_listed a b (at ∷ places) same i)

-- what the reading gives is the same
pub same_outcome : (guest : ℕ) (a b : Tables) (first : ℕ)
    → AreSameAt a b (walk guest a first) → walk_outcome guest a first ≡ walk_outcome guest b first
same_outcome guest a b first same = ap (λ r. cond (nat_le guest first) (Err fault.BadPage) r)
    (same_after guest 0 a b [] (walk guest a first) same
    ∙ ap (λ ps. outcome_after guest b 0 [] ps) (same_places MAX_DESCRIPTORS guest a b (Some (record { table = first; pair = 0 })) same))
