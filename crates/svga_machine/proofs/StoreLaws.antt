-- A store that has all pages of a device has those of every region.
use Rattle.std.proofs.Common.{inl, inr, sym, subst, length, slice_index_or, Option, Some, None, IfSome}
use Rattle.std.proofs.lemmas.Bool.{cases_lt}
use Rattle.std.proofs.lemmas.List.{get_or_past}
use Rattle.svga_cmd.specs.Pages.{HasPage, IsKey, Memory}
use Rattle.svga_cmd.specs.declared.limits.Limits.{Limits}
use Rattle.svga_cmd.specs.declared.page.PageKey.{PageKey}
use Rattle.svga_model.specs.Regions.{Places}
use Rattle.svga_model.specs.ValidStates.{ArePlaces}
use Rattle.svga_transfer.specs.Reach.{HasPages}

-- the memory has each page of the device
abbrev pub HasAll : Limits → Memory → Type 0
HasAll l m = (key : PageKey) → IsKey l key → HasPage m key

-- the page of a mapped place
has_place : (l : Limits) (m : Memory) (place : Option PageKey) → HasAll l m → IfSome place (IsKey l)
    → IfSome place (HasPage m)
has_place l m None all is = tt
has_place l m (Some key) all is = all key is

-- so the memory has the pages of places of the device
pub has_pages : (l : Limits) (m : Memory) (places : Places) → HasAll l m → ArePlaces l places → HasPages m places
has_pages l m places all are k = elim (cases_lt k (length places))
    as (λ _. IfSome (slice_index_or places k None) (HasPage m)) [
      | inl within ↦ has_place l m (slice_index_or places k None) all (are k None within)
      | inr past ↦ subst (λ place. IfSome place (HasPage m)) (sym (get_or_past places k None past)) tt
    ]
