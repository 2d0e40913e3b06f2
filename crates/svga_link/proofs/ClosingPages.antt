-- The pages of the first slots come to the joined seat, one after another.
use Rattle.std.proofs.Common.{◌≡◌, ℕ, ◌+◌, ◌<◌, ◌≤◌, List, length, length-set, get_or-set_other, get_or-set_same, slice_index_or, slice_set, Bool, true, false, not, is_some, cond, Some, None, refl, sym, ap, ◌∙◌, arith, nat_lt}
use Rattle.std.proofs.lemmas.Bool.Decides.{nat_tests}
use Rattle.std.specs.FinSet as set
use Rattle.svga_cmd.specs.Pages.{IsKey}
use Rattle.svga_cmd.specs.declared.page.PageKey.{PageKey}
use Rattle.svga_ring.proofs.Pages.Locations.{same_page}
use Rattle.svga_ring.specs.Locations.{Slot}
use Rattle.svga_ring.specs.SharedTable.{page_count, slot_number}
use Rattle.svga_ring.specs.TableRule.{View}
use Rattle.svga_ring.specs.TableSteps.{page_left}
use Rattle.svga_ring.specs.Views.{DriverView, joined}
use Rattle.svga_link.proofs.ClosingSteps.{slot_key_is, slot_of_key}
use Rattle.svga_link.specs.Closing.{AreGathered, HasOwnPages, HasTaken, closing_slot, slot_key}

-- none at first
pub none_gathered : (v : View) (row : List Slot) → v.role ≡ joined → AreGathered v row 0 v row
none_gathered v row is = record {
  role_is = is;
  driver_is = refl;
  device_is = refl;
  row_is = refl;
  lent_yet = λ key is_key behind. refl;
  left = λ slot behind. refl;
  taken = λ key is_key low. absurd (omega (arith, low));
}

-- the page of the next slot lies in the row where it isn't lent
pub next_own : (v w : View) (row filled : List Slot) (count : ℕ) → HasOwnPages v.of_driver row
    → AreGathered v row count w filled → count < length row
    → is_some (slice_index_or filled count None)
    ≡ not (set.contains w.of_driver.lent (slot_key w.of_driver.terms.limits count))
next_own v w row filled count own are low =
    let l = v.of_driver.terms.limits in
    let key = slot_key l count in
    let is_key = slot_key_is l count (omega (arith, low, own.row_is)) in
    let here = slot_of_key l count in
    ap is_some (are.left count (omega arith) ∙ ap (λ n. slice_index_or row n None) (sym here))
    ∙ own.mine key is_key ∙ ap not (sym (are.lent_yet key is_key (omega (arith, here))))
    ∙ ap (λ (d : DriverView). not (set.contains w.of_driver.lent (slot_key d.terms.limits count))) (sym are.driver_is)

-- what comes into its place
module _ (v w : View) (row filled : List Slot) (count : ℕ) (are : AreGathered v row count w filled)
    (own : length row ≡ page_count v.of_driver.terms.limits) (low : count < length row) where
  next_is_key : IsKey v.of_driver.terms.limits (slot_key v.of_driver.terms.limits count)
  next_is_key = slot_key_is v.of_driver.terms.limits count (omega (arith, low, own))

  next_is : slot_key w.of_driver.terms.limits count ≡ slot_key v.of_driver.terms.limits count
  next_is = ap (λ (d : DriverView). slot_key d.terms.limits count) are.driver_is

  next_place : closing_slot w.of_driver (slot_key w.of_driver.terms.limits count) (slice_index_or filled count None)
      ≡ closing_slot v.of_driver (slot_key v.of_driver.terms.limits count) (slice_index_or row count None)
  next_place =
      let key = slot_key v.of_driver.terms.limits count in
      let here = slot_of_key v.of_driver.terms.limits count in
      ap (λ (d : DriverView). closing_slot d (slot_key d.terms.limits count) (slice_index_or filled count None)) are.driver_is
      ∙ ap (λ b. cond b (Some (page_left v.of_driver key)) (slice_index_or filled count None))
      (are.lent_yet key next_is_key (omega (arith, here)))
      ∙ ap (closing_slot v.of_driver key) (are.left count (omega arith))

  -- and one page more is there
  pub gathered_more : (x : View) (place : Slot) → HasTaken (slot_key w.of_driver.terms.limits count) w x
      → place ≡ closing_slot w.of_driver (slot_key w.of_driver.terms.limits count) (slice_index_or filled count None)
      → AreGathered v row (count + 1) x (slice_set filled count place)
  gathered_more x place told here =
      let l = v.of_driver.terms.limits in
      let key_is = slot_of_key l count in record {
        role_is = told.role_is ∙ are.role_is;
        driver_is = told.driver_is
            ∙ ap (λ (d : DriverView). record d { lent = x.of_driver.lent; out = x.of_driver.out }) are.driver_is;
        device_is = told.device_is ∙ are.device_is;
        row_is = length-set filled count place ∙ are.row_is;
        lent_yet = λ key is_key behind.
            told.others key (λ same. let e = ap (slot_number l) (same ∙ next_is) ∙ key_is in omega (arith, e, behind))
            ∙ are.lent_yet key is_key (omega (arith, behind));
        left = λ slot behind.
            get_or-set_other filled count slot place None (λ e. omega (arith, e, behind)) ∙ are.left slot (omega (arith, behind));
        taken = λ key is_key less. taken_more key is_key less (nat_lt (slot_number l key) count) refl;
      } where
        taken_more : (key : PageKey) → IsKey v.of_driver.terms.limits key → slot_number v.of_driver.terms.limits key < count + 1
            → (b : Bool) → nat_lt (slot_number v.of_driver.terms.limits key) count ≡ b
            → slice_index_or (slice_set filled count place) (slot_number v.of_driver.terms.limits key) None
            ≡ closing_slot v.of_driver key (slice_index_or row (slot_number v.of_driver.terms.limits key) None)
        taken_more key is_key less true e =
            let l = v.of_driver.terms.limits in
            let before : slot_number l key < count = grind (arith, nat_tests) in
            get_or-set_other filled count (slot_number l key) place None (λ same. omega (arith, same, before)) ∙ are.taken key is_key before
        taken_more key is_key less false e =
            let l = v.of_driver.terms.limits in
            let k = slot_key l count in
            let behind : count ≤ slot_number l key = grind (arith, nat_tests) in
            let at : slot_number l key ≡ count = omega (arith, behind, less) in
            let same : k ≡ key = same_page l k key next_is_key is_key (slot_of_key l count ∙ sym at) in
            ap (λ n. slice_index_or (slice_set filled count place) n None) at
            ∙ get_or-set_same filled count place None (omega (arith, low, are.row_is))
            ∙ here ∙ next_place
            ∙ ap (λ q. closing_slot v.of_driver q (slice_index_or row count None)) same
            ∙ ap (λ n. closing_slot v.of_driver key (slice_index_or row n None)) (sym at)
