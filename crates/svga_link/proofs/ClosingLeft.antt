-- What is left of a session that is closed.
use Rattle.std.proofs.Common.{◌≡◌, ℕ, List, [], length, slice_index_or, Bool, true, false, not, is_some, cond, Some, None, IsSome, refl, sym, ap, subst, ◌∙◌, arith, rules}
use Rattle.std.specs.FinSet as set
use Rattle.svga_cmd.specs.declared.limits.Limits.{Limits}
use Rattle.svga_cmd.specs.declared.session.Session.{Session}
use Rattle.svga_model.specs.Fences.{fences, register_after}
use Rattle.svga_model.specs.Runs.{run}
use Rattle.svga_ring.proofs.Pages.Locations.{slot_there}
use Rattle.svga_ring.specs.Committed.{commands}
use Rattle.svga_ring.specs.Conditions.{first_state}
use Rattle.svga_ring.specs.Core.{knowing_taken}
use Rattle.svga_ring.specs.Layouts.{word_address}
use Rattle.svga_ring.specs.Locations.{Slot}
use Rattle.svga_ring.specs.RingPieces.{next_offset}
use Rattle.svga_ring.specs.SharedTable.{slot_number}
use Rattle.svga_ring.specs.TableRule.{View, joined_view}
use Rattle.svga_ring.specs.TableSteps.{page_left}
use Rattle.svga_ring.specs.Views.{DeviceView, DriverView, Terms, opening_layout, terms_of}
use Rattle.svga_link.proofs.ClosingSteps.{slot_key_is, slot_of_key}
use Rattle.svga_link.proofs.PageRows.{keys_there, page_here}
use Rattle.svga_link.specs.Closing.{AreClosingPages, AreGathered, HasAllPages, HasOwnPages, closed_of, closing, closing_slot, slot_key}
use Rattle.svga_link.specs.Ends.{pages_in}

is_there : (o : Slot) → is_some o ≡ true → IsSome o
is_there None e = cc
is_there (Some x) e = search rules

-- once all is taken there is a page in each place
some_there : (b : Bool) (x : List ℕ) (own : Slot) → is_some own ≡ not b → is_some (cond b (Some x) own) ≡ true
some_there true x own e = refl
some_there false x own e = e

pub all_there : (v w : View) (row filled : List Slot) → HasOwnPages v.of_driver row
    → AreGathered v row (length row) w filled → HasAllPages v.of_driver.terms.limits filled
all_there v w row filled own are = record {
  row_is = are.row_is ∙ own.row_is;
  full = λ slot low.
      let l = v.of_driver.terms.limits in
      let key = slot_key l slot in
      let is_key = slot_key_is l slot (omega (arith, low, are.row_is, own.row_is)) in
      let here = slot_of_key l slot in
      ap (λ n. is_some (slice_index_or filled n None)) (sym here)
      ∙ ap is_some (are.taken key is_key (omega (arith, low, here, are.row_is)))
      ∙ some_there (set.contains v.of_driver.lent key) (page_left v.of_driver key)
      (slice_index_or row (slot_number l key) None) (own.mine key is_key);
}

-- and these are the pages
pub pages_there : (v w : View) (row filled : List Slot) → HasOwnPages v.of_driver row
    → AreGathered v row (length row) w filled
    → AreClosingPages v.of_driver (pages_in v.of_driver.terms.limits row) (pages_in v.of_driver.terms.limits filled)
pages_there v w row filled own are =
    let l = v.of_driver.terms.limits in
    let all = all_there v w row filled own are in record {
      keys = λ key. (
        keys_there l filled key all.row_is,
        λ is_key. let low = slot_there l key is_key in
            subst IsSome (sym (page_here l filled key is_key))
            (is_there (slice_index_or filled (slot_number l key) None) (all.full (slot_number l key) (omega (arith, low, all.row_is)))),
      );
      each = λ key is_key. let low = slot_there l key is_key in
          page_here l filled key is_key ∙ are.taken key is_key (omega (arith, low, own.row_is))
          ∙ ap (closing_slot v.of_driver key) (sym (page_here l row key is_key));
    }

-- Knowing all to be taken the driver has the same pages.
pub own_known : (d : DriverView) (e : DeviceView) (row : List Slot) → HasOwnPages d row → HasOwnPages (knowing_taken d e) row
own_known d e row own = record { row_is = own.row_is; mine = own.mine }

known_pages : (d : DriverView) (e : DeviceView) (l : Limits) (row filled : List Slot) → l ≡ d.terms.limits
    → AreClosingPages (knowing_taken d e) (pages_in d.terms.limits row) (pages_in d.terms.limits filled)
    → AreClosingPages d (pages_in d.terms.limits row) (pages_in l filled)
known_pages d e l row filled same are =
    subst (λ x. AreClosingPages d (pages_in d.terms.limits row) (pages_in x filled)) (sym same)
    (record { keys = are.keys; each = are.each })

-- The driver's seat has joined the device's and looked at a word, and all pages are gathered.
module _ (a b j v w : View) (joined_is : j ≡ joined_view a b) (looked_is : v ≡ j) (row filled : List Slot)
    (own : HasOwnPages a.of_driver row) where
  pub own_of : HasOwnPages v.of_driver row
  own_of = subst (λ (x : View). HasOwnPages x.of_driver row) (sym (looked_is ∙ joined_is))
      (own_known a.of_driver b.of_device row own)

  module _ (session : Session) (terms : a.of_driver.terms ≡ terms_of session)
      (are : AreGathered v row (length row) w filled) where
    gathered : AreGathered (joined_view a b) row (length row) w filled
    gathered = subst (λ (x : View). AreGathered x row (length row) w filled) (looked_is ∙ joined_is) are

    pub all_of : HasAllPages session.limits filled
    all_of = subst (λ (t : Terms). HasAllPages t.limits filled) terms
        (all_there (joined_view a b) w row filled (own_known a.of_driver b.of_device row own) gathered)

    pub pages_of : AreClosingPages a.of_driver (pages_in a.of_driver.terms.limits row) (pages_in session.limits filled)
    pages_of = known_pages a.of_driver b.of_device session.limits row filled (sym (ap (λ (t : Terms). t.limits) terms))
        (pages_there (joined_view a b) w row filled (own_known a.of_driver b.of_device row own) gathered)

    pub closed_is : (next fence stores : ℕ) → a.of_driver.layout ≡ opening_layout session
        → a.of_driver.stopped ≡ true → next ≡ next_offset a.of_driver → j.of_driver.pending ≡ []
        → fence ≡ register_after j.of_driver.terms.first (length (fences (commands j.of_driver.acts)))
        → stores ≡ a.of_driver.next_stores → j.of_device.taken ≡ j.of_driver.sent
        → j.of_device.kept ≡ (run (first_state j.of_driver) j.of_driver.acts).kept
        → closed_of w session next fence stores filled ≡ closing a.of_driver (pages_in session.limits filled)
    closed_is next fence stores layout stopped next_is none fence_is stores_are taken kept =
        let d = a.of_driver in
        let empty : d.pending ≡ [] = subst (λ (x : View). x.of_driver.pending ≡ []) joined_is none in
        let all_taken : w.of_device.taken ≡ d.sent =
        ap (λ (e : DeviceView). e.taken) gathered.device_is
        ∙ subst (λ (x : View). x.of_device.taken ≡ x.of_driver.sent) joined_is taken in
        let kept_is : w.of_device.kept ≡ (run (first_state d) d.acts).kept =
        ap (λ (e : DeviceView). e.kept) gathered.device_is
        ∙ subst (λ (x : View). x.of_device.kept ≡ (run (first_state x.of_driver) x.of_driver.acts).kept) joined_is kept in
        let last : fence ≡ register_after d.terms.first (length (fences (commands d.acts))) =
        subst (λ (x : View). fence ≡ register_after x.of_driver.terms.first (length (fences (commands x.of_driver.acts)))) joined_is fence_is in
        let sent_is : w.of_driver.sent ≡ d.sent = ap (λ (x : DriverView). x.sent) gathered.driver_is in
        let acts_are : w.of_driver.acts ≡ d.acts = ap (λ (x : DriverView). x.acts) gathered.driver_is in
        let config_is : ◌≡◌ {A = ℕ} (cond w.of_driver.stopped 0 1) 0 =
        ap (λ (x : DriverView). cond x.stopped 0 1) gathered.driver_is ∙ ap (λ b. cond b 0 1) stopped in
        let at : next ≡ word_address d.layout (length d.sent) =
        next_is ∙ ap (λ n. word_address d.layout n) (omega (arith, ap length empty)) in
        let stop_is : word_address w.of_driver.layout (length w.of_device.taken) ≡ word_address d.layout (length d.sent) =
        ap (λ (x : DriverView). word_address x.layout (length w.of_device.taken)) gathered.driver_is
        ∙ ap (λ (l : List ℕ). word_address d.layout (length l)) all_taken in
        let max_is : session.ring ≡ d.layout.max = sym (ap (λ lay. lay.max) layout) in
        λ i. record {
          sent = sent_is i;
          taken = all_taken i;
          acts = acts_are i;
          kept = kept_is i;
          max = max_is i;
          next_cmd = at i;
          stop = stop_is i;
          fence = last i;
          config = config_is i;
          next_stores = stores_are i;
          pages = pages_in session.limits filled;
        }
