-- The steps of the driver's seat on a page: that the table allows them, and what is told of them.
use Rattle.std.proofs.Common.{◌≡◌, ℕ, List, [], Some, true, refl, sym, ap, subst, ◌∙◌}
use Rattle.std.specs.FinSet as set
use Rattle.atomic_table.specs.Table.{Allows, Me}
use Rattle.svga_cmd.specs.Pages.{IsPage}
use Rattle.svga_cmd.specs.declared.page.PageKey.{PageKey}
use Rattle.svga_cmd.specs.declared.session.Session.{Session}
use Rattle.svga_ring.proofs.Pages.Locations.{home_again, on_one}
use Rattle.svga_ring.specs.Conditions.{DriverMay, NoSlotOut}
use Rattle.svga_ring.specs.Core.{Event, Give}
use Rattle.svga_ring.specs.Locations.{Slot}
use Rattle.svga_ring.specs.SharedTable.{slot_number}
use Rattle.svga_ring.specs.TableRule.{IsSoundTable, View}
use Rattle.svga_ring.specs.TableSteps.{Brings, DriverBrings, driver_value, driver_word}
use Rattle.svga_ring.specs.Views.{DriverView, driver}
use Rattle.svga_link.proofs.DriverSteps.{driver_stores_as}
use Rattle.svga_link.specs.DriverPlays.{IsWordOf}
use Rattle.svga_link.specs.Lending.{giving, lending, taking, taking_out, with_slot_home, with_slot_out}
use Rattle.svga_link.specs.Plays.{DriverStores}
use Rattle.svga_link.specs.Seats.{SeenDriverSeat}

-- a page's word is that of one page alone, so what is told of its step is told of each that has the word
same_key : (me : Me Slot View) (word : ℕ) (a b : PageKey) → IsWordOf word me a → IsWordOf word me b → a ≡ b
same_key me word a b of_a of_b = on_one me.0.of_driver.terms.limits a b of_a.0 of_b.0 (sym of_a.1 ∙ of_b.1)

abbrev pub OnPage : (PageKey → Event) → ℕ → Me Slot View → Me Slot View → Type 0
OnPage event word me left = (key : PageKey) → IsWordOf word me key → DriverStores (event key) me left

pub stores_on_page : (k : Session) (slots id : ℕ) (me : Me Slot View) (event : PageKey → Event) (key : PageKey)
    (word value : ℕ) → me.0.role ≡ driver → IsWordOf word me key → DriverMay (event key) me.0.of_driver
    → DriverBrings (event key) me.0.of_driver me.1 → word ≡ driver_word (event key) me.0.of_driver
    → ((n : ℕ) → value ≡ driver_value (event key) me.0.of_driver n)
    → Allows (IsSoundTable k) slots id me word (λ _. value) (λ _. OnPage event word me)
stores_on_page k slots id me event key word value is here may brings at stores =
    driver_stores_as k slots id me (event key) word value (OnPage event word me) is may brings at stores
    (λ left told other there. subst (λ q. DriverStores (event q) me left) (same_key me word key other here there) told)

-- the page that is brought is known
abbrev pub Gives : ℕ → Me Slot View → Me Slot View → Type 0
Gives word me left = (key : PageKey) (bytes : List ℕ) → IsWordOf word me key
    → Brings (slot_number me.0.of_driver.terms.limits key) (Some bytes) me.1 → DriverStores (Give key bytes) me left

same_brought : (slot : ℕ) (a b : List ℕ) (carried : List (ℕ × Slot)) → Brings slot (Some a) carried
    → Brings slot (Some b) carried → a ≡ b
same_brought slot a b carried of_a of_b =
    let one = sym of_a.1 ∙ of_b.1 in
    let pair : ◌≡◌ {A = ℕ × Slot} (slot, Some a) (slot, Some b) = cc in
    let lies : ◌≡◌ {A = Slot} (Some a) (Some b) = ap (λ (z : ℕ × Slot). z.1) pair in cc

pub gives_page : (k : Session) (slots id : ℕ) (me : Me Slot View) (key : PageKey) (bytes : List ℕ) (word : ℕ)
    → me.0.role ≡ driver → IsWordOf word me key → set.contains me.0.of_driver.out key ≡ true → IsPage bytes
    → Brings (slot_number me.0.of_driver.terms.limits key) (Some bytes) me.1
    → Allows (IsSoundTable k) slots id me word (λ _. 1) (λ _. Gives word me)
gives_page k slots id me key bytes word is here out page brings =
    driver_stores_as k slots id me (Give key bytes) word 1 (Gives word me) is (out, here.0, page) brings here.1 (λ n. refl)
    (λ left told other more there brought.
    let keys : key ≡ other = same_key me word key other here there in
    let own = subst (λ q. Brings (slot_number me.0.of_driver.terms.limits q) (Some bytes) me.1) keys brings in
    let same : bytes ≡ more =
    same_brought (slot_number me.0.of_driver.terms.limits other) bytes more me.1 own brought in
    subst (λ b. DriverStores (Give other b) me left) same (subst (λ q. DriverStores (Give q bytes) me left) keys told))

-- a page is lent once its slot is home again, and taken
pub lent_again : (d : DriverView) (key : PageKey) (bytes : List ℕ) → NoSlotOut d
    → giving (with_slot_out d key) key bytes ≡ lending d key bytes
lent_again d key bytes none = ap (λ out. record (lending d key bytes) { out = out }) (home_again d.out key none)

pub taken_again : (d : DriverView) (key : PageKey) → NoSlotOut d
    → with_slot_home (taking_out d key) key ≡ taking d key
taken_again d key none = ap (λ out. record (taking d key) { out = out }) (home_again d.out key none)

-- the seat, once a page is given
abbrev pub seat_giving : PageKey → List ℕ → SeenDriverSeat → SeenDriverSeat
seat_giving key bytes s = record s { view = giving s.view key bytes; carried = [] }

abbrev pub seat_home : PageKey → SeenDriverSeat → SeenDriverSeat
seat_home key s = record s { view = with_slot_home s.view key; carried = [] }
