-- Steps of the device's seat on one page's word, and such as read no cell: what they leave.
use Rattle.std.proofs.Common.{◌≡◌, ℕ, ◌<◌, List, ◌∷◌, true, false, Some, None, refl, sym, ap, subst, ◌∙◌, arith}
use Rattle.atomic_table.specs.Seated.{TableId}
use Rattle.atomic_table.specs.Table.{Allows, Me, rest, step}
use mathlib.Core.Option.{none}
use Rattle.svga_cmd.specs.Pages.{IsKey, IsPage}
use Rattle.svga_cmd.specs.declared.page.PageKey.{PageKey}
use Rattle.svga_cmd.specs.declared.session.Session.{Session}
use Rattle.svga_model.specs.Acts.{Act}
use Rattle.svga_ring.proofs.Pages.Locations.{on_one, slot_there}
use Rattle.svga_ring.specs.Conditions.{IsInHand}
use Rattle.svga_ring.specs.Core.{Core, Event, GiveBack, HeldSlotHome, HeldSlotOut, Hold, after, page_at_home, read_count}
use Rattle.svga_ring.specs.Layouts.{word_address}
use Rattle.svga_ring.specs.Locations.{Slot}
use Rattle.svga_ring.specs.Noting.{MayHold, holds}
use Rattle.svga_ring.specs.SharedTable.{page_word, slot_number, table_length}
use Rattle.svga_ring.specs.TableRule.{IsSoundTable, View}
use Rattle.svga_ring.specs.TableSteps.{Brings, DeviceLearns}
use Rattle.svga_ring.specs.Views.{DeviceView, device, terms_of}
use Rattle.svga_link.proofs.DeviceSteps.{device_kept, device_stores_as}
use Rattle.svga_link.specs.DevicePlays.{IsWordOf, given_page, held_page, slot_given, slot_taken}
use Rattle.svga_link.specs.Holding.{holding, returned}
use Rattle.svga_link.specs.Seats.{IsDeviceSeat, SeenDeviceSeat, with_slot_home, with_slot_out}

-- a step that reads no word and takes none leaves the offsets that the seat keeps
pub device_stays : (k session : Session) (me left : Me Slot View) (event : Event) (found next at : ℕ)
    → IsDeviceSeat session me next at → DeviceLearns k me event found left
    → ((c : Core) → (after event c).seats ≡ c.seats)
    → ((c : Core) → (after event c).device.terms ≡ c.device.terms)
    → ((c : Core) → (after event c).device.layout ≡ c.device.layout)
    → ((c : Core) → (after event c).device.next ≡ c.device.next)
    → ((c : Core) → read_count (after event c).device ≡ read_count c.device)
    → IsDeviceSeat session left next at
device_stays k session me left event found next at is told seats terms layout known read =
    let c : Core = told.core in
    let lay = ap (λ m. m.0.of_device.layout) told.left_is ∙ layout c ∙ ap (λ e. e.layout) told.view_is in
    let same_next = ap (λ m. m.0.of_device.next) told.left_is ∙ known c ∙ ap (λ e. e.next) told.view_is in
    let same_read = ap (λ m. read_count m.0.of_device) told.left_is ∙ read c ∙ ap (λ e. read_count e) told.view_is in
    device_kept k session me left event found next at next at is told seats terms layout
    (is.next_is ∙ (λ i. word_address (sym lay i) (sym same_next i)))
    (is.at_is ∙ (λ i. word_address (sym lay i) (sym same_read i)))

-- the seat as contracts see it
pub seen_after : (left : Me Slot View) (e : DeviceView) (carried : List (ℕ × Slot)) (table table' : TableId)
    → left.0.of_device ≡ e → left.1 ≡ carried → table' ≡ table
    → ◌≡◌ {A = SeenDeviceSeat} (record { table = table'; view = left.0.of_device; carried = left.1 })
    (record { table = table; view = e; carried = carried })
seen_after left e carried table table' view slots tables = λ i. record { table = tables i; view = view i; carried = slots i }

-- a page's word, at a seat of this session
pub word_of_page : (session : Session) (e : DeviceView) (key : PageKey) (word : ℕ) → e.terms ≡ terms_of session
    → word ≡ page_word session.limits key → IsKey e.terms.limits key → IsWordOf e.terms.limits word key
word_of_page session e key word terms word_is key_is =
    record { key_is = key_is; word_is = word_is ∙ sym (ap (λ t. page_word t.limits key) terms) }

-- is one of the table's
pub word_there : (session : Session) (e : DeviceView) (key : PageKey) (word words : ℕ) → e.terms ≡ terms_of session
    → word ≡ page_word session.limits key → IsKey e.terms.limits key → words ≡ table_length session.limits
    → word < words
word_there session e key word words terms word_is key_is all =
    let there = slot_there session.limits key (subst (λ t. IsKey t.limits key) terms key_is) in
    omega (arith, word_is, all, there)

-- the table allows each of these moves
pub may_take_page : (k : Session) (slots id : ℕ) (me : Me Slot View) (word : ℕ) (key : PageKey) (act : Act)
    → me.0.role ≡ device → IsWordOf me.0.of_device.terms.limits word key → IsInHand me.0.of_device act
    → MayHold me.0.of_device act key → holds me.0.of_device.noted key ≡ false → me.0.of_device.out ≡ None
    → Allows (IsSoundTable k) slots id me word (λ _. 4) (λ _. held_page (step slots word 4 0 none) me 4)
may_take_page k slots id me word key act is on hand may free none_out =
    device_stores_as k slots id me (Hold key act) word 4 (held_page (step slots word 4 0 none) me 4) is
    (on.key_is, hand, may, free, none_out) tt on.word_is (λ n. refl) (λ left told. (key, act, on, told))

pub may_take_slot : (k : Session) (slots id : ℕ) (me : Me Slot View) (word : ℕ) (key : PageKey)
    → me.0.role ≡ device → IsWordOf me.0.of_device.terms.limits word key
    → holds me.0.of_device.noted key ≡ true → me.0.of_device.out ≡ None
    → Allows (IsSoundTable k) slots id me word (λ _. 4) (λ _. slot_taken (step slots word 4 0 none) me 4)
may_take_slot k slots id me word key is on held none_out =
    device_stores_as k slots id me (HeldSlotOut key) word 4 (slot_taken (step slots word 4 0 none) me 4) is
    (on.key_is, held, none_out) tt on.word_is (λ n. refl) (λ left told. (key, on, told))

pub may_give_slot : (k : Session) (slots id : ℕ) (me : Me Slot View) (word : ℕ) (key : PageKey)
    → me.0.role ≡ device → IsWordOf me.0.of_device.terms.limits word key → me.0.of_device.out ≡ Some key
    → Brings (slot_number me.0.of_device.terms.limits key) None me.1
    → Allows (IsSoundTable k) slots id me word (λ _. 2) (λ _. slot_given (step slots word 2 0 none) me 2)
may_give_slot k slots id me word key is on out brings =
    device_stores_as k slots id me (HeldSlotHome key) word 2 (slot_given (step slots word 2 0 none) me 2) is
    (on.key_is, out) brings on.word_is (λ n. refl) (λ left told. (key, on, told))

pub may_give_page : (k : Session) (slots id : ℕ) (me : Me Slot View) (word : ℕ) (key : PageKey) (bytes : List ℕ)
    → me.0.role ≡ device → IsWordOf me.0.of_device.terms.limits word key → me.0.of_device.out ≡ Some key
    → IsPage bytes → Brings (slot_number me.0.of_device.terms.limits key) (Some bytes) me.1
    → Allows (IsSoundTable k) slots id me word (λ _. 1) (λ _. given_page (step slots word 1 0 none) me 1)
may_give_page k slots id me word key bytes is on out page brings =
    device_stores_as k slots id me (GiveBack key bytes) word 1 (given_page (step slots word 1 0 none) me 1) is
    (on.key_is, out, page) brings on.word_is (λ n. refl) (λ left told. (key, bytes, on, brings, told))

-- a word is that of one page alone
one_page : (me : Me Slot View) (word : ℕ) (a b : PageKey) → IsWordOf me.0.of_device.terms.limits word a
    → IsWordOf me.0.of_device.terms.limits word b → a ≡ b
one_page me word a b of_a of_b =
    on_one me.0.of_device.terms.limits a b of_a.key_is of_b.key_is (sym of_a.word_is ∙ of_b.word_is)

-- the page that is taken lies in the slot that is out
pub page_taken : (slots word : ℕ) (me left : Me Slot View) (key : PageKey) → IsWordOf me.0.of_device.terms.limits word key
    → held_page (step slots word 4 0 none) me 4 left → (table table' : TableId) → table' ≡ table
    → (bytes : List ℕ) × ◌≡◌ {A = SeenDeviceSeat} (record { table = table'; view = left.0.of_device; carried = left.1 })
    (with_slot_out (record { table = table; view = holding me.0.of_device key bytes; carried = me.1 }) key (Some bytes))
page_taken slots word me left key on t table table' tables =
    let learns = t.3.2 in
    let c : Core = learns.core in
    let same : t.0 ≡ key = one_page me word t.0 key t.2 on in
    let e : DeviceView = me.0.of_device in
    let bytes : List ℕ = page_at_home e.terms.limits c.homes key in (
      bytes,
      seen_after left (record (holding e key bytes) { out = Some key })
          ((slot_number e.terms.limits key, Some bytes) ∷ me.1) table table'
          (ap (λ m. m.0.of_device) learns.left_is
          ∙ (λ i. record (holding (learns.view_is i) (same i) (page_at_home (learns.view_is i).terms.limits c.homes (same i))) { out = Some (same i) }))
          (ap (λ m. m.1) learns.left_is
          ∙ (λ i. (slot_number e.terms.limits (same i), Some (page_at_home e.terms.limits c.homes (same i))) ∷ me.1))
          tables,
    )

pub slot_is_taken : (slots word : ℕ) (me left : Me Slot View) (key : PageKey) → IsWordOf me.0.of_device.terms.limits word key
    → slot_taken (step slots word 4 0 none) me 4 left → (table table' : TableId) → table' ≡ table
    → ◌≡◌ {A = SeenDeviceSeat} (record { table = table'; view = left.0.of_device; carried = left.1 })
    (with_slot_out (record { table = table; view = me.0.of_device; carried = me.1 }) key None)
slot_is_taken slots word me left key on t table table' tables =
    let learns = t.2.2 in
    let same : t.0 ≡ key = one_page me word t.0 key t.1 on in
    let e : DeviceView = me.0.of_device in
    seen_after left (record e { out = Some key }) ((slot_number e.terms.limits key, None) ∷ me.1) table table'
    (ap (λ m. m.0.of_device) learns.left_is ∙ (λ i. record (learns.view_is i) { out = Some (same i) }))
    (ap (λ m. m.1) learns.left_is ∙ (λ i. (slot_number e.terms.limits (same i), None) ∷ me.1)) tables

pub slot_is_given : (slots word : ℕ) (me left : Me Slot View)
    → slot_given (step slots word 2 0 none) me 2 left → (table table' : TableId) → table' ≡ table
    → ◌≡◌ {A = SeenDeviceSeat} (record { table = table'; view = left.0.of_device; carried = left.1 })
    (with_slot_home (record { table = table; view = me.0.of_device; carried = me.1 }))
slot_is_given slots word me left t table table' tables =
    let learns = t.2.2 in
    seen_after left (record me.0.of_device { out = None }) (rest me.1) table table'
    (ap (λ m. m.0.of_device) learns.left_is ∙ (λ i. record (learns.view_is i) { out = None }))
    (ap (λ m. m.1) learns.left_is) tables

-- what lies in the slot that was taken last
one_content : (n : ℕ) (a b : List ℕ) (carried others others' : List (ℕ × Slot)) → carried ≡ (n, Some a) ∷ others
    → carried ≡ (n, Some b) ∷ others' → a ≡ b
one_content n a b carried others others' first second =
    let both : ◌≡◌ {A = List (ℕ × Slot)} ((n, Some a) ∷ others) ((n, Some b) ∷ others') = sym first ∙ second in
    let pair : ◌≡◌ {A = ℕ × Slot} (n, Some a) (n, Some b) = cc in
    let lies : ◌≡◌ {A = Slot} (Some a) (Some b) = ap (λ (z : ℕ × Slot). z.1) pair in
    cc

pub page_is_given : (slots word : ℕ) (me left : Me Slot View) (key : PageKey) (bytes : List ℕ)
    → IsWordOf me.0.of_device.terms.limits word key → Brings (slot_number me.0.of_device.terms.limits key) (Some bytes) me.1
    → given_page (step slots word 1 0 none) me 1 left → (table table' : TableId) → table' ≡ table
    → ◌≡◌ {A = SeenDeviceSeat} (record { table = table'; view = left.0.of_device; carried = left.1 })
    (with_slot_home (record { table = table; view = returned me.0.of_device key bytes; carried = me.1 }))
page_is_given slots word me left key bytes on brings t table table' tables =
    let learns = t.4.2 in
    let e : DeviceView = me.0.of_device in
    let same : t.0 ≡ key = one_page me word t.0 key t.2 on in
    let own = t.3.1 ∙ ap (λ q. (slot_number e.terms.limits q, Some t.1) ∷ t.3.0) same in
    let same_bytes : t.1 ≡ bytes = one_content (slot_number e.terms.limits key) t.1 bytes me.1 t.3.0 brings.0 own brings.1 in
    seen_after left (record (returned e key bytes) { out = None }) (rest me.1) table table'
    (ap (λ m. m.0.of_device) learns.left_is ∙ (λ i. record (returned (learns.view_is i) (same i) (same_bytes i)) { out = None }))
    (ap (λ m. m.1) learns.left_is) tables
