-- The steps of the joined seat: that the table allows them, and what they leave.
use Rattle.std.proofs.Common.{◌≡◌, ℕ, ◌+◌, ◌-◌, ◌<◌, ◌≤◌, List, ◌∷◌, length, nat_lt, Bool, true, false, Some, refl, sym, ap, subst, ◌∙◌, arith, cond}
use Rattle.std.proofs.lemmas.Bool.Decides.{nat_tests}
use Rattle.std.specs.FinSet as set
use mathlib.Core.Option.{none}
use Rattle.atomic_table.specs.Table.{Allows, Me, rest, step}
use Rattle.svga_cmd.specs.Pages.{IsKey}
use Rattle.svga_cmd.specs.declared.limits.Limits.{Limits}
use Rattle.svga_cmd.specs.declared.page.PageKey.{PageKey}
use Rattle.svga_cmd.specs.declared.page.PageKey.TheVariants.{Guest, Frame}
use Rattle.svga_cmd.specs.declared.session.Session.{Session}
use Rattle.svga_model.specs.Fences.{fences, register_after}
use Rattle.svga_model.specs.Runs.{run}
use Rattle.svga_ring.proofs.Pages.Locations.{out_other}
use Rattle.svga_ring.proofs.Steps.Joining.{joined_kept, joined_words}
use Rattle.svga_ring.proofs.Table.SeatSteps.{joined_look, joined_step, retold}
use Rattle.svga_ring.specs.Committed.{commands}
use Rattle.svga_ring.specs.Conditions.{first_state}
use Rattle.svga_ring.specs.Core.{TakeJoined}
use Rattle.svga_ring.specs.Locations.{Slot}
use Rattle.svga_ring.specs.SharedTable.{fence_word, first_page_word, page_count, slot_number}
use Rattle.svga_ring.specs.TableRule.{IsSoundTable, View}
use Rattle.svga_ring.specs.TableSteps.{JoinedLearns, JoinedLooks, driver_value, driver_word, page_left}
use Rattle.svga_ring.specs.Views.{DriverView, Terms, joined}
use Rattle.svga_link.specs.Closing.{HasTaken, slot_key}
use Rattle.svga_link.specs.ClosingPlays.{looked, taken_home}

-- the page of a slot is one of the device's, with this slot
pub slot_key_is : (l : Limits) (slot : ℕ) → slot < page_count l → IsKey l (slot_key l slot)
slot_key_is l slot low = go (nat_lt slot l.pages) refl where
  go : (b : Bool) → nat_lt slot l.pages ≡ b → IsKey l (cond b (Guest slot) (Frame (slot - l.pages)))
  go true e = grind (arith, nat_tests)
  go false e = let behind : l.pages ≤ slot = grind (arith, nat_tests) in omega (arith, behind, low)

pub slot_of_key : (l : Limits) (slot : ℕ) → slot_number l (slot_key l slot) ≡ slot
slot_of_key l slot = go (nat_lt slot l.pages) refl where
  go : (b : Bool) → nat_lt slot l.pages ≡ b → slot_number l (cond b (Guest slot) (Frame (slot - l.pages))) ≡ slot
  go true e = refl
  go false e = let behind : l.pages ≤ slot = grind (arith, nat_tests) in omega (arith, behind)

-- a look at a word
pub looks : (k : Session) (slots id : ℕ) (me : Me Slot View) (word : ℕ) → me.0.role ≡ joined
    → Allows (IsSoundTable k) slots id me word (λ n. n) (looked (step slots word 0 0 none) me)
looks k slots id me word is =
    retold k slots id me word word (λ n. n) (λ n. n) (JoinedLooks k me word) (looked (step slots word 0 0 none) me) refl refl
    (λ found left told. (k, told)) (joined_look k slots id me word is)

-- What is learned by it: FENCE shows all fences,
pub fence_looked : (k : Session) (me left : Me Slot View) (found : ℕ) → JoinedLooks k me fence_word found left
    → found ≡ register_after me.0.of_driver.terms.first (length (fences (commands me.0.of_driver.acts)))
fence_looked k me left found t =
    t.found_is ∙ (joined_words k t.core t.sound t.seats_are).3
    ∙ ap (λ (terms : Terms). register_after terms.first (length (fences (commands t.core.driver.acts))))
    (sym t.sound.of_words.session.of_driver)
    ∙ ap (λ (d : DriverView). register_after d.terms.first (length (fences (commands d.acts)))) t.view_is

-- and what is kept is what running all acts leaves.
pub kept_looked : (k : Session) (me left : Me Slot View) (word found : ℕ) → JoinedLooks k me word found left
    → me.0.of_device.kept ≡ (run (first_state me.0.of_driver) me.0.of_driver.acts).kept
kept_looked k me left word found t =
    sym (ap (λ e. e.kept) t.device_is) ∙ joined_kept k t.core t.sound t.seats_are
    ∙ ap (λ (terms : Terms). (run (first_state (record t.core.driver { terms = terms })) t.core.driver.acts).kept)
    (sym t.sound.of_words.session.of_driver)
    ∙ ap (λ (d : DriverView). (run (first_state d) d.acts).kept) t.view_is

-- a page that is at home is taken, by the word of its slot
behind_pages : (slot : ℕ) → (first_page_word + slot) - first_page_word ≡ slot
behind_pages slot = omega arith

pub takes_home : (k : Session) (slots id : ℕ) (me : Me Slot View) (slot : ℕ) → me.0.role ≡ joined
    → slot < page_count me.0.of_driver.terms.limits
    → set.contains me.0.of_driver.lent (slot_key me.0.of_driver.terms.limits slot) ≡ true
    → Allows (IsSoundTable k) slots id me (first_page_word + slot) (λ _. 3)
    (λ _. taken_home (step slots (first_page_word + slot) 3 0 none) me 3)
takes_home k slots id me slot is low lent =
    let l = me.0.of_driver.terms.limits in
    let key = slot_key l slot in
    retold k slots id me (first_page_word + slot) (driver_word (TakeJoined key) me.0.of_driver) (λ _. 3)
    (driver_value (TakeJoined key) me.0.of_driver) (JoinedLearns k me (TakeJoined key))
    (λ _. taken_home (step slots (first_page_word + slot) 3 0 none) me 3)
    (ap (λ n. first_page_word + n) (sym (slot_of_key l slot))) refl
    (λ found left told. (k, found, subst (λ n. JoinedLearns k me (TakeJoined (slot_key l n)) found left) (sym (behind_pages slot)) told))
    (joined_step k slots id me (TakeJoined key) is (slot_key_is l slot low, lent))

-- what the step learned, of the page of the slot
pub taken_learned : (slots : ℕ) (me left : Me Slot View) (slot : ℕ)
    → (t : taken_home (step slots (first_page_word + slot) 3 0 none) me 3 left)
    → JoinedLearns t.0 me (TakeJoined (slot_key me.0.of_driver.terms.limits slot)) t.1 left
taken_learned slots me left slot t =
    subst (λ n. JoinedLearns t.0 me (TakeJoined (slot_key me.0.of_driver.terms.limits n)) t.1 left) (behind_pages slot) t.2

-- its slot is out, with the page in it
pub taken_carried : (slots : ℕ) (me left : Me Slot View) (slot : ℕ)
    → taken_home (step slots (first_page_word + slot) 3 0 none) me 3 left
    → ◌≡◌ {A = List (ℕ × Slot)} left.1
    ((slot, Some (page_left me.0.of_driver (slot_key me.0.of_driver.terms.limits slot))) ∷ rest left.1)
taken_carried slots me left slot t =
    let d = me.0.of_driver in
    let page : Slot = Some (page_left d (slot_key d.terms.limits slot)) in
    let is = ap (λ (m : Me Slot View). m.1) (taken_learned slots me left slot t).left_is in
    let here : ◌≡◌ {A = List (ℕ × Slot)} left.1 ((slot, page) ∷ me.1) =
    is ∙ ap (λ n. (n, page) ∷ me.1) (slot_of_key d.terms.limits slot) in
    here ∙ ap (λ (carried : List (ℕ × Slot)). (slot, page) ∷ rest carried) (sym here)

-- and but for that the seat knows what it knew
taken_of : (v : View) (d : DriverView) (key : PageKey) → v.of_driver ≡ d
    → HasTaken key v (record v { of_driver = record d { lent = set.remove d.lent key; out = set.insert d.out key } })
taken_of v d key is = record {
  role_is = refl;
  driver_is = ap (λ (x : DriverView). record x { lent = set.remove d.lent key; out = set.insert d.out key }) (sym is);
  device_is = refl;
  others = λ q differ. out_other d.lent key q differ ∙ ap (λ (x : DriverView). set.contains x.lent q) (sym is);
}

pub taken_view : (slots : ℕ) (me left : Me Slot View) (slot : ℕ)
    → taken_home (step slots (first_page_word + slot) 3 0 none) me 3 left
    → HasTaken (slot_key me.0.of_driver.terms.limits slot) me.0 left.0
taken_view slots me left slot t =
    let key = slot_key me.0.of_driver.terms.limits slot in
    let learned = taken_learned slots me left slot t in
    subst (HasTaken key me.0) (sym (ap (λ (m : Me Slot View). m.0) learned.left_is))
    (taken_of me.0 learned.core.driver key (sym learned.view_is))
