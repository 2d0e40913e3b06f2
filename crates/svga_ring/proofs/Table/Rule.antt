-- What a shared table asks of a step, from the law of its event.
use Rattle.std.proofs.Common.{◌≡◌, ℕ, zero, suc, List, [], ◌∷◌, ◌++◌, map, replicate, slice_index, slice_set, None, refl, sym, ap, subst, ◌∙◌}
use mathlib.Core.Option.{some, some-injective, some-ne-none}
use lib.ListN.{get_elem?}
use lib.Seq.{set-get_or}
use Rattle.atomic_table.proofs.Lists.{set_again}
use Rattle.atomic_table.specs.Table.{Act, Allows, Joins, Me, Splits, State, Valid, carried_after, keeps, stepped}
use Rattle.svga_cmd.specs.declared.session.Session.{Session}
use Rattle.svga_ring.proofs.Steps.Each.{keeps_event, opening_sound}
use Rattle.svga_ring.specs.Conditions.{MayJoin}
use Rattle.svga_ring.specs.Core.{Core, Event, Join, Split, after, knowing_taken, opening_core}
use Rattle.svga_ring.specs.Locations.{Slot}
use Rattle.svga_ring.specs.SharedTable.{page_count}
use Rattle.svga_ring.specs.Sound.{IsSound}
use Rattle.svga_ring.specs.TableRule.{AreViews, IsSoundTable, IsStepOf, View, as_device, as_driver, core_of, joined_view, opening_table, opening_view}
use Rattle.svga_ring.specs.Views.{Apart, DeviceView, DriverView, Joined, Opening, Role, Seats, both, device, driver, joined, spent}

-- what a seat's role tells of all the seats
abbrev Tells : Role → Seats → DriverView → DeviceView → List View → ℕ → View → Type 0
Tells both s d e views id v = (s ≡ Opening) × (d ≡ v.of_driver) × (e ≡ v.of_device) × (views ≡ v ∷ [])
    × (id ≡ 0)
Tells driver s d e views id v = (s ≡ Apart) × (d ≡ v.of_driver)
    × (other : View) × (other.role ≡ device) × (other.of_device ≡ e) × (views ≡ v ∷ other ∷ []) × (id ≡ 0)
Tells device s d e views id v = (s ≡ Apart) × (e ≡ v.of_device)
    × (other : View) × (other.role ≡ driver) × (other.of_driver ≡ d) × (views ≡ other ∷ v ∷ []) × (id ≡ 1)
Tells joined s d e views id v = (s ≡ Joined) × (d ≡ v.of_driver) × (e ≡ v.of_device)
    × (other : View) × (other.role ≡ spent) × (views ≡ v ∷ other ∷ []) × (id ≡ 0)
Tells spent s d e views id v = Unit {0}

-- what a view tells, the same view tells under another name
told_of : (s : Seats) (d : DriverView) (e : DeviceView) (views : List View) (id : ℕ) (a v : View)
    (role : Role)
    → a.role ≡ role → some a ≡ some v → Tells role s d e views id a → Tells v.role s d e views id v
told_of s d e views id a v role is at told =
    let of_a : Tells a.role s d e views id a = subst (λ r. Tells r s d e views id a) (sym is) told in
    subst (λ x. Tells x.role s d e views id x) (some-injective a v at) of_a

tells : (s : Seats) (d : DriverView) (e : DeviceView) (views : List View) (id : ℕ) (v : View)
    → AreViews s d e views → get_elem? views id ≡ some v → Tells v.role s d e views id v
tells Opening d e [] id v h at = absurd h
tells Opening d e (a ∷ []) zero v h at =
    told_of Opening d e (a ∷ []) 0 a v both h.0 at (refl, sym h.1, sym h.2, refl, refl)
tells Opening d e (a ∷ []) (suc i) v h at = absurd (some-ne-none v (sym at))
tells Opening d e (a ∷ b ∷ l) id v h at = absurd h
tells Apart d e [] id v h at = absurd h
tells Apart d e (a ∷ []) id v h at = absurd h
tells Apart d e (a ∷ b ∷ []) zero v h at =
    told_of Apart d e (a ∷ b ∷ []) 0 a v driver h.0 at (refl, sym h.1, b, h.2, h.3, refl, refl)
tells Apart d e (a ∷ b ∷ []) (suc zero) v h at =
    told_of Apart d e (a ∷ b ∷ []) 1 b v device h.2 at (refl, sym h.3, a, h.0, h.1, refl, refl)
tells Apart d e (a ∷ b ∷ []) (suc (suc i)) v h at = absurd (some-ne-none v (sym at))
tells Apart d e (a ∷ b ∷ x ∷ l) id v h at = absurd h
tells Joined d e [] id v h at = absurd h
tells Joined d e (a ∷ []) id v h at = absurd h
tells Joined d e (a ∷ b ∷ []) zero v h at =
    told_of Joined d e (a ∷ b ∷ []) 0 a v joined h.0 at (refl, sym h.1, sym h.2, b, h.3, refl, refl)
tells Joined d e (a ∷ b ∷ []) (suc zero) v h at = told_of Joined d e (a ∷ b ∷ []) 1 b v spent h.3 at tt
tells Joined d e (a ∷ b ∷ []) (suc (suc i)) v h at = absurd (some-ne-none v (sym at))
tells Joined d e (a ∷ b ∷ x ∷ l) id v h at = absurd h

-- what the seat with this role tells
role_tells : (k : Session) (s : State Slot View) (r : IsSoundTable k s) (id : ℕ) (v : View) (role : Role)
    → v.role ≡ role → get_elem? s.views id ≡ some v → Tells role r.seats r.of_driver r.of_device s.views id v
role_tells k s r id v role is at =
    subst (λ x. Tells x r.seats r.of_driver r.of_device s.views id v) is
    (tells r.seats r.of_driver r.of_device s.views id v r.views at)

-- a core is its five parts
same_core : (x y : Core) → x.seats ≡ y.seats → x.words ≡ y.words → x.homes ≡ y.homes
    → x.driver ≡ y.driver → x.device ≡ y.device → x ≡ y
same_core x y a b c d e = λ i. record { seats = a i; words = b i; homes = c i; driver = d i; device = e i }

-- the stepped table keeps the rule: its core is the one after the step, with the views that its event leaves
stepped_sound : (k : Session) (s : State Slot View) (r : IsSoundTable k s) (id : ℕ) (me : Me Slot View)
    (word : ℕ) (f : ℕ → ℕ) (event : Event) (act : Act Slot) (w : View) (seats : Seats) (d : DriverView)
    (e : DeviceView)
    → r.seats ≡ seats
    → IsStepOf (core_of r.seats r.of_driver r.of_device s) me word f event act
    → (after event (core_of r.seats r.of_driver r.of_device s)).driver ≡ d
    → (after event (core_of r.seats r.of_driver r.of_device s)).device ≡ e
    → AreViews seats d e (slice_set s.views id w)
    → IsSoundTable k (stepped s word (f (slice_index s.words word)) id me.1 w act)
stepped_sound k s r id me word f event act w seats d e are step driver_is device_is views =
    let c : Core = core_of r.seats r.of_driver r.of_device s in
    let next : Core = core_of seats d e (stepped s word (f (slice_index s.words word)) id me.1 w act) in
    record {
      seats = seats;
      of_driver = d;
      of_device = e;
      sound = subst (IsSound k)
          (same_core (after event c) next (step.seats_stay ∙ are) step.words_are step.homes_are driver_is
          device_is)
          (keeps_event k event c r.sound step.can);
      views = views;
    }

-- the views, once a seat has another
views_set : (seats : Seats) (d : DriverView) (e : DeviceView) (views known : List View) (id at : ℕ) (w : View)
    → views ≡ known → id ≡ at
    → AreViews seats d e (slice_set known at w) → AreViews seats d e (slice_set views id w)
views_set seats d e views known id at w are is =
    subst (λ l. AreViews seats d e l) (λ i. slice_set (sym are i) (sym is i) w)

-- What a seat owes of its step on a word, which becomes f of what it was: an event and a move of a slot that
-- are such a step, that the other view stays, and what it is told of the view that the event leaves, once all
-- is sound again.
abbrev pub Owes : Session → Core → Me Slot View → ℕ → (ℕ → ℕ) → (ℕ → Me Slot View → Type 0) → (Event → Type 0)
    → (Event → View) → Type 0
Owes k c me word f told stays left = (event : Event) × (act : Act Slot) × IsStepOf c me word f event act
    × stays event
    × (IsSound k (after event c) → told (slice_index c.words word) (left event, carried_after me.1 act))

-- a step of a seat, once it is known which one it is
seat_allows : (k : Session) (s : State Slot View) (r : IsSoundTable k s) (id : ℕ) (me : Me Slot View)
    (word : ℕ)
    (f : ℕ → ℕ) (told : ℕ → Me Slot View → Type 0) (event : Event) (act : Act Slot) (w : View) (seats : Seats)
    (d : DriverView) (e : DeviceView) (known : List View) (at : ℕ)
    → r.seats ≡ seats → IsStepOf (core_of r.seats r.of_driver r.of_device s) me word f event act
    → (after event (core_of r.seats r.of_driver r.of_device s)).driver ≡ d
    → (after event (core_of r.seats r.of_driver r.of_device s)).device ≡ e
    → s.views ≡ known → id ≡ at → AreViews seats d e (slice_set known at w)
    → (IsSound k (after event (core_of r.seats r.of_driver r.of_device s))
    → told (slice_index s.words word) (w, carried_after me.1 act))
    → (v : View) × (x : Act Slot) × Valid s.homes me.1 x
    × IsSoundTable k (stepped s word (f (slice_index s.words word)) id me.1 v x)
    × told (slice_index s.words word) (v, carried_after me.1 x)
seat_allows k s r id me word f told event act w seats d e known at are step driver_is device_is views here
    set tells = (
      w,
      act,
      step.valid,
      stepped_sound k s r id me word f event act w seats d e are step driver_is device_is
          (views_set seats d e s.views known id at w views here set),
      tells (keeps_event k event (core_of r.seats r.of_driver r.of_device s) r.sound step.can),
    )

-- The driver's seat makes events that change the driver's view alone,
pub driver_allows : (k : Session) (slots id : ℕ) (me : Me Slot View) (word : ℕ) (f : ℕ → ℕ)
    (told : ℕ → Me Slot View → Type 0)
    → me.0.role ≡ driver
    → ((c : Core) → IsSound k c → c.seats ≡ Apart → c.driver ≡ me.0.of_driver
    → Owes k c me word f told (λ event. (after event c).device ≡ c.device)
    (λ event. record me.0 { of_driver = (after event c).driver }))
    → Allows (IsSoundTable k) slots id me word f told
driver_allows k slots id me word f told is step s r deep at fits =
    let c : Core = core_of r.seats r.of_driver r.of_device s in
    let t = role_tells k s r id me.0 driver is at in
    let g = step c r.sound t.0 t.1 in
    let d : DriverView = (after g.0 c).driver in
    seat_allows k s r id me word f told g.0 g.1 (record me.0 { of_driver = d }) Apart d r.of_device _ 0 t.0
    g.2 refl g.3
    t.5 t.6 (is, refl, t.3, t.4) g.4

-- the device's seat such as change the device's,
pub device_allows : (k : Session) (slots id : ℕ) (me : Me Slot View) (word : ℕ) (f : ℕ → ℕ)
    (told : ℕ → Me Slot View → Type 0)
    → me.0.role ≡ device
    → ((c : Core) → IsSound k c → c.seats ≡ Apart → c.device ≡ me.0.of_device
    → Owes k c me word f told (λ event. (after event c).driver ≡ c.driver)
    (λ event. record me.0 { of_device = (after event c).device }))
    → Allows (IsSoundTable k) slots id me word f told
device_allows k slots id me word f told is step s r deep at fits =
    let c : Core = core_of r.seats r.of_driver r.of_device s in
    let t = role_tells k s r id me.0 device is at in
    let g = step c r.sound t.0 t.1 in
    let e : DeviceView = (after g.0 c).device in
    seat_allows k s r id me word f told g.0 g.1 (record me.0 { of_device = e }) Apart r.of_driver e _ 1 t.0
    g.2 g.3 refl
    t.5 t.6 (t.3, t.4, is, refl) g.4

-- and the seat that has joined them such as change the driver's.
pub joined_allows : (k : Session) (slots id : ℕ) (me : Me Slot View) (word : ℕ) (f : ℕ → ℕ)
    (told : ℕ → Me Slot View → Type 0)
    → me.0.role ≡ joined
    → ((c : Core) → IsSound k c → c.seats ≡ Joined → c.driver ≡ me.0.of_driver → c.device ≡ me.0.of_device
    → Owes k c me word f told (λ event. (after event c).device ≡ c.device)
    (λ event. record me.0 { of_driver = (after event c).driver }))
    → Allows (IsSoundTable k) slots id me word f told
joined_allows k slots id me word f told is step s r deep at fits =
    let c : Core = core_of r.seats r.of_driver r.of_device s in
    let t = role_tells k s r id me.0 joined is at in
    let g = step c r.sound t.0 t.1 t.2 in
    let d : DriverView = (after g.0 c).driver in
    seat_allows k s r id me word f told g.0 g.1 (record me.0 { of_driver = d }) Joined d r.of_device _ 0 t.0
    g.2 refl g.3
    t.5 t.6 (is, refl, sym t.2, t.4) g.4

-- it may look at a word and leave all as it is: so it learns what is sound of the joined seats
pub joined_looks : (k : Session) (slots id : ℕ) (me : Me Slot View) (word : ℕ)
    (told : ℕ → Me Slot View → Type 0)
    → me.0.role ≡ joined
    → ((c : Core) → IsSound k c → c.seats ≡ Joined → c.driver ≡ me.0.of_driver → c.device ≡ me.0.of_device
    → told (slice_index c.words word) me)
    → Allows (IsSoundTable k) slots id me word (λ n. n) told
joined_looks k slots id me word told is tell s r deep at fits =
    let c : Core = core_of r.seats r.of_driver r.of_device s in
    let t = role_tells k s r id me.0 joined is at in (
      me.0,
      keeps,
      tt,
      record {
        seats = r.seats;
        of_driver = r.of_driver;
        of_device = r.of_device;
        sound = subst (λ words. IsSound k (record c { words = words })) (sym (set-get_or s.words word 0))
            r.sound;
        views = subst (λ l. AreViews r.seats r.of_driver r.of_device l) (sym (set_again s.views id me.0 at))
            r.views;
      },
      tell c r.sound t.0 t.1 t.2,
    )

-- each slot is at home and empty
all_empty : (n : ℕ) → replicate n (some None) ≡ map (λ (x : Slot). some x) (replicate n None)
all_empty zero = refl
all_empty (suc n) = ap (λ l. some None ∷ l) (all_empty n)

-- the table opens by the rule, its seat is split, and the driver's seat takes in the device's
pub table_opens : (k : Session) → IsSoundTable k (opening_table k)
table_opens k = record {
  seats = Opening;
  of_driver = (opening_view k).of_driver;
  of_device = (opening_view k).of_device;
  sound = subst (λ homes. IsSound k (record (opening_core k) { homes = homes }))
      (all_empty (page_count k.limits)) (opening_sound k);
  views = (refl, refl, refl);
}

pub table_splits : (k : Session) (id : ℕ)
    → Splits (IsSoundTable k) id (opening_view k) (as_driver (opening_view k)) (as_device (opening_view k))
table_splits k id s r at =
    let v : View = opening_view k in
    let t = role_tells k s r id v both refl at in record {
      seats = Apart;
      of_driver = r.of_driver;
      of_device = r.of_device;
      sound = keeps_event k Split (core_of r.seats r.of_driver r.of_device s) r.sound t.0;
      views = subst (λ l. AreViews Apart r.of_driver r.of_device (l ++ as_device v ∷ []))
          (λ i. slice_set (sym t.3 i) (sym t.4 i) (as_driver v)) (refl, sym t.1, refl, sym t.2);
    }

-- of two seats, one that isn't the first is the second
second_seat : (a b w : View) (other : ℕ) → (other ≡ 0 → ⊥) → get_elem? (a ∷ b ∷ []) other ≡ some w
    → (b ≡ w) × (other ≡ 1)
second_seat a b w zero apart there = absurd (apart refl)
second_seat a b w (suc zero) apart there = (some-injective b w there, refl)
second_seat a b w (suc (suc i)) apart there = absurd (some-ne-none w (sym there))

pub table_joins : (k : Session) (id other : ℕ) (v w x : View) → v.role ≡ driver → w.role ≡ device
    → x.role ≡ spent
    → MayJoin w.of_device
    → Joins (IsSoundTable k) id v other w (joined_view v w) x
table_joins k id other v w x of_driver of_device is_spent can s r at apart there =
    let c : Core = core_of r.seats r.of_driver r.of_device s in
    let d : DriverView = knowing_taken r.of_driver r.of_device in
    let one : View = joined_view v w in
    let t = role_tells k s r id v driver of_driver at in
    let first : one ∷ t.2 ∷ [] ≡ slice_set s.views id one = λ i. slice_set (sym t.5 i) (sym t.6 i) one in
    let found = subst (λ l. get_elem? l other ≡ some w) (sym first) there in
    let next = second_seat one t.2 w other (λ z. apart (z ∙ sym t.6)) found in
    let device_is : w.of_device ≡ r.of_device = sym (ap (λ (x : View). x.of_device) next.0) ∙ t.4 in record {
      seats = Joined;
      of_driver = d;
      of_device = r.of_device;
      sound = keeps_event k Join c r.sound (t.0, subst MayJoin device_is can);
      views = views_set Joined d r.of_device (slice_set s.views id one) _ other 1 x (sym first) next.1
          (refl, (λ i. knowing_taken (sym t.1 i) (device_is i)), device_is, is_spent);
    }
