-- The calls on pages: why one is refused, and what the driver keeps.
use Rattle.std.proofs.Common.{◌≡◌, ℕ, ◌+◌, nat_le, List, [], ◌∷◌, take, Bool, true, false, not, ◌&&◌, is_some, None, Some, Option, length, refl, sym, ap, subst, ◌∙◌, arith}
use Rattle.std.proofs.lemmas.Bool.Decides.{nat_tests}
use Rattle.std.specs.FinMap as map
use Rattle.std.specs.FinSet as set
use Rattle.std.specs.FinSet.{FinSet}
use Rattle.svga_client.proofs.CallLaws.{call_lend, call_write}
use Rattle.svga_client.proofs.ClientOfLaws.{client_is}
use Rattle.svga_client.proofs.FollowLaws.{limits_are}
use Rattle.svga_client.specs.Following.{IsFollowed, Known, client_of}
use Rattle.svga_client.specs.Marks.{fence_behind}
use Rattle.svga_cmd.proofs.KeyLaws.{keys_exact, keys_total}
use Rattle.svga_cmd.proofs.Maps.{by_key, get_kept, get_other, get_removed, get_same}
use Rattle.svga_cmd.specs.Pages.{IsKey, Memory, is_key, key_cmp, page_at}
use Rattle.svga_cmd.specs.declared.constants.TheConstants.{PAGE_SIZE}
use Rattle.svga_cmd.specs.declared.limits.Limits.{Limits}
use Rattle.svga_cmd.specs.declared.page.PageKey.{PageKey}
use Rattle.svga_cmd.specs.declared.page.PageKey.TheVariants.{Frame, Guest}
use Rattle.std.specs.Prelude.{Ok}
use Rattle.svga_client.specs.OwnPages.{writing}
use Rattle.svga_driver.specs.Driving.{DriverHas, IsDriver, client_by, client_in, known_by}
use Rattle.svga_driver.specs.PageAnswers.{LendAnswers, WriteAnswers}
use Rattle.svga_link.specs.Lending.{lending}
use Rattle.svga_model.specs.Memories.{page_bytes}
use Rattle.svga_driver.specs.LendingSet.{AreLent, LendingSet, with_lent, without}
use Rattle.svga_driver.specs.declared.lending.Lending.{Lending}
use Rattle.svga_driver.specs.declared.lending.Lending.TheVariants.{Touched, Untouched}
use Rattle.svga_link.specs.Ends.{DriverSeen}
use Rattle.svga_model.specs.Acts.{Act}
use Rattle.svga_model.specs.ClientFaults.{ClientFault, PageLent, PageRange, first_true}
use Rattle.svga_model.specs.Clients.{Client, page_tests}
use Rattle.svga_model.specs.Fences.{fences}
use Rattle.svga_model.specs.Sentences.{spelling_all}
use Rattle.svga_model.specs.States.{shape_of}
use Rattle.svga_shape.specs.ShapeSet.{ShapeSet, shape_in}
use Rattle.svga_ring.proofs.Pages.Locations.{in_here, in_other, out_here, out_other}
use Rattle.svga_ring.specs.Committed.{commands}
use Rattle.svga_ring.specs.declared.plans.Geometry.{Geometry}

-- why a page can't be had: it isn't there, or it is lent
abbrev pub why_not : PageKey → Bool → Bool → Option ClientFault
why_not key false lent = Some (PageRange key)
why_not key true true = Some (PageLent key)
why_not key true false = None

why_is : (key : PageKey) (there lent : Bool)
    → first_true ((not there, PageRange key) ∷ (lent, PageLent key) ∷ []) ≡ why_not key there lent
why_is key false lent = refl
why_is key true true = refl
why_is key true false = refl

pub page_refusal : (l : Limits) (c : Client) (k : Known) (key : PageKey) (bytes : ℕ) (there lent : Bool) → IsFollowed l c k
    → (is_key l key && nat_le bytes PAGE_SIZE) ≡ there → set.contains k.lent key ≡ lent
    → first_true (page_tests c key bytes) ≡ why_not key there lent
page_refusal l c k key bytes there lent o is_there is_lent =
    (λ i. first_true ((not (is_key (limits_are o i) key && nat_le bytes PAGE_SIZE), PageRange key)
    ∷ (set.contains (o.lent_is i) key, PageLent key) ∷ []))
    ∙ (λ i. first_true ((not (is_there i), PageRange key) ∷ (is_lent i, PageLent key) ∷ [])) ∙ why_is key there lent

-- the test of a key tells
pub key_is : (l : Limits) (key : PageKey) → is_key l key ≡ true → IsKey l key
key_is l (Guest p) is = grind (arith, nat_tests, is)
key_is l (Frame g) is = grind (arith, nat_tests, is)

-- a page that isn't with the driver is lent, and one that is isn't
pub is_lent : (l : Limits) (c : Client) (k : Known) (key : PageKey) → IsFollowed l c k → IsKey l key
    → is_some (page_at k.own key) ≡ false → set.contains k.lent key ≡ true
is_lent l c k key o is none = go (set.contains k.lent key) refl where
  go : (b : Bool) → set.contains k.lent key ≡ b → b ≡ true
  go true e = refl
  go false e = absurd (let some = o.own_pages key is e in cc (some, none))

pub is_free : (l : Limits) (c : Client) (k : Known) (key : PageKey) → IsFollowed l c k
    → is_some (page_at k.own key) ≡ true → set.contains k.lent key ≡ false
is_free l c k key o some = (o.own_keys key some).1

-- the client, as it is determined
pub followed_as : (l : Limits) (c : Client) (k : Known) → IsFollowed l c k → IsFollowed l (client_of l c.first c.touched k) k
followed_as l c k o = subst (λ x. IsFollowed l x k) (client_is o) o

-- what a driver keeps when pages come or go
pub driver_with_pages : {ring : Geometry} {next : ℕ} (e : DriverSeen) (s : ShapeSet) (n n' : LendingSet) (first emitted committed seen : ℕ) (asked : Option ℕ) (acts : List Act)
    (lent : FinSet key_cmp) (own : Memory) (c : Client) → IsDriver ring next e s n first emitted committed seen asked
    → IsFollowed e.view.terms.limits c (record (known_by e.view own) { acts = acts; lent = lent })
    → c ≡ client_by (record e.view { acts = acts; lent = lent }) own n'.touched
    → c.state.kept ≡ (client_by e.view e.pages n.touched).state.kept → c.commands ≡ commands e.view.acts
    → n'.limits ≡ n.limits → AreLent lent n'
    → ((key : PageKey) (command fences : ℕ) → map.get n'.lent key ≡ Some (Touched command fences)
    → map.get n.lent key ≡ Some (Touched command fences))
    → IsDriver ring next (record e { view = record e.view { acts = acts; lent = lent }; pages = own }) s n' first emitted committed seen asked
driver_with_pages e s n n' first emitted committed seen asked acts lent own c is o client kept same limits lent_are marks =
    let cs : commands acts ≡ commands e.view.acts = sym o.commands_are ∙ same in
    let now = subst (λ x. IsFollowed e.view.terms.limits x (record (known_by e.view own) { acts = acts; lent = lent })) client o in record {
      followed = now;
      none_reserved = is.none_reserved;
      none_put = is.none_put;
      runs = is.runs;
      large = is.large;
      shape_is = ap shape_of (sym now.state.kept ∙ sym (ap (λ x. x.state.kept) client) ∙ kept ∙ is.followed.state.kept) ∙ is.shape_is;
      limits_are = limits ∙ is.limits_are;
      lent_are = lent_are;
      marks = λ key command fences at. (let was = is.marks key command fences (marks key command fences at) in
          (was.0 ∙ ap (λ l. fence_behind l command) (sym cs), omega (arith, was.1, ap length cs)));
      first_is = is.first_is;
      emitted_are = is.emitted_are ∙ ap (λ l. length (fences l)) (sym cs);
      committed_are = is.committed_are ∙ ap length (sym cs);
      counted = is.counted;
      fenced = is.fenced;
      some_first = is.some_first;
      seen_are = is.seen_are;
      window = is.window;
      passed = is.passed ∙ ap (λ l. length (spelling_all (take e.view.passed l))) (sym cs);
      some_passed = omega (arith, is.some_passed, ap length cs);
      asked_is = is.asked_is;
      at_next = is.at_next;
    }

-- A driver with another shape that says the same.
pub other_shape : {ring : Geometry} {next : ℕ} {e : DriverSeen} {s : ShapeSet} {n : LendingSet}
    {first emitted committed seen : ℕ} {asked : Option ℕ}
    → IsDriver ring next e s n first emitted committed seen asked → (s2 : ShapeSet)
    → shape_in s2 ≡ shape_in s → IsDriver ring next e s2 n first emitted committed seen asked
other_shape is s2 same = record {
  followed = is.followed;
  none_reserved = is.none_reserved;
  none_put = is.none_put;
  runs = is.runs;
  large = is.large;
  shape_is = is.shape_is ∙ sym same;
  limits_are = is.limits_are;
  lent_are = is.lent_are;
  marks = is.marks;
  first_is = is.first_is;
  some_first = is.some_first;
  emitted_are = is.emitted_are;
  committed_are = is.committed_are;
  fenced = is.fenced;
  counted = is.counted;
  seen_are = is.seen_are;
  window = is.window;
  passed = is.passed;
  some_passed = is.some_passed;
  asked_is = is.asked_is;
  at_next = is.at_next;
}

-- the lent pages, with one more, and with one fewer
pub lent_more : (lent : FinSet key_cmp) (n : LendingSet) (key : PageKey) → AreLent lent n
    → AreLent (set.insert lent key) (with_lent n key)
lent_more lent n key are q = by_key keys_total keys_exact q key
    (is_some (map.get (map.insert n.lent key Untouched) q) ≡ set.contains (set.insert lent key) q)
    (λ same. subst (λ p. is_some (map.get (map.insert n.lent key Untouched) p) ≡ set.contains (set.insert lent key) p) (sym same)
    (ap is_some (get_same keys_total keys_exact n.lent key Untouched) ∙ sym (in_here lent key)))
    (λ differ. ap is_some (get_other keys_total keys_exact n.lent key q Untouched differ) ∙ are q ∙ sym (in_other lent key q differ))

pub lent_fewer : (lent : FinSet key_cmp) (n : LendingSet) (key : PageKey) → AreLent lent n
    → AreLent (set.remove lent key) (without n key)
lent_fewer lent n key are q = by_key keys_total keys_exact q key
    (is_some (map.get (map.remove n.lent key) q) ≡ set.contains (set.remove lent key) q)
    (λ same. subst (λ p. is_some (map.get (map.remove n.lent key) p) ≡ set.contains (set.remove lent key) p) (sym same)
    (ap is_some (get_removed keys_total keys_exact n.lent key) ∙ sym (out_here lent key)))
    (λ differ. ap is_some (get_kept keys_total keys_exact n.lent key q differ) ∙ are q ∙ sym (out_other lent key q differ))

-- and what was noted of the others
pub marks_more : (n : LendingSet) (key q : PageKey) (command fences : ℕ)
    → map.get (map.insert n.lent key Untouched) q ≡ Some (Touched command fences) → map.get n.lent q ≡ Some (Touched command fences)
marks_more n key q command fences at = by_key keys_total keys_exact q key (map.get n.lent q ≡ Some (Touched command fences))
    (λ same. absurd (let here : ◌≡◌ {A = Option Lending} (Some Untouched) (Some (Touched command fences)) =
    sym (get_same keys_total keys_exact n.lent key Untouched) ∙ ap (λ p. map.get (map.insert n.lent key Untouched) p) (sym same) ∙ at in cc))
    (λ differ. sym (get_other keys_total keys_exact n.lent key q Untouched differ) ∙ at)

pub marks_fewer : (n : LendingSet) (key q : PageKey) (command fences : ℕ)
    → map.get (map.remove n.lent key) q ≡ Some (Touched command fences) → map.get n.lent q ≡ Some (Touched command fences)
marks_fewer n key q command fences at = by_key keys_total keys_exact q key (map.get n.lent q ≡ Some (Touched command fences))
    (λ same. absurd (let here : ◌≡◌ {A = Option Lending} None (Some (Touched command fences)) =
    sym (get_removed keys_total keys_exact n.lent key) ∙ ap (λ p. map.get (map.remove n.lent key) p) (sym same) ∙ at in cc))
    (λ differ. sym (get_kept keys_total keys_exact n.lent key q differ) ∙ at)

both_first : (a b : Bool) → (a && b) ≡ true → a ≡ true
both_first true b is = refl
both_first false b is = is

-- what contracts see of a driver with this end and these lendings
abbrev pub has : DriverSeen → LendingSet → DriverHas
has e n = record { table = e.table; view = e.view; own = e.pages; touched = n.touched }

module _ {ring : Geometry} {next : ℕ} {e : DriverSeen} {s : ShapeSet} {n : LendingSet} {first emitted committed seen : ℕ} {asked : Option ℕ}
    (is : IsDriver ring next e s n first emitted committed seen asked) (key : PageKey) where
  -- why its page can't be had
  pub page_why : (bytes : ℕ) (there lent : Bool) → (is_key n.limits key && nat_le bytes PAGE_SIZE) ≡ there
      → set.contains e.view.lent key ≡ lent
      → first_true (page_tests (client_in (has e n)) key bytes) ≡ why_not key there lent
  page_why bytes there lent is_there is_lent =
      page_refusal e.view.terms.limits (client_in (has e n)) (known_by e.view e.pages) key bytes there lent is.followed
      (ap (λ l. is_key l key && nat_le bytes PAGE_SIZE) (sym is.limits_are) ∙ is_there) is_lent

  -- a page of the device that isn't with it is lent
  pub lent_there : (bytes : ℕ) → (is_key n.limits key && nat_le bytes PAGE_SIZE) ≡ true → is_some (page_at e.pages key) ≡ false
      → set.contains e.view.lent key ≡ true
  lent_there bytes there none = is_lent e.view.terms.limits (client_in (has e n)) (known_by e.view e.pages) key is.followed
      (key_is e.view.terms.limits key (ap (λ l. is_key l key) (sym is.limits_are)
      ∙ both_first (is_key n.limits key) (nat_le bytes PAGE_SIZE) there)) none

  -- it is lent
  pub lend_kept : first_true (page_tests (client_in (has e n)) key 0) ≡ None → (e' : DriverSeen) (n' : LendingSet)
      → e' ≡ record e { view = lending e.view key (page_bytes e.pages key); pages = map.remove e.pages key }
      → n' ≡ with_lent n key → IsDriver ring next e' s n' first emitted committed seen asked
  lend_kept none e' n' end_is lendings_are =
      let o = call_lend is.followed key none in
      subst (λ x. IsDriver ring next x s n' first emitted committed seen asked) (sym end_is)
      (subst (λ m. IsDriver ring next (record e { view = lending e.view key (page_bytes e.pages key); pages = map.remove e.pages key }) s m first emitted committed seen asked)
      (sym lendings_are)
      (driver_with_pages e s n (with_lent n key) first emitted committed seen asked _ _ _ _ is o (client_is o) refl refl refl
      (lent_more e.view.lent n key is.lent_are) (λ q command fences at. marks_more n key q command fences at)))

  pub lend_done : first_true (page_tests (client_in (has e n)) key 0) ≡ None → (e' : DriverSeen) (n' : LendingSet)
      → e' ≡ record e { view = lending e.view key (page_bytes e.pages key); pages = map.remove e.pages key }
      → n' ≡ with_lent n key → LendAnswers (has e n) key (Ok tt) (has e' n')
  lend_done none e' n' end_is lendings_are =
      let o = call_lend is.followed key none in (
        record {
          granted = none;
          client_is = (λ i. client_in (has (end_is i) (lendings_are i))) ∙ sym (client_is o);
        },
        (λ i. has (end_is i) (lendings_are i)),
      )

  -- or written
  pub write_kept : (offset : ℕ) (bytes : List ℕ) → first_true (page_tests (client_in (has e n)) key (offset + length bytes)) ≡ None
      → (e' : DriverSeen) → e' ≡ record e { pages = writing e.pages key offset bytes }
      → IsDriver ring next e' s n first emitted committed seen asked
  write_kept offset bytes none e' end_is =
      let o = call_write is.followed key offset bytes none in
      subst (λ x. IsDriver ring next x s n first emitted committed seen asked) (sym end_is)
      (driver_with_pages e s n n first emitted committed seen asked e.view.acts e.view.lent _ _ is o (client_is o) refl refl refl
      is.lent_are (λ q command fences at. at))

  pub write_done : (offset : ℕ) (bytes : List ℕ) → first_true (page_tests (client_in (has e n)) key (offset + length bytes)) ≡ None
      → (e' : DriverSeen) → e' ≡ record e { pages = writing e.pages key offset bytes }
      → WriteAnswers (has e n) key offset bytes (Ok tt) (has e' n)
  write_done offset bytes none e' end_is =
      let o = call_write is.followed key offset bytes none in (
        record {
          granted = none;
          client_is = (λ i. client_in (has (end_is i) n)) ∙ sym (client_is o);
        },
        (λ i. has (end_is i) n),
      )
