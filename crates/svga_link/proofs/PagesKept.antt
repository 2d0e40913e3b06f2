-- What the driver's end keeps when a page comes or goes, or a chain is asked for.
use Rattle.std.proofs.Common.{◌≡◌, ℕ, List, [], ◌∷◌, Bool, true, false, not, is_some, None, Some, slice_index_or, slice_set, length, append-nil, length-set, get_or-set_other, get_or-set_same, drop, unwrap_or, IsSome, rules, refl, sym, ap, subst, ◌∙◌, arith}
use Rattle.std.specs.FinMap as map
use Rattle.std.specs.FinSet as set
use Rattle.std.specs.FinSet.{FinSet}
use Rattle.svga_cmd.proofs.KeyLaws.{keys_exact, keys_total}
use Rattle.svga_cmd.proofs.Maps.{by_key}
use Rattle.svga_cmd.specs.Pages.{HasPage, IsKey, key_cmp, page_at}
use Rattle.svga_cmd.specs.declared.limits.Limits.{Limits}
use Rattle.svga_cmd.specs.declared.page.PageKey.{PageKey}
use Rattle.svga_model.specs.Memories.{page_bytes}
use Rattle.svga_model.specs.Acts.{Act, Chain, Put}
use Rattle.svga_model.specs.Sentences.{spelling_all}
use Rattle.svga_ring.proofs.Pages.Locations.{in_here, in_other, out_here, out_other, same_page, slot_there}
use Rattle.svga_ring.proofs.Words.NextCommand.{commands-append}
use Rattle.svga_ring.specs.Committed.{commands}
use Rattle.svga_ring.specs.Locations.{Slot}
use Rattle.svga_ring.specs.Requests.{Request}
use Rattle.svga_ring.specs.SharedTable.{page_count, slot_number}
use Rattle.svga_ring.specs.TableSteps.{page_left}
use Rattle.svga_ring.specs.Views.{DriverView}
use Rattle.svga_link.proofs.PageRows.{keys_there, page_gone, page_here, page_put}
use Rattle.svga_link.specs.Ends.{DriverSeen, IsDriverEnd, pages_in, words_put}
use Rattle.svga_link.specs.Lending.{asking, lending, taking}
use Rattle.svga_link.specs.Seats.{SeenDriverSeat}

-- the row has the pages of the device that aren't among these
abbrev pub IsRowOf : Limits → FinSet key_cmp → List Slot → Type 0
IsRowOf l lent row = (key : PageKey) → IsKey l key
    → is_some (slice_index_or row (slot_number l key) None) ≡ not (set.contains lent key)

-- acts without a command leave the end as it was, with this row
pub driver_end_with : (d : DriverView) (carried carried' : List (ℕ × Slot)) (reserved : ℕ) (in_place : Bool) (buffer : List ℕ)
    (filled : ℕ) (row row' : List Slot) (acts : List Act) (lent : FinSet key_cmp) (request : Request)
    → IsDriverEnd d carried reserved in_place buffer filled row → commands acts ≡ commands d.acts → carried' ≡ carried
    → length row' ≡ length row → IsRowOf d.terms.limits lent row'
    → IsDriverEnd (record d { acts = acts; lent = lent; request = request }) carried' reserved in_place buffer filled row'
driver_end_with d carried carried' reserved in_place buffer filled row row' acts lent request is same carries long mine = record {
  all_sent = ap (λ cs. drop (length d.sent) (spelling_all cs)) same ∙ is.all_sent;
  whole = is.whole;
  reserved_is = is.reserved_is;
  runs = is.runs;
  room = is.room;
  short = is.short;
  small = is.small;
  in_place_is = is.in_place_is;
  apart = is.apart;
  together = is.together;
  put = is.put;
  buffer_is = is.buffer_is;
  none_carried = carries ∙ is.none_carried;
  none_out = is.none_out;
  row_is = long ∙ is.row_is;
  mine = mine;
}

-- a chain is asked for
pub driver_end_asked : (d left : DriverView) (carried carried' : List (ℕ × Slot)) (reserved : ℕ) (in_place : Bool) (buffer : List ℕ)
    (filled id first : ℕ) (row : List Slot) → IsDriverEnd d carried reserved in_place buffer filled row
    → left ≡ asking d id first → carried' ≡ carried → IsDriverEnd left carried' reserved in_place buffer filled row
driver_end_asked d left carried carried' reserved in_place buffer filled id first row is here same =
    subst (λ x. IsDriverEnd x carried' reserved in_place buffer filled row) (sym here)
    (driver_end_with d carried carried' reserved in_place buffer filled row row _ d.lent _ is
    (commands-append d.acts (Chain id first ∷ []) ∙ append-nil (commands d.acts)) same refl is.mine)

-- the row without the page that is lent,
row_lent : (l : Limits) (lent : FinSet key_cmp) (row : List Slot) (key : PageKey) → length row ≡ page_count l → IsKey l key
    → IsRowOf l lent row → IsRowOf l (set.insert lent key) (slice_set row (slot_number l key) None)
row_lent l lent row key long is_key mine q is_q =
    by_key keys_total keys_exact q key
    (is_some (slice_index_or (slice_set row (slot_number l key) None) (slot_number l q) None) ≡ not (set.contains (set.insert lent key) q))
    (λ same. subst
    (λ p. is_some (slice_index_or (slice_set row (slot_number l key) None) (slot_number l p) None) ≡ not (set.contains (set.insert lent key) p))
    (sym same)
    (ap is_some (get_or-set_same row (slot_number l key) None None (let low = slot_there l key is_key in omega (arith, low, long)))
    ∙ ap not (sym (in_here lent key))))
    (λ differ. ap is_some (get_or-set_other row (slot_number l key) (slot_number l q) None None
    (λ same. differ (same_page l q key is_q is_key same)))
    ∙ mine q is_q ∙ ap not (sym (in_other lent key q differ)))

-- and with the one that is taken
row_taken : (l : Limits) (lent : FinSet key_cmp) (row : List Slot) (key : PageKey) (bytes : List ℕ) → length row ≡ page_count l
    → IsKey l key → IsRowOf l lent row → IsRowOf l (set.remove lent key) (slice_set row (slot_number l key) (Some bytes))
row_taken l lent row key bytes long is_key mine q is_q =
    by_key keys_total keys_exact q key
    (is_some (slice_index_or (slice_set row (slot_number l key) (Some bytes)) (slot_number l q) None) ≡ not (set.contains (set.remove lent key) q))
    (λ same. subst
    (λ p. is_some (slice_index_or (slice_set row (slot_number l key) (Some bytes)) (slot_number l p) None) ≡ not (set.contains (set.remove lent key) p))
    (sym same)
    (ap is_some (get_or-set_same row (slot_number l key) (Some bytes) None (let low = slot_there l key is_key in omega (arith, low, long)))
    ∙ ap not (sym (out_here lent key))))
    (λ differ. ap is_some (get_or-set_other row (slot_number l key) (slot_number l q) (Some bytes) None
    (λ same. differ (same_page l q key is_q is_key same)))
    ∙ mine q is_q ∙ ap not (sym (out_other lent key q differ)))

pub driver_end_lent : (d left : DriverView) (carried carried' : List (ℕ × Slot)) (reserved : ℕ) (in_place : Bool) (buffer : List ℕ)
    (filled : ℕ) (row : List Slot) (key : PageKey) (bytes : List ℕ) → IsDriverEnd d carried reserved in_place buffer filled row
    → IsKey d.terms.limits key → left ≡ lending d key bytes → carried' ≡ carried
    → IsDriverEnd left carried' reserved in_place buffer filled (slice_set row (slot_number d.terms.limits key) None)
driver_end_lent d left carried carried' reserved in_place buffer filled row key bytes is is_key here same =
    let row' : List Slot = slice_set row (slot_number d.terms.limits key) None in
    subst (λ x. IsDriverEnd x carried' reserved in_place buffer filled row') (sym here)
    (driver_end_with d carried carried' reserved in_place buffer filled row row' _ _ d.request is
    (commands-append d.acts (Put key bytes ∷ []) ∙ append-nil (commands d.acts)) same
    (length-set row (slot_number d.terms.limits key) None)
    (row_lent d.terms.limits d.lent row key is.row_is is_key is.mine))

pub driver_end_taken : (d left : DriverView) (carried carried' : List (ℕ × Slot)) (reserved : ℕ) (in_place : Bool) (buffer : List ℕ)
    (filled : ℕ) (row : List Slot) (key : PageKey) (bytes : List ℕ) → IsDriverEnd d carried reserved in_place buffer filled row
    → IsKey d.terms.limits key → left ≡ taking d key → carried' ≡ carried
    → IsDriverEnd left carried' reserved in_place buffer filled (slice_set row (slot_number d.terms.limits key) (Some bytes))
driver_end_taken d left carried carried' reserved in_place buffer filled row key bytes is is_key here same =
    let row' : List Slot = slice_set row (slot_number d.terms.limits key) (Some bytes) in
    subst (λ x. IsDriverEnd x carried' reserved in_place buffer filled row') (sym here)
    (driver_end_with d carried carried' reserved in_place buffer filled row row' d.acts _ d.request is refl same
    (length-set row (slot_number d.terms.limits key) (Some bytes))
    (row_taken d.terms.limits d.lent row key bytes is.row_is is_key is.mine))

some_true : (o : Slot) → IsSome o → is_some o ≡ true
some_true None h = search (rules, h)
some_true (Some bytes) h = refl

-- a set without an element that it hasn't is the same set
removed_other : (pages : FinSet key_cmp) (key : PageKey) → set.contains pages key ≡ false → set.remove pages key ≡ pages
removed_other pages key none = set.same_set keys_total keys_exact (set.remove pages key) pages (λ q.
    by_key keys_total keys_exact q key (set.contains (set.remove pages key) q ≡ set.contains pages q)
    (λ same. subst (λ p. set.contains (set.remove pages key) p ≡ set.contains pages p) (sym same) (out_here pages key ∙ sym none))
    (λ differ. out_other pages key q differ))

some_same : (o : Slot) (b : Bool) → is_some o ≡ true → is_some o ≡ not b → b ≡ false
some_same o true some is = cc
some_same o false some is = refl

-- a page that is with it isn't lent
pub is_mine : (d : DriverView) (carried : List (ℕ × Slot)) (reserved : ℕ) (in_place : Bool) (buffer : List ℕ)
    (filled : ℕ) (row : List Slot) (key : PageKey) → IsDriverEnd d carried reserved in_place buffer filled row
    → HasPage (pages_in d.terms.limits row) key → set.contains d.lent key ≡ false
is_mine d carried reserved in_place buffer filled row key is has =
    let is_key = keys_there d.terms.limits row key is.row_is has in
    let here = page_here d.terms.limits row key is_key in
    some_same (slice_index_or row (slot_number d.terms.limits key) None) (set.contains d.lent key)
    (some_true _ (subst IsSome here has)) (is.mine key is_key)

-- the end with another page in its row, which is with it
pub driver_end_written : (d : DriverView) (carried : List (ℕ × Slot)) (reserved : ℕ) (in_place : Bool) (buffer : List ℕ)
    (filled : ℕ) (row : List Slot) (key : PageKey) (bytes : List ℕ) (slot : ℕ)
    → IsDriverEnd d carried reserved in_place buffer filled row → HasPage (pages_in d.terms.limits row) key
    → slot ≡ slot_number d.terms.limits key
    → IsDriverEnd d carried reserved in_place buffer filled (slice_set row slot (Some bytes))
driver_end_written d carried reserved in_place buffer filled row key bytes slot is has here =
    let is_key = keys_there d.terms.limits row key is.row_is has in
    let mine = is_mine d carried reserved in_place buffer filled row key is has in
    let lent : set.remove d.lent key ≡ d.lent = removed_other d.lent key mine in
    subst (λ n. IsDriverEnd d carried reserved in_place buffer filled (slice_set row n (Some bytes))) (sym here)
    (subst (λ s. IsDriverEnd (record d { lent = s }) carried reserved in_place buffer filled (slice_set row (slot_number d.terms.limits key) (Some bytes)))
    lent (driver_end_taken d (taking d key) carried carried reserved in_place buffer filled row key bytes is is_key refl refl))

-- what contracts see of the end with this seat and row
abbrev pub seen_as : SeenDriverSeat → ℕ → List ℕ → ℕ → List Slot → DriverSeen
seen_as s reserved buffer filled row = record {
  table = s.table;
  view = s.view;
  reserved = reserved;
  words = words_put s.view.pending buffer filled;
  pages = pages_in s.view.terms.limits row;
}

-- once a page is lent
abbrev pub end_lent : PageKey → DriverSeen → DriverSeen
end_lent key d = record d { view = lending d.view key (page_bytes d.pages key); pages = map.remove d.pages key }

pub lent_seen : (s s' : SeenDriverSeat) (reserved : ℕ) (buffer : List ℕ) (filled : ℕ) (row : List Slot) (key : PageKey) (slot : ℕ)
    (empty_slot : Slot) (bytes : List ℕ) → s' ≡ record s { view = lending s.view key bytes } → slot ≡ slot_number s.view.terms.limits key
    → empty_slot ≡ None → page_at (pages_in s.view.terms.limits row) key ≡ Some bytes → IsKey s.view.terms.limits key
    → length row ≡ page_count s.view.terms.limits
    → seen_as s' reserved buffer filled (slice_set row slot empty_slot) ≡ end_lent key (seen_as s reserved buffer filled row)
lent_seen s s' reserved buffer filled row key slot empty_slot bytes left here empty there is_key long =
    let own : bytes ≡ page_bytes (pages_in s.view.terms.limits row) key = ap (λ o. unwrap_or o []) (sym there) in
    let left_is : s' ≡ record s { view = lending s.view key (page_bytes (pages_in s.view.terms.limits row) key) } =
    left ∙ ap (λ b. record s { view = lending s.view key b }) own in
    (λ i. seen_as (left_is i) reserved buffer filled (slice_set row (here i) (empty i)))
    ∙ ap (λ m. record (end_lent key (seen_as s reserved buffer filled row)) { pages = m })
    (page_gone s.view.terms.limits row key is_key long)

-- and taken
abbrev pub end_taken : PageKey → DriverSeen → DriverSeen
end_taken key d =
    record d { view = taking d.view key; pages = map.insert d.pages key (page_left d.view key) }

pub taken_seen : (s s' : SeenDriverSeat) (reserved : ℕ) (buffer : List ℕ) (filled : ℕ) (row : List Slot) (key : PageKey) (slot : ℕ)
    (page : Slot) → s' ≡ record s { view = taking s.view key } → slot ≡ slot_number s.view.terms.limits key
    → page ≡ Some (page_left s.view key) → IsKey s.view.terms.limits key → length row ≡ page_count s.view.terms.limits
    → seen_as s' reserved buffer filled (slice_set row slot page) ≡ end_taken key (seen_as s reserved buffer filled row)
taken_seen s s' reserved buffer filled row key slot page left here page_is is_key long =
    (λ i. seen_as (left i) reserved buffer filled (slice_set row (here i) (page_is i)))
    ∙ ap (λ m. record (end_taken key (seen_as s reserved buffer filled row)) { pages = m })
    (page_put s.view.terms.limits row key (page_left s.view key) is_key long)

-- nothing lies where no page does
pub none_there_is : (o : Slot) → (IsSome o → ⊥) → ◌≡◌ {A = Slot} None o
none_there_is None lies = refl
none_there_is (Some bytes) lies = absurd (lies (search rules))
