-- A step on one page leaves all others where they are.
use Rattle.atomic_table.proofs.Lists.{set_else, set_here}
use Rattle.std.proofs.Common.{◌≡◌, ◌≢◌, ℕ, ◌<◌, List, length, slice_index, slice_set, Bool, true, false, not, ◌&&◌, ◌||◌, if◌then◌else◌, Option, option_and_then, unwrap_or, refl, sym, ap, subst, ◌∙◌, arith, get_or-set_other, get_or-set_same, length-set}
use Rattle.std.specs.FinMap as map
use Rattle.std.specs.FinSet as set
use Rattle.std.specs.FinSet.{FinSet}
use Rattle.std.specs.Ordering.{eq_by_cmp}
use lib.ListN.{get_elem?}
use mathlib.Core.Option as maybe
use Rattle.svga_cmd.proofs.KeyLaws.{keys_exact, keys_total}
use Rattle.svga_cmd.proofs.Maps.{apart, by_key, tied}
use Rattle.svga_cmd.specs.Pages.{IsKey, key_cmp}
use Rattle.svga_cmd.specs.declared.limits.Limits.{Limits}
use Rattle.svga_cmd.specs.declared.page.PageKey.{PageKey}
use Rattle.svga_cmd.specs.declared.page.PageKey.TheVariants.{Guest, Frame}
use Rattle.svga_model.specs.Memories.{page_bytes}
use Rattle.svga_model.specs.States.{State}
use Rattle.svga_model.specs.Touches.{is_page}
use Rattle.svga_ring.specs.Noting.{NotedPages, bytes_at_home, holds, is_held_now}
use Rattle.svga_ring.specs.Locations.{Home, Location, at_home, held, out_with_device, out_with_driver, location_home, with_driver}
use Rattle.svga_ring.specs.SharedTable.{page_count, page_word, slot_number, table_length}
use Rattle.svga_ring.specs.SoundPages.{AreLocated, IsLocated}

-- slots and words of two pages differ
pub slots_differ : (l : Limits) (a b : PageKey) → IsKey l a → IsKey l b → a ≢ b
    → slot_number l a ≢ slot_number l b
slots_differ l (Guest p) (Guest q) of_a of_b differ e = differ (ap Guest e)
slots_differ l (Guest p) (Frame q) of_a of_b differ e = omega (arith, of_a, e)
slots_differ l (Frame p) (Guest q) of_a of_b differ e = omega (arith, of_b, e)
slots_differ l (Frame p) (Frame q) of_a of_b differ e = let same : p ≡ q = omega (arith, e) in
    differ (ap Frame same)

-- so pages with one slot, or one word, are one
pub same_page : (l : Limits) (a b : PageKey) → IsKey l a → IsKey l b → slot_number l a ≡ slot_number l b
    → a ≡ b
same_page l a b of_a of_b same =
    by_key keys_total keys_exact a b (a ≡ b) (λ is. is)
    (λ differ. absurd (slots_differ l a b of_a of_b differ same))

pub on_one : (l : Limits) (a b : PageKey) → IsKey l a → IsKey l b → page_word l a ≡ page_word l b → a ≡ b
on_one l a b of_a of_b same = same_page l a b of_a of_b (omega (arith, same))

pub slot_there : (l : Limits) (key : PageKey) → IsKey l key → slot_number l key < page_count l
slot_there l (Guest p) is = omega (arith, is)
slot_there l (Frame g) is = omega (arith, is)

-- places with another one for one page
abbrev relocated : PageKey → PageKey → (PageKey → Location) → Location → Location
relocated other key location new = if eq_by_cmp key_cmp other key then new else location other

located_here : (key : PageKey) (location : PageKey → Location) (new : Location)
    → relocated key key location new ≡ new
located_here key location new = ap (λ b. if b then new else location key) (tied keys_total keys_exact key)

located_other : (other key : PageKey) (location : PageKey → Location) (new : Location) → other ≢ key
    → relocated other key location new ≡ location other
located_other other key location new differ =
    ap (λ b. if b then new else location other) (apart keys_total keys_exact other key differ)

-- what a step leaves of a page: its bytes, whether it is lent and its slot out with the driver, how it is
-- noted, and whether its slot is out with the device
abbrev pub IsLeft : State → State → FinSet key_cmp → FinSet key_cmp → FinSet key_cmp → FinSet key_cmp
    → NotedPages
    → NotedPages → Option PageKey → Option PageKey → PageKey → Type 0
IsLeft s s' lent lent' out out' noted noted' device_out device_out' key =
    (page_bytes s'.memory key ≡ page_bytes s.memory key) × (set.contains lent' key ≡ set.contains lent key)
    × (set.contains out' key ≡ set.contains out key) × (map.get noted' key ≡ map.get noted key)
    × (is_page key device_out' ≡ is_page key device_out)

-- Where a step stores the word and the slot of one page, which is at another location then, and leaves the
-- others, all are at places.
pub located_set : {l : Limits} {words : List ℕ} {homes : List Home} {s s' : State}
    {lent lent' out out' : FinSet key_cmp}
    {noted noted' : NotedPages} {device_out device_out' : Option PageKey} (key : PageKey) (x : ℕ)
    (home : Home)
    (location : Location) → IsKey l key → length words ≡ table_length l
    → ((other : PageKey) → other ≢ key → IsLeft s s' lent lent' out out' noted noted' device_out device_out'
    other)
    → IsLocated location x (maybe.some home) (bytes_at_home noted' key (page_bytes s'.memory key))
    (set.contains lent' key)
    (holds noted' key) (set.contains out' key) (is_page key device_out')
    → AreLocated l words homes s lent out noted device_out
    → AreLocated l (slice_set words (page_word l key) x) (slice_set homes (slot_number l key) home) s' lent'
    out'
    noted' device_out'
located_set {l} {words} {homes} {s} {s'} {lent} {lent'} {out} {out'} {noted} {noted'} {device_out}
    {device_out'} key x
    home location is wide others here o =
    record {
      slots = length-set homes (slot_number l key) home ∙ o.slots;
      location = λ q. relocated q key o.location location;
      each = λ q of_q. by_key keys_total keys_exact q key (IsNow (relocated q key o.location location) q)
          (λ same. subst (λ p. IsNow (relocated p key o.location location) p) (sym same)
          (subst (λ p. IsNow p key) (sym (located_here key o.location location)) moved))
          (λ differ. subst (λ p. IsNow p q) (sym (located_other q key o.location location differ))
          (left q of_q differ));
    }
  where
    inside : slot_number l key < page_count l
    inside = slot_there l key is

    IsNow : Location → PageKey → Type 0
    IsNow p q = IsLocated p (slice_index (slice_set words (page_word l key) x) (page_word l q))
        (get_elem? (slice_set homes (slot_number l key) home) (slot_number l q))
        (bytes_at_home noted' q (page_bytes s'.memory q)) (set.contains lent' q) (holds noted' q)
        (set.contains out' q) (is_page q device_out')

    moved : IsNow location key
    moved = record {
      word_is = get_or-set_same words (page_word l key) x 0 (omega (arith, inside, wide)) ∙ here.word_is;
      home_is = set_here homes (slot_number l key) home (omega (arith, inside, o.slots)) ∙ here.home_is;
      lent_is = here.lent_is;
      held_is = here.held_is;
      driver_out_is = here.driver_out_is;
      device_out_is = here.device_out_is;
    }

    left : (q : PageKey) → IsKey l q → q ≢ key → IsNow (o.location q) q
    left q of_q differ =
        let at = o.each q of_q in
        let same = others q differ in
        let apart = slots_differ l q key of_q is differ in
        let bytes : bytes_at_home noted q (page_bytes s.memory q)
        ≡ bytes_at_home noted' q (page_bytes s'.memory q) =
        λ i. unwrap_or (option_and_then (λ n. n.back) (sym same.3 i)) (sym same.0 i) in record {
          word_is = get_or-set_other words (page_word l key) (page_word l q) x 0 (omega (arith, apart))
              ∙ at.word_is;
          home_is = set_else homes (slot_number l key) (slot_number l q) home apart ∙ at.home_is
              ∙ ap (λ b. maybe.some (location_home b (o.location q))) bytes;
          lent_is = same.1 ∙ at.lent_is;
          held_is = ap is_held_now same.3 ∙ at.held_is;
          driver_out_is = same.2 ∙ at.driver_out_is;
          device_out_is = same.4 ∙ at.device_out_is;
        }

-- Where a page is, by what its word and the views say of it: with the driver,
pub found_with_driver : {word : ℕ} {home : maybe.Option Home} {bytes : List ℕ}
    {lent has out device_out : Bool}
    (location : Location) → IsLocated location word home bytes lent has out device_out → lent ≡ false
    → out ≡ false
    → IsLocated with_driver word home bytes lent has out device_out
found_with_driver with_driver at free home = at
found_with_driver location at free home = absurd (let a = at.lent_is in let b = at.driver_out_is in cc)

-- at home,
pub found_at_home : {word : ℕ} {home : maybe.Option Home} {bytes : List ℕ} {lent has out device_out : Bool}
    (location : Location) → IsLocated location word home bytes lent has out device_out → lent ≡ true
    → has ≡ false
    → IsLocated at_home word home bytes lent has out device_out
found_at_home at_home at is_lent unheld = at
found_at_home location at is_lent unheld = absurd (let a = at.lent_is in let b = at.held_is in cc)

pub word_at_home : {word : ℕ} {home : maybe.Option Home} {bytes : List ℕ} {lent has out device_out : Bool}
    (location : Location) → IsLocated location word home bytes lent has out device_out → word ≡ 1
    → IsLocated at_home word home bytes lent has out device_out
word_at_home at_home at is = at
word_at_home location at is = absurd (omega (arith, at.word_is, is))

-- held by the device,
pub found_held : {word : ℕ} {home : maybe.Option Home} {bytes : List ℕ} {lent has out device_out : Bool}
    (location : Location) → IsLocated location word home bytes lent has out device_out → has ≡ true
    → device_out ≡ false
    → IsLocated held word home bytes lent has out device_out
found_held held at is_held home = at
found_held location at is_held home = absurd (let a = at.held_is in let b = at.device_out_is in cc)

-- and with its slot out with one of them.
pub found_out_with_driver : {word : ℕ} {home : maybe.Option Home} {bytes : List ℕ}
    {lent has out device_out : Bool}
    (location : Location) → IsLocated location word home bytes lent has out device_out → out ≡ true
    → IsLocated out_with_driver word home bytes lent has out device_out
found_out_with_driver out_with_driver at is_out = at
found_out_with_driver location at is_out = absurd (let a = at.driver_out_is in cc)

pub found_out_with_device : {word : ℕ} {home : maybe.Option Home} {bytes : List ℕ}
    {lent has out device_out : Bool}
    (location : Location) → IsLocated location word home bytes lent has out device_out → device_out ≡ true
    → IsLocated out_with_device word home bytes lent has out device_out
found_out_with_device out_with_device at is_out = at
found_out_with_device location at is_out = absurd (let a = at.device_out_is in cc)

-- No slot is out with the device of a page that it doesn't hold.
pub not_out : {word : ℕ} {home : maybe.Option Home} {bytes : List ℕ} {lent has out device_out : Bool}
    (location : Location)
    → IsLocated location word home bytes lent has out device_out → has ≡ false → device_out ≡ false
not_out held at unheld = absurd (let a = at.held_is in cc)
not_out out_with_device at unheld = absurd (let a = at.held_is in cc)
not_out location at unheld = at.device_out_is

-- sets of pages with one page more or less
pub in_here : (pages : FinSet key_cmp) (key : PageKey) → set.contains (set.insert pages key) key ≡ true
in_here pages key =
    set.contains-insert keys_total pages key key
    ∙ ap (λ b. b || set.contains pages key) (tied keys_total keys_exact key)

pub in_other : (pages : FinSet key_cmp) (key other : PageKey) → other ≢ key
    → set.contains (set.insert pages key) other ≡ set.contains pages other
in_other pages key other differ =
    set.contains-insert keys_total pages key other
    ∙ ap (λ b. b || set.contains pages other) (apart keys_total keys_exact other key differ)

pub out_here : (pages : FinSet key_cmp) (key : PageKey) → set.contains (set.remove pages key) key ≡ false
out_here pages key =
    set.contains-remove keys_total pages key key
    ∙ ap (λ b. not b && set.contains pages key) (tied keys_total keys_exact key)

pub out_other : (pages : FinSet key_cmp) (key other : PageKey) → other ≢ key
    → set.contains (set.remove pages key) other ≡ set.contains pages other
out_other pages key other differ =
    set.contains-remove keys_total pages key other
    ∙ ap (λ b. not b && set.contains pages other) (apart keys_total keys_exact other key differ)

-- A slot that goes out and comes home leaves the others as they were,
pub not_out_again : (pages : FinSet key_cmp) (key q : PageKey) → set.contains pages q ≡ false
    → set.contains (set.remove (set.insert pages key) key) q ≡ false
not_out_again pages key q none =
    by_key keys_total keys_exact q key (set.contains (set.remove (set.insert pages key) key) q ≡ false)
    (λ same. subst (λ p. set.contains (set.remove (set.insert pages key) key) p ≡ false) (sym same)
    (out_here (set.insert pages key) key))
    (λ differ. out_other (set.insert pages key) key q differ ∙ in_other pages key q differ ∙ none)

-- and where none was out, none.
pub home_again : (pages : FinSet key_cmp) (key : PageKey) → ((p : PageKey) → set.contains pages p ≡ false)
    → set.remove (set.insert pages key) key ≡ pages
home_again pages key none =
    set.same_set keys_total keys_exact (set.remove (set.insert pages key) key) pages
    (λ q. not_out_again pages key q (none q) ∙ sym (none q))

pub in_more : (pages : FinSet key_cmp) (key q : PageKey) → set.contains pages q ≡ true
    → set.contains (set.insert pages key) q ≡ true
in_more pages key q is = by_key keys_total keys_exact q key (set.contains (set.insert pages key) q ≡ true)
    (λ same. subst (λ p. set.contains (set.insert pages key) p ≡ true) (sym same) (in_here pages key))
    (λ differ. in_other pages key q differ ∙ is)

pub in_fewer : (pages : FinSet key_cmp) (key q : PageKey) → set.contains (set.remove pages key) q ≡ true
    → set.contains pages q ≡ true
in_fewer pages key q is = by_key keys_total keys_exact q key (set.contains pages q ≡ true)
    (λ same.
    let gone = subst (λ p. set.contains (set.remove pages key) p ≡ false) (sym same) (out_here pages key) in
    cc (gone, is))
    (λ differ. sym (out_other pages key q differ) ∙ is)

pub in_one : (pages : FinSet key_cmp) (key q : PageKey) → ((p : PageKey) → set.contains pages p ≡ false)
    → set.contains (set.insert pages key) q ≡ true → q ≡ key
in_one pages key q none is = by_key keys_total keys_exact q key (q ≡ key) (λ same. same)
    (λ differ. absurd (let away = in_other pages key q differ ∙ none q in cc (away, is)))

-- The page that is taken is out with the driver.
pub pages_take : {l : Limits} {words : List ℕ} {homes : List Home} {s : State} {lent out : FinSet key_cmp}
    {noted : NotedPages} {device_out : Option PageKey} (key : PageKey)
    → IsKey l key → length words ≡ table_length l → set.contains lent key ≡ true → holds noted key ≡ false
    → AreLocated l words homes s lent out noted device_out
    → AreLocated l (slice_set words (page_word l key) 3) (slice_set homes (slot_number l key) maybe.none) s
    (set.remove lent key) (set.insert out key) noted device_out
pages_take {lent = lent} {out = out} key is wide is_lent unheld o =
    let old = found_at_home (o.location key) (o.each key is) is_lent unheld in
    located_set key 3 maybe.none out_with_driver is wide
    (λ q differ. (refl, out_other lent key q differ, in_other out key q differ, refl, refl))
    (record {
      word_is = refl;
      home_is = refl;
      lent_is = out_here lent key;
      held_is = old.held_is;
      driver_out_is = in_here out key;
      device_out_is = old.device_out_is;
    })
    o
