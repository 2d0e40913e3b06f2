-- The device's steps on a page: the act in hand touches each page that it may hold, and each step moves one
-- page.
use Rattle.std.proofs.Common.{◌≡◌, ◌≢◌, inl, inr, ℕ, zero, suc, List, [], ◌∷◌, ◌++◌, get_or, Bool, true, false, Option, Some, None, is_none, is_some, option_and_then, unwrap_or, refl, sym, ap, subst, ◌∙◌, slice_index}
use Rattle.std.proofs.lemmas.Option.{same_Some}
use Rattle.std.specs.FinMap as map
use Rattle.std.specs.FinSet as set
use lib.ListN.{get_elem?}
use mathlib.Core.Option as maybe
use Rattle.svga_cmd.proofs.KeyLaws.{keys_total, keys_exact}
use Rattle.svga_cmd.proofs.Maps.{apart, by_key, get_other, get_same, tied}
use Rattle.svga_cmd.specs.Pages.{IsKey}
use Rattle.svga_cmd.specs.Spelling.{Spells}
use Rattle.svga_cmd.specs.declared.command.Command.{Command}
use Rattle.svga_cmd.specs.declared.page.PageKey.{PageKey}
use Rattle.svga_cmd.specs.declared.session.Session.{Session}
use Rattle.svga_model.specs.Acts.{Act, Do, Chain}
use Rattle.svga_model.specs.Memories.{page_bytes}
use Rattle.svga_model.specs.Runs.{run}
use Rattle.svga_model.specs.States.{State}
use Rattle.svga_model.specs.Touches.{Touches, is_page, touches}
use Rattle.svga_ring.proofs.Acts.Float.{floats}
use Rattle.svga_ring.proofs.Acts.InHand.{IsTouchedInHand, chain_out, hand_lent, is_next, no_chain, opening_of, settled_of, settles}
use Rattle.svga_ring.proofs.Acts.ByKnown.{IsKnownOf, known_touches}
use Rattle.svga_ring.proofs.Pages.Noted.{noted_page}
use Rattle.svga_ring.proofs.Pages.Moves.{device_limits_of, page_step}
use Rattle.svga_ring.proofs.Pages.Locations.{found_at_home, found_held, found_out_with_device, located_set}
use Rattle.svga_ring.proofs.Acts.Settled.{puts_page_among, settled_chain}
use Rattle.svga_ring.specs.Committed.{puts_of, settled}
use Rattle.svga_ring.specs.Conditions.{Can, IsInHand, loaded_chain, read_command}
use Rattle.svga_ring.specs.Core.{Core, GiveBack, HeldSlotHome, HeldSlotOut, Hold, after, bytes_in, given_with, held_with, page_at_home, with_device, with_page_word}
use Rattle.svga_ring.specs.Noting.{MayHold, NotedPages, bytes_at_home, given_back, holds, is_held_now, known_state}
use Rattle.svga_ring.specs.Locations.{Home, Location, at_home, held, out_with_device}
use Rattle.svga_ring.specs.Requests.{IsChainOut, Request, is_chain_out, is_ring_request}
use Rattle.svga_ring.specs.SharedTable.{page_word, slot_number}
use Rattle.svga_ring.specs.Sound.{IsSound}
use Rattle.svga_ring.specs.SoundPages.{ChainTouches, IsLocated, TouchesAt, by_chain, by_command, reached}
use Rattle.svga_ring.specs.Views.{Apart, Noted, Terms}

-- what the device knows of the state is so where what is settled is done
known_settled : (k : Session) (c : Core) → IsSound k c → IsKnownOf (known_state c.device) (settled_of k c)
known_settled k c o = record {
  kept = o.runs.kept_is_run;
  pages = λ key bytes known. (
      let noted = noted_page c.device.noted key bytes known in
      o.runs.noted_is_run key bytes noted.0 noted.1
      );
}

-- what the command in hand touches in the state that is settled it touches in its turn
command_touches : (k : Session) (c : Core) (command : Command) (key : PageKey)
    → IsSound k c → Spells command c.device.read
    → Touches (settled_of k c) (Do command) key → TouchesAt (opening_of k) c.driver.acts c.device.done key
command_touches k c command key o spells touched =
    let none = no_chain k c command o spells in (
      command,
      is_next k c command o spells,
      sym ((settles k c command o spells).same_touches key)
          ∙ ap (λ b. touches (reached (opening_of k) c.device.done b c.driver.acts) (Do command) key)
          (sym none)
          ∙ touched,
    )

-- what the chain in hand touches in the state that is settled it touches in its turn
chain_touches : (k : Session) (c : Core) (key : PageKey) → IsSound k c
    → IsChainOut c.driver.request c.device.answered
    → Touches (settled_of k c) (Chain c.driver.request.id c.driver.request.descriptor) key
    → ChainTouches (opening_of k) c.driver.request c.driver.acts key
chain_touches k c key o out touched =
    let s = opening_of k in
    let acts = c.driver.acts in
    let n = c.device.done in
    let r = c.driver.request in
    let last = o.requests.out_is_last_chain out in
    let front = last.front in
    let rest = last.rest in
    let act : Act = Chain r.id r.descriptor in
    let floating = floats s acts front rest act last.acts_are o.of_words.acts.in_turn (λ is. is)
    (λ other touches_it puts. o.clear.request_later_puts other out last touches_it
    (puts_page_among rest other puts)) in
    let low = o.runs.chains_done front rest r.id r.descriptor last.acts_are in
    let left : settled n (is_chain_out r c.device.answered) acts ≡ front ++ puts_of rest =
    ap (λ (b : Bool). settled n b acts) out ∙ ap (λ (l : List Act). settled n true l) last.acts_are
    ∙ settled_chain front rest r.id r.descriptor n last.puts_behind low in
    let at : State → Bool = λ t. touches t act key in
    let there : at (run s (settled n (is_chain_out r c.device.answered) acts)) ≡ at (run s front) =
    ap (λ (l : List Act). at (run s l)) left ∙ floating.same_touches key in
    (last, sym there ∙ touched)

hand_touches : (k : Session) (c : Core) (act : Act) (key : PageKey)
    → IsSound k c → IsInHand c.device act → MayHold c.device act key → IsTouchedInHand k c key
hand_touches k c act key o of_hand may = go act of_hand (known_touches _ _ act key (known_settled k c o) may)
  where
    go : (x : Act) → IsInHand c.device x → Touches (settled_of k c) x key → IsTouchedInHand k c key
    go x (read_command command spells) touched =
        by_command command spells (command_touches k c command key o spells touched)
    go x (loaded_chain none waits no_ring) touched =
        let same : c.device.wanted ≡ c.driver.request =
        elim (o.requests.loaded_is) as (λ _. c.device.wanted ≡ c.driver.request) [
          | inl is ↦ is
          | inr done ↦ absurd (waits done)
        ] in
        let out = chain_out c.driver.request c.device.answered
        (subst (λ (r : Request). r.number ≢ c.device.answered) same waits)
        (ap is_ring_request (sym same) ∙ no_ring) in
        by_chain none out same (chain_touches k c key o out
        (subst (λ (r : Request). Touches (settled_of k c) (Chain r.id r.descriptor) key) same touched))

-- what lies in a slot that is at home
pub slot_at : (homes : List Home) (i : ℕ) (home other : Home)
    → get_elem? homes i ≡ maybe.some home → get_or homes i other ≡ home
slot_at [] i home other e = absurd (cc)
slot_at (x ∷ homes) zero home other e = cc
slot_at (x ∷ homes) (suc i) home other e = slot_at homes i home other e

-- the one slot that the device has out
has_out : (out : Option PageKey) (key : PageKey) → out ≡ Some key → is_page key out ≡ true
has_out out key e = ap (λ o. is_page key o) e ∙ tied keys_total keys_exact key

hasnt_out : (out : Option PageKey) (key other : PageKey) → out ≡ Some key → other ≢ key
    → is_page other out ≡ false
hasnt_out out key other e differ = ap (λ o. is_page other o) e ∙ apart keys_total keys_exact other key differ

-- where a page is noted, it was first held with these bytes
abbrev IsFirst : List ℕ → Option Noted → Type 0
IsFirst bytes at =
    (first : List ℕ) (back : Option (List ℕ)) → at ≡ Some (record { first = first; back = back })
    → first ≡ bytes

-- what a step of the device leaves of a page, and that it notes and has out no other
record IsMoved (k : Session) (c : Core) (key : PageKey) (value : ℕ) (home : Home) (noted : NotedPages)
    (out : Option PageKey) : Type 0 where
  others_noted : (other : PageKey) → other ≢ key → map.get noted other ≡ map.get c.device.noted other
  others_out : (other : PageKey) → other ≢ key → is_page other out ≡ is_page other c.device.out
  location : Location
  here : IsLocated location value (maybe.some home)
      (bytes_at_home noted key (page_bytes (settled_of k c).memory key))
      (set.contains c.driver.lent key) (holds noted key) (set.contains c.driver.out key) (is_page key out)
  first_is : IsFirst (page_bytes (settled_of k c).memory key) (map.get noted key)
  touched : map.contains_key noted key ≡ true → IsTouchedInHand k c key

-- the device's key is one of the session's
of_session : (k : Session) (c : Core) (key : PageKey)
    → IsSound k c → IsKey c.device.terms.limits key → IsKey k.limits key
of_session k c key o is = subst (λ (t : Terms). IsKey t.limits key) o.of_words.session.of_device is

-- such a step keeps all that is sound
device_step : (k : Session) (c : Core) (key : PageKey) (value : ℕ) (home : Home)
    (noted : NotedPages) (out : Option PageKey)
    → IsSound k c → c.seats ≡ Apart → IsKey c.device.terms.limits key → IsMoved k c key value home noted out
    → IsSound k (with_device (with_page_word c.device.terms.limits c key value home)
    (record c.device { noted = noted; out = out }))
device_step k c key value home noted out o seats is moved =
    let s = settled_of k c in
    page_step c.device.terms.limits key value home (device_limits_of o) o seats
    (located_set key value home moved.location (of_session k c key o is) o.of_words.fixed.length_is
    (λ q differ. (refl, refl, refl, moved.others_noted q differ, moved.others_out q differ)) moved.here
    o.pages)
    o.clear
    (record {
      kept_is_run = o.runs.kept_is_run;
      noted_is_run = λ q. by_key keys_total keys_exact q key
          (IsFirst (page_bytes s.memory q) (map.get noted q))
          (λ same. subst (λ x. IsFirst (page_bytes s.memory x) (map.get noted x)) (sym same) moved.first_is)
          (λ differ first back at. o.runs.noted_is_run q first back (sym (moved.others_noted q differ) ∙ at));
      noted_touched = λ q there. by_key keys_total keys_exact q key (IsTouchedInHand k c q)
          (λ same. subst (λ x. IsTouchedInHand k c x) (sym same)
          (moved.touched (subst (λ x. map.contains_key noted x ≡ true) same there)))
          (λ differ. o.runs.noted_touched q (sym (ap is_some (moved.others_noted q differ)) ∙ there));
      chains_done = o.runs.chains_done;
    })
    (o.one_slot (λ q. cc (seats, q)))

-- A page that is held keeps the bytes with which it was first held, or else is noted with those that it has,
-- and isn't given back any more.
pub held_is : (at : Option Noted) (bytes : List ℕ) → is_none (held_with at bytes).back ≡ true
held_is None bytes = refl
held_is (Some n) bytes = refl

held_first : (at : Option Noted) (bytes settled_bytes : List ℕ)
    → bytes ≡ unwrap_or (option_and_then (λ n. n.back) at) settled_bytes → IsFirst settled_bytes at
    → (held_with at bytes).first ≡ settled_bytes
held_first None bytes settled_bytes is noted = is
held_first (Some n) bytes settled_bytes is noted = noted n.first n.back refl

-- one that is given back keeps them too, and is given back with these bytes
given_is : (at : Option Noted) (bytes : List ℕ) → (given_with at bytes).back ≡ Some bytes
given_is None bytes = refl
given_is (Some n) bytes = refl

given_first : (at : Option Noted) (bytes settled_bytes : List ℕ) → is_held_now at ≡ true
    → IsFirst settled_bytes at
    → (given_with at bytes).first ≡ settled_bytes
given_first None bytes settled_bytes has noted = absurd (cc has)
given_first (Some n) bytes settled_bytes has noted = noted n.first n.back refl

-- where one is noted so, it is first held so
first_noted : (note : Noted) (at : Option Noted) (bytes : List ℕ)
    → at ≡ Some note → note.first ≡ bytes → IsFirst bytes at
first_noted note at bytes noted is first back e =
    let same : note ≡ record { first = first; back = back } =
    same_Some note (record { first = first; back = back }) (sym noted ∙ e) in
    sym (ap (λ (n : Noted). n.first) same) ∙ is

-- a page that is held is noted
pub held_noted : (at : Option Noted) → is_held_now at ≡ true → is_some at ≡ true
held_noted None has = absurd (cc has)
held_noted (Some n) has = refl

has_none_out : (out : Option PageKey) (key : PageKey) → out ≡ None → is_page key out ≡ false
has_none_out out key e = ap (λ o. is_page key o) e

-- where the page is
abbrev IsLocatedAt : Session → Core → PageKey → Location → Type 0
IsLocatedAt k c key location =
    IsLocated location (slice_index c.words (page_word k.limits key))
    (get_elem? c.homes (slot_number k.limits key))
    (bytes_at_home c.device.noted key (page_bytes (settled_of k c).memory key))
    (set.contains c.driver.lent key)
    (holds c.device.noted key) (set.contains c.driver.out key) (is_page key c.device.out)

-- A page that may be held is at home,
at_home_to_hold : (k : Session) (c : Core) (key : PageKey) (act : Act)
    → IsSound k c → Can (Hold key act) c → IsLocatedAt k c key at_home
at_home_to_hold k c key act o can =
    found_at_home (o.pages.location key) (o.pages.each key (of_session k c key o can.1.0))
    (hand_lent k c key o (hand_touches k c act key o can.1.1 can.1.2)) can.1.3

-- with what was given back for the act in hand, or else with what is settled.
pub hold_finds : (k : Session) (c : Core) (key : PageKey) (act : Act) → IsSound k c → Can (Hold key act) c
    → get_elem? c.homes (slot_number k.limits key)
    ≡ maybe.some (maybe.some (Some (bytes_at_home c.device.noted key
    (page_bytes (settled_of k c).memory key))))
hold_finds k c key act o can = (at_home_to_hold k c key act o can).home_is

-- as the device knows it: what lies at home is a page
pub hold_finds_known : (k : Session) (c : Core) (key : PageKey) (act : Act) → IsSound k c
    → Can (Hold key act) c
    → get_elem? c.homes (slot_number c.device.terms.limits key)
    ≡ maybe.some (maybe.some (Some (page_at_home c.device.terms.limits c.homes key)))
hold_finds_known k c key act o can =
    let own : ℕ = slot_number c.device.terms.limits key in
    let found = ap (λ l. get_elem? c.homes (slot_number l key)) (device_limits_of o)
    ∙ hold_finds k c key act o can in
    found ∙ ap (λ h. maybe.some (maybe.some (Some (bytes_in h))))
    (sym (slot_at c.homes own _ maybe.none found))

pub keeps_hold : (k : Session) (c : Core) (key : PageKey) (act : Act)
    → IsSound k c → Can (Hold key act) c → IsSound k (after (Hold key act) c)
keeps_hold k c key act o can =
    let e = c.device in
    let s = settled_of k c in
    let touched = hand_touches k c act key o can.1.1 can.1.2 in
    let old = at_home_to_hold k c key act o can in
    let home : Home = get_or c.homes (slot_number c.device.terms.limits key) maybe.none in
    let home_is : home ≡ maybe.some (Some (bytes_at_home e.noted key (page_bytes s.memory key))) =
    ap (λ (t : Terms). get_or c.homes (slot_number t.limits key) maybe.none) o.of_words.session.of_device
    ∙ slot_at c.homes (slot_number k.limits key) _ maybe.none old.home_is in
    let note : Noted = held_with (map.get e.noted key) (bytes_in home) in
    let noted : NotedPages = map.insert e.noted key note in
    let noted_is : map.get noted key ≡ Some note = get_same keys_total keys_exact e.noted key note in
    device_step k c key 4 maybe.none noted (Some key) o can.0 can.1.0 (record {
      others_noted = λ other differ. get_other keys_total keys_exact e.noted key other note differ;
      others_out = λ other differ. hasnt_out (Some key) key other refl differ
          ∙ sym (has_none_out e.out other can.1.4);
      location = out_with_device;
      here = record {
        word_is = refl;
        home_is = refl;
        lent_is = old.lent_is;
        held_is = ap is_held_now noted_is ∙ held_is (map.get e.noted key) (bytes_in home);
        driver_out_is = old.driver_out_is;
        device_out_is = has_out (Some key) key refl;
      };
      first_is = first_noted note (map.get noted key) (page_bytes s.memory key) noted_is
          (held_first (map.get e.noted key) (bytes_in home) (page_bytes s.memory key) (ap bytes_in home_is)
          (o.runs.noted_is_run key));
      touched = λ there. touched;
    })

pub keeps_give_back : (k : Session) (c : Core) (key : PageKey) (bytes : List ℕ)
    → IsSound k c → Can (GiveBack key bytes) c → IsSound k (after (GiveBack key bytes) c)
keeps_give_back k c key bytes o can =
    let e = c.device in
    let s = settled_of k c in
    let is = of_session k c key o can.1.0 in
    let old =
    found_out_with_device (o.pages.location key) (o.pages.each key is) (has_out e.out key can.1.1) in
    let note : Noted = given_with (map.get e.noted key) bytes in
    let noted : NotedPages = map.insert e.noted key note in
    let noted_is : map.get noted key ≡ Some note = get_same keys_total keys_exact e.noted key note in
    let back_is : given_back noted key ≡ Some bytes =
    ap (λ at. option_and_then (λ n. n.back) at) noted_is ∙ given_is (map.get e.noted key) bytes in
    device_step k c key 1 (maybe.some (Some bytes)) noted None o can.0 can.1.0 (record {
      others_noted = λ other differ. get_other keys_total keys_exact e.noted key other note differ;
      others_out = λ other differ. sym (hasnt_out e.out key other can.1.1 differ);
      location = at_home;
      here = record {
        word_is = refl;
        home_is = ap (λ at. maybe.some (maybe.some (Some (unwrap_or at (page_bytes s.memory key)))))
            (sym back_is);
        lent_is = old.lent_is;
        held_is = ap is_held_now noted_is ∙ ap is_none (given_is (map.get e.noted key) bytes);
        driver_out_is = old.driver_out_is;
        device_out_is = refl;
      };
      first_is = first_noted note (map.get noted key) (page_bytes s.memory key) noted_is
          (given_first (map.get e.noted key) bytes (page_bytes s.memory key) old.held_is
          (o.runs.noted_is_run key));
      touched = λ there. o.runs.noted_touched key (held_noted (map.get e.noted key) old.held_is);
    })

-- A page that is held, and whose slot isn't out, is where it was held,
held_there : (k : Session) (c : Core) (key : PageKey) → IsSound k c → Can (HeldSlotOut key) c
    → IsLocatedAt k c key held
held_there k c key o can =
    found_held (o.pages.location key) (o.pages.each key (of_session k c key o can.1.0)) can.1.1
    (has_none_out c.device.out key can.1.2)

-- and its slot is empty.
pub held_slot_empty : (k : Session) (c : Core) (key : PageKey) → IsSound k c → Can (HeldSlotOut key) c
    → get_elem? c.homes (slot_number k.limits key) ≡ maybe.some (maybe.some None)
held_slot_empty k c key o can = (held_there k c key o can).home_is

pub held_slot_empty_known : (k : Session) (c : Core) (key : PageKey) → IsSound k c → Can (HeldSlotOut key) c
    → get_elem? c.homes (slot_number c.device.terms.limits key) ≡ maybe.some (maybe.some None)
held_slot_empty_known k c key o can =
    ap (λ l. get_elem? c.homes (slot_number l key)) (device_limits_of o) ∙ held_slot_empty k c key o can

pub keeps_held_slot_out : (k : Session) (c : Core) (key : PageKey) → IsSound k c → Can (HeldSlotOut key) c
    → IsSound k (after (HeldSlotOut key) c)
keeps_held_slot_out k c key o can =
    let e = c.device in
    let old = held_there k c key o can in
    device_step k c key 4 maybe.none e.noted (Some key) o can.0 can.1.0 (record {
      others_noted = λ other differ. refl;
      others_out = λ other differ. hasnt_out (Some key) key other refl differ
          ∙ sym (has_none_out e.out other can.1.2);
      location = out_with_device;
      here = record {
        word_is = refl;
        home_is = refl;
        lent_is = old.lent_is;
        held_is = old.held_is;
        driver_out_is = old.driver_out_is;
        device_out_is = has_out (Some key) key refl;
      };
      first_is = o.runs.noted_is_run key;
      touched = o.runs.noted_touched key;
    })

pub keeps_held_slot_home : (k : Session) (c : Core) (key : PageKey) → IsSound k c → Can (HeldSlotHome key) c
    → IsSound k (after (HeldSlotHome key) c)
keeps_held_slot_home k c key o can =
    let e = c.device in
    let is = of_session k c key o can.1.0 in
    let old =
    found_out_with_device (o.pages.location key) (o.pages.each key is) (has_out e.out key can.1.1) in
    device_step k c key 2 (maybe.some None) e.noted None o can.0 can.1.0 (record {
      others_noted = λ other differ. refl;
      others_out = λ other differ. sym (hasnt_out e.out key other can.1.1 differ);
      location = held;
      here = record {
        word_is = refl;
        home_is = refl;
        lent_is = old.lent_is;
        held_is = old.held_is;
        driver_out_is = old.driver_out_is;
        device_out_is = refl;
      };
      first_is = o.runs.noted_is_run key;
      touched = o.runs.noted_touched key;
    })
