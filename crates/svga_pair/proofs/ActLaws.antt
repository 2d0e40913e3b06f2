-- The calls of an act, from the first to the last.
use Rattle.std.proofs.Common.{◌≡◌, ℕ, zero, suc, ◌+◌, ◌<◌, ◌≤◌, ◌⊎◌, ◌^◌, Bool, true, false, ◌&&◌, nat_le, Result, List, [], ◌∷◌, ◌++◌, length, drop, refl, sym, ap, subst, ◌∙◌, None, option_to_list, Ok, Err, slice_index_or, map as map_list, append-nil, length-append, inl, inr, arith}
use Rattle.std.proofs.lemmas.Bool.Decides.{nat_tests}
use Rattle.std.proofs.lemmas.List.FromFn.{length-range_with_len}
use Rattle.std.proofs.lemmas.List.Sums.{sum_by-cons}
use Rattle.std.specs.List.{list_all, range_with_len}
use Rattle.svga_cmd.specs.Pages.{number_in_kind}
use Rattle.svga_cmd.specs.declared.constants.TheConstants.{MAX_MAP_PAGES}
use Rattle.svga_cmd.specs.declared.page.PageKey.{PageKey}
use Rattle.svga_driver.specs.Driving.{DriverHas, IsShort, client_in}
use Rattle.svga_driver.specs.declared.fault.DriverFault.{DriverFault}
use Rattle.svga_model.specs.ClientActs.{BlitBack, BlitTo, Call, ClientAct, Commit, CommitFence, Describe, DescribeRegion, Destroy, Fill, Lend, LendPage, Map, NextFence, Region, Same, Screen, SetGmrfb, Show, ShowPage, Take, TakePage, Update, Write, WritePage, PageRun, calls_of, key_behind, run_numbers, runs_numbers}
use Rattle.svga_model.specs.Clients.{Client, after_call, refusal_of}
use Rattle.svga_model.specs.Meanings.{Meaning, meaning_from, meaning_with, told_by}
use Rattle.svga_model.specs.ScriptBounds.{is_bounded, pages_in, run_ends}
use Rattle.svga_model.specs.Sentences.{spelling_all}
use Rattle.svga_pair.proofs.DriverLaws.{goes_more, goes_same, goes_then}
use Rattle.svga_pair.specs.Answering.{CanTell, answer_to, told_in}
use Rattle.svga_pair.specs.Calls.{call_at, commit_count}
use Rattle.svga_pair.specs.Going.{GoesOn, HasEnded, HasTried}
use Rattle.svga_pair.specs.declared.answer.Answer.{Answer}
use Rattle.svga_pair.specs.Racing.{AreEnded, in_line}
use Rattle.svga_pair.specs.declared.answer.Refused.{Refused}
use Rattle.svga_pair.specs.declared.answer.Told.{Told}
use Rattle.svga_pair.specs.declared.answer.Told.TheVariants.{Fence, Nothing, Page}

-- a map of a script has runs that end, of so many pages
pub map_within : (id offset : ℕ) (runs : List PageRun) → is_bounded (Map id offset runs) ≡ true
    → (list_all run_ends runs ≡ true) × (pages_in runs ≤ MAX_MAP_PAGES)
map_within id offset runs within = go (list_all run_ends runs) refl where
  go : (b : Bool) → list_all run_ends runs ≡ b
      → (list_all run_ends runs ≡ true) × (pages_in runs ≤ MAX_MAP_PAGES)
  go true e = (
    e,
    grind (
      arith,
      nat_tests,
      subst (λ b. (b && nat_le (pages_in runs) MAX_MAP_PAGES) ≡ true) e within,
    ),
  )
  go false e = absurd (cc (subst (λ b. (b && nat_le (pages_in runs) MAX_MAP_PAGES) ≡ true) e within))

numbers-length : (runs : List PageRun) → length (runs_numbers runs) ≡ pages_in runs
numbers-length [] = refl
numbers-length (r ∷ runs) = length-append (run_numbers r) (runs_numbers runs)
    ∙ ap (λ n. n + length (runs_numbers runs)) (length-range_with_len r.first r.count)
    ∙ ap (λ n. r.count + n) (numbers-length runs) ∙ sym (sum_by-cons (λ (r : PageRun). r.count) r runs)

-- call k stands before those that are left behind it
drop_call : (calls : List Call) (k : ℕ) → k < length calls
    → drop k calls ≡ slice_index_or calls k CommitFence ∷ drop (suc k) calls
drop_call [] k low = absurd (omega arith)
drop_call (c ∷ calls) zero low = refl
drop_call (c ∷ calls) (suc k) low = drop_call calls k (omega arith)

none_left : (calls : List Call) → drop (length calls) calls ≡ []
none_left [] = refl
none_left (c ∷ calls) = none_left calls

abbrev no_calls : List Call
no_calls = []

none_behind : (k : ℕ) → drop k no_calls ≡ []
none_behind zero = refl
none_behind (suc k) = refl

-- the call on a page is that on the page so far behind the first one
moves_at : (f : PageKey → Call) (first : PageKey) (n a k : ℕ) → k < n
    → slice_index_or (map_list f (map_list (key_behind first) (range_with_len a n))) k CommitFence
    ≡ f (key_behind first (a + k))
moves_at f first zero a k low = absurd (omega arith)
moves_at f first (suc n) a zero low = ap (λ j. f (key_behind first j)) (let e : a ≡ a + 0 = omega arith in e)
moves_at f first (suc n) a (suc k) low =
    moves_at f first n (a + 1) k (omega arith)
    ∙ ap (λ j. f (key_behind first j)) (let e : a + 1 + k ≡ a + suc k = omega arith in e)

moves-length : (f : PageKey → Call) (first : PageKey) (n a : ℕ)
    → length (map_list f (map_list (key_behind first) (range_with_len a n))) ≡ n
moves-length f first zero a = refl
moves-length f first (suc n) a = ap suc (moves-length f first n (a + 1))

pub lend-length : (first : PageKey) (count : ℕ) → length (calls_of (Lend first count)) ≡ count
lend-length first count = moves-length LendPage first count 0

pub take-length : (first : PageKey) (count : ℕ) → length (calls_of (Take first count)) ≡ count
take-length first count = moves-length TakePage first count 0

pub lend_at : (first : PageKey) (count k : ℕ) → k < length (calls_of (Lend first count))
    → LendPage (key_behind first k) ≡ call_at (Lend first count) k
lend_at first count k low = sym (moves_at LendPage first count 0 k (omega (arith, low, lend-length first count))
    ∙ ap (λ j. LendPage (key_behind first j)) (let e : 0 + k ≡ k = omega arith in e))

pub take_at : (first : PageKey) (count k : ℕ) → k < length (calls_of (Take first count))
    → TakePage (key_behind first k) ≡ call_at (Take first count) k
take_at first count k low = sym (moves_at TakePage first count 0 k (omega (arith, low, take-length first count))
    ∙ ap (λ j. TakePage (key_behind first j)) (let e : 0 + k ≡ k = omega arith in e))

-- an act of one call has no other
pub one_at : (act : ClientAct) (call : Call) (k : ℕ) → calls_of act ≡ call ∷ [] → k < length (calls_of act)
    → call ≡ call_at act k
one_at act call k is low = go k (omega (arith, low, ap length is)) where
  go : (k : ℕ) → k < 1 → call ≡ call_at act k
  go zero low = sym (ap (λ (l : List Call). slice_index_or l 0 CommitFence) is)
  go (suc k) low = absurd (omega arith)

-- the pages of an act have numbers of 32 bits
pub lend_low : (first : PageKey) (count k : ℕ) → is_bounded (Lend first count) ≡ true
    → k < length (calls_of (Lend first count)) → number_in_kind first + k < 2 ^ 32
lend_low first count k within low = grind (arith, nat_tests, within, low, lend-length first count)

pub take_low : (first : PageKey) (count k : ℕ) → is_bounded (Take first count) ≡ true
    → k < length (calls_of (Take first count)) → number_in_kind first + k < 2 ^ 32
take_low first count k within low = grind (arith, nat_tests, within, low, take-length first count)

-- so many pages are sent in one command
pub map_short : (id offset : ℕ) (runs : List PageRun) → is_bounded (Map id offset runs) ≡ true
    → length (runs_numbers runs) ≤ MAX_MAP_PAGES
map_short id offset runs within = omega (arith, numbers-length runs, (map_within id offset runs within).1)

-- what becomes of call k of an act
pub tried_so : (d left : DriverHas) (act : ClientAct) (k : ℕ) (call : Call)
    (given : Result (Unit {0}) DriverFault)
    (a : Answer) → call ≡ call_at act k → a ≡ answer_to given → HasTried d call (answer_to given) left
    → HasTried d (call_at act k) a left
tried_so d left act k call given a here is o =
    subst (λ x. HasTried d (call_at act k) x left) (sym is)
    (subst (λ x. HasTried d x (answer_to given) left) here o)

-- A call moves a page, commits nothing and tells nothing; each other call is the last of its act.
record IsMove (call : Call) : Type 0 where
  pub none_sent : commit_count call ≡ 0
  pub none_told : (c : Client) → told_by c call ≡ None

move_or_last : (act : ClientAct) (k : ℕ) → k < length (calls_of act)
    → IsMove (call_at act k) ⊎ (drop (suc k) (calls_of act) ≡ [])
move_or_last (Screen id width height x y) k low = inr (none_behind k)
move_or_last (Destroy id) k low = inr (none_behind k)
move_or_last (Region id pages) k low = inr (none_behind k)
move_or_last (Map id offset runs) k low = inr (none_behind k)
move_or_last (Same id offset count page) k low = inr (none_behind k)
move_or_last (SetGmrfb g) k low = inr (none_behind k)
move_or_last (BlitTo b) k low = inr (none_behind k)
move_or_last (BlitBack b) k low = inr (none_behind k)
move_or_last (Update x y width height) k low = inr (none_behind k)
move_or_last NextFence k low = inr (none_behind k)
move_or_last (Write key offset bytes) k low = inr (none_behind k)
move_or_last (Fill key byte) k low = inr (none_behind k)
move_or_last (Lend first count) k low =
    inl (subst IsMove (lend_at first count k low) (record { none_sent = refl; none_told = λ c. refl }))
move_or_last (Take first count) k low =
    inl (subst IsMove (take_at first count k low) (record { none_sent = refl; none_told = λ c. refl }))
move_or_last (Show key) k low = inr (none_behind k)
move_or_last (Describe id first) k low = inr (none_behind k)

few_commits : (call : Call) → commit_count call ≤ 1
few_commits (Commit command) = omega arith
few_commits CommitFence = omega arith
few_commits (WritePage key offset bytes) = omega arith
few_commits (LendPage key) = omega arith
few_commits (TakePage key) = omega arith
few_commits (ShowPage key) = omega arith
few_commits (DescribeRegion id first) = omega arith

tells_nothing : (c : Client) (told : Told) → None ≡ told_in c told → told ≡ Nothing
tells_nothing c Nothing none = refl
tells_nothing c (Fence number) none = absurd (cc none)
tells_nothing c (Page key) none = absurd (cc none)

-- all calls mean what those left mean behind what was told so far
pub record IsSoFar (c : Client) (told : Told) (all rest : Meaning) : Type 0 where
  pub refused : all.refused ≡ rest.refused
  pub client_is : all.client ≡ rest.client
  pub told_is : all.told ≡ option_to_list (told_in c told) ++ rest.told

-- nothing was committed or told
pub record IsQuiet (d : DriverHas) (told : Told) (left : DriverHas) : Type 0 where
  pub silent : told ≡ Nothing
  pub goes : GoesOn d 0 left

-- The first k of these calls are is.ends. Nothing was committed or told, or they are all.
pub record IsOnTheWay (d : DriverHas) (calls : List Call) (k : ℕ) (told : Told)
    (left : DriverHas) : Type 0 where
  pub so_far : (line : ℕ) → IsSoFar (client_in left) told (meaning_from (client_in d) (in_line line calls))
      (meaning_from (client_in left) (in_line line (drop k calls)))
  pub can_tell : CanTell (client_in left) told
  pub goes : GoesOn d 1 left
  pub quiet : IsQuiet d told left ⊎ (drop k calls ≡ [])

pub act_begins : (d : DriverHas) (calls : List Call) → IsOnTheWay d calls 0 Nothing d
act_begins d calls = record {
  so_far = λ line. record { refused = refl; client_is = refl; told_is = refl };
  can_tell = tt;
  goes = goes_more d d 0 1 (goes_same d) (omega arith);
  quiet = inl (record { silent = refl; goes = goes_same d });
}

still_quiet : (d left : DriverHas) (calls : List Call) (k : ℕ) (told : Told) → k < length calls
    → IsOnTheWay d calls k told left → IsQuiet d told left
still_quiet d left calls k told low o = go o.quiet where
  go : IsQuiet d told left ⊎ (drop k calls ≡ []) → IsQuiet d told left
  go (inl quiet) = quiet
  go (inr none) = absurd (let some = drop_call calls k low in cc (some, none))

-- so there is room in the counts for the next one
pub still_short : (d left : DriverHas) (calls : List Call) (k : ℕ) (told : Told) → k < length calls
    → IsOnTheWay d calls k told left → IsShort d.view → IsShort left.view
still_short d left calls k told low o short =
    let goes = (still_quiet d left calls k told low o).goes in
    omega (arith, short, goes.few, ap length goes.has_sent.sent_are, length-append d.view.sent (spelling_all goes.more))

goes_by_call : (d left next : DriverHas) (call : Call) → GoesOn d 0 left
    → GoesOn left (commit_count call) next
    → GoesOn d (commit_count call) next
goes_by_call d left next call o more =
    goes_more d next (0 + commit_count call) (commit_count call) (goes_then d left next 0 (commit_count call) o more)
    (omega arith)

-- what the calls that are left mean, by the first of them
by_next : (c : Client) (call : Call) (calls : List Call) (k line : ℕ)
    → drop k calls ≡ call ∷ drop (suc k) calls
    → meaning_from c (in_line line (drop k calls))
    ≡ meaning_with c (record { line = line; call = call }) (refusal_of c call)
    (meaning_from (after_call c call) (in_line line (drop (suc k) calls)))
by_next c call calls k line first = ap (λ (l : List Call). meaning_from c (in_line line l)) first

one_more : (d left next : DriverHas) (act : ClientAct) (k : ℕ) (told more : Told) → k < length (calls_of act)
    → IsOnTheWay d (calls_of act) k told left → HasEnded left (call_at act k) (Ok more) next
    → IsOnTheWay d (calls_of act) (suc k) more next
one_more d left next act k told more low o is = record {
  so_far = so_far;
  can_tell = is.ends.can_tell;
  goes = goes_more d next (commit_count call) 1 goes (few_commits call);
  quiet = go (move_or_last act k low);
}
  where
    call : Call
    call = call_at act k

    quiet : IsQuiet d told left
    quiet = still_quiet d left (calls_of act) k told low o

    goes : GoesOn d (commit_count call) next
    goes = goes_by_call d left next call quiet.goes is.goes

    rest : ℕ → Meaning
    rest line = meaning_from (client_in next) (in_line line (drop (suc k) (calls_of act)))

    first : (line : ℕ) → meaning_from (client_in left) (in_line line (drop k (calls_of act)))
        ≡ meaning_with (client_in left) (record { line = line; call = call }) None (rest line)
    first line = by_next (client_in left) call (calls_of act) k line (drop_call (calls_of act) k low)
        ∙ ap (λ f. meaning_with (client_in left) (record { line = line; call = call }) f
        (meaning_from (after_call (client_in left) call) (in_line line (drop (suc k) (calls_of act))))) is.ends.granted
        ∙ ap (λ c. meaning_with (client_in left) (record { line = line; call = call }) None
        (meaning_from c (in_line line (drop (suc k) (calls_of act))))) (sym is.ends.client_is)

    so_far : (line : ℕ)
        → IsSoFar (client_in next) more (meaning_from (client_in d) (in_line line (calls_of act))) (rest line)
    so_far line =
        let m = o.so_far line in record {
          refused = m.refused ∙ ap (λ (m : Meaning). m.refused) (first line);
          client_is = m.client_is ∙ ap (λ (m : Meaning). m.client) (first line);
          told_is = m.told_is
              ∙ ap (λ t. option_to_list (told_in (client_in left) t)
              ++ (meaning_from (client_in left) (in_line line (drop k (calls_of act)))).told) quiet.silent
              ∙ ap (λ (m : Meaning). m.told) (first line)
              ∙ ap (λ t. option_to_list t ++ (rest line).told) is.ends.told_is;
        }

    go : IsMove call ⊎ (drop (suc k) (calls_of act) ≡ [])
        → IsQuiet d more next ⊎ (drop (suc k) (calls_of act) ≡ [])
    go (inl move) = inl (record {
      silent = tells_nothing (client_in next) more (sym (move.none_told (client_in left)) ∙ is.ends.told_is);
      goes = subst (λ n. GoesOn d n next) move.none_sent goes;
    })
    go (inr none) = inr none

-- one call more is done
pub act_goes : (d left next : DriverHas) (act : ClientAct) (k : ℕ) (told more : Told)
    → k < length (calls_of act)
    → IsOnTheWay d (calls_of act) k told left → HasEnded left (call_at act k) (Ok more) next
    → IsOnTheWay d (calls_of act) (k + 1) more next
act_goes d left next act k told more low o is =
    subst (λ n. IsOnTheWay d (calls_of act) n more next) (let e : suc k ≡ k + 1 = omega arith in e)
    (one_more d left next act k told more low o is)

-- all of them are
pub act_done : (d left : DriverHas) (calls : List Call) (k : ℕ) (told : Told) → k ≡ length calls
    → IsOnTheWay d calls k told left → (line : ℕ)
    → AreEnded line (client_in d) calls (Ok told) (client_in left)
act_done d left calls k told all o line =
    let m = o.so_far line in
    let none = ap (λ n. drop n calls) all ∙ none_left calls in
    let rest = ap (λ (l : List Call). meaning_from (client_in left) (in_line line l)) none in record {
      none = m.refused ∙ ap (λ (m : Meaning). m.refused) rest;
      told_is = m.told_is ∙ ap (λ (m : Meaning). option_to_list (told_in (client_in left) told) ++ m.told) rest
          ∙ append-nil (option_to_list (told_in (client_in left) told));
      can_tell = o.can_tell;
      client_is = sym (m.client_is ∙ ap (λ (m : Meaning). m.client) rest);
    }

-- or one of them is refused
pub act_refused : (d left next : DriverHas) (act : ClientAct) (k : ℕ) (told : Told) (r : Refused)
    → k < length (calls_of act) → IsOnTheWay d (calls_of act) k told left
    → HasEnded left (call_at act k) (Err r) next
    → (line : ℕ) → AreEnded line (client_in d) (calls_of act) (Err r) (client_in next)
act_refused d left next act k told r low o is line =
    let call = call_at act k in
    let m = o.so_far line in
    let f = is.ends in
    let quiet = still_quiet d left (calls_of act) k told low o in
    let first = by_next (client_in left) call (calls_of act) k line (drop_call (calls_of act) k low)
    ∙ ap (λ f. meaning_with (client_in left) (record { line = line; call = call }) f
    (meaning_from (after_call (client_in left) call) (in_line line (drop (suc k) (calls_of act))))) f.refused in
    record {
      fault = f.fault;
      refused = m.refused ∙ ap (λ (m : Meaning). m.refused) first;
      number_is = f.number_is;
      key_is = f.key_is;
      none_told = m.told_is
          ∙ ap (λ t. option_to_list (told_in (client_in left) t)
          ++ (meaning_from (client_in left) (in_line line (drop k (calls_of act)))).told) quiet.silent
          ∙ ap (λ (m : Meaning). m.told) first;
      client_is = f.client_is ∙ sym (m.client_is ∙ ap (λ (m : Meaning). m.client) first);
    }

pub act_goes_on : (d left next : DriverHas) (act : ClientAct) (k : ℕ) (told : Told) (r : Refused)
    → k < length (calls_of act) → IsOnTheWay d (calls_of act) k told left
    → HasEnded left (call_at act k) (Err r) next → GoesOn d 1 next
act_goes_on d left next act k told r low o is =
    let call = call_at act k in
    let quiet = still_quiet d left (calls_of act) k told low o in
    goes_more d next (commit_count call) 1 (goes_by_call d left next call quiet.goes is.goes) (few_commits call)
