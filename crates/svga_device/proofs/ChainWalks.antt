-- The table pages that a chain's walk enters, and the pages that the chain touches.
use Rattle.std.proofs.Common.{◌≡◌, ◌≢◌, ℕ, zero, suc, ◌+◌, ◌==◌, ◌&&◌, ◌||◌, All, List, [], ◌∷◌, ◌++◌, Bool, true, false, nat_lt, if◌then◌else◌, Option, Some, None, refl, sym, ap, subst, ◌∙◌, arith}
use Rattle.std.proofs.lemmas.Bool.Decides.{nat_tests}
use Rattle.std.proofs.lemmas.List.Elements.{All-contains, All-cons, All-head, All-nil, All-tail, All-weaker, Contains-append_right}
use Rattle.std.specs.List.{Contains, cons_option}
use Rattle.std.specs.Ordering.{eq_by_cmp}
use Rattle.svga_cmd.proofs.KeyLaws.{keys_exact, keys_total}
use Rattle.svga_cmd.proofs.Maps.{one_key}
use Rattle.svga_cmd.specs.Pages.{key_cmp}
use Rattle.svga_cmd.specs.declared.constants.TheConstants.{LAST_PAIR, MAX_DESCRIPTORS}
use Rattle.svga_cmd.specs.declared.page.PageKey.{PageKey}
use Rattle.svga_cmd.specs.declared.page.PageKey.TheVariants.{Guest}
use Rattle.svga_model.proofs.TouchPages.{or_true, page_there}
use Rattle.svga_model.proofs.TouchWalks.{is_entered}
use Rattle.svga_model.specs.Acts.{Chain}
use Rattle.svga_model.specs.States.{State}
use Rattle.svga_model.specs.Touches.{Touches, is_page}
use Rattle.svga_model.specs.Walks.{TablePosition, Tables, descriptor_at, entered, is_good_link, is_good_run, next_position, positions_from, tables_of, walk}

-- some position has this table page
abbrev IsAmong : List TablePosition → ℕ → Type 0
IsAmong places p = is_entered (Guest p) places ≡ true

-- the first position's, where its page is entered there, and those of the others
entered_first : (at : TablePosition) (places : List TablePosition) (first : Bool)
    → All (IsAmong places) (entered places)
    → All (IsAmong (at ∷ places)) (cons_option (if first then Some at.table else None) (entered places))
entered_first at places first others = go first where
  rest : All (IsAmong (at ∷ places)) (entered places)
  rest = All-weaker (IsAmong places) (IsAmong (at ∷ places))
      (λ p. or_true (is_page (Guest p) (Some (Guest at.table))) (is_entered (Guest p) places)) (entered places)
      others

  go : (first : Bool)
      → All (IsAmong (at ∷ places)) (cons_option (if first then Some at.table else None) (entered places))
  go true = All-cons (IsAmong (at ∷ places)) at.table (entered places)
      (ap (λ b. b || is_entered (Guest at.table) places) (page_there (Guest at.table))) rest
  go false = rest

-- each table page that is entered is one of the positions'
entered_all : (places : List TablePosition) → All (IsAmong places) (entered places)
entered_all [] = All-nil (IsAmong [])
entered_all (at ∷ places) = entered_first at places (at.pair == 0) (entered_all places)

entered_one : (places : List TablePosition) (read rest : List ℕ) (p : ℕ) → entered places ≡ read ++ p ∷ rest
    → is_entered (Guest p) places ≡ true
entered_one places read rest p is =
    All-contains (IsAmong places) (entered places) p (entered_all places)
    (subst (λ l. Contains l p) (sym is) (Contains-append_right read (p ∷ rest) p (0, omega arith, refl)))

-- What holds of each table page that a walk enters holds of the page of each of its positions.
module _ (guest : ℕ) (tables : Tables) (P : PageKey → Type 0) where
  -- where the walk goes on below a page's top, it holds of that page
  abbrev IsBelow : Option TablePosition → Type 0
  IsBelow None = Unit {0}
  IsBelow (Some at) = (at.pair == 0) ≡ false → P (Guest at.table)

  next_below : (at : TablePosition) (page : ℕ) (link run : Bool) → P (Guest at.table)
      → IsBelow (if link then Some (record { table = page; pair = 0 }) else
      if run then Some (record { table = at.table; pair = at.pair + 1 }) else None)
  next_below at page true run here = λ below. absurd (cc below)
  next_below at page false true here = λ below. here
  next_below at page false false here = tt

  here_and_behind : (at : TablePosition) (rest : List ℕ) (first : Bool) → (at.pair == 0) ≡ first
      → IsBelow (Some at) → All (λ p. P (Guest p)) (cons_option (if first then Some at.table else None) rest)
      → P (Guest at.table) × All (λ p. P (Guest p)) rest
  here_and_behind at rest true e below all =
      (All-head (λ p. P (Guest p)) at.table rest all, All-tail (λ p. P (Guest p)) at.table rest all)
  here_and_behind at rest false e below all = (below e, all)

  from_entered : (n : ℕ) (at : Option TablePosition) → IsBelow at
      → All (λ p. P (Guest p)) (entered (positions_from n guest tables at)) → (key : PageKey)
      → is_entered key (positions_from n guest tables at) ≡ true → P key
  unfolding positions_from
  from_entered zero at below all key is = absurd (cc is)
  from_entered (suc n) None below all key is = absurd (cc is)
  from_entered (suc n) (Some at) below all key is =
      let d = descriptor_at tables at in
      let next = next_position guest at d in
      let parts = here_and_behind at (entered (positions_from n guest tables next)) (at.pair == 0) refl below all in
      let on : IsBelow next =
      next_below at d.page (is_good_link guest d) (is_good_run guest d && nat_lt at.pair LAST_PAIR) parts.0 in
      go (eq_by_cmp key_cmp key (Guest at.table)) (is_entered key (positions_from n guest tables next)) refl is
      parts.0 (from_entered n next on parts.1 key)
    where
      go : (same rest : Bool) → eq_by_cmp key_cmp key (Guest at.table) ≡ same → (same || rest) ≡ true
          → P (Guest at.table) → (rest ≡ true → P key) → P key
      go true rest e is here behind = subst P (sym (one_key keys_total keys_exact key (Guest at.table) e)) here
      go false rest e is here behind = behind is

  from_walk : (first : ℕ) → All (λ p. P (Guest p)) (entered (walk guest tables first)) → (key : PageKey)
      → is_entered key (walk guest tables first) ≡ true → P key
  from_walk first = from_entered MAX_DESCRIPTORS (Some (record { table = first; pair = 0 }))
      (λ below. absurd (cc below))

-- of each page that a chain touches, likewise
pub touched_there : (s : State) (id first : ℕ) (P : PageKey → Type 0)
    → All (λ p. P (Guest p)) (entered (walk s.kept.limits.pages (tables_of s.memory) first))
    → (key : PageKey) → Touches s (Chain id first) key → P key
touched_there s id first P all key touched = go (first == 0) touched where
  go : (none : Bool)
      → is_entered key (if none then [] else walk s.kept.limits.pages (tables_of s.memory) first) ≡ true
      → P key
  go true is = absurd (cc is)
  go false is = from_walk s.kept.limits.pages (tables_of s.memory) P first all key is

-- with first page 0 there is none
pub none_touched : (s : State) (id first : ℕ) (key : PageKey) → first ≡ 0 → Touches s (Chain id first) key → ⊥
none_touched s id first key none touched =
    let is = subst (λ n. Touches s (Chain id n) key) none touched in cc is

-- a table page that its walk enters is touched
pub entered_touched : (s : State) (id first : ℕ) (read rest : List ℕ) (p : ℕ) → first ≢ 0
    → entered (walk s.kept.limits.pages (tables_of s.memory) first) ≡ read ++ p ∷ rest
    → Touches s (Chain id first) (Guest p)
entered_touched s id first read rest p some is =
    let walked = walk s.kept.limits.pages (tables_of s.memory) first in
    let not_none : (first == 0) ≡ false = grind (arith, nat_tests, some) in
    ap (λ b. is_entered (Guest p) (if b then [] else walked)) not_none ∙ entered_one walked read rest p is
