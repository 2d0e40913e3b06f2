-- The places of last commands: what a command marks, and the fences behind a place.
use Rattle.std.proofs.Common.{◌≡◌, ℕ, zero, suc, ◌+◌, ◌-◌, ◌<◌, ◌≤◌, List, [], ◌∷◌, ◌++◌, length, take, drop, Bool, true, false, cond, ◌||◌, ◌==◌, if◌then◌else◌, refl, sym, ap, ◌∙◌, Some, None, arith, length-append, take-append-drop, append-nil, nat_lt}
use Rattle.std.proofs.lemmas.Bool.Decides.{nat_tests}
use Rattle.std.proofs.lemmas.List.Elements.{filter_map-append}
use Rattle.std.specs.FinMap as map
use Rattle.std.specs.FinMap.{FinMap}
use Rattle.std.specs.FinSet as set
use Rattle.std.specs.FinSet.{FinSet}
use Rattle.std.specs.List.{cons_option}
use Rattle.std.specs.Ordering.{eq_by_cmp}
use Rattle.svga_client.specs.Marks.{fence_behind}
use Rattle.svga_cmd.proofs.KeyLaws.{keys_exact, keys_total}
use Rattle.svga_cmd.proofs.Maps.{get_other, get_same, one_key, tied}
use Rattle.svga_cmd.specs.Pages.{key_cmp}
use Rattle.svga_cmd.specs.declared.command.Command.{Command}
use Rattle.svga_cmd.specs.declared.command.Command.TheVariants.{Fence}
use Rattle.svga_cmd.specs.declared.page.PageKey.{PageKey}
use Rattle.svga_model.specs.Acts.{Act, Do}
use Rattle.svga_model.specs.Clients.{first_out, is_empty, is_unfenced, marked}
use Rattle.svga_model.specs.Fences.{fence_value, fences}
use Rattle.svga_model.specs.Regions.{Places}
use Rattle.svga_model.specs.States.{State}
use Rattle.svga_model.specs.Touches.{Touches, has_page}
use Rattle.svga_ring.proofs.Acts.KnownDone.{larger_most}
use Rattle.svga_ring.specs.Committed.{before_fence, commands}
use Rattle.svga_ring.specs.SoundPages.{known_done}

-- where no page of the places is with the client, all of them are lent
pub all_lent : (lent : FinSet key_cmp) (places : Places) (key : PageKey) → first_out lent places ≡ None
    → has_page places key ≡ true → set.contains lent key ≡ true
unfolding has_page
all_lent lent [] key none has = absurd (cc has)
all_lent lent (None ∷ places) key none has = all_lent lent places key none has
all_lent lent (Some other ∷ places) key none has =
    go (set.contains lent other) refl (eq_by_cmp key_cmp key other) refl
    (λ rest there. all_lent lent places key rest there)
  where
    go : (b : Bool) → set.contains lent other ≡ b → (same : Bool) → eq_by_cmp key_cmp key other ≡ same
        → (first_out lent places ≡ None → has_page places key ≡ true → set.contains lent key ≡ true)
        → set.contains lent key ≡ true
    go false out same e rest = absurd (let stops =
        ap (λ t. cond t (first_out lent places) (Some other)) out in cc (none, stops))
    go true is true e rest = ap (set.contains lent) (one_key keys_total keys_exact key other e) ∙ is
    go true is false e rest = rest
        (sym (ap (λ t. cond t (first_out lent places) (Some other)) is) ∙ none)
        (sym (ap (λ t. t || has_page places key) e) ∙ has)

-- what is marked: the places of the pages that stand there
pub marked_at : (places : Places) (n : ℕ) (touched : FinMap key_cmp ℕ) (key : PageKey)
    → map.get (marked places n touched) key ≡ (if has_page places key then Some n else map.get touched key)
unfolding has_page
marked_at [] n touched key = refl
marked_at (None ∷ places) n touched key = marked_at places n touched key
marked_at (Some other ∷ places) n touched key =
    go (eq_by_cmp key_cmp key other) refl (marked_at places n (map.insert touched other n) key)
  where
    marks : FinMap key_cmp ℕ
    marks = map.insert touched other n

    go : (same : Bool) → eq_by_cmp key_cmp key other ≡ same
        → map.get (marked places n marks) key ≡ (if has_page places key then Some n else map.get marks key)
        → map.get (marked places n marks) key ≡ (if same || has_page places key then Some n else map.get
        touched key)
    go true e rest = rest ∙ here (has_page places key) where
      is : key ≡ other
      is = one_key keys_total keys_exact key other e

      here : (b : Bool) → (if b then Some n else map.get marks key) ≡ Some n
      here true = refl
      here false = ap (map.get marks) is ∙ get_same keys_total keys_exact touched other n
    go false e rest = rest
        ∙ ap (λ p. if has_page places key then Some n else p)
        (get_other keys_total keys_exact touched other key n
        (λ is. let own = tied keys_total keys_exact key in
        cc (e, own, ap (λ q. eq_by_cmp key_cmp key q) is)))

-- the fences of commands are those of the first ones and those of the others
pub fences_parted : (n : ℕ) (cs : List Command) → fences cs ≡ fences (take n cs) ++ fences (drop n cs)
fences_parted n cs = ap (λ l. fences l) (sym (take-append-drop n cs))
    ∙ filter_map-append fence_value (take n cs) (drop n cs)

empty_length : (xs : List ℕ) → is_empty xs ≡ (length xs == 0)
empty_length [] = refl
empty_length (x ∷ xs) = let more : (suc (length xs) == 0) ≡ false = grind (arith, nat_tests) in sym more

-- no fence stands behind a place exactly where the first commands, with that one, have as many as all
pub unfenced_count : (cs : List Command) (place : ℕ)
    → is_unfenced cs (Some place) ≡ (length (fences cs) == length (fences (take (suc place) cs)))
unfenced_count cs place =
    let front : List ℕ = fences (take (suc place) cs) in
    let back : List ℕ = fences (drop (suc place) cs) in
    let all : length (fences cs) ≡ length front + length back = ap length (fences_parted (suc place) cs)
    ∙ length-append front back in
    empty_length back ∙ same (length back) (length front) (length (fences cs)) all
  where
    same : (b f a : ℕ) → a ≡ f + b → (b == 0) ≡ (a == f)
    same b f a e = grind (arith, nat_tests)

-- a fence that the first commands don't have stands behind them
pub none_before : (cs : List Command) (n j : ℕ) → length (fences (take n cs)) ≤ j → j < length (fences cs)
    → n ≤ before_fence j cs
none_before cs zero j low there = omega arith
none_before [] (suc n) j low there = absurd (omega (arith, there))
none_before (Fence value ∷ cs) (suc n) zero low there = absurd (omega (arith, low))
none_before (Fence value ∷ cs) (suc n) (suc j) low there =
    let on = none_before cs n j (omega (arith, low)) (omega (arith, there)) in omega (arith, on)
none_before (c ∷ cs) (suc n) zero low there = let on = none_before cs n zero low there in omega (arith, on)
none_before (c ∷ cs) (suc n) (suc j) low there = let on = none_before cs n (suc j) low there in
    omega (arith, on)

-- the driver's place is behind a command behind which a fence was seen
pub place_behind : (acts : List Act) (passed seen place : ℕ)
    → length (fences (take (suc place) (commands acts))) < seen
    → seen ≤ length (fences (commands acts)) → place < known_done acts passed seen
place_behind acts passed seen place fewer low =
    let cs = commands acts in
    let last : suc place ≤ before_fence (seen - 1) cs =
    none_before cs (suc place) (seen - 1) (omega (arith, fewer)) (omega (arith, fewer, low)) in
    let some : (seen == 0) ≡ false = grind (arith, nat_tests) in
    let is : (if seen == 0 then 0 else before_fence (seen - 1) cs) ≡ before_fence (seen - 1) cs =
    ap (λ t. if t then 0 else before_fence (seen - 1) cs) some in
    let most = (larger_most passed (if seen == 0 then 0 else before_fence (seen - 1) cs)).1 in
    omega (arith, most, is, last)

-- What is noted of a command: a command more leaves it,
pub mark_kept : (cs : List Command) (c : Command) (place : ℕ) → place < length cs
    → fence_behind (cs ++ c ∷ []) place ≡ fence_behind cs place
mark_kept cs c place low = ap (λ front. suc (length (fences front)))
    (take_before cs c (suc place) (omega (arith, low)))
  where
    take_before : (ds : List Command) (d : Command) (n : ℕ) → n ≤ length ds
        → take n (ds ++ d ∷ []) ≡ take n ds
    take_before ds d zero below = refl
    take_before [] d (suc n) below = absurd (omega (arith, below))
    take_before (e ∷ ds) d (suc n) below = ap (λ rest. e ∷ rest) (take_before ds d n (omega (arith, below)))

-- and of the last one it is the next fence, where it is none itself.
pub mark_last : (cs : List Command) (c : Command) → fence_value c ≡ None
    → fence_behind (cs ++ c ∷ []) (length cs) ≡ suc (length (fences cs))
mark_last cs c none =
    ap (λ front. suc (length (fences front))) (take_whole cs c)
    ∙ ap (λ values. suc (length values)) (filter_map-append fence_value cs (c ∷ []))
    ∙ ap (λ o. suc (length (fences cs ++ cons_option o []))) none
    ∙ ap (λ values. suc (length values)) (append-nil (fences cs))
  where
    take_whole : (ds : List Command) (d : Command) → take (suc (length ds)) (ds ++ d ∷ []) ≡ ds ++ d ∷ []
    take_whole [] d = refl
    take_whole (e ∷ ds) d = ap (λ rest. e ∷ rest) (take_whole ds d)

-- No fence stands behind it exactly where fewer were committed.
pub mark_unfenced : (cs : List Command) (place : ℕ)
    → is_unfenced cs (Some place) ≡ nat_lt (length (fences cs)) (fence_behind cs place)
mark_unfenced cs place =
    let front : List ℕ = fences (take (suc place) cs) in
    let back : List ℕ = fences (drop (suc place) cs) in
    let all : length (fences cs) ≡ length front + length back =
    ap length (fences_parted (suc place) cs) ∙ length-append front back in
    unfenced_count cs place ∙ same (length back) (length front) (length (fences cs)) all
  where
    same : (b f a : ℕ) → a ≡ f + b → (a == f) ≡ nat_lt a (suc f)
    same b f a e = grind (arith, nat_tests)

-- a command that touches a page is no fence
pub touching_is_none : (s : State) (c : Command) (key : PageKey) → Touches s (Do c) key → fence_value c ≡ None
unfolding has_page
touching_is_none s (Fence value) key touched = absurd (cc touched)
touching_is_none s c key touched = refl
