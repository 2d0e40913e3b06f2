-- What is found and noted in the places of a region, one after another.
use Rattle.std.proofs.Common.{◌≡◌, ℕ, zero, suc, ◌+◌, ◌<◌, ◌≤◌, List, [], ◌∷◌, length, drop, Bool, true, false, cond, if◌then◌else◌, refl, sym, ap, subst, ◌∙◌, Option, Some, None, is_some, IsSome, slice_index_or, arith}
use Rattle.std.proofs.Math.Numerals.{add-one}
use Rattle.std.proofs.lemmas.Option.{none-some, same_Some}
use Rattle.std.specs.FinMap as map
use Rattle.std.specs.FinSet as set
use Rattle.std.specs.FinSet.{FinSet}
use Rattle.svga_cmd.proofs.KeyLaws.{keys_exact, keys_total}
use Rattle.svga_cmd.proofs.Maps.{by_key, get_other, get_same}
use Rattle.svga_cmd.specs.Pages.{key_cmp}
use Rattle.svga_cmd.specs.declared.page.PageKey.{PageKey}
use Rattle.svga_driver.specs.LendingSet.{AreLent, LendingSet, all_touched, with_touched}
use Rattle.svga_driver.specs.declared.lending.Lending.{Lending}
use Rattle.svga_driver.specs.declared.lending.Lending.TheVariants.{Touched, Untouched}
use Rattle.svga_model.specs.Clients.{first_out, marked}
use Rattle.svga_model.specs.Regions.{Places}

-- one place in front of others
abbrev pub out_at : FinSet key_cmp → Option PageKey → Option PageKey → Option PageKey
out_at lent None rest = rest
out_at lent (Some key) rest = if set.contains lent key then rest else Some key

abbrev pub touched_at : Option PageKey → ℕ → ℕ → LendingSet → LendingSet
touched_at None command fences s = s
touched_at (Some key) command fences s = with_touched s key command fences

out_suc : (lent : FinSet key_cmp) (places : Places) (k : ℕ) → k < length places
    → first_out lent (drop k places) ≡ out_at lent (slice_index_or places k None)
    (first_out lent (drop (suc k) places))
out_suc lent [] k low = absurd (omega (arith, low))
out_suc lent (None ∷ places) zero low = refl
out_suc lent (Some key ∷ places) zero low = refl
out_suc lent (p ∷ places) (suc k) low = out_suc lent places k (omega (arith, low))

pub out_step : (lent : FinSet key_cmp) (places : Places) (k : ℕ) → k < length places
    → first_out lent (drop k places) ≡ out_at lent (slice_index_or places k None)
    (first_out lent (drop (k + 1) places))
out_step lent places k low = out_suc lent places k low
    ∙ ap (λ n. out_at lent (slice_index_or places k None) (first_out lent (drop n places))) (sym (add-one k))

touch_suc : (places : Places) (k command fences : ℕ) (s : LendingSet) → k < length places
    → all_touched (drop k places) command fences s
    ≡ all_touched (drop (suc k) places) command fences
    (touched_at (slice_index_or places k None) command fences s)
touch_suc [] k command fences s low = absurd (omega (arith, low))
touch_suc (None ∷ places) zero command fences s low = refl
touch_suc (Some key ∷ places) zero command fences s low = refl
touch_suc (p ∷ places) (suc k) command fences s low = touch_suc places k command fences s (omega (arith, low))

pub touch_step : (places : Places) (k command fences : ℕ) (s : LendingSet) → k < length places
    → all_touched (drop k places) command fences s
    ≡ all_touched (drop (k + 1) places) command fences
    (touched_at (slice_index_or places k None) command fences s)
touch_step places k command fences s low = touch_suc places k command fences s low
    ∙ ap (λ n. all_touched (drop n places) command fences
    (touched_at (slice_index_or places k None) command fences s))
    (sym (add-one k))

pub drop_all : {X : Type 0} (xs : List X) (k : ℕ) → length xs ≤ k → drop k xs ≡ []
drop_all [] zero past = refl
drop_all [] (suc k) past = refl
drop_all (x ∷ xs) zero past = absurd (omega (arith, past))
drop_all (x ∷ xs) (suc k) past = drop_all xs k (omega (arith, past))

-- what stands behind the first places stays as it is
abbrev pub IsPast : FinSet key_cmp → Places → ℕ → Type 0
IsPast lent places k = first_out lent (drop k places) ≡ first_out lent places

pub past_unmapped : (lent : FinSet key_cmp) (places : Places) (k : ℕ) → k < length places
    → IsPast lent places k
    → slice_index_or places k None ≡ None → IsPast lent places (k + 1)
past_unmapped lent places k low past none =
    ap (λ p. out_at lent p (first_out lent (drop (k + 1) places))) (sym none)
    ∙ sym (out_step lent places k low) ∙ past

pub past_lent : (lent : FinSet key_cmp) (places : Places) (k : ℕ) (key : PageKey) → k < length places
    → IsPast lent places k → slice_index_or places k None ≡ Some key → set.contains lent key ≡ true
    → IsPast lent places (k + 1)
past_lent lent places k key low past here is =
    ap (λ b. cond b (first_out lent (drop (k + 1) places)) (Some key)) (sym is)
    ∙ ap (λ p. out_at lent p (first_out lent (drop (k + 1) places))) (sym here)
    ∙ sym (out_step lent places k low) ∙ past

pub found_out : (lent : FinSet key_cmp) (places : Places) (k : ℕ) (key : PageKey) → k < length places
    → IsPast lent places k → slice_index_or places k None ≡ Some key → set.contains lent key ≡ false
    → Some key ≡ first_out lent places
found_out lent places k key low past here away =
    ap (λ b. cond b (first_out lent (drop (k + 1) places)) (Some key)) (sym away)
    ∙ ap (λ p. out_at lent p (first_out lent (drop (k + 1) places))) (sym here)
    ∙ sym (out_step lent places k low) ∙ past

-- The pages of the places behind the first ones are lent, and touching those does the rest.
pub record IsTouching (places : Places) (command fences : ℕ) (old now : LendingSet) (k : ℕ) : Type 0 where
  pub rest : all_touched (drop k places) command fences now ≡ all_touched places command fences old
  pub lent : FinSet key_cmp
  pub are_lent : AreLent lent now
  pub all_lent : first_out lent (drop k places) ≡ None

pub lent_here : (places : Places) (command fences : ℕ) (old now : LendingSet) (k : ℕ) (key : PageKey)
    → IsTouching places command fences old now k → k < length places → slice_index_or places k None ≡ Some key
    → IsSome (map.get now.lent key)
lent_here places command fences old now k key o low here = o.are_lent key
    ∙ go (set.contains o.lent key) refl where
      go : (b : Bool) → set.contains o.lent key ≡ b → set.contains o.lent key ≡ true
      go true is = is
      go false away = absurd (none-some key (sym o.all_lent ∙ out_step o.lent places k low
          ∙ ap (λ p. out_at o.lent p (first_out o.lent (drop (k + 1) places))) here
          ∙ ap (λ b. cond b (first_out o.lent (drop (k + 1) places)) (Some key)) away))

pub touching_next : (places : Places) (command fences : ℕ) (old now : LendingSet) (k : ℕ) (key : PageKey)
    → IsTouching places command fences old now k → k < length places → slice_index_or places k None ≡ Some key
    → IsTouching places command fences old (with_touched now key command fences) (k + 1)
touching_next places command fences old now k key o low here = record {
  rest = ap (λ p. all_touched (drop (k + 1) places) command fences (touched_at p command fences now))
      (sym here)
      ∙ sym (touch_step places k command fences now low) ∙ o.rest;
  lent = o.lent;
  are_lent = λ q. by_key keys_total keys_exact q key
      (is_some (map.get (map.insert now.lent key (Touched command fences)) q) ≡ set.contains o.lent q)
      (λ same. subst (λ p. is_some (map.get (map.insert now.lent key (Touched command fences)) p)
      ≡ set.contains o.lent p)
      (sym same) (ap is_some (get_same keys_total keys_exact now.lent key (Touched command fences)) ∙ sym is))
      (λ differ. ap is_some (get_other keys_total keys_exact now.lent key q (Touched command fences) differ)
      ∙ o.are_lent q);
  all_lent = ap (λ b. cond b (first_out o.lent (drop (k + 1) places)) (Some key)) (sym is)
      ∙ ap (λ p. out_at o.lent p (first_out o.lent (drop (k + 1) places))) (sym here)
      ∙ sym (out_step o.lent places k low) ∙ o.all_lent;
}
  where
    is : set.contains o.lent key ≡ true
    is = sym (o.are_lent key) ∙ lent_here places command fences old now k key o low here

pub touching_on : (places : Places) (command fences : ℕ) (old now : LendingSet) (k : ℕ)
    → IsTouching places command fences old now k → k < length places → slice_index_or places k None ≡ None
    → IsTouching places command fences old now (k + 1)
touching_on places command fences old now k o low none = record {
  rest = ap (λ p. all_touched (drop (k + 1) places) command fences (touched_at p command fences now))
      (sym none)
      ∙ sym (touch_step places k command fences now low) ∙ o.rest;
  lent = o.lent;
  are_lent = o.are_lent;
  all_lent = past_unmapped_none;
}
  where
    past_unmapped_none : first_out o.lent (drop (k + 1) places) ≡ None
    past_unmapped_none = ap (λ p. out_at o.lent p (first_out o.lent (drop (k + 1) places))) (sym none)
        ∙ sym (out_step o.lent places k low) ∙ o.all_lent

-- What all places do: the lent pages stay the same, and the last commands are those of the client.
pub all_lent_still : (lent : FinSet key_cmp) (places : Places) (command fences : ℕ) (s : LendingSet)
    → AreLent lent s
    → first_out lent places ≡ None → AreLent lent (all_touched places command fences s)
all_lent_still lent [] command fences s are none = are
all_lent_still lent (None ∷ places) command fences s are none =
    all_lent_still lent places command fences s are none
all_lent_still lent (Some key ∷ places) command fences s are none =
    go (set.contains lent key) refl none (λ next rest. all_lent_still lent places command fences
    (with_touched s key command fences) next rest)
  where
    go : (b : Bool) → set.contains lent key ≡ b → (if b then first_out lent places else Some key) ≡ None
        → (AreLent lent (with_touched s key command fences) → first_out lent places ≡ None
        → AreLent lent (all_touched places command fences (with_touched s key command fences)))
        → AreLent lent (all_touched places command fences (with_touched s key command fences))
    go true is rest on = on (λ q. by_key keys_total keys_exact q key
        (is_some (map.get (map.insert s.lent key (Touched command fences)) q) ≡ set.contains lent q)
        (λ same. subst (λ p. is_some (map.get (map.insert s.lent key (Touched command fences)) p)
        ≡ set.contains lent p)
        (sym same) (ap is_some (get_same keys_total keys_exact s.lent key (Touched command fences)) ∙ sym is))
        (λ differ. ap is_some (get_other keys_total keys_exact s.lent key q (Touched command fences) differ)
        ∙ are q)) rest
    go false away rest on = absurd (none-some key (sym rest))

pub all_marked : (places : Places) (command fences : ℕ) (s : LendingSet)
    → (all_touched places command fences s).touched ≡ marked places command s.touched
all_marked [] command fences s = refl
all_marked (None ∷ places) command fences s = all_marked places command fences s
all_marked (Some key ∷ places) command fences s =
    all_marked places command fences (with_touched s key command fences)

pub all_limits : (places : Places) (command fences : ℕ) (s : LendingSet)
    → (all_touched places command fences s).limits ≡ s.limits
all_limits [] command fences s = refl
all_limits (None ∷ places) command fences s = all_limits places command fences s
all_limits (Some key ∷ places) command fences s =
    all_limits places command fences (with_touched s key command fences)

-- each page that is noted has one of these notes
abbrev pub Noted : LendingSet → (ℕ → ℕ → Type 0) → Type 0
Noted s P = (key : PageKey) (command fences : ℕ) → map.get s.lent key ≡ Some (Touched command fences)
    → P command fences

abbrev NoteIs : (ℕ → ℕ → Type 0) → Lending → Type 0
NoteIs P Untouched = Unit {0}
NoteIs P (Touched command fences) = P command fences

same_note : (P : ℕ → ℕ → Type 0) (a b : Lending) → a ≡ b → NoteIs P a → NoteIs P b
same_note P a b e is = subst (NoteIs P) e is

pub all_noted : (P : ℕ → ℕ → Type 0) (places : Places) (command fences : ℕ) (s : LendingSet)
    → P command fences
    → Noted s P → Noted (all_touched places command fences s) P
all_noted P [] command fences s here was = was
all_noted P (None ∷ places) command fences s here was = all_noted P places command fences s here was
all_noted P (Some key ∷ places) command fences s here was =
    all_noted P places command fences (with_touched s key command fences) here
    (λ q cm fs got. by_key keys_total keys_exact q key (P cm fs)
    (λ same. same_note P (Touched command fences) (Touched cm fs)
    (same_Some (Touched command fences) (Touched cm fs)
    (sym (get_same keys_total keys_exact s.lent key (Touched command fences))
    ∙ ap (map.get (map.insert s.lent key (Touched command fences))) (sym same) ∙ got)) here)
    (λ differ. was q cm fs (sym (get_other keys_total keys_exact s.lent key q (Touched command fences) differ)
    ∙ got)))
