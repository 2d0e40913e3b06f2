-- The chain that is begun, before and after a table page.
use Rattle.std.proofs.Common.{◌≡◌, refl, IsSome, ℕ, ◌<◌, ◌≤◌, sym, ap, subst, ◌∙◌, Option, Some, None, List, [], ◌∷◌, ◌++◌, length, take, drop, append-nil, arith, Ok, Err, nat_lt, true, false, IfSome}
use Rattle.std.proofs.lemmas.Bool.Decides.{nat_tests}
use Rattle.std.proofs.lemmas.List.{drop_all, take_all}
use Rattle.svga_cmd.specs.declared.fault.Fault.{Fault}
use Rattle.svga_cmd.specs.declared.fault.Fault.TheVariants as fault
use Rattle.svga_model.specs.Regions.{Regions, places_with}
use Rattle.svga_model.specs.Standing.{first_standing}
use Rattle.svga_model.specs.Walks.{Tables, list_tests}
use Rattle.svga_region.specs.ChainCalls.{IsLeftBy}
use Rattle.svga_region.specs.Chains.{IsAnswer, Continues, Fails}
use Rattle.svga_region.specs.Kept.{IsReading}
use Rattle.svga_region.specs.declared.chain.Reading.{Reading}
use Rattle.svga_region.specs.Next.{next_by}
use Rattle.svga_region.specs.RegionSet.{Chain}
use Rattle.svga_region.specs.declared.chain.ChainNext.{ChainNext}

-- a slice that was lent as a whole is what the vector has
pub lent_whole : {X : Type 0} (old new : List X) (len : ℕ) → len ≡ length old → length new ≡ length old → take len (new ++ drop (length new) old) ≡ new
lent_whole old new len is same = ap (λ t. take len (new ++ t)) (drop_all (length new) old (omega arith)) ∙ ap (take len) (append-nil new) ∙ take_all len new (omega arith)

-- what is known of the chain that is begun
pub known : (o : Option Reading) (r : Reading) → o ≡ Some r → IfSome o (λ r. IsReading r) → IsReading r
known o r e h = let P : Option Reading → Type 0 = λ o. IfSome o (λ r. IsReading r) in subst P e h

-- how the walk goes on, as the answer tells it
continues : (guest : ℕ) (tables : Tables) (p : ℕ) (c d : Chain) (wants : Option ℕ) → Continues guest tables p c wants d → IsAnswer guest tables p c (Ok (next_by wants)) (Some d)
continues guest tables p c d None h = h
continues guest tables p c d (Some q) h = h

-- the same over equal values
pub answer_ok : (guest now : ℕ) (tables : Tables) (p : ℕ) (c b d e : Chain) (wants : Option ℕ) (next : ChainNext) → guest ≡ now → c ≡ b → d ≡ e → next ≡ next_by wants → Continues guest tables p c wants d → IsAnswer now tables p b (Ok next) (Some e)
answer_ok guest now tables p c b d e wants next g h i j answer =
    let P : ℕ × Chain × Chain × ChainNext → Type 0 = λ t. IsAnswer t.0 tables p t.1 (Ok t.3) (Some t.2) in
    subst P (λ k. (g k, h k, i k, sym j k)) (continues guest tables p c d wants answer)

-- a fault over equal values
pub answer_err : (guest now : ℕ) (tables : Tables) (p : ℕ) (c b : Chain) (f : Fault) → guest ≡ now → c ≡ b → Fails guest tables p c f None → IsAnswer now tables p b (Err f) None
answer_err guest now tables p c b f g h answer = let P : ℕ × Chain → Type 0 = λ t. Fails t.0 tables p t.1 f None in subst P (λ k. (g k, h k)) answer

-- a chain's list by its length
pub list_over : (regions : Regions) (id pages : ℕ) → 65536 < places_with regions id pages → first_standing (list_tests regions id pages) ≡ Some fault.PlaceLimit
list_over regions id pages more = ap (λ t. first_standing ((t, fault.PlaceLimit) ∷ [])) (test (places_with regions id pages) more) where
  test : (n : ℕ) → 65536 < n → nat_lt 65536 n ≡ true
  test n more = grind (arith, nat_tests)

-- a list that there is room for
pub list_within : (regions : Regions) (id pages : ℕ) → places_with regions id pages ≤ 65536 → first_standing (list_tests regions id pages) ≡ None
list_within regions id pages few = ap (λ t. first_standing ((t, fault.PlaceLimit) ∷ [])) (test (places_with regions id pages) few) where
  test : (n : ℕ) → n ≤ 65536 → nat_lt 65536 n ≡ false
  test n few = grind (arith, nat_tests)

-- what stands after a table page was read, as the answer tells it
pub left_by : (wants : Option ℕ) (next : ChainNext) (d : Chain) → next ≡ next_by wants → d.wants ≡ wants
    → IsLeftBy (Ok next) (Some d)
left_by wants next d is same = subst (λ n. IsLeftBy (Ok n) (Some d)) (sym is) (at wants same) where
  at : (o : Option ℕ) → d.wants ≡ o → IsLeftBy (Ok (next_by o)) (Some d)
  at None e = e
  at (Some q) e = subst IsSome (sym e) refl
