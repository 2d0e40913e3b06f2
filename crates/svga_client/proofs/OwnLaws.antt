-- The pages that are with the driver, in their places: what an act leaves of them, and what becomes of a page
-- that is written, lent or taken back.
use Rattle.std.proofs.Common.{◌≡◌, ℕ, List, Bool, true, false, refl, sym, ap, subst, ◌∙◌, Option, Some, None, is_some, IsSome}
use Rattle.std.specs.FinMap as map
use Rattle.std.specs.Option.{option_or}
use Rattle.svga_client.specs.OwnPages.{IsWithPages}
use Rattle.svga_cmd.proofs.KeyLaws.{keys_exact, keys_total}
use Rattle.svga_cmd.proofs.Maps.{by_key, get_kept, get_other, get_removed, get_same}
use Rattle.svga_cmd.specs.Pages.{HasPage, Memory, page_at}
use Rattle.svga_cmd.specs.declared.page.PageKey.{PageKey}
use Rattle.svga_model.proofs.PutLaws.{page_other, page_put}
use Rattle.svga_model.proofs.TouchLaws.{other_pages, same_fault, same_kept, same_pages, same_touches}
use Rattle.svga_model.specs.Acts.{Act, Put}
use Rattle.svga_model.specs.Faults.{fault_of}
use Rattle.svga_model.specs.States.{State}
use Rattle.svga_model.specs.Steps.{step}
use Rattle.svga_model.specs.Touches.{AgreeOn, IsPut, Touches, touches}

-- what isn't there
pub none_there : {X : Type 0} (o : Option X) → (IsSome o → ⊥) → o ≡ None
none_there None away = refl
none_there (Some x) away = absurd (away refl)

-- no page that the act touches is with the driver
abbrev pub IsFree : Memory → State → Act → Type 0
IsFree own t act = (key : PageKey) → Touches t act key → IsSome (page_at own key) → ⊥

-- a page that isn't with the driver
pub own_none : (own : Memory) (s t : State) (key : PageKey) → IsWithPages own s t → page_at own key ≡ None
    → page_at t.memory key ≡ page_at s.memory key
own_none own s t key o none = o.pages key ∙ ap (λ p. option_or p (page_at s.memory key)) none

-- and one that is
pub own_some : (own : Memory) (s t : State) (key : PageKey) (bytes : List ℕ) → IsWithPages own s t
    → page_at own key ≡ Some bytes
    → page_at t.memory key ≡ Some bytes
own_some own s t key bytes o there = o.pages key ∙ ap (λ p. option_or p (page_at s.memory key)) there

pub own_agrees : (own : Memory) (s t : State) (act : Act) → IsWithPages own s t → IsFree own t act
    → AgreeOn t s act
own_agrees own s t act o free key touched = own_none own s t key o
    (none_there (page_at own key) (free key touched))

-- The act has the same fault in both states, touches the same,
pub own_fault : (own : Memory) (s t : State) (act : Act) → IsWithPages own s t → IsFree own t act
    → fault_of t act ≡ fault_of s act
own_fault own s t act o free = same_fault t s act o.kept (own_agrees own s t act o free)

pub own_touches : (own : Memory) (s t : State) (act : Act) (key : PageKey) → IsWithPages own s t
    → IsFree own t act
    → touches t act key ≡ touches s act key
own_touches own s t act key o free = same_touches t s act key o.kept (own_agrees own s t act o free)

-- and leaves the pages that are with the driver in their places.
pub own_act : (own : Memory) (s t : State) (act : Act) → IsWithPages own s t → (IsPut act → ⊥)
    → IsFree own t act
    → IsWithPages own (step s act) (step t act)
own_act own s t act o no_put free = record {
  kept = same_kept t s act o.kept (own_agrees own s t act o free);
  pages = λ key. go key (touches t act key) refl;
}
  where
    go : (key : PageKey) (b : Bool) → touches t act key ≡ b
        → page_at (step t act).memory key ≡ option_or (page_at own key) (page_at (step s act).memory key)
    go key true touched =
        same_pages t s act key o.kept (own_agrees own s t act o free) touched
        ∙ ap (λ p. option_or p (page_at (step s act).memory key))
        (sym (none_there (page_at own key) (free key touched)))
    go key false off =
        other_pages t act key no_put (λ touched. cc (off, touched))
        ∙ o.pages key
        ∙ ap (λ p. option_or (page_at own key) p)
        (sym (other_pages s act key no_put (λ touched. let same = own_touches own s t act key o free in
        cc (off, touched, same))))

-- a page that is with the driver gets other bytes
pub own_written : (own : Memory) (s t : State) (key : PageKey) (bytes : List ℕ) → IsWithPages own s t
    → IsSome (page_at own key) → IsWithPages (map.insert own key bytes) s (step t (Put key bytes))
own_written own s t key bytes o there = record {
  kept = o.kept;
  pages = λ q. by_key keys_total keys_exact q key (Same q)
      (λ is. subst Same (sym is) here)
      (λ differ. page_other t.memory key q bytes differ ∙ o.pages q
      ∙ ap (λ p. option_or p (page_at s.memory q)) (sym
      (get_other keys_total keys_exact own key q bytes differ)));
}
  where
    Same : PageKey → Type 0
    Same q = page_at (step t (Put key bytes)).memory q ≡ option_or (page_at (map.insert own key bytes) q)
        (page_at s.memory q)

    has : (old : Option (List ℕ)) → page_at own key ≡ old → IsSome old → HasPage t.memory key
    has None e is = absurd (cc is)
    has (Some old) e is = ap is_some (own_some own s t key old o e)

    here : Same key
    here = page_put t.memory key bytes (has (page_at own key) refl there)
        ∙ ap (λ p. option_or p (page_at s.memory key)) (sym (get_same keys_total keys_exact own key bytes))

-- it is lent: its bytes are put there
pub own_lent : (own : Memory) (s t : State) (key : PageKey) (bytes : List ℕ) → IsWithPages own s t
    → page_at own key ≡ Some bytes → HasPage s.memory key
    → IsWithPages (map.remove own key) (step s (Put key bytes)) t
own_lent own s t key bytes o there has = record {
  kept = o.kept;
  pages = λ q. by_key keys_total keys_exact q key (Same q)
      (λ is. subst Same (sym is) here)
      (λ differ. o.pages q
      ∙ (λ i. option_or (sym (get_kept keys_total keys_exact own key q differ) i)
      (sym (page_other s.memory key q bytes differ) i)));
}
  where
    Same : PageKey → Type 0
    Same q = page_at t.memory q ≡ option_or (page_at (map.remove own key) q)
        (page_at (step s (Put key bytes)).memory q)

    here : Same key
    here = own_some own s t key bytes o there
        ∙ sym (page_put s.memory key bytes has)
        ∙ ap (λ p. option_or p (page_at (step s (Put key bytes)).memory key))
        (sym (get_removed keys_total keys_exact own key))

-- it is taken back, as the state has it
pub own_taken : (own : Memory) (s t : State) (key : PageKey) (bytes : List ℕ) → IsWithPages own s t
    → page_at own key ≡ None → page_at s.memory key ≡ Some bytes → IsWithPages (map.insert own key bytes) s t
own_taken own s t key bytes o away there = record {
  kept = o.kept;
  pages = λ q. by_key keys_total keys_exact q key (Same q)
      (λ is. subst Same (sym is) here)
      (λ differ. o.pages q ∙ ap (λ p. option_or p (page_at s.memory q))
      (sym (get_other keys_total keys_exact own key q bytes differ)));
}
  where
    Same : PageKey → Type 0
    Same q = page_at t.memory q ≡ option_or (page_at (map.insert own key bytes) q) (page_at s.memory q)

    here : Same key
    here = own_none own s t key o away ∙ there
        ∙ ap (λ p. option_or p (page_at s.memory key)) (sym (get_same keys_total keys_exact own key bytes))
