-- Puts of pages, each by itself.
use Rattle.std.proofs.Common.{◌≡◌, ◌≢◌, ℕ, List, Bool, true, false, cond, refl, sym, ap, subst, ◌∙◌, Some, None, is_some}
use Rattle.std.specs.FinMap as map
use Rattle.svga_cmd.specs.Pages.{Memory, page_at}
use Rattle.svga_cmd.specs.declared.page.PageKey.{PageKey}
use Rattle.svga_cmd.proofs.KeyLaws.{keys_total, keys_exact}
use Rattle.svga_cmd.proofs.Maps.{by_key, get_same, get_other}
use Rattle.svga_model.specs.Acts.{Put}
use Rattle.svga_model.specs.Faults.{fault_of}
use Rattle.svga_model.specs.Memories.{with_page}
use Rattle.svga_model.specs.States.{State}

-- a page that the memory has, put
pub with_page-has : (m : Memory) (key : PageKey) (bytes : List ℕ) → is_some (page_at m key) ≡ true → with_page m key bytes ≡ map.insert m key bytes
unfolding with_page
with_page-has m key bytes has = ap (λ b. cond b (map.insert m key bytes) m) has

-- a page that it lacks, put
pub with_page-lacks : (m : Memory) (key : PageKey) (bytes : List ℕ) → is_some (page_at m key) ≡ false → with_page m key bytes ≡ m
unfolding with_page
with_page-lacks m key bytes lacks = ap (λ b. cond b (map.insert m key bytes) m) lacks

-- the page that was put
pub page_put : (m : Memory) (key : PageKey) (bytes : List ℕ) → is_some (page_at m key) ≡ true → page_at (with_page m key bytes) key ≡ Some bytes
page_put m key bytes has = ap (λ n. page_at n key) (with_page-has m key bytes has) ∙ get_same keys_total keys_exact m key bytes

-- another page
pub page_other : (m : Memory) (key other : PageKey) (bytes : List ℕ) → other ≢ key → page_at (with_page m key bytes) other ≡ page_at m other
page_other m key other bytes ne = go (is_some (page_at m key)) refl where
  go : (b : Bool) → is_some (page_at m key) ≡ b → page_at (with_page m key bytes) other ≡ page_at m other
  go true has = ap (λ n. page_at n other) (with_page-has m key bytes has) ∙ get_other keys_total keys_exact m key other bytes ne
  go false lacks = ap (λ n. page_at n other) (with_page-lacks m key bytes lacks)

-- not there
pub lacking : (m : Memory) (key : PageKey) → (is_some (page_at m key) ≡ true → ⊥) → is_some (page_at m key) ≡ false
lacking m key away = go (is_some (page_at m key)) refl where
  go : (b : Bool) → is_some (page_at m key) ≡ b → b ≡ false
  go true e = absurd (away e)
  go false e = refl

-- no rule refuses a Put
pub put_admissible : (s : State) (key : PageKey) (bytes : List ℕ) → fault_of s (Put key bytes) ≡ None
unfolding fault_of
put_admissible s key bytes = refl

-- memories that have the same at a key have the same there after the same Put to both
pub with_page_agree : (m n : Memory) (key q : PageKey) (v w : List ℕ)
    → v ≡ w → page_at m q ≡ page_at n q → page_at (with_page m key v) q ≡ page_at (with_page n key w) q
with_page_agree m n key q v w bytes same =
    by_key keys_total keys_exact q key (page_at (with_page m key v) q ≡ page_at (with_page n key w) q)
    (λ is. subst (λ k. page_at (with_page m k v) q ≡ page_at (with_page n k w) q) is (here m n q v w bytes same))
    (λ ne. page_other m key q v ne ∙ (same ∙ sym (page_other n key q w ne)))
  where
    here : (m n : Memory) (q : PageKey) (v w : List ℕ) → v ≡ w → page_at m q ≡ page_at n q → page_at (with_page m q v) q ≡ page_at (with_page n q w) q
    here m n q v w bytes same = go (is_some (page_at m q)) refl where
      go : (b : Bool) → is_some (page_at m q) ≡ b → page_at (with_page m q v) q ≡ page_at (with_page n q w) q
      go true has = page_put m q v has ∙ ap Some bytes ∙ sym (page_put n q w (ap is_some (sym same) ∙ has))
      go false lacks =
          ap (λ memory. page_at memory q) (with_page-lacks m q v lacks)
          ∙ (same ∙ ap (λ memory. page_at memory q) (sym (with_page-lacks n q w (ap is_some (sym same) ∙ lacks))))
