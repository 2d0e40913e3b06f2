-- What a Put and the writes of a region's bytes do to a memory's pages.
use Rattle.std.proofs.Common.{◌≡◌, ◌≢◌, ℕ, refl, sym, ap, subst, ◌∙◌, List, [], ◌∷◌, Bool, true, false, cond, Option, Some, None, is_some, slice_set, unwrap_or}
use Rattle.std.specs.FinMap as map
use Rattle.svga_cmd.specs.declared.page.PageKey.{PageKey}
use Rattle.svga_cmd.specs.Pages.{Memory, page_at}
use Rattle.svga_cmd.proofs.KeyLaws.{keys_total, keys_exact}
use Rattle.svga_cmd.proofs.Maps.{insert_comm}
use Rattle.svga_model.specs.Memories.{ByteWrite, page_bytes, with_byte, with_page, written}
use Rattle.svga_model.specs.RegionBytes.{byte_location}
use Rattle.svga_model.specs.Regions.{Places}
use Rattle.svga_model.specs.Touches.{has_page}
use Rattle.svga_model.proofs.PutLaws.{page_other, with_page_agree}
use Rattle.svga_model.proofs.TouchPages.{SameOn, has_byte}

-- the memory with other bytes of a page, if it has the page
abbrev put_if : Bool → Memory → PageKey → List ℕ → Memory
put_if has m key bytes = cond has (map.insert m key bytes) m

-- Puts of two pages change places
with_page_comm : (m : Memory) (k l : PageKey) (v w : List ℕ)
    → k ≢ l → with_page (with_page m k v) l w ≡ with_page (with_page m l w) k v
unfolding with_page
with_page_comm m k l v w ne =
    ap (λ o. put_if (is_some o) (with_page m k v) l w) (page_other m k l v (λ e. ne (sym e)))
    ∙ (go (is_some (page_at m k)) (is_some (page_at m l))
    ∙ ap (λ o. put_if (is_some o) (with_page m l w) k v) (sym (page_other m l k w ne)))
  where
    go : (b c : Bool) → put_if c (put_if b m k v) l w ≡ put_if b (put_if c m l w) k v
    go true true = insert_comm keys_total keys_exact m k l v w ne
    go true false = refl
    go false c = refl

-- a byte of a region doesn't lie on a page that the region lacks
not_there : (places : Places) (q : PageKey) → (has_page places q ≡ true → ⊥)
    → (i : ℕ) (at : PageKey × ℕ) → byte_location places i ≡ Some at → q ≢ at.0
not_there places q off i at e is = off (subst (λ k. has_page places k ≡ true) (sym is) (has_byte places i at e))

-- a written byte leaves the pages that it isn't on
byte_other : (m : Memory) (o : Option (PageKey × ℕ)) (byte : ℕ) (q : PageKey)
    → ((at : PageKey × ℕ) → o ≡ Some at → q ≢ at.0)
    → page_at (with_byte m o byte) q ≡ page_at m q
byte_other m None byte q off = refl
byte_other m (Some at) byte q off =
    page_other m at.0 q (slice_set (page_bytes m at.0) at.1 byte) (off at refl)

-- written bytes leave the pages that aren't their region's
pub written_other : (places : Places) (m : Memory) (ws : List ByteWrite) (q : PageKey)
    → (has_page places q ≡ true → ⊥) → page_at (written places m ws) q ≡ page_at m q
written_other places m [] q off = refl
written_other places m (w ∷ ws) q off =
    written_other places (with_byte m (byte_location places w.at) w.byte) ws q off
    ∙ byte_other m (byte_location places w.at) w.byte q (not_there places q off w.at)

-- a byte that is written to two memories with the same on its page leaves what they have in common
byte_agree : (m n : Memory) (o : Option (PageKey × ℕ)) (byte : ℕ) (q : PageKey)
    → ((at : PageKey × ℕ) → o ≡ Some at → page_at m at.0 ≡ page_at n at.0) → page_at m q ≡ page_at n q
    → page_at (with_byte m o byte) q ≡ page_at (with_byte n o byte) q
byte_agree m n None byte q there same = same
byte_agree m n (Some at) byte q there same = with_page_agree m n at.0 q
    (slice_set (page_bytes m at.0) at.1 byte) (slice_set (page_bytes n at.0) at.1 byte)
    (ap (λ p. slice_set (unwrap_or p []) at.1 byte) (there at refl)) same

-- memories with the same on a region's pages have the same there after the same writes to the region
pub written_agree : (places : Places) (m n : Memory) (ws : List ByteWrite)
    → SameOn places m n → SameOn places (written places m ws) (written places n ws)
written_agree places m n [] same = same
written_agree places m n (w ∷ ws) same =
    let o = byte_location places w.at in
    written_agree places (with_byte m o w.byte) (with_byte n o w.byte) ws
    (λ q has. byte_agree m n o w.byte q (λ at e. same at.0 (has_byte places w.at at e)) (same q has))

-- a written byte changes places with a Put of another page
byte_put : (m : Memory) (o : Option (PageKey × ℕ)) (byte : ℕ) (key : PageKey) (bytes : List ℕ)
    → ((at : PageKey × ℕ) → o ≡ Some at → key ≢ at.0)
    → with_byte (with_page m key bytes) o byte ≡ with_page (with_byte m o byte) key bytes
byte_put m None byte key bytes off = refl
byte_put m (Some at) byte key bytes off =
    ap (λ p. with_page (with_page m key bytes) at.0 (slice_set (unwrap_or p []) at.1 byte))
    (page_other m key at.0 bytes (λ e. off at refl (sym e)))
    ∙ with_page_comm m key at.0 bytes (slice_set (page_bytes m at.0) at.1 byte) (off at refl)

-- written bytes change places with a Put of a page that isn't their region's
pub written_put : (places : Places) (m : Memory) (ws : List ByteWrite) (key : PageKey) (bytes : List ℕ)
    → (has_page places key ≡ true → ⊥)
    → written places (with_page m key bytes) ws ≡ with_page (written places m ws) key bytes
written_put places m [] key bytes off = refl
written_put places m (w ∷ ws) key bytes off =
    let o = byte_location places w.at in
    ap (λ n. written places n ws) (byte_put m o w.byte key bytes (not_there places key off w.at))
    ∙ written_put places (with_byte m o w.byte) ws key bytes off
