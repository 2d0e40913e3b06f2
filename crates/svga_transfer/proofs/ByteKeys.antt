-- Writing keeps which pages a memory has.
use Rattle.std.proofs.Common.{◌≡◌, ◌∙◌, ℕ, List, IfSome, IsSomeAnd, None, Option, Some, slice_index_or, subst, sym}
use Rattle.svga_cmd.specs.Pages.{HasPage, Memory}
use Rattle.svga_cmd.specs.declared.page.PageKey.{PageKey}
use Rattle.svga_model.proofs.ValidMemory.{same_keys_written}
use Rattle.svga_model.specs.Memories.{ByteWrite, written}
use Rattle.svga_model.specs.RegionBytes.{page_of_byte}
use Rattle.svga_model.specs.Regions.{Places}
use Rattle.svga_transfer.specs.Reach.{HasByte, HasBytes, HasPages}

-- a page that is there is still there after writes
written_keeps : (places : Places) (m : Memory) (ws : List ByteWrite) (key : PageKey)
    → HasPage m key → HasPage (written places m ws) key
written_keeps places m ws key has = same_keys_written places m ws key ∙ has

-- and so is the page of each byte that lay on one
pub written_bytes_keep : (places : Places) (m now : Memory) (ws : List ByteWrite) (from count : ℕ)
    → now ≡ written places m ws → HasBytes m places from count → HasBytes now places from count
written_bytes_keep places m now ws from count is has i low high =
    subst (λ n. HasByte n places i) (sym is) (go (page_of_byte places i) (has i low high))
  where
    go : (o : Option PageKey) → IsSomeAnd o (HasPage m) → IsSomeAnd o (HasPage (written places m ws))
    go None none = absurd none
    go (Some key) there = written_keeps places m ws key there

-- and the page of each mapped place
pub written_pages_keep : (places : Places) (m now : Memory) (ws : List ByteWrite) → now ≡ written places m ws
    → HasPages m places → HasPages now places
written_pages_keep places m now ws is has k =
    subst (λ n. IfSome (slice_index_or places k None) (HasPage n)) (sym is) (go (slice_index_or places k None) (has k))
  where
    go : (o : Option PageKey) → IfSome o (HasPage m) → IfSome o (HasPage (written places m ws))
    go None has = tt
    go (Some key) has = written_keeps places m ws key has
