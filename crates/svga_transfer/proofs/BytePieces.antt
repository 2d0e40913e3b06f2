-- Bytes of a region that lie on one page.
use Rattle.std.proofs.Common.{◌≡◌, ℕ, ◌+◌, ◌/◌, ◌%◌, ◌<◌, ap, ◌∙◌, None, Some, option_map, slice_index_or, arith}
use Rattle.svga_cmd.specs.declared.page.PageKey.{PageKey}
use Rattle.svga_model.specs.RegionBytes.{byte_location, page_of_byte}
use Rattle.svga_model.specs.Regions.{Places}

-- a byte's page and its number there
place_of : (at k : ℕ) → at % 4096 + k < 4096 → ((at + k) / 4096 ≡ at / 4096) × ((at + k) % 4096 ≡ at % 4096 + k)
place_of at k l = (omega (arith, l), omega (arith, l))

-- where a byte lies on a page whose byte `at` is known
pub location : (places : Places) (at k : ℕ) (key : PageKey) → at % 4096 + k < 4096
    → page_of_byte places at ≡ Some key → byte_location places (at + k) ≡ Some (key, at % 4096 + k)
location places at k key l e =
    let same = place_of at k l in
    (λ i. option_map (λ key. (key, same.1 i)) (slice_index_or places (same.0 i) None))
    ∙ ap (option_map (λ key. (key, at % 4096 + k))) e
