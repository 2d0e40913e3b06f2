-- Which bytes of a region there are, and which of them a store has.
use Rattle.std.specs.Prelude.{◌≡◌, ℕ, ◌+◌, ◌<◌, ◌≤◌, slice_index_or, false, Option, None, IfSome, IsSomeAnd}
use Rattle.svga_cmd.specs.Pages.{HasPage, Memory}
use Rattle.svga_cmd.specs.declared.blit.Blit.{Blit}
use Rattle.svga_cmd.specs.declared.gmrfb.Gmrfb.{Gmrfb}
use Rattle.svga_cmd.specs.declared.screen.ScreenDef.{ScreenDef}
use Rattle.svga_model.specs.BlitEffects.{NewColours, blit_colour}
use Rattle.svga_model.specs.BlitFaults.{is_on_unmapped, is_outside, some_byte}
use Rattle.svga_model.specs.Memories.{region_byte}
use Rattle.svga_model.specs.RegionBytes.{page_of_byte}
use Rattle.svga_model.specs.Regions.{Places}
use Rattle.svga_region.specs.RegionSet.{RegionSet, places_in}

-- byte i lies on a page that the memory has
abbrev pub HasByte : Memory → Places → ℕ → Type 0
HasByte m places i = IsSomeAnd (page_of_byte places i) (HasPage m)

-- so does each of so many bytes from byte `from` on
abbrev pub HasBytes : Memory → Places → ℕ → ℕ → Type 0
HasBytes m places from count = (i : ℕ) → from ≤ i → i < from + count → HasByte m places i

-- the memory has the page of each mapped place
abbrev pub HasPages : Memory → Places → Type 0
HasPages m places = (k : ℕ) → IfSome (slice_index_or places k None) (HasPage m)

-- byte i of a region over this memory
abbrev pub byte_in : Memory → RegionSet → ℕ → ℕ → ℕ
byte_in m regions id = region_byte m (places_in regions id)

-- the colour that a blit of a GMRFB over this memory gives a pixel
abbrev pub blit_colour_in : Memory → RegionSet → Gmrfb → Blit → NewColours
blit_colour_in m regions g b = blit_colour (byte_in m regions g.region) g b

-- each byte of the blit's pixels is one of the region's, and lies on a mapped place
pub record AreMapped (definitions : ℕ → Option ScreenDef) (g : Gmrfb) (b : Blit)
    (places : Places) : Type 0 where
  pub mapped : some_byte definitions g b (is_on_unmapped places) ≡ false
  pub within : some_byte definitions g b (is_outside places) ≡ false
