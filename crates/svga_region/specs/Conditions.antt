-- What calls ask of their callers.
use Rattle.std.specs.Prelude.{◌≡◌, ◌<◌, ℕ, ⊤, IsSome, IsSomeAnd, None, Option, length}
use Rattle.svga_cmd.specs.declared.remap.RemapData.{RemapData}
use Rattle.svga_cmd.specs.declared.remap.RemapData.TheVariants.{Ppn32, Ppn64, SinglePpn32, SinglePpn64, ViaGmr32, ViaGmr64}
use Rattle.svga_model.specs.Regions.{Places}
use Rattle.svga_region.specs.RegionSet.{Chain}

-- the entries name their pages themselves
abbrev pub AreNamed : RemapData → Type 0
AreNamed (Ppn32 list) = ⊤
AreNamed (Ppn64 list) = ⊤
AreNamed (SinglePpn32 page) = ⊤
AreNamed (SinglePpn64 low high) = ⊤
AreNamed (ViaGmr32 pointer) = ⊥
AreNamed (ViaGmr64 pointer) = ⊥

-- the region is defined and has a place k
abbrev pub HasPlace : Option Places → ℕ → Type 0
HasPlace region k = IsSomeAnd region (λ places. k < length places)

-- a chain is begun and its end isn't read
abbrev pub IsChainBegun : Option Chain → Type 0
IsChainBegun chain = IsSomeAnd chain (λ c. IsSome c.wants)

-- a chain is begun and its end is read
abbrev pub IsChainWhole : Option Chain → Type 0
IsChainWhole chain = IsSomeAnd chain (λ c. c.wants ≡ None)
