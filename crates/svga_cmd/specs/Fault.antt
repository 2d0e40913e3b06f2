-- The numbers of faults.
use Rattle.std.specs.Prelude.{ℕ}
use Rattle.svga_cmd.specs.declared.fault.Fault.{Fault}
use Rattle.svga_cmd.specs.declared.fault.Fault.TheVariants.{NoRegion, RegionId, PlaceLimit, RangeBeyond, Unmapped, BadPage, NoGmrfb, NoScreen, ScreenId, ScreenSize, PixelBudget, NegativeSide, BeyondRegion, ChainEnd, ChainLimit}

-- the number of a fault
abbrev pub number_of : Fault → ℕ
number_of NoRegion = 1
number_of RegionId = 2
number_of PlaceLimit = 3
number_of RangeBeyond = 4
number_of Unmapped = 5
number_of BadPage = 6
number_of NoGmrfb = 7
number_of NoScreen = 8
number_of ScreenId = 9
number_of ScreenSize = 10
number_of PixelBudget = 11
number_of NegativeSide = 12
number_of BeyondRegion = 13
number_of ChainEnd = 14
number_of ChainLimit = 15
