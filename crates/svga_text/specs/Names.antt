-- The names that stand in texts.
use Rattle.std.specs.Prelude.{ℕ, List, codes}
use Rattle.svga_cmd.specs.declared.capture_cause.CaptureCause.{CaptureCause}
use Rattle.svga_cmd.specs.declared.capture_cause.CaptureCause.TheVariants as capture
use Rattle.svga_cmd.specs.declared.cause.Cause.{Cause}
use Rattle.svga_cmd.specs.declared.cause.Cause.TheVariants as cause
use Rattle.svga_cmd.specs.declared.command.Command.{Command}
use Rattle.svga_cmd.specs.declared.command.Command.TheVariants.{Update, Fence, DefineScreen, DestroyScreen, DefineGmrfb, BlitToScreen, BlitToGmrfb, DefineGmr2, RemapGmr2}
use Rattle.svga_cmd.specs.declared.fault.Fault.{Fault}
use Rattle.svga_cmd.specs.declared.fault.Fault.TheVariants as fault
use Rattle.svga_cmd.specs.declared.format.Format.{Format}
use Rattle.svga_cmd.specs.declared.format.Format.TheVariants.{Bgrx32, Bgr24, Rgb565, Rgb555}
use Rattle.svga_cmd.specs.declared.remap.RemapData.{RemapData}
use Rattle.svga_cmd.specs.declared.remap.RemapData.TheVariants.{Ppn32, Ppn64, SinglePpn32, SinglePpn64, ViaGmr32, ViaGmr64}

-- the name of a command
abbrev pub command_name : Command → List ℕ
command_name (Update x y width height) = codes "UPDATE"
command_name (Fence value) = codes "FENCE"
command_name (DefineScreen d) = codes "DEFINE_SCREEN"
command_name (DestroyScreen id) = codes "DESTROY_SCREEN"
command_name (DefineGmrfb g) = codes "DEFINE_GMRFB"
command_name (BlitToScreen b) = codes "BLIT_GMRFB_TO_SCREEN"
command_name (BlitToGmrfb b) = codes "BLIT_SCREEN_TO_GMRFB"
command_name (DefineGmr2 region pages) = codes "DEFINE_GMR2"
command_name (RemapGmr2 region offset pages entries) = codes "REMAP_GMR2"

-- a pixel format: its bits per pixel, and its colour depth
abbrev pub format_name : Format → List ℕ
format_name Bgrx32 = codes "32/24"
format_name Bgr24 = codes "24/24"
format_name Rgb565 = codes "16/16"
format_name Rgb555 = codes "16/15"

-- how a remap's entries are given, and how many bits each has
abbrev pub kind_name : RemapData → List ℕ
kind_name (Ppn32 list) = codes "ppn32"
kind_name (Ppn64 list) = codes "ppn64"
kind_name (SinglePpn32 page) = codes "single32"
kind_name (SinglePpn64 low high) = codes "single64"
kind_name (ViaGmr32 pointer) = codes "via32"
kind_name (ViaGmr64 pointer) = codes "via64"

-- why a word is refused
abbrev pub cause_name : Cause → List ℕ
cause_name cause.Unsupported = codes "Unsupported"
cause_name cause.ThreeD = codes "ThreeD"
cause_name cause.Escape = codes "Escape"
cause_name cause.Unknown = codes "Unknown"
cause_name cause.BadSize = codes "BadSize"
cause_name cause.BadFlags = codes "BadFlags"
cause_name cause.BadFormat = codes "BadFormat"
cause_name cause.TooManyPages = codes "TooManyPages"

-- why an act isn't admissible
abbrev pub fault_name : Fault → List ℕ
fault_name fault.NoRegion = codes "NoRegion"
fault_name fault.RegionId = codes "RegionId"
fault_name fault.PlaceLimit = codes "PlaceLimit"
fault_name fault.RangeBeyond = codes "RangeBeyond"
fault_name fault.Unmapped = codes "Unmapped"
fault_name fault.BadPage = codes "BadPage"
fault_name fault.NoGmrfb = codes "NoGmrfb"
fault_name fault.NoScreen = codes "NoScreen"
fault_name fault.ScreenId = codes "ScreenId"
fault_name fault.ScreenSize = codes "ScreenSize"
fault_name fault.PixelBudget = codes "PixelBudget"
fault_name fault.NegativeSide = codes "NegativeSide"
fault_name fault.BeyondRegion = codes "BeyondRegion"
fault_name fault.ChainEnd = codes "ChainEnd"
fault_name fault.ChainLimit = codes "ChainLimit"

-- why bytes are no capture
abbrev pub capture_cause_name : CaptureCause → List ℕ
capture_cause_name capture.Magic = codes "Magic"
capture_cause_name capture.Version = codes "Version"
capture_cause_name capture.Number = codes "Number"
capture_cause_name capture.Order = codes "Order"
capture_cause_name capture.Short = codes "Short"
capture_cause_name capture.Long = codes "Long"
