-- Which commands have a spelling.
use Rattle.std.specs.Prelude.{◌≡◌, ℕ, ◌*◌, ◌≤◌, length, FitsSigned}
use Rattle.std.specs.Int.{w32}
use Rattle.svga_cmd.specs.declared.blit.Blit.{Blit}
use Rattle.svga_cmd.specs.declared.command.Command.{Command}
use Rattle.svga_cmd.specs.declared.command.Command.TheVariants.{Update, Fence, DefineScreen, DestroyScreen, DefineGmrfb, BlitToScreen, BlitToGmrfb, DefineGmr2, RemapGmr2}
use Rattle.svga_cmd.specs.declared.constants.TheConstants.{MAX_REMAP_PAGES}
use Rattle.svga_cmd.specs.declared.remap.RemapData.{RemapData}
use Rattle.svga_cmd.specs.declared.remap.RemapData.TheVariants.{Ppn32, Ppn64, SinglePpn32, SinglePpn64, ViaGmr32, ViaGmr64}
use Rattle.svga_cmd.specs.declared.screen.ScreenDef.{ScreenDef}

-- a listed remap has a number for each page, of one word or of two
abbrev pub HasEntries : RemapData → ℕ → Type 0
HasEntries (Ppn32 list) pages = length list ≡ pages
HasEntries (Ppn64 list) pages = length list ≡ 2 * pages
HasEntries (SinglePpn32 page) pages = Unit {0}
HasEntries (SinglePpn64 low high) pages = Unit {0}
HasEntries (ViaGmr32 pointer) pages = Unit {0}
HasEntries (ViaGmr64 pointer) pages = Unit {0}

-- Each signed number is one of 32 bits, as in every value of the code: of others, two could have one word. A
-- number without a sign is its own word.
pub record HasSignedCorner (d : ScreenDef) : Type 0 where
  pub x : FitsSigned w32 d.x
  pub y : FitsSigned w32 d.y

pub record HasSignedNumbers (b : Blit) : Type 0 where
  pub x : FitsSigned w32 b.point.x
  pub y : FitsSigned w32 b.point.y
  pub left : FitsSigned w32 b.rect.left
  pub top : FitsSigned w32 b.rect.top
  pub right : FitsSigned w32 b.rect.right
  pub bottom : FitsSigned w32 b.rect.bottom

-- the command has a spelling
abbrev pub IsWellFormed : Command → Type 0
IsWellFormed (Update x y width height) = Unit {0}
IsWellFormed (Fence value) = Unit {0}
IsWellFormed (DefineScreen d) = HasSignedCorner d
IsWellFormed (DestroyScreen id) = Unit {0}
IsWellFormed (DefineGmrfb g) = Unit {0}
IsWellFormed (BlitToScreen b) = HasSignedNumbers b
IsWellFormed (BlitToGmrfb b) = HasSignedNumbers b
IsWellFormed (DefineGmr2 region pages) = Unit {0}
IsWellFormed (RemapGmr2 region offset pages entries) = (pages ≤ MAX_REMAP_PAGES) × HasEntries entries pages

-- entries that aren't listed
abbrev pub AreUnlisted : RemapData → Type 0
AreUnlisted (Ppn32 list) = ⊥
AreUnlisted (Ppn64 list) = ⊥
AreUnlisted (SinglePpn32 page) = Unit {0}
AreUnlisted (SinglePpn64 low high) = Unit {0}
AreUnlisted (ViaGmr32 pointer) = Unit {0}
AreUnlisted (ViaGmr64 pointer) = Unit {0}

-- a command that lists no pages, so that it has 12 words at most
abbrev pub IsShortCommand : Command → Type 0
IsShortCommand (Update x y width height) = Unit {0}
IsShortCommand (Fence value) = Unit {0}
IsShortCommand (DefineScreen d) = Unit {0}
IsShortCommand (DestroyScreen id) = Unit {0}
IsShortCommand (DefineGmrfb g) = Unit {0}
IsShortCommand (BlitToScreen b) = Unit {0}
IsShortCommand (BlitToGmrfb b) = Unit {0}
IsShortCommand (DefineGmr2 region pages) = Unit {0}
IsShortCommand (RemapGmr2 region offset pages entries) = AreUnlisted entries
