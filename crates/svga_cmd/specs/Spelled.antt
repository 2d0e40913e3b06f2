-- Spelling undone: the command that these words spell. What it gives for words that spell none is no answer.
use Rattle.std.specs.Prelude.{ℕ, ◌+◌, ℤ, List, if◌then◌else◌, ◌==◌, slice_index, drop, Option, Some, None}
use Rattle.std.specs.Int.{cast_signed, w32}
use Rattle.svga_cmd.specs.declared.blit.Blit.{Blit}
use Rattle.svga_cmd.specs.declared.command.Command.{Command}
use Rattle.svga_cmd.specs.declared.command.Command.TheVariants.{Update, Fence, DefineScreen, DestroyScreen, DefineGmrfb, BlitToScreen, BlitToGmrfb, DefineGmr2, RemapGmr2}
use Rattle.svga_cmd.specs.declared.constants.TheConstants.{BGR24_WORD, BGRX32_WORD, RGB565_WORD, SCREEN_SIZE, SVGA_CMD_BLIT_GMRFB_TO_SCREEN, SVGA_CMD_BLIT_SCREEN_TO_GMRFB, SVGA_CMD_DEFINE_GMR2, SVGA_CMD_DEFINE_GMRFB, SVGA_CMD_DEFINE_SCREEN, SVGA_CMD_DESTROY_SCREEN, SVGA_CMD_FENCE, SVGA_CMD_UPDATE, SVGA_REMAP_GMR2_PPN32, SVGA_REMAP_GMR2_PPN64, SVGA_REMAP_GMR2_SINGLE_PPN, SVGA_REMAP_GMR2_VIA_GMR}
use Rattle.svga_cmd.specs.declared.format.Format.{Format}
use Rattle.svga_cmd.specs.declared.format.Format.TheVariants.{Bgrx32, Bgr24, Rgb565, Rgb555}
use Rattle.svga_cmd.specs.declared.gmrfb.Gmrfb.{Gmrfb}
use Rattle.svga_cmd.specs.declared.gmrfb.GuestPtr.{GuestPtr}
use Rattle.svga_cmd.specs.declared.remap.RemapData.{RemapData}
use Rattle.svga_cmd.specs.declared.remap.RemapData.TheVariants.{Ppn32, Ppn64, SinglePpn32, SinglePpn64, ViaGmr32, ViaGmr64}
use Rattle.svga_cmd.specs.declared.screen.Backing.{Backing}
use Rattle.svga_cmd.specs.declared.screen.ScreenDef.{ScreenDef}

-- the word with this number
abbrev pub at : List ℕ → ℕ → ℕ
at ws i = slice_index ws i

-- the signed number in the word with this number
abbrev pub signed_at : List ℕ → ℕ → ℤ
signed_at ws i = cast_signed w32 (at ws i)

abbrev pub format_of : ℕ → Format
format_of w =
    if w == BGRX32_WORD then Bgrx32 else if w == BGR24_WORD then Bgr24 else
    if w == RGB565_WORD then Rgb565 else Rgb555

abbrev pub backing_in : List ℕ → Option Backing
backing_in ws =
    if at ws 1 == SCREEN_SIZE then None else
    Some (record { region = at ws 8; offset = at ws 9; pitch = at ws 10; clones = at ws 11 })

abbrev pub screen_in : List ℕ → ScreenDef
screen_in ws = record {
  id = at ws 2;
  flags = at ws 3;
  width = at ws 4;
  height = at ws 5;
  x = signed_at ws 6;
  y = signed_at ws 7;
  backing = backing_in ws;
}

abbrev pub gmrfb_in : List ℕ → Gmrfb
gmrfb_in ws = record { region = at ws 1; offset = at ws 2; pitch = at ws 3; format = format_of (at ws 4) }

abbrev pub blit_in : List ℕ → Blit
blit_in ws = record {
  point = record { x = signed_at ws 1; y = signed_at ws 2 };
  rect = record {
    left = signed_at ws 3;
    top = signed_at ws 4;
    right = signed_at ws 5;
    bottom = signed_at ws 6;
  };
  screen = at ws 7;
}

abbrev pub pointer_in : List ℕ → GuestPtr
pointer_in ws = record { region = at ws 5; offset = at ws 6 }

abbrev pub entries_in : List ℕ → RemapData
entries_in ws =
    if at ws 2 == SVGA_REMAP_GMR2_PPN32 then Ppn32 (drop 5 ws) else
    if at ws 2 == SVGA_REMAP_GMR2_VIA_GMR then ViaGmr32 (pointer_in ws) else
    if at ws 2 == SVGA_REMAP_GMR2_PPN64 then Ppn64 (drop 5 ws) else
    if at ws 2 == SVGA_REMAP_GMR2_VIA_GMR + SVGA_REMAP_GMR2_PPN64 then ViaGmr64 (pointer_in ws) else
    if at ws 2 == SVGA_REMAP_GMR2_SINGLE_PPN then SinglePpn32 (at ws 5) else
    SinglePpn64 (at ws 5) (at ws 6)

abbrev pub command_in : List ℕ → Command
command_in ws =
    if at ws 0 == SVGA_CMD_UPDATE then Update (at ws 1) (at ws 2) (at ws 3) (at ws 4) else
    if at ws 0 == SVGA_CMD_FENCE then Fence (at ws 1) else
    if at ws 0 == SVGA_CMD_DEFINE_SCREEN then DefineScreen (screen_in ws) else
    if at ws 0 == SVGA_CMD_DESTROY_SCREEN then DestroyScreen (at ws 1) else
    if at ws 0 == SVGA_CMD_DEFINE_GMRFB then DefineGmrfb (gmrfb_in ws) else
    if at ws 0 == SVGA_CMD_BLIT_GMRFB_TO_SCREEN then BlitToScreen (blit_in ws) else
    if at ws 0 == SVGA_CMD_BLIT_SCREEN_TO_GMRFB then BlitToGmrfb (blit_in ws) else
    if at ws 0 == SVGA_CMD_DEFINE_GMR2 then DefineGmr2 (at ws 1) (at ws 2) else
    RemapGmr2 (at ws 1) (at ws 3) (at ws 4) (entries_in ws)
