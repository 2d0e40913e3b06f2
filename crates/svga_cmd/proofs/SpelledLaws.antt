-- Reading undoes spelling, so a list of words spells one command.
use Rattle.std.proofs.Common.{◌≡◌, ℕ, ℤ, List, ◌∷◌, refl, ap, sym, ◌∙◌, Option, Some, None, w32}
use Rattle.std.proofs.lemmas.Int.{to_z-of_z}
use Rattle.std.specs.Int.{cast_signed}
use Rattle.std.specs.Prelude.{FitsSigned}
use Rattle.svga_cmd.specs.Spelled.{format_of, backing_in, blit_in, entries_in, command_in}
use Rattle.svga_cmd.specs.Spelling.{Spells, spelling}
use Rattle.svga_cmd.specs.WellFormed.{IsWellFormed, HasSignedNumbers}
use Rattle.svga_cmd.specs.Words.{word_of, format_word, blit_words, struct_size, backing_words, flags_of, entry_words}
use Rattle.svga_cmd.specs.declared.blit.Blit.{Blit}
use Rattle.svga_cmd.specs.declared.command.Command.{Command}
use Rattle.svga_cmd.specs.declared.command.Command.TheVariants.{Update, Fence, DefineScreen, DestroyScreen, DefineGmrfb, BlitToScreen, BlitToGmrfb, DefineGmr2, RemapGmr2}
use Rattle.svga_cmd.specs.declared.constants.TheConstants.{SVGA_CMD_BLIT_GMRFB_TO_SCREEN, SVGA_CMD_BLIT_SCREEN_TO_GMRFB, SVGA_CMD_DEFINE_SCREEN, SVGA_CMD_REMAP_GMR2}
use Rattle.svga_cmd.specs.declared.format.Format.{Format}
use Rattle.svga_cmd.specs.declared.format.Format.TheVariants.{Bgrx32, Bgr24, Rgb565, Rgb555}
use Rattle.svga_cmd.specs.declared.remap.RemapData.{RemapData}
use Rattle.svga_cmd.specs.declared.remap.RemapData.TheVariants.{Ppn32, Ppn64, SinglePpn32, SinglePpn64, ViaGmr32, ViaGmr64}
use Rattle.svga_cmd.specs.declared.screen.Backing.{Backing}

same_signed : (z : ℤ) → FitsSigned w32 z → cast_signed w32 (word_of z) ≡ z
same_signed z fits = to_z-of_z w32 z fits

format_of-format_word : (f : Format) → format_of (format_word f) ≡ f
format_of-format_word Bgrx32 = refl
format_of-format_word Bgr24 = refl
format_of-format_word Rgb565 = refl
format_of-format_word Rgb555 = refl

-- behind any id
blit_in-blit_words : (id : ℕ) (b : Blit) → HasSignedNumbers b → blit_in (id ∷ blit_words b) ≡ b
blit_in-blit_words id b fits = λ i. record {
  point = record { x = same_signed b.point.x fits.x i; y = same_signed b.point.y fits.y i };
  rect = record { left = same_signed b.rect.left fits.left i; top = same_signed b.rect.top fits.top i; right = same_signed b.rect.right fits.right i; bottom = same_signed b.rect.bottom fits.bottom i };
  screen = b.screen;
}

-- behind any words that come before a backing
backing_in-backing_words : (id a b c d x y : ℕ) (backing : Option Backing) → backing_in (id ∷ struct_size backing ∷ a ∷ b ∷ c ∷ d ∷ x ∷ y ∷ backing_words backing) ≡ backing
backing_in-backing_words id a b c d x y None = refl
backing_in-backing_words id a b c d x y (Some backing) = refl

-- behind any words that come before entries
entries_in-entry_words : (id region offset pages : ℕ) (entries : RemapData) → entries_in (id ∷ region ∷ flags_of entries ∷ offset ∷ pages ∷ entry_words entries) ≡ entries
entries_in-entry_words id region offset pages (Ppn32 list) = refl
entries_in-entry_words id region offset pages (Ppn64 list) = refl
entries_in-entry_words id region offset pages (SinglePpn32 page) = refl
entries_in-entry_words id region offset pages (SinglePpn64 low high) = refl
entries_in-entry_words id region offset pages (ViaGmr32 pointer) = refl
entries_in-entry_words id region offset pages (ViaGmr64 pointer) = refl

pub command_in-spelling : (c : Command) → IsWellFormed c → command_in (spelling c) ≡ c
command_in-spelling (Update x y width height) well = refl
command_in-spelling (Fence value) well = refl
command_in-spelling (DefineScreen d) well = λ i. DefineScreen (record {
  id = d.id;
  flags = d.flags;
  width = d.width;
  height = d.height;
  x = same_signed d.x well.x i;
  y = same_signed d.y well.y i;
  backing = backing_in-backing_words SVGA_CMD_DEFINE_SCREEN d.id d.flags d.width d.height (word_of d.x) (word_of d.y) d.backing i;
})
command_in-spelling (DestroyScreen id) well = refl
command_in-spelling (DefineGmrfb g) well = ap (λ f. DefineGmrfb (record { region = g.region; offset = g.offset; pitch = g.pitch; format = f })) (format_of-format_word g.format)
command_in-spelling (BlitToScreen b) well = ap BlitToScreen (blit_in-blit_words SVGA_CMD_BLIT_GMRFB_TO_SCREEN b well)
command_in-spelling (BlitToGmrfb b) well = ap BlitToGmrfb (blit_in-blit_words SVGA_CMD_BLIT_SCREEN_TO_GMRFB b well)
command_in-spelling (DefineGmr2 region pages) well = refl
command_in-spelling (RemapGmr2 region offset pages entries) well = ap (RemapGmr2 region offset pages) (entries_in-entry_words SVGA_CMD_REMAP_GMR2 region offset pages entries)

-- two commands with the same words are one
pub same_command : (c d : Command) (ws : List ℕ) → Spells c ws → Spells d ws → c ≡ d
same_command c d ws first second = sym (command_in-spelling c first.well_formed) ∙ ap command_in (sym first.words ∙ second.words) ∙ command_in-spelling d second.well_formed
