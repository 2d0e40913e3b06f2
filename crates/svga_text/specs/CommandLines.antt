-- The line of a listed command.
use Rattle.std.specs.Prelude.{ℕ, ◌+◌, ◌*◌, List, [], ◌∷◌, Option, Some, None, codes, map}
use Rattle.std.specs.Fmt.{decimal, signed_decimal}
use Rattle.svga_cmd.specs.Words.{struct_size}
use Rattle.svga_cmd.specs.declared.blit.Blit.{Blit}
use Rattle.svga_cmd.specs.declared.command.Command.{Command}
use Rattle.svga_cmd.specs.declared.command.Command.TheVariants.{Update, Fence, DefineScreen, DestroyScreen, DefineGmrfb, BlitToScreen, BlitToGmrfb, DefineGmr2, RemapGmr2}
use Rattle.svga_cmd.specs.declared.remap.RemapData.{RemapData}
use Rattle.svga_cmd.specs.declared.remap.RemapData.TheVariants.{Ppn32, Ppn64, SinglePpn32, SinglePpn64, ViaGmr32, ViaGmr64}
use Rattle.svga_cmd.specs.declared.screen.Backing.{Backing}
use Rattle.svga_text.specs.Lines.{line}
use Rattle.svga_text.specs.Names.{command_name, format_name, kind_name}

-- the number of 64 bits with this low word and this high word
abbrev pub wide : ℕ → ℕ → ℕ
wide low high = low + 4294967296 * high

-- low and high words in turn, as numbers
abbrev pub wide_numbers : List ℕ → List ℕ
wide_numbers (low ∷ high ∷ rest) = wide low high ∷ wide_numbers rest
wide_numbers rest = []

-- the numbers of a remap's entries: an entry of 64 bits is one number, a pointer is its region and its offset
abbrev pub entry_numbers : RemapData → List ℕ
entry_numbers (Ppn32 list) = list
entry_numbers (Ppn64 list) = wide_numbers list
entry_numbers (SinglePpn32 page) = page ∷ []
entry_numbers (SinglePpn64 low high) = wide low high ∷ []
entry_numbers (ViaGmr32 pointer) = pointer.region ∷ pointer.offset ∷ []
entry_numbers (ViaGmr64 pointer) = pointer.region ∷ pointer.offset ∷ []

abbrev pub backing_fields : Option Backing → List (List ℕ)
backing_fields None = []
backing_fields (Some b) = decimal b.region ∷ decimal b.offset ∷ decimal b.pitch ∷ decimal b.clones ∷ []

abbrev pub blit_fields : Blit → List (List ℕ)
blit_fields b = signed_decimal b.point.x ∷ signed_decimal b.point.y ∷ signed_decimal b.rect.left
    ∷ signed_decimal b.rect.top ∷ signed_decimal b.rect.right ∷ signed_decimal b.rect.bottom
    ∷ decimal b.screen ∷ []

-- the fields of a command in the order of its words, its id left out
abbrev pub command_fields : Command → List (List ℕ)
command_fields (Update x y width height) = decimal x ∷ decimal y ∷ decimal width ∷ decimal height ∷ []
command_fields (Fence value) = decimal value ∷ []
command_fields (DefineScreen d) = decimal (struct_size d.backing) ∷ decimal d.id ∷ decimal d.flags
    ∷ decimal d.width ∷ decimal d.height ∷ signed_decimal d.x ∷ signed_decimal d.y ∷ backing_fields d.backing
command_fields (DestroyScreen id) = decimal id ∷ []
command_fields (DefineGmrfb g) = decimal g.region ∷ decimal g.offset ∷ decimal g.pitch
    ∷ format_name g.format ∷ []
command_fields (BlitToScreen b) = blit_fields b
command_fields (BlitToGmrfb b) = blit_fields b
command_fields (DefineGmr2 region pages) = decimal region ∷ decimal pages ∷ []
command_fields (RemapGmr2 region offset pages entries) = decimal region ∷ decimal offset ∷ decimal pages
    ∷ kind_name entries ∷ map decimal (entry_numbers entries)

-- the line of a command whose first word has this number
abbrev pub command_line : ℕ → Command → List ℕ
command_line word c = line (codes "at") (decimal word ∷ command_name c ∷ command_fields c)
