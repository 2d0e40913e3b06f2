-- A lent command means the command with the same fields, whose list is the one that is lent. What is said of
-- a `CommandRef` is said of that command.
use Rattle.svga_cmd.specs.declared.command.Command.{Command}
use Rattle.svga_cmd.specs.declared.command.Command.TheVariants.{Update, Fence, DefineScreen, DestroyScreen, DefineGmrfb, BlitToScreen, BlitToGmrfb, DefineGmr2, RemapGmr2}
use Rattle.svga_cmd.specs.declared.command.CommandRef.{CommandRef}
use Rattle.svga_cmd.specs.declared.command.CommandRef.TheVariants as lent
use Rattle.svga_cmd.specs.declared.remap.EntriesRef.{EntriesRef}
use Rattle.svga_cmd.specs.declared.remap.EntriesRef.TheVariants as lent_entries
use Rattle.svga_cmd.specs.declared.remap.RemapData.{RemapData}
use Rattle.svga_cmd.specs.declared.remap.RemapData.TheVariants.{Ppn32, Ppn64, SinglePpn32, SinglePpn64, ViaGmr32, ViaGmr64}

-- the entries that are lent
abbrev pub entries_of : EntriesRef → RemapData
entries_of (lent_entries.Ppn32 list) = Ppn32 list.now
entries_of (lent_entries.Ppn64 list) = Ppn64 list.now
entries_of (lent_entries.SinglePpn32 page) = SinglePpn32 page
entries_of (lent_entries.SinglePpn64 low high) = SinglePpn64 low high
entries_of (lent_entries.ViaGmr32 pointer) = ViaGmr32 pointer
entries_of (lent_entries.ViaGmr64 pointer) = ViaGmr64 pointer

-- the command that is lent
abbrev pub command_of : CommandRef → Command
command_of (lent.Update x y width height) = Update x y width height
command_of (lent.Fence value) = Fence value
command_of (lent.DefineScreen d) = DefineScreen d
command_of (lent.DestroyScreen id) = DestroyScreen id
command_of (lent.DefineGmrfb g) = DefineGmrfb g
command_of (lent.BlitToScreen b) = BlitToScreen b
command_of (lent.BlitToGmrfb b) = BlitToGmrfb b
command_of (lent.DefineGmr2 region pages) = DefineGmr2 region pages
command_of (lent.RemapGmr2 region offset pages entries) = RemapGmr2 region offset pages (entries_of entries)
