use Rattle.std.proofs.Common.{arith}
use Rattle.svga_cmd.proofs.MemPagesLaws.{has_slot, slot_within, page_read}
use Rattle.svga_cmd.proofs.mem_pages.MemPagesPageStore.page.Goals as goal

pub slot-i-requires : goal.slot-i-requires
slot-i-requires c = has_slot _ _ _ c.self.view_is c.args.key c.requires

pub index-requires : goal.index-requires
index-requires c = omega (arith, slot_within _ _ _ c.self.view_is c.args.key c.requires c.slot-i.result c.slot-i.ensures, c.self.inside.pages.ok.0)

pub returns : goal.returns
returns c = page_read _ _ _ c.self.view_is c.args.key c.requires c.slot-i.result _ c.slot-i.ensures c.index.ensures
