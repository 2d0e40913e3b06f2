use Rattle.std.proofs.Common.{refl, arith}
use Rattle.svga_cmd.proofs.MemPagesLaws.{has_slot, slot_within, page_read, page_written}
use Rattle.svga_cmd.proofs.mem_pages.MemPagesPageStore.page_mut.Goals as goal

pub slot-i-requires : goal.slot-i-requires
slot-i-requires c = has_slot _ _ _ c.self.view_is c.args.key c.requires

pub index_mut-requires : goal.index_mut-requires
index_mut-requires c = omega (arith, slot_within _ _ _ c.self.view_is c.args.key c.requires c.slot-i.result c.slot-i.ensures, c.self.inside.pages.ok.0)

pub returns : goal.returns
returns c = (
  (refl, λ w. page_written _ _ _ c.self.view_is c.args.key c.requires c.slot-i.result w c.slot-i.ensures),
  record { writes_back = tt; page = page_read _ _ _ c.self.view_is c.args.key c.requires c.slot-i.result _ c.slot-i.ensures c.index_mut.ensures.value },
)
