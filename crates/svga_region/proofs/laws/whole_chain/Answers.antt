use Rattle.svga_region.proofs.WholeLaws.{begins, finishes, goes, is_whole, wants_page}
use Rattle.svga_region.proofs.laws.whole_chain.Goals as goal

pub returns : goal.returns
returns c = record { start = begins; begun = wants_page; page = goes; whole = is_whole; finish = finishes }
