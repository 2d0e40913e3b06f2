use Rattle.std.proofs.Common.{◌+◌, ◌∙◌, ap, subst, sym, replicate}
use Rattle.svga_cmd.specs.Pages.{IsZeroMemoryOf}
use Rattle.svga_cmd.specs.Slots.{memory_of}
use Rattle.svga_cmd.specs.declared.constants.TheConstants.{PAGE_SIZE}
use Rattle.svga_cmd.proofs.MemPagesLaws.{zero_memory}
use Rattle.svga_cmd.proofs.mem_pages.MemPages.new.Goals as goal

pub returns : goal.returns
returns c = let l = c.args.limits in subst (λ pages. IsZeroMemoryOf l (memory_of l.pages pages))
    (sym (c.in_ok-pages.ensures {u = tt} ∙ ap (λ frames. replicate (l.pages + frames) (replicate PAGE_SIZE 0)) c.frame_pages.ensures))
    (zero_memory l)
