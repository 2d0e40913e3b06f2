use Rattle.std.proofs.Common.{ap, sym, ◌∙◌, ◌==◌}
use Rattle.std.specs.List.{list_all}
use Rattle.svga.proofs.ReplayLaws.{grows-same, shown_bytes_of, shown_zeros}
use Rattle.svga_io.proofs.Chains.{Grows-nil}
use Rattle.svga_text.proofs.PassingLaws.{by_result, Writes-same}
use Rattle.svga.proofs.replay.write_page.Goals as goal

pub returns-then-are_zeros : goal.returns-then-are_zeros
returns-then-are_zeros g c = grows-same
    (shown_zeros c.args.pages.now c.args.key c.page-page.result.now c.page-page.ensures
    (sym (ap (list_all (λ byte. byte == 0)) c.bytes.ensures.bytes) ∙ sym c.are_zeros.ensures ∙ c.if-are_zeros.true))
    (Grows-nil c.args.sink.now)

pub returns-else-are_zeros : goal.returns-else-are_zeros
returns-else-are_zeros g c = Writes-same g.K.Sink.held g.K.Sink.faults _ _ c.page.result
    (shown_bytes_of c.args.pages.now c.args.key c.page-page.result.now c.page-page.ensures
    (sym (ap (list_all (λ byte. byte == 0)) c.bytes.ensures.bytes) ∙ sym c.are_zeros.ensures ∙ c.if-are_zeros.false))
    (by_result _ _ c.page.result c.page.ensures.ok c.page.ensures.fault)
