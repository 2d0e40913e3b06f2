use Rattle.std.proofs.Common.{sym, ap, ◌∙◌}
use Rattle.svga_cmd.proofs.KeyLaws.{keys_exact, keys_total}
use Rattle.svga_cmd.proofs.Maps.{get_removed}
use Rattle.svga_cmd.specs.Pages.{page_at}
use Rattle.svga_link.specs.Ends.{DeviceSeen}
use Rattle.svga_device.proofs.NotedLaws.{giving_more, gone_more, some_bytes}
use Rattle.svga_device.proofs.giving.give_page.Goals as goal

pub returns-then-held-clause-giving : goal.returns-then-held-clause-giving
returns-then-held-clause-giving c = λ first before g.
    let t = c.give.ensures in
    let held = sym c.if-held.ensures in
    let there = some_bytes (page_at c.args.end.now.pages c.args.key) (sym (c.facts.ensures.held c.args.key) ∙ held) in
    giving_more first c.args.end.now.view c.give.new.self.view before c.args.end.now.pages c.give.new.self.pages c.args.key _ held there
    (ap (λ (d : DeviceSeen). d.view) t) (ap (λ (d : DeviceSeen). d.pages) t) g

pub returns-then-held-clause-gone : goal.returns-then-held-clause-gone
returns-then-held-clause-gone c =
    ap (λ (d : DeviceSeen). page_at d.pages c.args.key) c.give.ensures ∙ get_removed keys_total keys_exact c.args.end.now.pages c.args.key

pub returns-then-held-clause-none : goal.returns-then-held-clause-none
returns-then-held-clause-none c = λ q none.
    gone_more c.args.end.now.pages c.give.new.self.pages c.args.key q (ap (λ (d : DeviceSeen). d.pages) c.give.ensures) none
