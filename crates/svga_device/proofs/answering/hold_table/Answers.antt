use Rattle.std.proofs.Common.{sym, ap, ◌∙◌}
use Rattle.svga_cmd.specs.declared.page.PageKey.TheVariants.{Guest}
use Rattle.svga_link.specs.Ends.{DeviceSeen}
use Rattle.svga_ring.specs.Core.{chain_of}
use Rattle.svga_device.proofs.ChainLaws.{put_among}
use Rattle.svga_device.proofs.HeldLaws.{listed_more}
use Rattle.svga_device.proofs.NotedLaws.{holding_more, put_there}
use Rattle.svga_device.proofs.answering.hold_table.Goals as goal

pub hold-requires-clause-touched : goal.hold-requires-clause-touched
hold-requires-clause-touched c = (chain_of c.args.end.now.view.wanted, c.requires.in_hand, c.requires.touched)

pub returns-then-not-held-clause-holding : goal.returns-then-not-held-clause-holding
returns-then-not-held-clause-holding c = let t = c.hold.ensures in λ first h.
    holding_more first c.args.end.now.view c.hold.new.self.view c.args.end.now.pages c.hold.new.self.pages (Guest c.args.page) t.0 (sym c.if-not-held.ensures) (ap (λ (d : DeviceSeen). d.view) t.1) (ap (λ (d : DeviceSeen). d.pages) t.1) h

pub returns-then-not-held-clause-listed : goal.returns-then-not-held-clause-listed
returns-then-not-held-clause-listed c = let t = c.hold.ensures in
    listed_more c.args.end.now.view.terms.limits c.args.end.now.pages c.hold.new.self.pages c.args.held.now c.push.new.self (Guest c.args.page) t.0
    c.requires.key (ap (λ (d : DeviceSeen). d.pages) t.1) c.push.ensures

pub returns-then-not-held-clause-there : goal.returns-then-not-held-clause-there
returns-then-not-held-clause-there c = let t = c.hold.ensures in
    put_there c.args.end.now.pages c.hold.new.self.pages (Guest c.args.page) t.0 (ap (λ (d : DeviceSeen). d.pages) t.1)

pub returns-then-not-held-clause-among : goal.returns-then-not-held-clause-among
returns-then-not-held-clause-among c = let t = c.hold.ensures in
    put_among c.args.end.now.pages c.hold.new.self.pages (Guest c.args.page) t.0
    (sym (c.facts.ensures.held (Guest c.args.page)) ∙ sym c.if-not-held.ensures) (ap (λ (d : DeviceSeen). d.pages) t.1)

pub returns-else-not-held-clause-there : goal.returns-else-not-held-clause-there
returns-else-not-held-clause-there c = sym (c.facts.ensures.held (Guest c.args.page)) ∙ sym c.if-not-held.ensures
