use Rattle.std.proofs.Common.{◌≡◌, true, IfSome, sym, ap, subst, ◌∙◌}
use Rattle.svga_cmd.specs.Lent.{command_of}
use Rattle.svga_cmd.specs.Pages.{HasPage, IsKey}
use Rattle.svga_model.specs.Acts.{Do}
use Rattle.svga_model.specs.Touches.{has_page, touched_places}
use Rattle.svga_link.specs.Ends.{DeviceSeen}
use Rattle.svga_ring.specs.Conditions.{read_command}
use Rattle.svga_device.proofs.HeldLaws.{listed_more}
use Rattle.svga_device.proofs.NotedLaws.{holding_more, put_more, put_there}
use Rattle.svga_device.proofs.holding.hold_place.Goals as goal

pub hold-requires-clause-touched : goal.hold-requires-clause-touched
hold-requires-clause-touched c =
    let command = command_of c.args.command.now in (
      Do command,
      read_command command c.requires.read,
      subst (λ o. IfSome o (λ key. has_page (touched_places c.args.end.now.view.kept command) key ≡ true)) c.in-Some.is c.requires.touched,
    )

pub returns-then-not-held-clause-holding : goal.returns-then-not-held-clause-holding
returns-then-not-held-clause-holding c = let t = c.hold.ensures in λ first h.
    holding_more first c.args.end.now.view c.hold.new.self.view c.args.end.now.pages c.hold.new.self.pages c.in-Some.key t.0 (sym c.if-not-held.ensures) (ap (λ (d : DeviceSeen). d.view) t.1) (ap (λ (d : DeviceSeen). d.pages) t.1) h

pub returns-then-not-held-clause-listed : goal.returns-then-not-held-clause-listed
returns-then-not-held-clause-listed c = let t = c.hold.ensures in
    let is_key = subst (λ o. IfSome o (IsKey c.args.end.now.view.terms.limits)) c.in-Some.is c.requires.key in
    listed_more c.args.end.now.view.terms.limits c.args.end.now.pages c.hold.new.self.pages c.args.held.now c.push.new.self c.in-Some.key t.0
    is_key (ap (λ (d : DeviceSeen). d.pages) t.1) c.push.ensures

pub returns-then-not-held-clause-there : goal.returns-then-not-held-clause-there
returns-then-not-held-clause-there c = let t = c.hold.ensures in
    subst (λ o. IfSome o (HasPage c.hold.new.self.pages)) (sym c.in-Some.is) (put_there c.args.end.now.pages c.hold.new.self.pages c.in-Some.key t.0 (ap (λ (d : DeviceSeen). d.pages) t.1))

pub returns-then-not-held-clause-more : goal.returns-then-not-held-clause-more
returns-then-not-held-clause-more c = let t = c.hold.ensures in
    λ q has. put_more c.args.end.now.pages c.hold.new.self.pages c.in-Some.key q t.0 (ap (λ (d : DeviceSeen). d.pages) t.1) has

pub returns-else-not-held-clause-there : goal.returns-else-not-held-clause-there
returns-else-not-held-clause-there c =
    subst (λ o. IfSome o (HasPage c.args.end.now.pages)) (sym c.in-Some.is) (sym (c.facts.ensures.held c.in-Some.key) ∙ sym c.if-not-held.ensures)
