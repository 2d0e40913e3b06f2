use Rattle.std.proofs.Common.{subst}
use Rattle.svga_driver.proofs.DeviceLaws.{chain_served}
use Rattle.svga_link.specs.Holding.{RequestTold}
use Rattle.svga_driver.proofs.device_tests.answer_request.Goals as goal

pub reply-requires-clause-served : goal.reply-requires-clause-served
reply-requires-clause-served g c =
    chain_served c.args.device.now.view c.read_request.new.self.view c.in-Some.request c.requires.none_noted
    (subst (RequestTold c.args.device.now.view c.read_request.new.self.view) c.in-Some.is
    c.read_request.ensures.told) c.if-request-ne0.false
