use Rattle.std.proofs.Common.{refl, rules}
use Rattle.svga_pair.proofs.FreshLaws.{fresh_so}
use Rattle.svga_pair.proofs.tests.opened.Goals as goal

pub new-requires-4 : goal.new-requires-4
new-requires-4 g c = record { unused = (c.session-session.result.now, refl, search rules) }

pub returns : goal.returns
returns g c = fresh_so c.args.script.now.session c.session-session.result.now c.expect-driver.result.0
    c.session-session.ensures (search rules) (search rules) (search rules)
