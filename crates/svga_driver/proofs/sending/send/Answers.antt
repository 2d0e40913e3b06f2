use Rattle.std.proofs.Common.{arith}
use Rattle.svga_driver.proofs.SendLaws.{are_sent}
use Rattle.svga_driver.proofs.sending.send.Goals as goal

pub returns-in-Ok : goal.returns-in-Ok
returns-in-Ok c = λ command spells.
    are_sent c.args.end.now c.reserve.new.self c.put_words.new.end c.put_words-in-Ok.new.end c.commit.new.self
    c.args.front.now c.args.rest.now command _ c.in-Ok.field-0 c.requires.none_reserved c.requires.none_put
    (omega arith)
    c.in-Ok.ensures.1 c.in-Ok.ensures.2 c.put_words.ensures c.put_words-in-Ok.ensures
    (c.commit.ensures command) spells
