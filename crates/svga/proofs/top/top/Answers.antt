use Rattle.svga.proofs.RunLaws.{ended_of_plain}
use Rattle.svga.proofs.top.top.Goals as goal

pub returns-then-asks_for_race-clause-ended : goal.returns-then-asks_for_race-clause-ended
returns-then-asks_for_race-clause-ended g c =
    c.race_input.ensures.ended c.args.words.now (c.asks_for_race.ensures.0 c.if-asks_for_race.true)

pub returns-clause-ended : goal.returns-clause-ended
returns-clause-ended g c =
    ended_of_plain c.top_plain.result.status
    (λ asked. cc (c.asks_for_race.ensures.1 asked, c.if-asks_for_race.false)) c.top_plain.ensures.ended
