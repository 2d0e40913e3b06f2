use Rattle.std.proofs.Common.{ap, is_some}
use Rattle.svga_script.proofs.ReadingLaws.{as_first, judged}
use Rattle.svga_script.proofs.reading.Reading.read.Goals as goal

pub returns-in-None-clause-added : goal.returns-in-None-clause-added
returns-in-None-clause-added c =
    as_first _ c.args.line.now c.args.self.now c.open.new.self c.open.result c.in-None.is
    (judged _ _ c.args.line.now _ c.args.self.now c.open.new.self c.open.result c.in_ok-judge_characters.ensures.0 c.in_ok-judge_spaces.ensures.0 (ap is_some c.in-None.is) c.open.ensures.added)

pub returns-in-Some-clause-added : goal.returns-in-Some-clause-added
returns-in-Some-clause-added c =
    judged _ _ c.args.line.now _ c.args.self.now c.go_on.new.self c.go_on.result c.in_ok-judge_characters.ensures.0 c.in_ok-judge_spaces.ensures.0 (ap is_some c.in-Some.is) c.go_on.ensures.added
