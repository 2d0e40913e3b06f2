use Rattle.svga_model.specs.ClientActs.{calls_of}
use Rattle.svga_pair.proofs.ActLaws.{IsOnTheWay}
use Rattle.svga_script.specs.Acts.{act_of}
use Rattle.svga_pair.specs.Waiting.{StepsOn}
use Rattle.svga_pair.proofs.acting.act_until.Given as goal

abbrev pub invariant-loop-k : goal.invariant-loop-k
invariant-loop-k g l =
    IsOnTheWay l.initial.driver (calls_of (act_of l.act)) l.k l.told l.driver
    × StepsOn g.W.Waiter.table g.W.Waiter.shows l.initial.waiter l.waiter
