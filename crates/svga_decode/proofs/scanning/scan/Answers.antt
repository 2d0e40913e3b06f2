use Rattle.std.proofs.Common.{◌≡◌, ℕ, List, refl, subst}
use Rattle.svga_cmd.specs.declared.command.Command.{Command}
use Rattle.svga_cmd.specs.declared.ending.Ending.{Ending}
use Rattle.svga_decode.proofs.ScanLaws.{Counts, visited_counts}
use Rattle.svga_decode.proofs.scanning.scan.Goals as goal
use Rattle.svga_decode.specs.Scans.{AreCounted}
use Rattle.svga_decode.specs.Visits.{IsVisited}
use Rattle.svga_decode.specs.declared.scanning.Counted.{Counted}

-- what is counted of the words of the slice
of_slice : (given ws : List ℕ) (end : Ending) (w : Counted) (u : Unit {0}) → given ≡ ws → IsVisited Counts given (record { commands = 0; fence = 0; first = 0; end = 0 }) tt end w u
    → (cs : List Command) × AreCounted ws cs w end
of_slice given ws end w u is visited = subst (λ t. (cs : List Command) × AreCounted t cs w end) is (visited_counts given (record { commands = 0; fence = 0; first = 0; end = 0 }) tt end w u refl visited)

pub leave-requires-clause-counted : goal.leave-requires-clause-counted
leave-requires-clause-counted c = of_slice c.new.result.words.now c.args.words.now c.in-Ok.ending c.each_command.new.visitor c.each_command.new.on c.new.ensures (c.in-Ok.ensures {u = tt}).ended

pub returns : goal.returns
returns c =
    let (cs, counted) = of_slice c.new.result.words.now c.args.words.now c.in-Ok.ending c.each_command.new.visitor c.each_command.new.on c.new.ensures (c.in-Ok.ensures {u = tt}).ended in
    (cs, record { ending = counted.ending; commands = counted.commands; fence = counted.fence; decoder = c.leave.ensures cs counted })
