use Rattle.std.proofs.Common.{ap, sym, ◌∙◌}
use Rattle.svga_cmd.specs.declared.command.Command.TheVariants.{Fence}
use Rattle.svga_link.specs.Ends.{DriverSeen}
use Rattle.svga_device.proofs.tests.send_fence.Goals as goal

pub commit-requires-clause-full : goal.commit-requires-clause-full
commit-requires-clause-full c = c.requires.full

pub commit-requires-clause-may : goal.commit-requires-clause-may
commit-requires-clause-may c = (Fence 1, c.requires.may)

pub returns-clause-runs : goal.returns-clause-runs
returns-clause-runs c = ap (λ (d : DriverSeen). d.view.stopped) (c.commit.ensures (Fence 1) c.requires.may.spelled) ∙ c.requires.runs

pub returns-clause-none_open : goal.returns-clause-none_open
returns-clause-none_open c =
    let left = c.commit.ensures (Fence 1) c.requires.may.spelled in
    ap (λ (d : DriverSeen). d.view.request.number) left ∙ c.requires.none_open ∙ sym (ap (λ (d : DriverSeen). d.view.reply_loads.last) left)

pub returns-clause-none_begun : goal.returns-clause-none_begun
returns-clause-none_begun c = ap (λ (d : DriverSeen). d.reserved) (c.commit.ensures (Fence 1) c.requires.may.spelled)
