use Rattle.svga_device.proofs.TellingShown.{nothing_yet}
use Rattle.svga_device.proofs.telling_tests.draw.Goals as goal
use Rattle.svga_head.specs.Plugs.{plug_states}

pub run-requires-clause-showing : goal.run-requires-clause-showing
run-requires-clause-showing g c = (
  plug_states g.B.Head.state c.args.heads.now,
  nothing_yet c.in_ok-display.display.kept.screens (plug_states g.B.Head.state c.args.heads.now) c.in_ok-display.ensures,
)
