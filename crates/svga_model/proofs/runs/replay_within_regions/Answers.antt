use Rattle.svga_model.proofs.ReplayLaws.{within_regions}
use Rattle.svga_model.proofs.runs.replay_within_regions.Goals as goal

pub returns : goal.returns
returns c = within_regions
