use Rattle.svga_pair.proofs.RaceSteps.{stops_for}
use Rattle.svga_pair.proofs.threads.drive.Goals as goal

pub returns-clause-driver : goal.returns-clause-driver
returns-clause-driver g c =
    let race = c.race_script-raced.ensures in
    stops_for _ _ _ _ _ c.requires.fresh race.client race.terms race.layout c.stop.ensures.stopped

pub returns-clause-shows : goal.returns-clause-shows
returns-clause-shows g c =
    λ first shown. c.stop.ensures.shows first (c.race_script-raced.ensures.shows first shown)
