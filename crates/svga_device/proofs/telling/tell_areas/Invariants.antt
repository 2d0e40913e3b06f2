-- The areas before this one are told.
use Rattle.svga_device.proofs.TellingAreas.{AreTold}
use Rattle.svga_device.proofs.telling.tell_areas.Given as goal
use Rattle.svga_device.specs.Telling.{AreRepaintedIn, ShowNext}
use Rattle.svga_head.specs.Plugs.{plug_states}
use Rattle.svga_model.specs.Pictures.{pictures_of}
use Rattle.svga_model.specs.Screens.{Screens}

abbrev pub invariant-loop-area : goal.invariant-loop-area
invariant-loop-area g l = (before : Screens) (r : AreRepaintedIn l.areas before l.screens.screens)
    → (now : Screens) × AreTold l.areas before l.screens.screens r l.area-index now
    × ShowNext (pictures_of before) (pictures_of now)
    (plug_states g.B.Head.state l.initial.heads) (plug_states g.B.Head.state l.heads)
