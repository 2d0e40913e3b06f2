-- The rows of the area above this one are told.
use Rattle.svga_device.proofs.telling.tell_area.Given as goal
use Rattle.svga_device.specs.Telling.{IsRepaintedIn, ShowNext, with_rows}
use Rattle.svga_head.specs.Plugs.{plug_states}
use Rattle.svga_model.specs.Pictures.{pictures_of}
use Rattle.svga_model.specs.Screens.{Screens}

abbrev pub invariant-loop-y : goal.invariant-loop-y
invariant-loop-y g l = (before : Screens) (t : IsRepaintedIn l.area before l.screens.screens)
    → ShowNext (pictures_of before) (pictures_of (with_rows l.y l.area before l.screens.screens t))
    (plug_states g.B.Head.state l.initial.heads) (plug_states g.B.Head.state l.heads)
