-- Steps one after another.
use Rattle.std.specs.Prelude.{List, [], ◌∷◌}
use Rattle.svga_ring.specs.Conditions.{Can}
use Rattle.svga_ring.specs.Core.{Core, Event, after}

-- what a list of steps leaves
abbrev pub after_all : List Event → Core → Core
after_all [] c = c
after_all (event ∷ events) c = after_all events (after event c)

-- the condition of each of them holds in its turn
abbrev pub CanAll : List Event → Core → Type 0
CanAll [] c = Unit {0}
CanAll (event ∷ events) c = Can event c × CanAll events (after event c)
