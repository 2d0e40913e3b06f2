-- What the steps of the joined seat tell it.
use Rattle.std.specs.Prelude.{ℕ, ◌-◌}
use Rattle.svga_cmd.specs.declared.session.Session.{Session}
use Rattle.svga_link.specs.Closing.{slot_key}
use Rattle.svga_link.specs.Plays.{Told}
use Rattle.svga_ring.specs.Core.{TakeJoined}
use Rattle.svga_ring.specs.SharedTable.{first_page_word}
use Rattle.svga_ring.specs.TableSteps.{JoinedLearns, JoinedLooks}

-- it looks at a word
abbrev pub looked : Told
looked step me found left = (k : Session) × JoinedLooks k me step.word found left

-- it takes the page of this word
abbrev pub taken_home : Told
taken_home step me value left = (k : Session) × (found : ℕ)
    × JoinedLearns k me (TakeJoined (slot_key me.0.of_driver.terms.limits (step.word - first_page_word))) found left
