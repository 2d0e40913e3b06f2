-- The law over every list of steps.
use Rattle.std.proofs.Common.{subst, sym}
use Rattle.svga_ring.proofs.Steps.Joining.{all_taken_kept, all_taken_page}
use Rattle.svga_ring.proofs.Steps.Each.{list_sound}
use Rattle.svga_ring.specs.Sound.{IsSound}
use Rattle.svga_ring.proofs.two_parties.two_party_law.Goals as goal

pub returns-clause-sound : goal.returns-clause-sound
returns-clause-sound c = list_sound

pub returns-clause-taken : goal.returns-clause-taken
returns-clause-taken c = λ k events core can is.
    let sound = subst (IsSound k) (sym is) (list_sound k events can) in sound.of_words.order.taken_whole

pub returns-clause-kept : goal.returns-clause-kept
returns-clause-kept c = λ k events core can is.
    all_taken_kept k core (subst (IsSound k) (sym is) (list_sound k events can))

pub returns-clause-pages : goal.returns-clause-pages
returns-clause-pages c = λ k events core key can is.
    all_taken_page k core key (subst (IsSound k) (sym is) (list_sound k events can))
