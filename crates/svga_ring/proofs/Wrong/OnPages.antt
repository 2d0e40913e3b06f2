-- Steps of wrong ends on pages leave no sound state.
use Rattle.std.proofs.Common.{◌≡◌, ℕ, List, [], Bool, true, refl, sym, ◌∙◌, arith}
use Rattle.svga_cmd.specs.declared.page.PageKey.{PageKey}
use Rattle.svga_model.proofs.GrammarSpelled.{spelled_some}
use Rattle.svga_model.specs.Acts.{Act}
use Rattle.svga_model.specs.States.{State}
use Rattle.svga_ring.specs.Locations.{Location, held, location_word, out_with_device, views_say}
use Rattle.svga_ring.specs.Requests.{IsChainOut, Request}
use Rattle.svga_ring.specs.SoundPages.{TouchesInHand, by_chain, by_command}

-- a page whose word is that of one that is held is held
word_held : (p q : Location) → (views_say p).1 ≡ true → location_word p ≡ location_word q
    → (views_say q).1 ≡ true
word_held p held is e = refl
word_held p out_with_device is e = refl
word_held p q is e = absurd (grind (arith, is, e))

-- so where its word is as it was, it is held still
pub still_held : (p q : Location) (word was : ℕ) (holds left : Bool) → holds ≡ true → holds ≡ (views_say p).1
    → was ≡ location_word p → word ≡ was → word ≡ location_word q → left ≡ (views_say q).1 → left ≡ true
still_held p q word was holds left is held_is was_is same word_is left_is =
    left_is ∙ word_held p q (sym held_is ∙ is) (sym was_is ∙ sym same ∙ word_is)

-- where nothing was read and no chain is out, no act in hand touches a page
pub none_in_hand : {s : State} {acts : List Act} {done : ℕ} {request wanted : Request} {answered : ℕ}
    {key : PageKey}
    → (IsChainOut request answered → ⊥) → TouchesInHand s acts done [] request wanted answered key → ⊥
none_in_hand none (by_command c spells touched) = omega (arith, spelled_some c [] spells)
none_in_hand none (by_chain empty out loaded touched) = none out
