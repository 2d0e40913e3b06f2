-- NEXT_CMD is stored at most as often as there are words that are sent.
use Rattle.std.proofs.Common.{◌≡◌, ◌<◌, ◌≤◌, ◌^◌, List, [], ◌∷◌, length, length-append, refl, ap, subst, ◌∙◌, arith}
use Rattle.svga_cmd.specs.Spelling.{spelling}
use Rattle.svga_cmd.specs.declared.command.Command.{Command}
use Rattle.svga_cmd.specs.declared.command.Command.TheVariants.{BlitToGmrfb, BlitToScreen, DefineGmr2, DefineGmrfb, DefineScreen, DestroyScreen, Fence, RemapGmr2, Update}
use Rattle.svga_cmd.specs.declared.session.Way.{Way}
use Rattle.svga_cmd.specs.declared.session.Way.TheVariants.{Dword, Reserve}
use Rattle.svga_model.specs.Sentences.{spelling_all}
use Rattle.svga_ring.specs.Committed.{commands}
use Rattle.svga_ring.specs.Views.{DriverView}
use Rattle.svga_link.specs.Seats.{IsDriverPossible}

-- each command has a word at least
some_word : (c : Command) → 0 < length (spelling c)
some_word (Update x y width height) = omega arith
some_word (Fence value) = omega arith
some_word (DefineScreen d) = omega arith
some_word (DestroyScreen id) = omega arith
some_word (DefineGmrfb g) = omega arith
some_word (BlitToScreen b) = omega arith
some_word (BlitToGmrfb b) = omega arith
some_word (DefineGmr2 region pages) = omega arith
some_word (RemapGmr2 region offset pages entries) = omega arith

each_spelled : (cs : List Command) → length cs ≤ length (spelling_all cs)
each_spelled [] = omega arith
each_spelled (c ∷ cs) =
    omega (arith, each_spelled cs, some_word c, length-append (spelling c) (spelling_all cs))

pub few_stores : (d : DriverView) → IsDriverPossible d → d.next_stores ≤ 2 ^ 62
few_stores d is = subst (λ (x : DriverView). x.next_stores ≤ 2 ^ 62) is.view_is (go is.core.driver.terms.way refl) where
  go : (way : Way) → is.core.driver.terms.way ≡ way → is.core.driver.next_stores ≤ 2 ^ 62
  go Reserve e =
      let o = is.sound.of_words in
      let count = is.sound.reserving.stores_by_command e in
      let none = o.order.rest_by_dword e in
      let spelled = ap length o.order.acts_spelled ∙ length-append is.core.driver.sent o.order.rest in
      omega (arith, count, spelled, ap length none, o.ring.short, each_spelled (commands is.core.driver.acts))
  go Dword e = omega (arith, is.sound.reserving.stores_by_dword e, is.sound.of_words.ring.short)
