use Rattle.std.proofs.Common.{arith, ◌≡◌, ◌+◌, ◌-◌, ◌++◌, [], ◌∷◌, ap, ◌∙◌, replicate}
use Rattle.svga_link.proofs.Opening.{first_words, words_opened}
use Rattle.svga_link.proofs.making.words.Goals as goal

pub returns : goal.returns
returns c =
    let k = c.args.session.now in
    let first : c.in_ok-words.words.items ≡ first_words k =
    c.in_ok-words.ensures.items ∙ (λ i. 1164 ∷ k.ring ∷ 1164 ∷ 1164 ∷ c.capabilities.ensures i ∷ 0 ∷ (k.first - 1) ∷ []) in
    let all : c.zeros-2.new.words.items ≡ ((c.in_ok-words.words.items ++ replicate 65529 0) ++ 1 ∷ []) ++ replicate (c.pages.result + 2) 0 =
    c.in_ok-zeros-2.ensures ∙ ap (λ l. l ++ replicate (c.pages.result + 2) 0) (c.in_ok-push.ensures.items ∙ ap (λ l. l ++ 1 ∷ []) c.in_ok-zeros.ensures) in
    all ∙ ap (λ l. ((l ++ replicate 65529 0) ++ 1 ∷ []) ++ replicate (c.pages.result + 2) 0) first ∙ words_opened k 65529 (c.pages.result + 2) (omega arith) (omega (arith, c.pages.ensures))
