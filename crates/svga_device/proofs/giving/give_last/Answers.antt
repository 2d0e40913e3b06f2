use Rattle.std.proofs.Common.{◌++◌, ◌∷◌, [], arith, length, length-append, ap, ◌∙◌}
use Rattle.std.specs.Option.{option_to_list}
use Rattle.svga_device.proofs.HeldLaws.{last_key, listed_less}
use Rattle.svga_device.proofs.giving.give_last.Goals as goal

pub give_page-requires : goal.give_page-requires
give_page-requires c = record {
  key = last_key c.args.end.now.view.terms.limits c.args.end.now.pages c.args.held.now c.pop.new.self c.in-Some.key
      (c.pop.ensures.last ∙ ap (λ o. c.pop.new.self ++ option_to_list o) c.in-Some.is) c.requires.listed;
}

pub returns-in-Some-clause-listed : goal.returns-in-Some-clause-listed
returns-in-Some-clause-listed c =
    listed_less c.args.end.now.view.terms.limits c.args.end.now.pages c.give_page.new.end.pages c.args.held.now c.pop.new.self c.in-Some.key
    (c.pop.ensures.last ∙ ap (λ o. c.pop.new.self ++ option_to_list o) c.in-Some.is)
    c.give_page.ensures.gone c.give_page.ensures.none c.requires.listed

pub returns-in-Some-clause-fewer : goal.returns-in-Some-clause-fewer
returns-in-Some-clause-fewer c =
    let all = ap length (c.pop.ensures.last ∙ ap (λ o. c.pop.new.self ++ option_to_list o) c.in-Some.is) in
    omega (arith, all, length-append c.pop.new.self (c.in-Some.key ∷ []))
