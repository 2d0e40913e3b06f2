use Rattle.std.proofs.Common.{◌≡◌, ◌+◌, ◌∷◌, ◌++◌, [], arith, length, refl, sym, subst}
use Rattle.svga_cmd.specs.declared.ending.Ending.TheVariants.{Torn}
use Rattle.svga_decode.proofs.VisitLaws.{AreTaken-push, come_length, come_stands, command_come, refused_visit, torn_visit, whole_visit}
use Rattle.svga_decode.proofs.visiting.each_command.Goals as goal
use Rattle.svga_model.proofs.GrammarFronts.{HasCome-nil}
use Rattle.svga_model.specs.Endings.{IsEnding}
use Rattle.svga_model.specs.Sentences.{spelling_all}

pub loop-first-init : goal.loop-first-init
loop-first-init g c = ([], record { come = HasCome-nil; taken = (refl, refl); within = omega arith; can_take = c.requires.can })

pub returns-in-Refused-clause-ended : goal.returns-in-Refused-clause-ended
returns-in-Refused-clause-ended g c =
    let (cs, visiting) = c.loop-first.invariant in
    let next = c.in-Refused.ensures {u = tt} in
    (cs, refused_visit (g.W.Words.words c.args.words.now) c.loop-first.first c.in-Refused.word cs c.in-Refused.cause visiting.come next.0 next.1 next.2 next.3, visiting.taken)

pub returns-in-Torn-clause-ended : goal.returns-in-Torn-clause-ended
returns-in-Torn-clause-ended g c =
    let (cs, visiting) = c.loop-first.invariant in (
      cs,
      subst (λ n. IsEnding (g.W.Words.words c.args.words.now) cs (Torn n)) (sym c.count-count.ensures.count)
          (torn_visit (g.W.Words.words c.args.words.now) c.loop-first.first cs (omega (arith, c.count-count.ensures.count)) visiting.come (c.in-Torn.ensures {u = tt})),
      visiting.taken,
    )

pub returns-clause-ended : goal.returns-clause-ended
returns-clause-ended g c =
    let (cs, visiting) = c.loop-first.invariant in
    (cs, whole_visit (g.W.Words.words c.args.words.now) c.loop-first.first cs (omega (arith, c.count-count.ensures.count)) visiting.come, visiting.taken)

pub returns-in-Err-clause-stopped : goal.returns-in-Err-clause-stopped
returns-in-Err-clause-stopped g c =
    let (cs, visiting) = c.loop-first.invariant in
    let next = c.in-Whole.ensures {u = tt} in
    let (command, spells, stops) = (c.in-Err.ensures {u = tt}).stopped in
    let come = command_come (g.W.Words.words c.args.words.now) c.loop-first.first c.in-Whole.end cs command visiting.come (omega arith) spells in (
      cs,
      command,
      come_stands (g.W.Words.words c.args.words.now) c.in-Whole.end (cs ++ command ∷ []) come,
      c.loop-first.visitor,
      c.loop-first.on,
      visiting.taken,
      subst (λ n. g.V.Visitor.stops c.loop-first.visitor c.loop-first.on n command c.in-Err.stop c.visit.new.visitor c.visit.new.on)
          (come_length (g.W.Words.words c.args.words.now) c.loop-first.first cs visiting.within visiting.come) stops,
    )

pub loop-first-preserved : goal.loop-first-preserved
loop-first-preserved g c =
    let (cs, visiting) = c.loop-first.invariant in
    let next = c.in-Whole.ensures {u = tt} in
    let (command, spells, taken) = (c.in-Ok.ensures {u = tt}).taken in
    let behind = come_length (g.W.Words.words c.args.words.now) c.loop-first.first cs visiting.within visiting.come in (
      cs ++ command ∷ [],
      record {
        come = command_come (g.W.Words.words c.args.words.now) c.loop-first.first c.in-Whole.end cs command visiting.come (omega arith) spells;
        taken = AreTaken-push g.V.Visitor.takes c.args.visitor.now c.args.on.now 0 cs command c.loop-first.visitor c.loop-first.on c.visit.new.visitor c.visit.new.on visiting.taken
            (subst (λ n. g.V.Visitor.takes c.loop-first.visitor c.loop-first.on n command c.visit.new.visitor c.visit.new.on)
            (let e : c.loop-first.first ≡ 0 + length (spelling_all cs) = omega (arith, behind) in e) taken);
        within = next.1;
        can_take = (c.in-Ok.ensures {u = tt}).can;
      },
    )
