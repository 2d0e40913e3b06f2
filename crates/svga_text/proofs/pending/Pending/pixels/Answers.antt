use Rattle.std.proofs.Common.{◌∷◌, ◌++◌, ap, codes, refl, ◌∙◌}
use Rattle.std.specs.Fmt.{decimal}
use Rattle.svga_text.proofs.PassingLaws.{at_err, fault-first, fault-same, fault-then, Passes-same, Passes-then, PassesOn-same, PassesOn-then}
use Rattle.svga_text.specs.Hexadecimal.{hex_colour}
use Rattle.svga_text.proofs.pending.Pending.pixels.Goals as goal

pub returns-in_err-word : goal.returns-in_err-word
returns-in_err-word g c = at_err _ c.from_residual.result c.from_residual.ensures.0
    (fault-first c.args.self.now (32 ∷ decimal c.args.count ++ codes "*") (hex_colour c.args.colour)
    (fault-first c.args.self.now (32 ∷ decimal c.args.count) (codes "*")
    (fault-same (ap (λ word. c.args.self.now ++ 32 ∷ word) (c.as_bytes.ensures.value
    ∙ c.format.ensures.text)) (c.in_err-word.ensures {u = tt}))))

pub returns-in_err-text : goal.returns-in_err-text
returns-in_err-text g c = at_err _ c.from_residual-in_err-text.result c.from_residual-in_err-text.ensures.0
    (fault-first c.args.self.now (32 ∷ decimal c.args.count ++ codes "*") (hex_colour c.args.colour)
    (fault-then (codes "*") (Passes-same refl (ap (λ word. 32 ∷ word) (c.as_bytes.ensures.value
    ∙ c.format.ensures.text)) (c.in_ok-word.ensures {u = tt})) (c.in_err-text.ensures {u = tt})))

pub returns : goal.returns
returns g c = PassesOn-then _ _ (hex_colour c.args.colour) c.text-2.result
    (Passes-then (Passes-same refl (ap (λ word. 32 ∷ word) (c.as_bytes.ensures.value
    ∙ c.format.ensures.text)) (c.in_ok-word.ensures {u = tt})) (c.in_ok-text.ensures {u = tt}))
    (PassesOn-same g.K.Sink.held g.K.Sink.faults _ _ _ _ c.text-2.result c.digits_of_colour.ensures c.text-2.ensures)
