use Rattle.std.proofs.Common.{◌≡◌, ℕ, List, ap, subst, sym, ◌∙◌}
use Rattle.svga.proofs.ListingLaws.{Lists-fault, Lists-ok}
use Rattle.svga.specs.Prepared.{IsPrepared}
use Rattle.svga.specs.Texts.{end_text, fence_text}
use Rattle.svga.specs.declared.report.Report.{Report}
use Rattle.svga_cmd.specs.declared.command.Command.{Command}
use Rattle.svga_io.proofs.Chains.{Grows-then, GrowsByPrefix-first, GrowsByPrefix-then}
use Rattle.svga_io.specs.Growing.{Grows}
use Rattle.svga_model.specs.Endings.{IsFront, last_fence}
use Rattle.svga_text.proofs.PassingLaws.{at_err, fault-same, Writes-behind}
use Rattle.svga.proofs.report.write.Goals as goal

-- the commands of the report are those of the front of its words
front_of : (bytes ws : List ℕ) (cs : List Command) (r : Report) → IsPrepared bytes cs r → ws ≡ r.words.items → IsFront ws cs
front_of bytes ws cs r prepared is = subst (λ t. IsFront t cs) (sym prepared.words ∙ sym is) prepared.ending.ending.front

pub returns-in_err-list_commands : goal.returns-in_err-list_commands
returns-in_err-list_commands g c = λ bytes cs prepared. at_err _ c.from_residual.result c.from_residual.ensures.0
    (GrowsByPrefix-first (end_text c.args.report.now.ending) (GrowsByPrefix-first (fence_text (last_fence cs))
    (Lists-fault c.args.sink.now _ c.deref.result.now cs (front_of bytes c.deref.result.now cs c.args.report.now prepared c.deref.ensures.value) (c.in_err-list_commands.ensures {u = tt}))))

pub returns-in_err-line : goal.returns-in_err-line
returns-in_err-line g c = λ bytes cs prepared.
    let listed = Lists-ok c.args.sink.now _ c.deref.result.now cs (front_of bytes c.deref.result.now cs c.args.report.now prepared c.deref.ensures.value) (c.in_ok-list_commands.ensures {u = tt}) in
    at_err _ c.from_residual-in_err-line.result c.from_residual-in_err-line.ensures.0
    (GrowsByPrefix-first (end_text c.args.report.now.ending) (GrowsByPrefix-then listed (fault-same (ap fence_text prepared.fence) c.in_err-line.ensures.fault)))

pub returns : goal.returns
returns g c = λ bytes cs prepared.
    let listed = Lists-ok c.args.sink.now _ c.deref.result.now cs (front_of bytes c.deref.result.now cs c.args.report.now prepared c.deref.ensures.value) (c.in_ok-list_commands.ensures {u = tt}) in
    Writes-behind g.K.Sink.held g.K.Sink.faults _ _ c.write_end.result (Grows-then listed (subst (Grows g.K.Sink.held g.K.Sink.faults c.list_commands.new.sink c.line.new.sink) (ap fence_text prepared.fence) c.in_ok-line.ensures.ok)) c.write_end.ensures
