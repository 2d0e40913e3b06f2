use Rattle.std.proofs.Common.{◌+◌, ◌<◌, ◌++◌, ◌∙◌, ap, refl, arith}
use Rattle.std.proofs.lemmas.List.Elements.{All-set}
use Rattle.svga_model.specs.Walks.{is_good_run, run_pages}
use Rattle.svga_region.specs.Kept.{IsShortRun, as_descriptor, chain_of}
use Rattle.svga_region.proofs.PutLaws.{kept_pages-set}
use Rattle.svga_region.proofs.TableLaws.{fails_on_page, fails_in_runs, fails_run, fails_link, fails_at_link, ends, goes}
use Rattle.svga_region.proofs.table.read_table.Goals as goal

pub returns-then-taken-eq-TABLE_PAIRS-clause-answer : goal.returns-then-taken-eq-TABLE_PAIRS-clause-answer
returns-then-taken-eq-TABLE_PAIRS-clause-answer c = λ p tables wants same.
    fails_on_page c.args.guest tables p (chain_of c.args.runs.now c.args.reading) c.args.bytes.now c.take_runs-taken.result wants same c.requires.few c.take_runs-taken.ensures.good c.if-taken-eq-TABLE_PAIRS.true c.take_runs-taken.ensures.fits

pub returns-then-count-eq-MAX_DESCRIPTORS-clause-answer : goal.returns-then-count-eq-MAX_DESCRIPTORS-clause-answer
returns-then-count-eq-MAX_DESCRIPTORS-clause-answer c = λ p tables wants same.
    fails_in_runs c.args.guest tables p (chain_of c.args.runs.now c.args.reading) c.args.bytes.now c.take_runs-taken.result wants same c.requires.few c.take_runs-taken.ensures.good (omega arith) c.if-count-eq-MAX_DESCRIPTORS.true

pub returns-then-last-gt0-clause-answer : goal.returns-then-last-gt0-clause-answer
returns-then-last-gt0-clause-answer c = λ p tables wants same.
    let room : c.args.reading.count + c.take_runs-taken.result < 4096 = omega arith in
    let short : c.take_runs-taken.result < 512 = omega arith in
    fails_run c.args.guest tables p (chain_of c.args.runs.now c.args.reading) c.args.bytes.now c.take_runs-taken.result wants same c.requires.few c.take_runs-taken.ensures.good
    (as_descriptor c.read_descriptor-last.result) c.read_descriptor-last.ensures short room c.if-last-gt0.true
    (ap (is_good_run c.args.guest) c.read_descriptor-last.ensures ∙ c.take_runs-taken.ensures.stop short room)

pub returns-then-last-eq0-clause-answer : goal.returns-then-last-eq0-clause-answer
returns-then-last-eq0-clause-answer c = λ p tables wants same.
    let room : c.args.reading.count + c.take_runs-taken.result < 4096 = omega arith in
    let short : c.take_runs-taken.result < 512 = omega arith in
    ends c.args.guest tables p (chain_of c.args.runs.now c.args.reading) c.args.bytes.now c.take_runs-taken.result wants same c.requires.few c.take_runs-taken.ensures.good
    (as_descriptor c.read_descriptor-last.result) c.read_descriptor-last.ensures short room (omega arith) c.if-last-eq0.true _ refl refl
    (kept_pages-set c.take_runs-taken.new.runs (c.args.reading.count + c.take_runs-taken.result) c.read_descriptor-last.result (omega (arith, c.take_runs-taken.auto.runs))
    ∙ ap (λ t. t ++ run_pages (as_descriptor c.read_descriptor-last.result)) c.take_runs-taken.ensures.pages)

pub returns-then-last-eq0-clause-short : goal.returns-then-last-eq0-clause-short
returns-then-last-eq0-clause-short c = All-set IsShortRun c.take_runs-taken.new.runs (c.args.reading.count + c.take_runs-taken.result) c.read_descriptor-last.result (omega arith) c.take_runs-taken.ensures.short

pub returns-then-last-guest-clause-answer : goal.returns-then-last-guest-clause-answer
returns-then-last-guest-clause-answer c = λ p tables wants same.
    let room : c.args.reading.count + c.take_runs-taken.result < 4096 = omega arith in
    let short : c.take_runs-taken.result < 512 = omega arith in
    fails_link c.args.guest tables p (chain_of c.args.runs.now c.args.reading) c.args.bytes.now c.take_runs-taken.result wants same c.requires.few c.take_runs-taken.ensures.good
    (as_descriptor c.read_descriptor-last.result) c.read_descriptor-last.ensures short room (omega arith) (omega arith) c.if-last-guest.true

pub returns-then-count-eq-MAX_DESCRIPTORS-2-clause-answer : goal.returns-then-count-eq-MAX_DESCRIPTORS-2-clause-answer
returns-then-count-eq-MAX_DESCRIPTORS-2-clause-answer c = λ p tables wants same.
    let room : c.args.reading.count + c.take_runs-taken.result < 4096 = omega arith in
    let short : c.take_runs-taken.result < 512 = omega arith in
    fails_at_link c.args.guest tables p (chain_of c.args.runs.now c.args.reading) c.args.bytes.now c.take_runs-taken.result wants same c.requires.few c.take_runs-taken.ensures.good
    (as_descriptor c.read_descriptor-last.result) c.read_descriptor-last.ensures short room (omega arith) (omega arith) c.if-last-guest.false (omega arith)

pub returns-clause-answer : goal.returns-clause-answer
returns-clause-answer c = λ p tables wants same.
    let room : c.args.reading.count + c.take_runs-taken.result < 4096 = omega arith in
    let short : c.take_runs-taken.result < 512 = omega arith in
    goes c.args.guest tables p (chain_of c.args.runs.now c.args.reading) c.args.bytes.now c.take_runs-taken.result wants same c.requires.few c.take_runs-taken.ensures.good
    (as_descriptor c.read_descriptor-last.result) c.read_descriptor-last.ensures short room (omega arith) (omega arith) c.if-last-guest.false (omega arith) _ refl refl refl
    (kept_pages-set c.take_runs-taken.new.runs (c.args.reading.count + c.take_runs-taken.result) c.read_descriptor-last.result (omega (arith, c.take_runs-taken.auto.runs))
    ∙ ap (λ t. t ++ run_pages (as_descriptor c.read_descriptor-last.result)) c.take_runs-taken.ensures.pages)

pub returns-clause-short : goal.returns-clause-short
returns-clause-short c = All-set IsShortRun c.take_runs-taken.new.runs (c.args.reading.count + c.take_runs-taken.result) c.read_descriptor-last.result (omega (arith, c.requires.guest.most)) c.take_runs-taken.ensures.short
