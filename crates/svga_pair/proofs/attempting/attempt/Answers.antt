use Rattle.std.proofs.Common.{◌≡◌, ◌<◌, length, map as map_list, true, sym, ap, subst, ◌∙◌, rules, w32, arith}
use Rattle.std.proofs.lemmas.Int.{to_z-of_z}
use mir.Val.{SFits}
use Rattle.svga_cmd.specs.declared.command.Command.TheVariants.{DefineScreen, RemapGmr2}
use Rattle.svga_cmd.specs.declared.remap.RemapData.TheVariants.{Ppn32}
use Rattle.svga_driver.specs.CommitAnswers.{CommitAnswers}
use Rattle.svga_driver.specs.PageAnswers.{WriteAnswers}
use Rattle.svga_model.specs.ClientActs.{LendPage, TakePage, calls_of, plain_screen, runs_numbers}
use Rattle.svga_model.specs.ScriptBounds.{is_bounded}
use Rattle.svga_pair.proofs.ActLaws.{lend_at, lend_low, map_short, one_at, take_at, take_low, tried_so}
use Rattle.svga_pair.proofs.DriverLaws.{commit_tried, lend_tried, take_tried, write_tried}
use Rattle.svga_pair.specs.Calls.{call_at}
use Rattle.svga_pair.specs.Going.{HasTried}
use Rattle.svga_script.specs.Acts.{act_of, run_of}
use Rattle.svga_pair.proofs.attempting.attempt.Goals as goal

pub returns-in-Screen : goal.returns-in-Screen
returns-in-Screen c =
    let act = act_of c.args.act.now in
    let x_fits : SFits w32 c.in-Screen.x = search rules in
    let y_fits : SFits w32 c.in-Screen.y = search rules in
    let answers : CommitAnswers c.args.driver.now
    (DefineScreen (plain_screen c.in-Screen.id c.in-Screen.width c.in-Screen.height c.in-Screen.x c.in-Screen.y))
    c.define_screen.result c.define_screen.new.self =
    simp (to_z-of_z w32 c.in-Screen.x x_fits, to_z-of_z w32 c.in-Screen.y y_fits) at c.define_screen.ensures in
    tried_so _ _ act c.args.k _ _ _
    (one_at act _ c.args.k (ap (λ a. calls_of (act_of a)) c.in-Screen.is) c.requires.call) c.call_answer.ensures
    (commit_tried _ _ _ _ (omega arith) answers)

pub returns-in-Destroy : goal.returns-in-Destroy
returns-in-Destroy c =
    let act = act_of c.args.act.now in
    tried_so _ _ act c.args.k _ _ _
    (one_at act _ c.args.k (ap (λ a. calls_of (act_of a)) c.in-Destroy.is) c.requires.call) c.call_answer-in-Destroy.ensures
    (commit_tried _ _ _ _ (omega arith) c.destroy_screen.ensures)

pub returns-in-Region : goal.returns-in-Region
returns-in-Region c =
    let act = act_of c.args.act.now in
    tried_so _ _ act c.args.k _ _ _
    (one_at act _ c.args.k (ap (λ a. calls_of (act_of a)) c.in-Region.is) c.requires.call) c.call_answer-in-Region.ensures
    (commit_tried _ _ _ _ (omega arith) c.define_region.ensures)

pub returns-in-Same : goal.returns-in-Same
returns-in-Same c =
    let act = act_of c.args.act.now in
    tried_so _ _ act c.args.k _ _ _
    (one_at act _ c.args.k (ap (λ a. calls_of (act_of a)) c.in-Same.is) c.requires.call) c.call_answer-in-Same.ensures
    (commit_tried _ _ _ _ (omega arith) c.map_same.ensures)

pub returns-in-Gmrfb : goal.returns-in-Gmrfb
returns-in-Gmrfb c =
    let act = act_of c.args.act.now in
    tried_so _ _ act c.args.k _ _ _
    (one_at act _ c.args.k (ap (λ a. calls_of (act_of a)) c.in-Gmrfb.is) c.requires.call) c.call_answer-in-Gmrfb.ensures
    (commit_tried _ _ _ _ (omega arith) c.gmrfb.ensures)

pub returns-in-Blit : goal.returns-in-Blit
returns-in-Blit c =
    let act = act_of c.args.act.now in
    tried_so _ _ act c.args.k _ _ _
    (one_at act _ c.args.k (ap (λ a. calls_of (act_of a)) c.in-Blit.is) c.requires.call) c.call_answer-in-Blit.ensures
    (commit_tried _ _ _ _ (omega arith) c.blit.ensures)

pub returns-in-Back : goal.returns-in-Back
returns-in-Back c =
    let act = act_of c.args.act.now in
    tried_so _ _ act c.args.k _ _ _
    (one_at act _ c.args.k (ap (λ a. calls_of (act_of a)) c.in-Back.is) c.requires.call) c.call_answer-in-Back.ensures
    (commit_tried _ _ _ _ (omega arith) c.blit_back.ensures)

pub returns-in-Update : goal.returns-in-Update
returns-in-Update c =
    let act = act_of c.args.act.now in
    tried_so _ _ act c.args.k _ _ _
    (one_at act _ c.args.k (ap (λ a. calls_of (act_of a)) c.in-Update.is) c.requires.call) c.call_answer-in-Update.ensures
    (commit_tried _ _ _ _ (omega arith) c.update.ensures)

pub returns-in-Map : goal.returns-in-Map
returns-in-Map c =
    let act = act_of c.args.act.now in
    let within = subst (λ a. is_bounded (act_of a) ≡ true) c.in-Map.is c.requires.bounded in
    let pages = c.as_slice.ensures.value ∙ c.page_numbers-pages.ensures
    ∙ ap (λ l. runs_numbers (map_list run_of l)) c.runs.ensures in
    let answers = subst (λ l. CommitAnswers c.args.driver.now
    (RemapGmr2 c.in-Map.id c.in-Map.offset (length l) (Ppn32 l)) c.map.result c.map.new.self) pages c.map.ensures in
    let few = map_short c.in-Map.id c.in-Map.offset (map_list run_of c.in-Map.runs) within in
    tried_so _ _ act c.args.k _ _ _
    (one_at act _ c.args.k (ap (λ a. calls_of (act_of a)) c.in-Map.is) c.requires.call)
    c.call_answer-in-Map.ensures (commit_tried _ _ _ _ (omega (arith, few)) answers)

pub returns-in-Write : goal.returns-in-Write
returns-in-Write c =
    let act = act_of c.args.act.now in
    let answers = subst (λ l. WriteAnswers c.args.driver.now c.in-Write.key c.in-Write.offset l c.write_page.result
    c.write_page.new.self) c.bytes.ensures c.write_page.ensures in
    tried_so _ _ act c.args.k _ _ _
    (one_at act _ c.args.k (ap (λ a. calls_of (act_of a)) c.in-Write.is) c.requires.call)
    c.call_answer-in-Write.ensures (write_tried _ _ _ _ _ _ answers)

pub returns-in-Fill : goal.returns-in-Fill
returns-in-Fill c =
    let act = act_of c.args.act.now in
    tried_so _ _ act c.args.k _ _ _
    (one_at act _ c.args.k (ap (λ a. calls_of (act_of a)) c.in-Fill.is) c.requires.call)
    c.call_answer-in-Fill.ensures (write_tried _ _ _ _ _ _ c.write_page-in-Fill.ensures)

pub key_behind-requires : goal.key_behind-requires
key_behind-requires c =
    lend_low c.in-Lend.first c.in-Lend.count c.args.k
    (subst (λ a. is_bounded (act_of a) ≡ true) c.in-Lend.is c.requires.bounded)
    (subst (λ a. c.args.k < length (calls_of (act_of a))) c.in-Lend.is c.requires.call)

pub returns-in-Lend : goal.returns-in-Lend
returns-in-Lend c =
    let low = subst (λ a. c.args.k < length (calls_of (act_of a))) c.in-Lend.is c.requires.call in
    let here = ap LendPage c.key_behind.ensures ∙ lend_at c.in-Lend.first c.in-Lend.count c.args.k low
    ∙ ap (λ a. call_at (act_of a) c.args.k) (sym c.in-Lend.is) in
    tried_so _ _ (act_of c.args.act.now) c.args.k _ _ _ here c.call_answer-in-Lend.ensures
    (lend_tried _ _ _ _ c.lend.ensures)

pub key_behind-requires-in-Take : goal.key_behind-requires-in-Take
key_behind-requires-in-Take c =
    take_low c.in-Take.first c.in-Take.count c.args.k
    (subst (λ a. is_bounded (act_of a) ≡ true) c.in-Take.is c.requires.bounded)
    (subst (λ a. c.args.k < length (calls_of (act_of a))) c.in-Take.is c.requires.call)

pub returns-in-Take : goal.returns-in-Take
returns-in-Take c =
    let low = subst (λ a. c.args.k < length (calls_of (act_of a))) c.in-Take.is c.requires.call in
    let here = ap TakePage c.key_behind-in-Take.ensures ∙ take_at c.in-Take.first c.in-Take.count c.args.k low
    ∙ ap (λ a. call_at (act_of a) c.args.k) (sym c.in-Take.is) in
    tried_so _ _ (act_of c.args.act.now) c.args.k _ _ _ here c.call_answer-in-Take.ensures
    (take_tried _ _ _ _ c.take_back.ensures)

pub returns-in-Describe : goal.returns-in-Describe
returns-in-Describe c =
    subst (λ call. HasTried c.args.driver.now call c.describe.result c.describe.new.driver)
    (one_at (act_of c.args.act.now) _ c.args.k (ap (λ a. calls_of (act_of a)) c.in-Describe.is) c.requires.call)
    c.describe.ensures
