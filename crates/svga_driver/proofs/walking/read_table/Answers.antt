use Rattle.std.proofs.Common.{◌≡◌, false, not, is_some, sym, ap, subst, ◌∙◌, Some}
use Rattle.std.proofs.lemmas.Option.{none-some, same_Some}
use Rattle.std.specs.Option.{option_copied}
use Rattle.svga_cmd.proofs.KeyLaws.{keys_exact, keys_total}
use Rattle.svga_cmd.proofs.Maps.{get_same}
use Rattle.svga_cmd.specs.Pages.{page_at}
use Rattle.svga_driver.proofs.RereadLaws.{given_again}
use Rattle.svga_region.specs.ChainCalls.{ReadsChain}
use Rattle.svga_ring.specs.TableSteps.{page_left}
use Rattle.svga_driver.proofs.walking.read_table.Goals as goal

pub unreachable-requires : goal.unreachable-requires
unreachable-requires c =
    let bytes = page_left c.args.end.now.view c.args.key in
    let there : page_at c.take.new.self.pages c.args.key ≡ Some bytes =
    ap (λ e. page_at e.pages c.args.key) c.take.ensures
    ∙ get_same keys_total keys_exact c.args.end.now.pages c.args.key bytes in
    none-some bytes (sym (ap option_copied c.in-None.is) ∙ c.page.ensures ∙ there)

pub returns-clause-end : goal.returns-clause-end
returns-clause-end c =
    let lent = c.requires.may.lent in
    let away : is_some (page_at c.args.end.now.pages c.args.key) ≡ false =
    c.facts.ensures.mine c.args.key c.requires.may.key_is ∙ ap not lent in
    given_again c.args.end.now c.take.new.self c.lend.new.self c.args.key lent away c.take.ensures
    c.lend.ensures

pub returns-clause-chain : goal.returns-clause-chain
returns-clause-chain c =
    let bytes = page_left c.args.end.now.view c.args.key in
    let there : page_at c.take.new.self.pages c.args.key ≡ Some bytes =
    ap (λ e. page_at e.pages c.args.key) c.take.ensures
    ∙ get_same keys_total keys_exact c.args.end.now.pages c.args.key bytes in
    let same : Some c.in-Some.page.now ≡ Some bytes =
    sym (ap option_copied c.in-Some.is) ∙ c.page.ensures ∙ there in
    subst (λ b. ReadsChain c.args.shape.now.regions b c.chain_page-answer.result
    c.chain_page-answer.new.self.regions) (same_Some _ _ same) c.chain_page-answer.ensures.chain
