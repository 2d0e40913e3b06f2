use Rattle.std.proofs.Common.{Ok, Err, sym, ap, subst, ◌∙◌, option_map}
use Rattle.svga_driver.proofs.CommitLaws.{has}
use Rattle.svga_driver.proofs.DescribeLaws.{at_rest, busy, good, keeps_asked, keeps_loaded, lent_pages, limits_same, limits_then, may_ask, no_start, page_good, posted, refuses, refuses_kept, within}
use Rattle.svga_driver.specs.DescribeAnswers.{DescribeAnswers}
use Rattle.svga_driver.specs.Driving.{client_by}
use Rattle.svga_driver.specs.declared.fault.DriverFault.TheVariants as driver
use Rattle.svga_model.specs.ClientFaults.{Refused}
use Rattle.svga_driver.proofs.driver.Driver.describe.Goals as goal

pub returns-in-Some : goal.returns-in-Some
returns-in-Some c =
    let o = c.self.invariant in
    let e = c.self.inside.end in
    let touched = c.self.inside.lendings.touched in
    let id = c.args.id in
    let page = c.args.first in
    subst (λ d. DescribeAnswers d id page (Err (driver.Refused c.in-Some.fault))
    (has c.settle_request.new.end touched)) c.self.view_is
    (no_start o id page c.in_ok-settle_request.ensures.end c.in_ok-settle_request.ensures.answer
    c.in_ok-settle_request.ensures.asked c.in-Some.fault
    (ap (option_map Refused) (sym c.in-Some.is) ∙ c.start_fault.ensures
    (client_by e.view e.pages touched)
    (limits_same o id page ∙ sym c.limits.ensures.limits)))

pub invariant_of-self-in-Err : goal.invariant_of-self-in-Err
invariant_of-self-in-Err c =
    let o = c.self.invariant in
    let e = c.self.inside.end in
    let touched = c.self.inside.lendings.touched in
    let id = c.args.id in
    let page = c.args.first in
    let begins = sym (c.start_fault.ensures
    (client_by e.view e.pages touched)
    (limits_same o id page ∙ sym c.limits.ensures.limits)) ∙ ap (option_map Refused) c.in-None.is in
    keeps_loaded o id page c.in_ok-settle_request.ensures.end c.in_ok-settle_request.ensures.answer
    c.in_ok-settle_request.ensures.asked
    c.see_all_taken.ensures.end begins
    (Err c.in-Err.fault) c.in-Err.ensures.answer

pub returns-in-Err : goal.returns-in-Err
returns-in-Err c =
    let o = c.self.invariant in
    let e = c.self.inside.end in
    let touched = c.self.inside.lendings.touched in
    let id = c.args.id in
    let page = c.args.first in
    let begins = sym (c.start_fault.ensures
    (client_by e.view e.pages touched)
    (limits_same o id page ∙ sym c.limits.ensures.limits)) ∙ ap (option_map Refused) c.in-None.is in
    subst (λ d. DescribeAnswers d id page (Err c.in-Err.fault)
    (has c.see_all_taken.new.end touched)) c.self.view_is
    (busy o id page c.in_ok-settle_request.ensures.end c.in_ok-settle_request.ensures.answer
    c.in_ok-settle_request.ensures.asked
    c.see_all_taken.ensures.end begins
    c.in-Err.fault c.in-Err.ensures.answer)

pub read_chain-requires-clause-at_rest : goal.read_chain-requires-clause-at_rest
read_chain-requires-clause-at_rest c =
    let o = c.self.invariant in
    let e = c.self.inside.end in
    let touched = c.self.inside.lendings.touched in
    let id = c.args.id in
    let page = c.args.first in
    let begins = sym (c.start_fault.ensures
    (client_by e.view e.pages touched)
    (limits_same o id page ∙ sym c.limits.ensures.limits)) ∙ ap (option_map Refused) c.in-None.is in
    at_rest o id page c.in_ok-settle_request.ensures.end c.in_ok-settle_request.ensures.answer
    c.in_ok-settle_request.ensures.asked
    c.see_all_taken.ensures.end begins
    c.in-Ok.ensures.answer c.facts.ensures.possible c.facts.ensures.all_sent

pub read_chain-requires-clause-limits : goal.read_chain-requires-clause-limits
read_chain-requires-clause-limits c =
    let o = c.self.invariant in
    let e = c.self.inside.end in
    let touched = c.self.inside.lendings.touched in
    let id = c.args.id in
    let page = c.args.first in
    let begins = sym (c.start_fault.ensures
    (client_by e.view e.pages touched)
    (limits_same o id page ∙ sym c.limits.ensures.limits)) ∙ ap (option_map Refused) c.in-None.is in
    limits_then o id page c.in_ok-settle_request.ensures.end c.in_ok-settle_request.ensures.answer
    c.in_ok-settle_request.ensures.asked
    c.see_all_taken.ensures.end begins
    c.in-Ok.ensures.answer c.facts.ensures.possible c.facts.ensures.all_sent

pub read_chain-requires-clause-within : goal.read_chain-requires-clause-within
read_chain-requires-clause-within c =
    let o = c.self.invariant in
    let e = c.self.inside.end in
    let touched = c.self.inside.lendings.touched in
    let id = c.args.id in
    let page = c.args.first in
    let begins = sym (c.start_fault.ensures
    (client_by e.view e.pages touched)
    (limits_same o id page ∙ sym c.limits.ensures.limits)) ∙ ap (option_map Refused) c.in-None.is in
    within o id page c.in_ok-settle_request.ensures.end c.in_ok-settle_request.ensures.answer
    c.in_ok-settle_request.ensures.asked
    c.see_all_taken.ensures.end begins
    c.in-Ok.ensures.answer c.facts.ensures.possible c.facts.ensures.all_sent

pub read_chain-requires-clause-region : goal.read_chain-requires-clause-region
read_chain-requires-clause-region c =
    let o = c.self.invariant in
    let e = c.self.inside.end in
    let touched = c.self.inside.lendings.touched in
    let id = c.args.id in
    let page = c.args.first in
    let begins = sym (c.start_fault.ensures
    (client_by e.view e.pages touched)
    (limits_same o id page ∙ sym c.limits.ensures.limits)) ∙ ap (option_map Refused) c.in-None.is in
    (good o id page c.in_ok-settle_request.ensures.end c.in_ok-settle_request.ensures.answer
    c.in_ok-settle_request.ensures.asked
    c.see_all_taken.ensures.end begins).0

pub read_chain-requires-clause-page : goal.read_chain-requires-clause-page
read_chain-requires-clause-page c =
    let o = c.self.invariant in
    let e = c.self.inside.end in
    let touched = c.self.inside.lendings.touched in
    let id = c.args.id in
    let page = c.args.first in
    let begins = sym (c.start_fault.ensures
    (client_by e.view e.pages touched)
    (limits_same o id page ∙ sym c.limits.ensures.limits)) ∙ ap (option_map Refused) c.in-None.is in
    page_good o id page c.in_ok-settle_request.ensures.end c.in_ok-settle_request.ensures.answer
    c.in_ok-settle_request.ensures.asked
    c.see_all_taken.ensures.end begins
    c.in-Ok.ensures.answer c.facts.ensures.possible c.facts.ensures.all_sent

pub invariant_of-self-in-Err-read_chain : goal.invariant_of-self-in-Err-read_chain
invariant_of-self-in-Err-read_chain c =
    let o = c.self.invariant in
    let e = c.self.inside.end in
    let touched = c.self.inside.lendings.touched in
    let id = c.args.id in
    let page = c.args.first in
    let begins = sym (c.start_fault.ensures
    (client_by e.view e.pages touched)
    (limits_same o id page ∙ sym c.limits.ensures.limits)) ∙ ap (option_map Refused) c.in-None.is in
    let state = (client_by e.view e.pages touched).state in
    let lent = lent_pages o id page c.in_ok-settle_request.ensures.end c.in_ok-settle_request.ensures.answer
    c.in_ok-settle_request.ensures.asked
    c.see_all_taken.ensures.end begins
    c.in-Ok.ensures.answer c.facts.ensures.possible c.facts.ensures.all_sent in
    refuses_kept o id page c.in_ok-settle_request.ensures.end c.in_ok-settle_request.ensures.answer
    c.in_ok-settle_request.ensures.asked
    c.see_all_taken.ensures.end begins
    c.in-Ok.ensures.answer c.facts.ensures.possible c.facts.ensures.all_sent
    c.read_chain.new.shape c.read_chain.ensures.end c.read_chain.ensures.reread c.in-Err-read_chain.fault
    (c.in-Err-read_chain.ensures.answer state o.shape_is lent)

pub returns-in-Err-read_chain : goal.returns-in-Err-read_chain
returns-in-Err-read_chain c =
    let o = c.self.invariant in
    let e = c.self.inside.end in
    let touched = c.self.inside.lendings.touched in
    let id = c.args.id in
    let page = c.args.first in
    let begins = sym (c.start_fault.ensures
    (client_by e.view e.pages touched)
    (limits_same o id page ∙ sym c.limits.ensures.limits)) ∙ ap (option_map Refused) c.in-None.is in
    let state = (client_by e.view e.pages touched).state in
    let lent = lent_pages o id page c.in_ok-settle_request.ensures.end c.in_ok-settle_request.ensures.answer
    c.in_ok-settle_request.ensures.asked
    c.see_all_taken.ensures.end begins
    c.in-Ok.ensures.answer c.facts.ensures.possible c.facts.ensures.all_sent in
    subst (λ d. DescribeAnswers d id page (Err c.in-Err-read_chain.fault)
    (has c.read_chain.new.end touched)) c.self.view_is
    (refuses o id page c.in_ok-settle_request.ensures.end c.in_ok-settle_request.ensures.answer
    c.in_ok-settle_request.ensures.asked
    c.see_all_taken.ensures.end begins
    c.in-Ok.ensures.answer c.facts.ensures.possible c.facts.ensures.all_sent
    c.read_chain.new.shape c.read_chain.ensures.end c.read_chain.ensures.reread c.in-Err-read_chain.fault
    (c.in-Err-read_chain.ensures.answer state o.shape_is lent))

pub ask-request-requires-clause-may : goal.ask-request-requires-clause-may
ask-request-requires-clause-may c =
    let o = c.self.invariant in
    let e = c.self.inside.end in
    let touched = c.self.inside.lendings.touched in
    let id = c.args.id in
    let page = c.args.first in
    let begins = sym (c.start_fault.ensures
    (client_by e.view e.pages touched)
    (limits_same o id page ∙ sym c.limits.ensures.limits)) ∙ ap (option_map Refused) c.in-None.is in
    let state = (client_by e.view e.pages touched).state in
    let lent = lent_pages o id page c.in_ok-settle_request.ensures.end c.in_ok-settle_request.ensures.answer
    c.in_ok-settle_request.ensures.asked
    c.see_all_taken.ensures.end begins
    c.in-Ok.ensures.answer c.facts.ensures.possible c.facts.ensures.all_sent in
    may_ask o id page c.in_ok-settle_request.ensures.end c.in_ok-settle_request.ensures.answer
    c.in_ok-settle_request.ensures.asked
    c.see_all_taken.ensures.end begins
    c.in-Ok.ensures.answer c.facts.ensures.possible c.facts.ensures.all_sent
    c.read_chain.new.shape c.read_chain.ensures.end c.read_chain.ensures.reread (c.in-Ok-read_chain.ensures.answer state o.shape_is lent)

pub invariant_of-self-2 : goal.invariant_of-self-2
invariant_of-self-2 c =
    let o = c.self.invariant in
    let e = c.self.inside.end in
    let touched = c.self.inside.lendings.touched in
    let id = c.args.id in
    let page = c.args.first in
    let begins = sym (c.start_fault.ensures
    (client_by e.view e.pages touched)
    (limits_same o id page ∙ sym c.limits.ensures.limits)) ∙ ap (option_map Refused) c.in-None.is in
    let state = (client_by e.view e.pages touched).state in
    let lent = lent_pages o id page c.in_ok-settle_request.ensures.end c.in_ok-settle_request.ensures.answer
    c.in_ok-settle_request.ensures.asked
    c.see_all_taken.ensures.end begins
    c.in-Ok.ensures.answer c.facts.ensures.possible c.facts.ensures.all_sent in
    keeps_asked o id page c.in_ok-settle_request.ensures.end c.in_ok-settle_request.ensures.answer
    c.in_ok-settle_request.ensures.asked
    c.see_all_taken.ensures.end begins
    c.in-Ok.ensures.answer c.facts.ensures.possible c.facts.ensures.all_sent
    c.read_chain.new.shape c.read_chain.ensures.end c.read_chain.ensures.reread (c.in-Ok-read_chain.ensures.answer state o.shape_is lent)
    c.ask-request.ensures.left c.ask-request.result c.ask-request.ensures.number

pub returns : goal.returns
returns c =
    let o = c.self.invariant in
    let e = c.self.inside.end in
    let touched = c.self.inside.lendings.touched in
    let id = c.args.id in
    let page = c.args.first in
    let begins = sym (c.start_fault.ensures
    (client_by e.view e.pages touched)
    (limits_same o id page ∙ sym c.limits.ensures.limits)) ∙ ap (option_map Refused) c.in-None.is in
    let state = (client_by e.view e.pages touched).state in
    let lent = lent_pages o id page c.in_ok-settle_request.ensures.end c.in_ok-settle_request.ensures.answer
    c.in_ok-settle_request.ensures.asked
    c.see_all_taken.ensures.end begins
    c.in-Ok.ensures.answer c.facts.ensures.possible c.facts.ensures.all_sent in
    subst (λ d. DescribeAnswers d id page (Ok (record { request = c.ask-request.result }))
    (has c.ask-request.new.self touched)) c.self.view_is
    (posted o id page c.in_ok-settle_request.ensures.end c.in_ok-settle_request.ensures.answer
    c.in_ok-settle_request.ensures.asked
    c.see_all_taken.ensures.end begins
    c.in-Ok.ensures.answer c.facts.ensures.possible c.facts.ensures.all_sent
    c.read_chain.new.shape c.read_chain.ensures.end c.read_chain.ensures.reread (c.in-Ok-read_chain.ensures.answer state o.shape_is lent)
    c.ask-request.ensures.left (record { request = c.ask-request.result }) c.ask-request.ensures.number)
