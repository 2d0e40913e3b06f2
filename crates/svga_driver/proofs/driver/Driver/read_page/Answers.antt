use Rattle.std.proofs.Common.{◌≡◌, is_some, true, false, None, Some, option_map, rules, refl, sym, ap, subst, ◌∙◌}
use Rattle.svga_cmd.specs.Pages.{page_at}
use Rattle.svga_driver.proofs.PageCalls.{is_free, lent_there, page_why}
use Rattle.svga_driver.specs.Answering.{told}
use Rattle.svga_driver.specs.Driving.{DriverHas, client_in}
use Rattle.svga_driver.specs.declared.fault.DriverFault.TheVariants as driver
use Rattle.svga_model.specs.ClientActs.{ShowPage}
use Rattle.svga_model.specs.Clients.{refusal_of}
use Rattle.svga_driver.proofs.driver.Driver.read_page.Goals as goal

pub returns-then-not-has_bytes-clause-fault : goal.returns-then-not-has_bytes-clause-fault
returns-then-not-has_bytes-clause-fault c =
    subst (λ (d : DriverHas). Some (driver.PageRange c.args.key) ≡ option_map told (refusal_of (client_in d) (ShowPage c.args.key))) c.self.view_is
    (sym (ap (option_map told) (page_why c.self.invariant c.args.key 0 false _ (sym c.has_bytes.ensures ∙ c.if-not-has_bytes.true) refl)))

pub returns-in-Some-clause-fault : goal.returns-in-Some-clause-fault
returns-in-Some-clause-fault c =
    let e = c.self.inside.end in
    let there = sym c.has_bytes.ensures ∙ c.if-not-has_bytes.false in
    let some : is_some (page_at e.pages c.args.key) ≡ true = search (rules, c.page.ensures, c.in-Some.is) in
    subst (λ (d : DriverHas). None ≡ option_map told (refusal_of (client_in d) (ShowPage c.args.key))) c.self.view_is
    (sym (ap (option_map told) (page_why c.self.invariant c.args.key 0 true false there
    (is_free _ _ _ c.args.key c.self.invariant.followed some))))

pub returns-in-None-clause-fault : goal.returns-in-None-clause-fault
returns-in-None-clause-fault c =
    let e = c.self.inside.end in
    let there = sym c.has_bytes.ensures ∙ c.if-not-has_bytes.false in
    let none : is_some (page_at e.pages c.args.key) ≡ false = search (rules, c.page.ensures, c.in-None.is) in
    subst (λ (d : DriverHas). Some (driver.PageLent c.args.key) ≡ option_map told (refusal_of (client_in d) (ShowPage c.args.key))) c.self.view_is
    (sym (ap (option_map told) (page_why c.self.invariant c.args.key 0 true true there
    (lent_there c.self.invariant c.args.key 0 there none))))
