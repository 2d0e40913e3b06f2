use Rattle.std.proofs.Common.{◌≡◌, is_some, true, false, option_map, rules, refl, sym, ap, subst, ◌∙◌}
use Rattle.svga_cmd.specs.Pages.{page_at}
use Rattle.svga_driver.proofs.PageCalls.{has, is_free, lend_done, lend_kept, lent_there, page_why}
use Rattle.svga_driver.specs.Answering.{told}
use Rattle.svga_driver.specs.Driving.{DriverHas}
use Rattle.svga_driver.specs.PageAnswers.{IsRejected, LendAnswers}
use Rattle.svga_driver.specs.declared.fault.DriverFault.TheVariants as driver
use Rattle.svga_model.specs.ClientActs.{LendPage}
use Rattle.std.specs.Prelude.{Ok}
use Rattle.svga_driver.proofs.driver.Driver.lend.Goals as goal

pub returns-then-not-has_bytes : goal.returns-then-not-has_bytes
returns-then-not-has_bytes c =
    subst (λ (d : DriverHas). IsRejected d (LendPage c.args.key) (driver.PageRange c.args.key) d) c.self.view_is (record {
      refused = ap (option_map told) (page_why c.self.invariant c.args.key 0 false _ (sym c.has_bytes.ensures ∙ c.if-not-has_bytes.true) refl);
      left_is = refl;
    })

pub returns-then-is_none : goal.returns-then-is_none
returns-then-is_none c =
    let e = c.self.inside.end in
    let there = sym c.has_bytes.ensures ∙ c.if-not-has_bytes.false in
    let none : is_some (page_at e.pages c.args.key) ≡ false = search (rules, c.page.ensures, c.is_none.ensures, c.if-is_none.true) in
    subst (λ (d : DriverHas). IsRejected d (LendPage c.args.key) (driver.PageLent c.args.key) d) c.self.view_is (record {
      refused = ap (option_map told) (page_why c.self.invariant c.args.key 0 true true there
          (lent_there c.self.invariant c.args.key 0 there none));
      left_is = refl;
    })

pub invariant_of-self : goal.invariant_of-self
invariant_of-self c =
    let e = c.self.inside.end in
    let there = sym c.has_bytes.ensures ∙ c.if-not-has_bytes.false in
    let some : is_some (page_at e.pages c.args.key) ≡ true = search (rules, c.page.ensures, c.is_none.ensures, c.if-is_none.false) in
    lend_kept c.self.invariant c.args.key (page_why c.self.invariant c.args.key 0 true false there
    (is_free _ _ _ c.args.key c.self.invariant.followed some)) _ _ c.lend.ensures c.lend-2.ensures

pub returns : goal.returns
returns c =
    let e = c.self.inside.end in
    let there = sym c.has_bytes.ensures ∙ c.if-not-has_bytes.false in
    let some : is_some (page_at e.pages c.args.key) ≡ true = search (rules, c.page.ensures, c.is_none.ensures, c.if-is_none.false) in
    subst (λ (d : DriverHas). LendAnswers d c.args.key (Ok tt) (has c.lend.new.self c.lend-2.new.self)) c.self.view_is
    (lend_done c.self.invariant c.args.key (page_why c.self.invariant c.args.key 0 true false there
    (is_free _ _ _ c.args.key c.self.invariant.followed some)) _ _ c.lend.ensures c.lend-2.ensures)
