use Rattle.std.proofs.Common.{◌+◌, length, true, false, option_map, refl, sym, ap, subst, ◌∙◌}
use Rattle.svga_driver.proofs.PageCalls.{has, is_free, lent_there, page_why, write_done, write_kept}
use Rattle.svga_driver.specs.Answering.{told}
use Rattle.svga_driver.specs.Driving.{DriverHas}
use Rattle.svga_driver.specs.PageAnswers.{IsRejected, WriteAnswers}
use Rattle.svga_driver.specs.declared.fault.DriverFault.TheVariants as driver
use Rattle.svga_model.specs.ClientActs.{WritePage}
use Rattle.std.specs.Prelude.{Ok}
use Rattle.svga_driver.proofs.driver.Driver.write_page.Goals as goal

pub returns-then-not-has_bytes : goal.returns-then-not-has_bytes
returns-then-not-has_bytes c =
    let call = WritePage c.args.key c.args.offset c.args.bytes.now in
    subst (λ (d : DriverHas). IsRejected d call (driver.PageRange c.args.key) d) c.self.view_is (record {
      refused = ap (option_map told) (page_why c.self.invariant c.args.key (c.args.offset + length c.args.bytes.now) false _
          (sym c.has_bytes.ensures ∙ c.if-not-has_bytes.true) refl);
      left_is = refl;
    })

pub returns-then-not-write_in : goal.returns-then-not-write_in
returns-then-not-write_in c =
    let call = WritePage c.args.key c.args.offset c.args.bytes.now in
    let there = sym c.has_bytes.ensures ∙ c.if-not-has_bytes.false in
    let none = sym c.write_in.ensures.there ∙ c.if-not-write_in.true in
    let same = c.write_in.ensures.lent c.if-not-write_in.true in
    subst (λ (d : DriverHas). IsRejected d call (driver.PageLent c.args.key) (has c.write_in.new.end c.self.inside.lendings)) c.self.view_is (record {
      refused = ap (option_map told) (page_why c.self.invariant c.args.key (c.args.offset + length c.args.bytes.now) true true there
          (lent_there c.self.invariant c.args.key (c.args.offset + length c.args.bytes.now) there none));
      left_is = ap (λ e. has e c.self.inside.lendings) same;
    })

pub invariant_of-self-2 : goal.invariant_of-self-2
invariant_of-self-2 c =
    let there = sym c.has_bytes.ensures ∙ c.if-not-has_bytes.false in
    let some = sym c.write_in.ensures.there ∙ c.if-not-write_in.false in
    write_kept c.self.invariant c.args.key c.args.offset c.args.bytes.now (page_why c.self.invariant c.args.key
    (c.args.offset + length c.args.bytes.now) true false there (is_free _ _ _ c.args.key c.self.invariant.followed some)) _
    (c.write_in.ensures.written c.if-not-write_in.false)

pub returns : goal.returns
returns c =
    let there = sym c.has_bytes.ensures ∙ c.if-not-has_bytes.false in
    let some = sym c.write_in.ensures.there ∙ c.if-not-write_in.false in
    subst (λ (d : DriverHas). WriteAnswers d c.args.key c.args.offset c.args.bytes.now (Ok tt)
    (has c.write_in.new.end c.self.inside.lendings)) c.self.view_is
    (write_done c.self.invariant c.args.key c.args.offset c.args.bytes.now (page_why c.self.invariant c.args.key
    (c.args.offset + length c.args.bytes.now) true false there (is_free _ _ _ c.args.key c.self.invariant.followed some)) _
    (c.write_in.ensures.written c.if-not-write_in.false))
