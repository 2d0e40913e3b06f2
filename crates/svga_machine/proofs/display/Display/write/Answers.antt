use Rattle.std.proofs.Common.{◌≡◌, [], ap, is_some, rules, sym, unwrap_or, ◌∙◌}
use Rattle.std.specs.FinMap as map
use Rattle.svga_cmd.specs.Pages.{IsKey}
use Rattle.svga_model.proofs.PutLaws.{with_page-has}
use Rattle.svga_model.specs.Memories.{page_bytes, with_page}
use Rattle.svga_model.specs.Screens.{painted_row}
use Rattle.svga_model.specs.States.{State}
use Rattle.svga_machine.proofs.StoreStates.{served_put}
use Rattle.svga_machine.proofs.display.Display.write.Goals as goal

pub invariant_of-self : goal.invariant_of-self
invariant_of-self c =
    let of_device : IsKey c.self.inside.limits c.args.key = search rules in
    served_put c.self.inside.limits c.self.inside.machine c.self.inside.pages c.args.key c.put.new.page c.self.invariant of_device
    (record { length_is = c.put.ensures.length ∙ c.bytes_mut.ensures.length; each = c.put.ensures.bytes })

pub returns-clause-put : goal.returns-clause-put
returns-clause-put c = λ yes.
    let pages = c.self.inside.pages in
    let key = c.args.key in
    let bytes = painted_row (page_bytes pages key) c.args.at c.args.bytes.now in
    let page : c.page_mut.result.now ≡ page_bytes pages key = sym (ap (λ o. unwrap_or o []) c.page_mut.ensures.page) in
    let new : c.put.new.page ≡ bytes = c.put.ensures.put ∙ ap (λ p. painted_row p c.args.at c.args.bytes.now) (c.bytes_mut.ensures.bytes ∙ page) in
    let memory : map.insert pages key c.put.new.page ≡ with_page pages key bytes =
    ap (λ b. map.insert pages key b) new ∙ sym (with_page-has pages key bytes (ap is_some c.page_mut.ensures.page)) in
    (λ i. record { kept = c.self.inside.machine.kept; memory = memory i })
    ∙ ap {A = State} (λ s. record s { memory = with_page s.memory key (painted_row (page_bytes s.memory key) c.args.at c.args.bytes.now) }) c.self.view_is
