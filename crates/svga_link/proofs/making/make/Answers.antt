use Rattle.std.proofs.Common.{rules, arith, ◌≡◌, ap, sym, subst, ◌∙◌}
use Rattle.atomic_table.specs.Table.{Splits}
use Rattle.svga_ring.proofs.Table.Rule.{table_splits}
use Rattle.svga_ring.specs.SharedTable.{table_length}
use Rattle.svga_ring.specs.TableRule.{IsSoundTable, as_device, as_driver, opening_view}
use Rattle.std.proofs.Common.{Some, replicate}
use Rattle.svga_cmd.specs.Pages.{IsZeroMemoryOf}
use Rattle.svga_cmd.specs.declared.constants.TheConstants.{PAGE_SIZE}
use Rattle.svga_link.proofs.PageRows.{no_pages, zero_pages}
use Rattle.svga_link.specs.Ends.{pages_in}
use Rattle.svga_link.proofs.making.make.Goals as goal

pub split_seat-other-requires : goal.split_seat-other-requires
split_seat-other-requires c =
    let k = c.args.session.now in
    let same : c.deref.result.now ≡ c.in_ok-table.table = search rules in
    let seat = c.in_ok-table.ensures.seat in
    let key : k ≡ c.deref.result.now.shared.key = sym (ap (λ t. t.shared.key) same ∙ c.in_ok-table.ensures.key) in
    let long : c.in_ok-table.table.shared.table_id.words ≡ table_length k.limits = c.in_ok-table.ensures.words in
    let view : opening_view k ≡ c.in_ok-table.seat.me.0 = sym (ap (λ m. m.0) seat.2) in (
      seat.0 ∙ ap (λ t. t.shared.table_id) (sym same),
      omega (arith, long, ap (λ t. t.shared.table_id.words) same),
      subst (λ x. Splits (IsSoundTable x) c.in_ok-table.seat.id c.in_ok-table.seat.me.0 (as_driver c.in_ok-table.seat.me.0) (as_device c.in_ok-table.seat.me.0)) key
          (subst (λ v. Splits (IsSoundTable k) c.in_ok-table.seat.id v (as_driver v) (as_device v)) view (table_splits k c.in_ok-table.seat.id)),
    )

pub new-requires-2-clause-opening : goal.new-requires-2-clause-opening
new-requires-2-clause-opening c = (c.args.session.now, ap (λ s. s.view) c.new-driver.ensures)

pub new-requires-3-clause-opening : goal.new-requires-3-clause-opening
new-requires-3-clause-opening c = (c.args.session.now, ap (λ s. s.view) c.new-device.ensures)

pub returns-clause-pages : goal.returns-clause-pages
returns-clause-pages c =
    let l = c.args.session.now.limits in
    let limits = ap (λ s. s.view.terms.limits) c.new-driver.ensures in
    let row = c.in_ok-full.ensures ∙ ap (λ n. replicate n (Some (replicate PAGE_SIZE 0))) c.pages.ensures in
    let pages = ap (λ d. d.pages) c.new-2.ensures ∙ (λ i. pages_in (limits i) (row i)) in
    subst (IsZeroMemoryOf l) (sym pages) (zero_pages l)

pub returns-clause-none_held : goal.returns-clause-none_held
returns-clause-none_held c =
    let row = c.in_ok-room.ensures in
    ap (λ e. e.pages) c.new-3.ensures ∙ ap (pages_in c.new-device.result.view.terms.limits) row ∙ no_pages c.new-device.result.view.terms.limits _
