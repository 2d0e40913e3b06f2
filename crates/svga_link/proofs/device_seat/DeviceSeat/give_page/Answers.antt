use Rattle.std.proofs.Common.{Some, ap, sym, refl, subst, ◌∙◌}
use Rattle.svga_cmd.specs.Pages.{IsKey}
use Rattle.svga_ring.specs.Core.{GiveBack}
use Rattle.svga_ring.specs.SharedTable.{slot_number}
use Rattle.svga_ring.specs.TableSteps.{Brings}
use Rattle.svga_ring.specs.Views.{DeviceView}
use Rattle.svga_link.proofs.DevicePages.{device_stays, may_give_page, page_is_given, word_of_page, word_there}
use Rattle.svga_link.proofs.Offsets.{table_stays}
use Rattle.svga_link.specs.DevicePlays.{IsWordOf}
use Rattle.svga_link.specs.Holding.{returned}
use Rattle.svga_link.specs.Seats.{SeenDeviceSeat, with_slot_home}
use Rattle.svga_link.proofs.device_seat.DeviceSeat.give_page.Goals as goal

pub store-requires : goal.store-requires
store-requires c =
    let b = c.self.invariant.0 in
    let i = c.self.invariant.1 in
    let e : DeviceView = c.self.inside.seat.me.0.of_device in
    let same = ap (λ s. s.view) c.self.view_is in
    let board = ap (λ b. b.shared.table_id) (sym c.deref.ensures) in
    let lies = c.requires.brings.0 in
    let is_key = subst (λ (e : DeviceView). IsKey e.terms.limits c.args.key) (sym same) c.requires.key in (
      b.one_table ∙ board,
      word_there c.self.inside.session e c.args.key _ _ i.terms c.page_word-word.ensures is_key (ap (λ t. t.words) (sym board) ∙ b.words),
      may_give_page _ _ _ _ _ c.args.key lies i.role
          (word_of_page c.self.inside.session e c.args.key _ i.terms c.page_word-word.ensures is_key)
          (ap (λ e. e.out) same ∙ c.requires.out) c.requires.brings.1
          (subst (λ (s : SeenDeviceSeat). Brings (slot_number s.view.terms.limits c.args.key) (Some lies) s.carried) (sym c.self.view_is) c.requires.brings.2),
    )

pub invariant_of-self : goal.invariant_of-self
invariant_of-self c =
    let t = c.store.ensures.2 in (
      table_stays _ _ _ _ _ c.self.invariant.0 c.store.ensures.0,
      device_stays _ _ _ _ (GiveBack t.0 t.1) _ _ _ c.self.invariant.1 t.4.2 (λ core. refl) (λ core. refl) (λ core. refl) (λ core. refl) (λ core. refl),
    )

pub returns : goal.returns
returns c = λ bytes brings.
    let i = c.self.invariant.1 in
    let e : DeviceView = c.self.inside.seat.me.0.of_device in
    let same = ap (λ s. s.view) c.self.view_is in
    let is_key = subst (λ (e : DeviceView). IsKey e.terms.limits c.args.key) (sym same) c.requires.key in
    let on : IsWordOf e.terms.limits c.page_word-word.result c.args.key = word_of_page c.self.inside.session e c.args.key _ i.terms c.page_word-word.ensures is_key in
    let here = subst (λ (s : SeenDeviceSeat). Brings (slot_number s.view.terms.limits c.args.key) (Some bytes) s.carried) (sym c.self.view_is) brings in
    page_is_given 0 _ _ _ c.args.key bytes on here c.store.ensures.2 _ _ c.store.ensures.0
    ∙ ap (λ (s : SeenDeviceSeat). with_slot_home (record s { view = returned s.view c.args.key bytes })) c.self.view_is
