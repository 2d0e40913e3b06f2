use Rattle.std.proofs.Common.{Some, ap, sym, refl, subst, ◌∙◌}
use Rattle.svga_cmd.specs.Pages.{IsKey}
use Rattle.svga_ring.specs.Conditions.{IsInHand}
use Rattle.svga_ring.specs.Core.{Hold}
use Rattle.svga_ring.specs.Noting.{MayHold, holds}
use Rattle.svga_ring.specs.Views.{DeviceView}
use Rattle.svga_link.proofs.DevicePages.{device_stays, may_take_page, page_taken, word_of_page, word_there}
use Rattle.svga_link.proofs.Offsets.{table_stays}
use Rattle.svga_link.specs.DevicePlays.{IsWordOf}
use Rattle.svga_link.specs.Holding.{holding}
use Rattle.svga_link.specs.Seats.{SeenDeviceSeat, with_slot_out}
use Rattle.svga_link.proofs.device_seat.DeviceSeat.take_page.Goals as goal

pub store-requires : goal.store-requires
store-requires c =
    let b = c.self.invariant.0 in
    let i = c.self.invariant.1 in
    let e : DeviceView = c.self.inside.seat.me.0.of_device in
    let same = ap (λ s. s.view) c.self.view_is in
    let board = ap (λ b. b.shared.table_id) (sym c.deref.ensures) in
    let is_key = subst (λ (e : DeviceView). IsKey e.terms.limits c.args.key) (sym same) c.requires.key in (
      b.one_table ∙ board,
      word_there c.self.inside.session e c.args.key _ _ i.terms c.page_word-word.ensures is_key (ap (λ t. t.words) (sym board) ∙ b.words),
      may_take_page _ _ _ _ _ c.args.key c.requires.touched.0 i.role
          (word_of_page c.self.inside.session e c.args.key _ i.terms c.page_word-word.ensures is_key)
          (subst (λ e. IsInHand e c.requires.touched.0) (sym same) c.requires.touched.1)
          (subst (λ e. MayHold e c.requires.touched.0 c.args.key) (sym same) c.requires.touched.2)
          (ap (λ e. holds e.noted c.args.key) same ∙ c.requires.free) (ap (λ e. e.out) same ∙ c.requires.none_out),
    )

pub invariant_of-self : goal.invariant_of-self
invariant_of-self c =
    let t = c.store.ensures.2 in (
      table_stays _ _ _ _ _ c.self.invariant.0 c.store.ensures.0,
      device_stays _ _ _ _ (Hold t.0 t.1) _ _ _ c.self.invariant.1 t.3.2 (λ core. refl) (λ core. refl) (λ core. refl) (λ core. refl) (λ core. refl),
    )

pub returns : goal.returns
returns c =
    let i = c.self.invariant.1 in
    let e : DeviceView = c.self.inside.seat.me.0.of_device in
    let same = ap (λ s. s.view) c.self.view_is in
    let is_key = subst (λ (e : DeviceView). IsKey e.terms.limits c.args.key) (sym same) c.requires.key in
    let on : IsWordOf e.terms.limits c.page_word-word.result c.args.key = word_of_page c.self.inside.session e c.args.key _ i.terms c.page_word-word.ensures is_key in
    let t = page_taken 0 _ _ _ c.args.key on c.store.ensures.2 _ _ c.store.ensures.0 in
    (t.0, t.1 ∙ ap (λ (s : SeenDeviceSeat). with_slot_out (record s { view = holding s.view c.args.key t.0 }) c.args.key (Some t.0)) c.self.view_is)
