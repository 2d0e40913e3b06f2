use Rattle.std.proofs.Common.{None, ap, sym, refl, subst, ◌∙◌}
use Rattle.svga_cmd.specs.Pages.{IsKey}
use Rattle.svga_ring.specs.Core.{HeldSlotHome}
use Rattle.svga_ring.specs.SharedTable.{slot_number}
use Rattle.svga_ring.specs.TableSteps.{Brings}
use Rattle.svga_ring.specs.Views.{DeviceView}
use Rattle.svga_link.proofs.DevicePages.{device_stays, may_give_slot, slot_is_given, word_of_page, word_there}
use Rattle.svga_link.proofs.Offsets.{table_stays}
use Rattle.svga_link.specs.Seats.{SeenDeviceSeat, with_slot_home}
use Rattle.svga_link.proofs.device_seat.DeviceSeat.give_slot.Goals as goal

pub store-requires : goal.store-requires
store-requires c =
    let b = c.self.invariant.0 in
    let i = c.self.invariant.1 in
    let e : DeviceView = c.self.inside.seat.me.0.of_device in
    let same = ap (λ s. s.view) c.self.view_is in
    let board = ap (λ b. b.shared.table_id) (sym c.deref.ensures) in
    let is_key = subst (λ (e : DeviceView). IsKey e.terms.limits c.args.key) (sym same) c.requires.key in (
      b.one_table ∙ board,
      word_there c.self.inside.session e c.args.key _ _ i.terms c.page_word-word.ensures is_key (ap (λ t. t.words) (sym board) ∙ b.words),
      may_give_slot _ _ _ _ _ c.args.key i.role
          (word_of_page c.self.inside.session e c.args.key _ i.terms c.page_word-word.ensures is_key)
          (ap (λ e. e.out) same ∙ c.requires.out)
          (subst (λ (s : SeenDeviceSeat). Brings (slot_number s.view.terms.limits c.args.key) None s.carried) (sym c.self.view_is) c.requires.brings),
    )

pub invariant_of-self : goal.invariant_of-self
invariant_of-self c =
    let t = c.store.ensures.2 in (
      table_stays _ _ _ _ _ c.self.invariant.0 c.store.ensures.0,
      device_stays _ _ _ _ (HeldSlotHome t.0) _ _ _ c.self.invariant.1 t.2.2 (λ core. refl) (λ core. refl) (λ core. refl) (λ core. refl) (λ core. refl),
    )

pub returns : goal.returns
returns c =
    slot_is_given 0 c.page_word-word.result _ _ c.store.ensures.2 _ _ c.store.ensures.0
    ∙ ap (λ (s : SeenDeviceSeat). with_slot_home s) c.self.view_is
