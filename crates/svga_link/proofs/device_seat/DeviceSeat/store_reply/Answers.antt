use Rattle.std.proofs.Common.{arith, ap, sym, refl, subst, ◌∙◌}
use Rattle.svga_ring.specs.Conditions.{IsChainServed}
use Rattle.svga_ring.specs.Core.{StoreReply}
use Rattle.svga_link.proofs.DevicePages.{device_stays}
use Rattle.svga_link.proofs.DeviceSteps.{device_stores}
use Rattle.svga_link.proofs.Offsets.{table_stays}
use Rattle.svga_link.proofs.device_seat.DeviceSeat.store_reply.Goals as goal

pub store-requires : goal.store-requires
store-requires c =
    let b = c.self.invariant.0 in
    let same = ap (λ s. s.view) c.self.view_is in
    let board = ap (λ b. b.shared.table_id) (sym c.deref.ensures) in (
      b.one_table ∙ board,
      omega (arith, b.words, ap (λ t. t.words) board),
      device_stores _ _ _ _ StoreReply _ _ c.self.invariant.1.role
          (subst IsChainServed (sym same) c.requires.served) tt refl (λ n. c.requires.number ∙ ap (λ e. e.wanted.number) (sym same)),
    )

pub invariant_of-self : goal.invariant_of-self
invariant_of-self c = (
  table_stays _ _ _ _ _ c.self.invariant.0 c.store.ensures.0,
  device_stays _ _ _ _ StoreReply _ _ _ c.self.invariant.1 c.store.ensures.2.2 (λ core. refl) (λ core. refl) (λ core. refl) (λ core. refl) (λ core. refl),
)
