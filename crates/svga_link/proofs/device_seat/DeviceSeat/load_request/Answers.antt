use Rattle.std.proofs.Common.{arith, ap, sym, refl, subst, ◌∙◌}
use Rattle.svga_ring.specs.Core.{LoadRequest}
use Rattle.svga_ring.specs.Views.{DeviceView}
use Rattle.svga_link.proofs.DevicePages.{device_stays}
use Rattle.svga_link.proofs.DeviceSteps.{device_loads}
use Rattle.svga_link.proofs.DeviceWords.{request_told}
use Rattle.svga_link.proofs.Offsets.{table_stays}
use Rattle.svga_link.specs.Holding.{LoadsRequest}
use Rattle.svga_link.proofs.device_seat.DeviceSeat.load_request.Goals as goal

pub load-requires : goal.load-requires
load-requires c =
    let b = c.self.invariant.0 in
    let board = ap (λ b. b.shared.table_id) (sym c.deref.ensures) in (
      b.one_table ∙ board,
      omega (arith, b.words, ap (λ t. t.words) board),
      device_loads _ _ _ _ LoadRequest _ c.self.invariant.1.role tt tt refl (λ n. refl),
    )

pub invariant_of-self : goal.invariant_of-self
invariant_of-self c = (
  table_stays _ _ _ _ _ c.self.invariant.0 c.load.ensures.0,
  device_stays _ _ _ _ LoadRequest _ _ _ c.self.invariant.1 c.load.ensures.2.1 (λ core. refl) (λ core. refl) (λ core. refl) (λ core. refl) (λ core. refl),
)

pub returns-clause-told : goal.returns-clause-told
returns-clause-told c =
    let r = c.request_in.ensures in
    let t = request_told _ _ _ _ c.request_in.result c.load.ensures.2.1 r.number r.id r.descriptor in
    (t.0, subst (λ (e : DeviceView). LoadsRequest e c.load.new.seat.me.0.of_device t.0) (ap (λ s. s.view) c.self.view_is) t.1, t.2)
