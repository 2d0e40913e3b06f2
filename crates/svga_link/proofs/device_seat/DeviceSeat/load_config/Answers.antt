use Rattle.std.proofs.Common.{arith, ap, sym, refl, not, ◌==◌, ◌∙◌}
use Rattle.svga_ring.specs.Core.{LoadConfig}
use Rattle.svga_link.proofs.DevicePages.{device_stays, seen_after}
use Rattle.svga_link.proofs.DeviceSteps.{device_loads}
use Rattle.svga_link.proofs.DeviceWords.{config_told}
use Rattle.svga_link.proofs.Offsets.{table_stays}
use Rattle.svga_link.specs.Holding.{with_config}
use Rattle.svga_link.specs.Seats.{SeenDeviceSeat}
use Rattle.svga_link.proofs.device_seat.DeviceSeat.load_config.Goals as goal

pub load-requires : goal.load-requires
load-requires c =
    let b = c.self.invariant.0 in
    let board = ap (λ b. b.shared.table_id) (sym c.deref.ensures) in (
      b.one_table ∙ board,
      omega (arith, b.words, ap (λ t. t.words) board),
      device_loads _ _ _ _ LoadConfig _ c.self.invariant.1.role tt tt refl (λ n. refl),
    )

pub invariant_of-self : goal.invariant_of-self
invariant_of-self c = (
  table_stays _ _ _ _ _ c.self.invariant.0 c.load.ensures.0,
  device_stays _ _ _ _ LoadConfig _ _ _ c.self.invariant.1 c.load.ensures.2.1 (λ core. refl) (λ core. refl) (λ core. refl) (λ core. refl) (λ core. refl),
)

pub returns : goal.returns
returns c =
    let t = c.load.ensures.2.1 in
    seen_after c.load.new.seat.me _ _ _ _ (config_told _ _ _ _ t) (ap (λ m. m.1) t.left_is) c.load.ensures.0
    ∙ ap (λ (s : SeenDeviceSeat). record s { view = with_config s.view (not (c.load.result == 0)) }) c.self.view_is
