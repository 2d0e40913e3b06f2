use Rattle.std.proofs.Common.{arith, ap, sym, refl, ◌∙◌}
use Rattle.svga_ring.specs.Core.{LoadNext}
use Rattle.svga_link.proofs.DeviceSteps.{device_kept, device_loads}
use Rattle.svga_link.proofs.DeviceTold.{next_is_found, reads_on}
use Rattle.svga_link.proofs.Offsets.{table_stays}
use Rattle.svga_link.proofs.device_seat.DeviceSeat.load_next.Goals as goal

pub load-requires : goal.load-requires
load-requires c =
    let b = c.self.invariant.0 in (
      b.one_table ∙ ap (λ b. b.shared.table_id) (sym c.deref.ensures),
      omega (arith, b.words, ap (λ b. b.shared.table_id.words) (sym c.deref.ensures)),
      device_loads _ _ _ _ LoadNext _ c.self.invariant.1.role tt tt refl (λ n. refl),
    )

pub invariant_of-self : goal.invariant_of-self
invariant_of-self c =
    let i = c.self.invariant.1 in
    let t = c.load.ensures.2.1 in (
      table_stays _ _ _ _ _ c.self.invariant.0 c.load.ensures.0,
      device_kept _ _ _ _ LoadNext _ _ _ _ _ i t (λ core. refl) (λ core. refl) (λ core. refl)
          (next_is_found _ _ _ _ t) (i.at_is ∙ reads_on _ _ _ _ t),
    )
