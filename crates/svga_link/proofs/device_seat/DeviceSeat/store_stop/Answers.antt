use Rattle.std.proofs.Common.{arith, ap, sym, refl, subst, ◌∙◌}
use Rattle.svga_cmd.specs.Spelling.{Spells}
use Rattle.svga_ring.specs.Conditions.{IsServed}
use Rattle.svga_ring.specs.Core.{StoreStop}
use Rattle.svga_ring.specs.Views.{DeviceView}
use Rattle.svga_link.proofs.DeviceSteps.{device_kept, device_takes, device_view}
use Rattle.svga_link.proofs.DeviceTold.{next_after_stop, read_stays, seat_served, taken_seat}
use Rattle.svga_link.proofs.Offsets.{table_stays}
use Rattle.svga_link.specs.Told.{served}
use Rattle.svga_link.proofs.device_seat.DeviceSeat.store_stop.Goals as goal

pub store-requires : goal.store-requires
store-requires c =
    let b = c.self.invariant.0 in
    let i = c.self.invariant.1 in
    let command = c.requires.0 in
    let may = subst (λ e. IsServed e command) (sym (ap (λ s. s.view) c.self.view_is)) c.requires.1 in (
      b.one_table ∙ ap (λ b. b.shared.table_id) (sym c.deref.ensures),
      omega (arith, b.words, ap (λ b. b.shared.table_id.words) (sym c.deref.ensures)),
      device_takes _ _ _ _ _ _ command i.role may refl i.at_is,
    )

pub invariant_of-self : goal.invariant_of-self
invariant_of-self c =
    let i = c.self.invariant.1 in
    let own = c.store.ensures.2.0 in
    let t = c.store.ensures.2.2.2 in
    let view = device_view _ _ _ (StoreStop own) _ (λ e. served e own) t (λ core. refl) in (
      table_stays _ _ _ _ _ c.self.invariant.0 c.store.ensures.0,
      device_kept _ _ _ _ (StoreStop own) _ _ _ _ _ i t (λ core. refl) (λ core. refl) (λ core. refl)
          (i.next_is ∙ next_after_stop c.self.inside.seat.me.0.of_device _ own view) (i.at_is ∙ read_stays c.self.inside.seat.me.0.of_device _ own view),
    )

pub returns : goal.returns
returns c = λ command spells.
    let same = sym (ap (λ s. s.view) c.self.view_is) in
    let here = subst (λ (e : DeviceView). Spells command e.read) same spells in
    let t = c.store.ensures.2 in
    taken_seat _ _ _ _ t.0 command t.1 here t.2.2 _ _ c.store.ensures.0 ∙ ap (seat_served command) c.self.view_is
