use Rattle.std.proofs.Common.{arith, ap, ◌+◌, ◌<◌, sym, refl, subst, ◌∙◌}
use Rattle.svga_cmd.specs.Spelling.{Spells}
use Rattle.svga_cmd.specs.declared.command.Command.{Command}
use Rattle.svga_ring.specs.Core.{LoadCell, read_count}
use Rattle.svga_ring.specs.Layouts.{word_address, word_cell}
use Rattle.svga_ring.specs.Views.{DeviceView}
use Rattle.svga_link.proofs.DeviceSteps.{device_kept, device_loads}
use Rattle.svga_link.proofs.DeviceTold.{next_stays, read_fits, read_view, reads_behind}
use Rattle.svga_link.proofs.Offsets.{offset_of, table_stays}
use Rattle.svga_link.proofs.device_seat.DeviceSeat.load_cell.Goals as goal

pub load-word-requires : goal.load-word-requires
load-word-requires c =
    let b = c.self.invariant.0 in
    let i = c.self.invariant.1 in
    let e = c.self.inside.seat.me.0.of_device in
    let at = offset_of c.self.inside.session c.self.inside.at (read_count e) (i.at_is ∙ ap (λ l. word_address l (read_count e)) i.layout) in
    let same = sym (ap (λ s. s.view) c.self.view_is) in
    let known = subst (λ (e : DeviceView). read_count e < e.next) same c.requires.known in
    let unread = subst (λ (e : DeviceView). (command : Command) → Spells command e.read → ⊥) same c.requires.unread in (
      b.one_table ∙ ap (λ b. b.shared.table_id) (sym c.deref.ensures),
      omega (arith, b.words, at.below, c.self.inside.session.within.ring_end.most, ap (λ b. b.shared.table_id.words) (sym c.deref.ensures)),
      device_loads _ _ _ _ LoadCell _ i.role (known, unread) tt (at.cell ∙ ap (λ l. word_cell l (read_count e)) (sym i.layout)) (λ n. refl),
    )

pub overflow_cast-word : goal.overflow_cast-word
overflow_cast-word c =
    let known = subst (λ (e : DeviceView). read_count e < e.next) (sym (ap (λ s. s.view) c.self.view_is)) c.requires.known in
    omega (arith, read_fits _ _ _ _ c.load-word.ensures.2.1 known)

pub invariant_of-self : goal.invariant_of-self
invariant_of-self c =
    let i = c.self.invariant.1 in
    let e = c.self.inside.seat.me.0.of_device in
    let t = c.load-word.ensures.2.1 in
    let view = read_view _ _ _ _ t in
    let behind = c.word_behind-self-inside.ensures (read_count e) (i.at_is ∙ ap (λ l. word_address l (read_count e)) i.layout) in (
      table_stays _ _ _ _ _ c.self.invariant.0 c.load-word.ensures.0,
      device_kept _ _ _ _ LoadCell _ _ _ _ _ i t (λ core. refl) (λ core. refl) (λ core. refl)
          (i.next_is ∙ next_stays e _ _ view)
          (behind ∙ ap (λ l. word_address l (read_count e + 1)) (sym i.layout) ∙ reads_behind e _ _ view),
    )
