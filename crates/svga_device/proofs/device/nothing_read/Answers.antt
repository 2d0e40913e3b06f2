use Rattle.std.proofs.Common.{◌≡◌, sym, ap, subst, ◌∙◌}
use Rattle.svga_model.specs.Sentences.{IsCommandBegun}
use Rattle.svga_ring.specs.Core.{read_count}
use Rattle.svga_ring.specs.Views.{DeviceView}
use Rattle.svga_device.proofs.ReadingLaws.{stopped_read}
use Rattle.svga_device.proofs.device.nothing_read.Goals as goal

pub returns : goal.returns
returns c =
    let p = c.facts.ensures.possible in
    let same = p.view_is in
    sym (ap (λ (e : DeviceView). e.read) same)
    ∙ stopped_read c.one_answer.ensures.before_last p.key p.core p.sound
    (ap (λ (e : DeviceView). e.saw_stopped) same ∙ c.requires.stopped) (ap (λ (e : DeviceView). e.drained) same ∙ c.requires.drained)
    (subst (λ (e : DeviceView). read_count e ≡ e.next) (sym same) c.requires.all_read)
    (subst (λ (e : DeviceView). IsCommandBegun e.read) (sym same) c.requires.begun)
