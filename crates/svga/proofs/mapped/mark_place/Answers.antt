use Rattle.std.proofs.Common.{◌≡◌, Some, true, set, ap, subst, sym, ◌∙◌}
use Rattle.svga.proofs.MappedLaws.{marked_guest, marked_other, not_guest, not_none}
use Rattle.svga.specs.Mapped.{AreMarked}
use Rattle.svga_cmd.specs.declared.page.PageKey.TheVariants.{Guest, Frame}
use Rattle.svga_model.specs.Touches.{is_page}
use Rattle.svga.proofs.mapped.mark_place.Goals as goal

pub returns-in-Some-Guest : goal.returns-in-Some-Guest
returns-in-Some-Guest c =
    let p = c.in-Some-Guest.p in
    let some : c.args.place ≡ Some c.in-Some-Guest.field-0 = c.in-Some-Guest.is in
    let guest : c.in-Some-Guest.field-0 ≡ Guest p = rw some at c.in-Some-Guest.field-0-is in
    let is : c.args.place ≡ Some (Guest p) = some ∙ ap Some guest in
    subst (λ place. AreMarked (λ key. is_page key place) c.args.mapped.now (set c.args.mapped.now p true)) (sym is)
    (marked_guest c.args.mapped.now p (c.requires p is))

pub returns-in-Some-Frame : goal.returns-in-Some-Frame
returns-in-Some-Frame c =
    let some : c.args.place ≡ Some c.in-Some-Frame.field-0 = c.in-Some-Frame.is in
    let frame : c.in-Some-Frame.field-0 ≡ Frame c.in-Some-Frame.field-0-0 = rw some at c.in-Some-Frame.field-0-is in
    marked_other c.args.mapped.now c.args.place
    (not_guest c.args.place c.in-Some-Frame.field-0-0 (some ∙ ap Some frame))

pub returns-in-None : goal.returns-in-None
returns-in-None c = marked_other c.args.mapped.now c.args.place (not_none c.args.place c.in-None.is)
