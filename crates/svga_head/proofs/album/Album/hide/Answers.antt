use Rattle.std.proofs.Common.{◌≡◌, ap, ◌∙◌, subst, arith}
use Rattle.svga_head.proofs.SlotLaws.{remove_past, set_remove}
use Rattle.svga_head.specs.Changes.{without_picture}
use Rattle.svga_head.proofs.album.Album.hide.Goals.{in-Some-1, in-None-1}
use Rattle.svga_head.proofs.album.Album.hide.Goals as goal

pub returns-then-id-le-MAX_SCREEN_ID : goal.returns-then-id-le-MAX_SCREEN_ID
returns-then-id-le-MAX_SCREEN_ID c =
    let e = set_remove c.self.inside.slots c.args.id c.take-old.new.self (omega arith) c.self.invariant c.take-old.ensures.after ∙ ap (without_picture c.args.id) c.self.view_is in
    elim c.match-old.branch [ in-Some-1 w ↦ w.self-is ∙ e | in-None-1 w ↦ w.self-is ∙ e ]

pub returns-else-id-le-MAX_SCREEN_ID : goal.returns-else-id-le-MAX_SCREEN_ID
returns-else-id-le-MAX_SCREEN_ID c = subst (λ ps. ps ≡ without_picture c.args.id ps) c.self.view_is (remove_past c.self.inside.slots c.args.id (omega arith))
