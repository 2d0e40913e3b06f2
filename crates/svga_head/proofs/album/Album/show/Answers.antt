use Rattle.std.proofs.Common.{ap, ◌∙◌, arith, Ok, Err, OnOk, Result}
use Rattle.svga_head.proofs.SlotLaws.{set_insert}
use Rattle.svga_head.proofs.album.Album.show.Goals as goal
use Rattle.svga_head.specs.Changes.{black_rows, with_picture}

on_ok : {T E P Q : Type 0} (r : Result T E) → (P → Q) → OnOk r P → OnOk r Q
on_ok (Ok x) f p = f p
on_ok (Err e) f p = tt

pub returns-clause-ok : goal.returns-clause-ok
returns-clause-ok c = on_ok c.show_in.result
    (λ is. set_insert c.self.inside.slots c.args.id c.show_in.new.slot (omega (arith, c.requires.id)) c.self.invariant (black_rows c.args.width c.args.height) is
    ∙ ap (with_picture c.args.id c.args.width c.args.height) c.self.view_is)
    c.show_in.ensures.ok
