use Rattle.std.proofs.Common.{ap, ◌∙◌, sym, arith, Some, None}
use Rattle.svga_head.proofs.SlotLaws.{at_slot, row_in, row_past}
use Rattle.svga_model.specs.Pictures.{picture_row}
use Rattle.svga_head.proofs.album.Album.row.Goals as goal

pub returns-in-Some : goal.returns-in-Some
returns-in-Some c =
    c.row.ensures ∙ (row_in c.self.inside.slots c.args.id c.args.y (Some c.in-Some.picture) (omega (arith, c.if-id-le-MAX_SCREEN_ID.true)) (sym c.in-Some.is ∙ at_slot c.self.inside.slots c.args.id c.index-self-id.result (omega (arith, c.if-id-le-MAX_SCREEN_ID.true)) c.self.invariant)
    ∙ ap (λ ps. picture_row ps c.args.id c.args.y) c.self.view_is)

pub returns-in-None : goal.returns-in-None
returns-in-None c =
    row_in c.self.inside.slots c.args.id c.args.y None (omega (arith, c.if-id-le-MAX_SCREEN_ID.true)) (sym c.in-None.is ∙ at_slot c.self.inside.slots c.args.id c.index-self-id.result (omega (arith, c.if-id-le-MAX_SCREEN_ID.true)) c.self.invariant)
    ∙ ap (λ ps. picture_row ps c.args.id c.args.y) c.self.view_is

pub returns-else-id-le-MAX_SCREEN_ID : goal.returns-else-id-le-MAX_SCREEN_ID
returns-else-id-le-MAX_SCREEN_ID c = row_past c.self.inside.slots c.args.id c.args.y (omega arith) ∙ ap (λ ps. picture_row ps c.args.id c.args.y) c.self.view_is
