use Rattle.std.proofs.Common.{ap, ◌∙◌, ◌≡◌, sym, subst, arith, length, slice_set}
use Rattle.std.specs.FinMap as map
use Rattle.std.specs.Prelude.{option_map}
use Rattle.svga_head.proofs.SlotLaws.{at_slot, get-pictures_in, painted_past, painted_slot}
use Rattle.svga_head.specs.Mirrors.{pictures_in}
use Rattle.svga_head.specs.Changes.{IsOnPicture, painted_picture, painted_rows}
use Rattle.svga_head.proofs.album.Album.paint.Goals as goal

pub paint_in-requires : goal.paint_in-requires
paint_in-requires c = subst (λ o. IsOnPicture o c.args.x c.args.y (length c.args.colours.now))
    (ap (λ ps. map.get ps c.args.id) (sym c.self.view_is) ∙ (get-pictures_in c.self.inside.slots c.args.id (omega (arith, c.if-id-le-MAX_SCREEN_ID.true)) ∙ sym (at_slot c.self.inside.slots c.args.id c.index-self-id.result (omega (arith, c.if-id-le-MAX_SCREEN_ID.true)) c.self.invariant)))
    c.requires

pub returns-then-id-le-MAX_SCREEN_ID : goal.returns-then-id-le-MAX_SCREEN_ID
returns-then-id-le-MAX_SCREEN_ID c =
    ap (λ o. pictures_in (slice_set c.self.inside.slots c.args.id o))
    (c.paint_in.ensures ∙ ap (option_map (painted_rows c.args.x c.args.y c.args.colours.now)) (at_slot c.self.inside.slots c.args.id c.index-self-id.result (omega (arith, c.if-id-le-MAX_SCREEN_ID.true)) c.self.invariant))
    ∙ (painted_slot c.self.inside.slots c.args.id c.args.x c.args.y c.args.colours.now (omega (arith, c.if-id-le-MAX_SCREEN_ID.true)) c.self.invariant
    ∙ ap (painted_picture c.args.id c.args.x c.args.y c.args.colours.now) c.self.view_is)

pub returns-else-id-le-MAX_SCREEN_ID : goal.returns-else-id-le-MAX_SCREEN_ID
returns-else-id-le-MAX_SCREEN_ID c = subst (λ ps. ps ≡ painted_picture c.args.id c.args.x c.args.y c.args.colours.now ps) c.self.view_is (painted_past c.self.inside.slots c.args.id c.args.x c.args.y c.args.colours.now (omega arith))
