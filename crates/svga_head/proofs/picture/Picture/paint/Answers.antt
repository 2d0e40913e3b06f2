use Rattle.std.proofs.Common.{◌≡◌, ◌+◌, ◌*◌, ◌≤◌, ap, sym, subst, ◌∙◌, length, arith, rules}
use Rattle.std.proofs.lemmas.List.{with_items_is}
use Rattle.svga_head.proofs.PixelRows.{on_pixels, rows_from-painted}
use Rattle.svga_head.proofs.picture.Picture.paint.Goals as goal
use Rattle.svga_head.specs.Changes.{IsOnRows, painted_rows}
use Rattle.svga_model.specs.Screens.{painted_row}
use Rattle.svga_screen.specs.Kept.{rows_from}

pub put-requires : goal.put-requires
put-requires c =
    subst (λ n. c.args.y * c.self.inside.width + c.args.x + length c.args.colours.now ≤ n) (sym (ap length c.deref_mut.ensures.value))
    (on_pixels c.self.inside.width c.self.inside.height c.self.inside.pixels.items c.args.x c.args.y c.args.colours.now c.self.invariant
    (subst (IsOnRows c.args.x c.args.y (length c.args.colours.now)) (sym c.self.view_is) c.requires))

pub overflow_add-y : goal.overflow_add-y
overflow_add-y c =
    let inside = on_pixels c.self.inside.width c.self.inside.height c.self.inside.pixels.items c.args.x c.args.y c.args.colours.now c.self.invariant
    (subst (IsOnRows c.args.x c.args.y (length c.args.colours.now)) (sym c.self.view_is) c.requires) in
    omega (arith, inside, c.self.inside.pixels.small)

pub overflow_mul-y : goal.overflow_mul-y
overflow_mul-y c =
    let inside = on_pixels c.self.inside.width c.self.inside.height c.self.inside.pixels.items c.args.x c.args.y c.args.colours.now c.self.invariant
    (subst (IsOnRows c.args.x c.args.y (length c.args.colours.now)) (sym c.self.view_is) c.requires) in
    omega (arith, inside, c.self.inside.pixels.small)

pub returns : goal.returns
returns c =
    let start = c.args.y * c.self.inside.width + c.args.x in
    let put : c.put.new.pixels ≡ painted_row c.self.inside.pixels.items start c.args.colours.now =
    c.put.ensures ∙ ap (λ px. painted_row px start c.args.colours.now) c.deref_mut.ensures.value in
    ap (rows_from c.self.inside.width c.self.inside.height)
    (with_items_is c.self.inside.pixels c.put.new.pixels (search rules) ∙ put)
    ∙ (rows_from-painted c.self.inside.width c.self.inside.height c.self.inside.pixels.items c.args.x c.args.y c.args.colours.now c.self.invariant
    (subst (IsOnRows c.args.x c.args.y (length c.args.colours.now)) (sym c.self.view_is) c.requires)
    ∙ ap (painted_rows c.args.x c.args.y c.args.colours.now) c.self.view_is)
