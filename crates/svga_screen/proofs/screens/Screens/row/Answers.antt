use Rattle.std.proofs.Common.{ap, subst, sym, ◌∙◌, IfSome, slice_index_or, []}
use Rattle.std.specs.FinMap as map
use Rattle.std.specs.Prelude.{option_and_then, slice_get}
use Rattle.svga_model.specs.Screens.{IsAsWide, has_row, row_of}
use Rattle.svga_screen.proofs.ScreenLaws.{definition_kept, screen_at}
use Rattle.svga_screen.specs.Kept.{IsPicture, rows_from, screen_from}
use Rattle.svga_screen.proofs.screens.Screens.row.Goals as goal

pub row_in-requires : goal.row_in-requires
row_in-requires c = record {
  picture = subst (λ o. IsPicture o c.list.result.now) (sym c.in-Some.ensures.def)
      (subst (IsPicture (map.get c.self.inside.defs.screens c.args.id)) (sym c.list.ensures) (c.self.invariant.each c.args.id c.in-Some.ensures.low));
}

pub returns-in-None-clause-row : goal.returns-in-None-clause-row
returns-in-None-clause-row c =
    ap (λ o. option_and_then (λ s. slice_get s.rows c.args.y) (screen_from o (slice_index_or c.self.inside.pictures.lists c.args.id []))) c.in-None.ensures.def
    ∙ ap (option_and_then (λ s. slice_get s.rows c.args.y)) (sym (screen_at c.self.inside.defs c.self.inside.pictures.lists c.self.invariant.definitions c.args.id))
    ∙ ap (λ r. row_of r.screens c.args.id c.args.y) c.self.view_is

pub returns-in-None-clause-present : goal.returns-in-None-clause-present
returns-in-None-clause-present c = ap (λ o. has_row o c.args.y)
    (c.in-None.ensures.def ∙ definition_kept c.self.inside.defs c.self.inside.pictures.lists c.self.inside.pictures.room c.args.self.now c.args.id c.self.invariant c.self.view_is)

pub returns-in-Some-clause-row : goal.returns-in-Some-clause-row
returns-in-Some-clause-row c =
    let d = c.in-Some.def.now in
    c.row_in.ensures.row
    ∙ ap (λ px. slice_get (rows_from d.width d.height px) c.args.y) c.list.ensures
    ∙ ap (λ o. option_and_then (λ s. slice_get s.rows c.args.y) (screen_from o (slice_index_or c.self.inside.pictures.lists c.args.id []))) c.in-Some.ensures.def
    ∙ ap (option_and_then (λ s. slice_get s.rows c.args.y)) (sym (screen_at c.self.inside.defs c.self.inside.pictures.lists c.self.invariant.definitions c.args.id))
    ∙ ap (λ r. row_of r.screens c.args.id c.args.y) c.self.view_is

pub returns-in-Some-clause-present : goal.returns-in-Some-clause-present
returns-in-Some-clause-present c = c.row_in.ensures.present ∙ ap (λ o. has_row o c.args.y)
    (c.in-Some.ensures.def ∙ definition_kept c.self.inside.defs c.self.inside.pictures.lists c.self.inside.pictures.room c.args.self.now c.args.id c.self.invariant c.self.view_is)

pub returns-in-Some-clause-width : goal.returns-in-Some-clause-width
returns-in-Some-clause-width c = subst (λ o. IfSome c.row_in.result (λ row. IsAsWide o row.now))
    (c.in-Some.ensures.def ∙ definition_kept c.self.inside.defs c.self.inside.pictures.lists c.self.inside.pictures.room c.args.self.now c.args.id c.self.invariant c.self.view_is)
    c.row_in.ensures.width
