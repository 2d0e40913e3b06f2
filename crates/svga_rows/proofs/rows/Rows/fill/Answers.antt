use Rattle.std.proofs.Common.{length, ◌+◌, ◌<◌, arith, ap, []}
use Rattle.svga_rows.proofs.RowsLaws.{length-lists_of, length_at}
use Rattle.svga_rows.proofs.rows.Rows.fill.Goals as goal

pub fill_at-requires-clause-within : goal.fill_at-requires-clause-within
fill_at-requires-clause-within g c = omega (arith, length-lists_of c.self.inside.starts.items c.self.inside.items.items, ap (λ v. length v.lists) c.self.view_is, c.requires.within, ap length c.deref.ensures.value)

pub fill_at-requires-clause-fits : goal.fill_at-requires-clause-fits
fill_at-requires-clause-fits g c =
    let starts = c.self.inside.starts.items in
    let items = c.self.inside.items.items in
    let fits = rw (← c.self.view_is) at c.requires.fits in
    let within : c.args.number + 1 < length starts = omega (arith, length-lists_of starts items, ap (λ v. length v.lists) c.self.view_is, c.requires.within) in
    rw c.deref.ensures.value (omega (arith, length_at starts items c.self.invariant c.args.number [] within, fits))
