use Rattle.std.proofs.Common.{◌≡◌, ap, sym, subst, ◌∙◌, length, replicate, None}
use Rattle.atomic_table.specs.Table.{opening}
use Rattle.svga_ring.proofs.Steps.Each.{opening_sound}
use Rattle.svga_ring.proofs.Table.Rule.{table_opens}
use Rattle.svga_ring.specs.Core.{opening_words}
use Rattle.svga_ring.specs.TableRule.{IsSoundTable, opening_view}
use Rattle.svga_link.proofs.making.board.Goals as goal

pub vacant-requires : goal.vacant-requires
vacant-requires c =
    let k = c.args.session.now in
    let words : c.as_slice.result.now ≡ opening_words k = c.as_slice.ensures.value ∙ c.in_ok-words.ensures in
    subst (λ ws. IsSoundTable k (opening ws (replicate c.pages.result None) (opening_view k))) (sym words)
    (subst (λ n. IsSoundTable k (opening (opening_words k) (replicate n None) (opening_view k))) (sym c.pages.ensures) (table_opens k))

pub returns-clause-words : goal.returns-clause-words
returns-clause-words c =
    c.in_ok-table.ensures.0 ∙ ap length (c.as_slice.ensures.value ∙ c.in_ok-words.ensures) ∙ (opening_sound c.args.session.now).of_words.fixed.length_is
