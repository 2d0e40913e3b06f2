use Rattle.std.proofs.Common.{[], ◌≡◌, is_some, not, arith, ap, refl, subst, ◌∙◌}
use Rattle.std.specs.FinSet as set
use Rattle.svga_cmd.specs.Pages.{HasPage, IsKey, page_at}
use Rattle.svga_cmd.specs.declared.page.PageKey.{PageKey}
use Rattle.svga_link.proofs.Begins.{no_words, none_of}
use Rattle.svga_link.proofs.PageRows.{keys_there, page_here}
use Rattle.svga_link.specs.Ends.{DriverSeen}
use Rattle.svga_link.proofs.driver.DriverEnd.facts.Goals as goal

pub returns-clause-mine : goal.returns-clause-mine
returns-clause-mine c =
    let e = c.self.inside in
    subst (λ (d : DriverSeen). (key : PageKey) → IsKey d.view.terms.limits key
    → is_some (page_at d.pages key) ≡ not (set.contains d.view.lent key)) c.self.view_is
    (λ key is_key. ap is_some (page_here e.seat.view.terms.limits e.row.items key is_key) ∙ c.self.invariant.mine key is_key)

pub returns-clause-keys : goal.returns-clause-keys
returns-clause-keys c =
    let e = c.self.inside in
    subst (λ (d : DriverSeen). (key : PageKey) → HasPage d.pages key → IsKey d.view.terms.limits key) c.self.view_is
    (λ key has. keys_there e.seat.view.terms.limits e.row.items key c.self.invariant.row_is has)

pub returns-clause-none_pending : goal.returns-clause-none_pending
returns-clause-none_pending c =
    let e = c.self.inside in
    subst (λ (d : DriverSeen). d.reserved ≡ 0 → (d.view.pending ≡ []) × (d.words ≡ [])) c.self.view_is
    (λ none. (
      none_of e.seat.view.pending (omega (arith, c.self.invariant.put, none)),
      no_words _ e.seat.view _ _ _ _ _ _ c.self.invariant none refl,
    ))
