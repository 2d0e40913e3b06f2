use Rattle.std.proofs.Common.{ap, sym, subst, ◌∙◌, ◌*◌, length, [], ◌∷◌, ◌++◌}
use Rattle.svga_cmd.specs.Spelling.{Spells}
use Rattle.svga_link.specs.Reserving.{MaySend}
use Rattle.svga_model.specs.Acts.{Do}
use Rattle.bench_ring.proofs.Reservations.{may_send, stays_on}
use Rattle.bench_ring.proofs.sending.send.Goals as goal

pub commit-requires-clause-full : goal.commit-requires-clause-full
commit-requires-clause-full g c =
    ap (λ words. 4 * length words) c.put_all.ensures.words ∙ sym c.put_all.ensures.full

pub commit-requires-clause-may : goal.commit-requires-clause-may
commit-requires-clause-may g c =
    let next = c.requires.next in
    let stays = stays_on _ _ _ c.begin-reserved.ensures.stays c.put_all.ensures.stays in (
      next.0,
      subst (λ words. MaySend c.put_all.new.driver.view words next.0) (sym c.put_all.ensures.words)
          (may_send _ _ next.0 _ next.1 c.requires.ready.none_open stays),
    )

pub returns-clause-ready : goal.returns-clause-ready
returns-clause-ready g c =
    let next = c.requires.next in
    let stays = stays_on _ _ _ c.begin-reserved.ensures.stays c.put_all.ensures.stays in
    let left = c.commit.ensures next.0 (subst (Spells next.0) (sym c.put_all.ensures.words) next.1.spelled) in
    record {
      runs = ap (λ d. d.view.stopped) left ∙ stays.stopped ∙ c.requires.ready.runs;
      none_begun = ap (λ d. d.reserved) left;
      none_open = ap (λ d. d.view.request.number) left ∙ ap (λ r. r.number) stays.request ∙ c.requires.ready.none_open
          ∙ sym (ap (λ l. l.last) stays.replies) ∙ sym (ap (λ d. d.view.reply_loads.last) left);
    }

pub returns-clause-sent : goal.returns-clause-sent
returns-clause-sent g c = λ command spells.
    let stays = stays_on _ _ _ c.begin-reserved.ensures.stays c.put_all.ensures.stays in
    let left = c.commit.ensures command (subst (Spells command) (sym c.put_all.ensures.words) spells) in
    record {
      terms = ap (λ d. d.view.terms) left ∙ stays.terms;
      seen = ap (λ d. d.view.seen) left ∙ stays.seen;
      lent = ap (λ d. d.view.lent) left ∙ stays.lent;
      acts = ap (λ d. d.view.acts) left ∙ ap (λ acts. acts ++ Do command ∷ []) stays.acts;
      sent = ap (λ d. d.view.sent) left ∙ ap (λ words. c.put_all.new.driver.view.sent ++ words) c.put_all.ensures.words
          ∙ ap (λ sent. sent ++ c.args.words.now) stays.sent;
    }
