use Rattle.std.proofs.Common.{sym, ap, subst, ◌∙◌}
use Rattle.svga_link.specs.Ends.{DeviceSeen}
use Rattle.svga_model.proofs.ValidStateLaws.{step_limits}
use Rattle.svga_model.specs.States.{State}
use Rattle.svga_ring.specs.Core.{chain_of}
use Rattle.svga_ring.specs.Views.{DeviceView}
use Rattle.svga_device.specs.Serving.{AreListed}
use Rattle.svga_device.proofs.ChainOut.{nothing_read}
use Rattle.svga_device.proofs.ChainServed.{answered_is, is_served, view_after}
use Rattle.svga_device.proofs.NotedLaws.{holding_none}
use Rattle.svga_device.proofs.ServingLaws.{no_pages}
use Rattle.svga_device.proofs.answering.answer.Goals as goal

pub run_chain-requires-clause-answering : goal.run_chain-requires-clause-answering
run_chain-requires-clause-answering c =
    let e = c.args.end.now in
    let r = c.requires.resting in
    let o = c.requires.out in
    record {
      waits = o.waits;
      no_ring = o.no_ring;
      none_read = nothing_read e.view c.facts.ensures.possible o.waits;
      kept = r.kept;
      limits = r.limits;
      holding = holding_none e.view e.pages r.noted r.pages;
    }

pub give_all-requires : goal.give_all-requires
give_all-requires c =
    let h = c.run_chain.ensures.holding in
    let limits = ap (λ (e : DeviceView). e.terms.limits) h.view in
    record {
      listed = subst (λ l. AreListed l c.run_chain.new.end.pages c.run_chain.new.held) (sym limits) c.run_chain.ensures.listed;
      none_back = h.none_back;
    }

pub reply-requires : goal.reply-requires
reply-requires c =
    let first = c.args.end.now.view in
    let e1 = c.run_chain.new.end in
    let e2 = c.give_all.new.end in
    let h = c.run_chain.ensures.holding in
    let ran = c.run_chain.ensures.ran in
    let g = c.give_all.ensures.giving in
    let gone = c.give_all.ensures.none_there in
    let o = c.requires.out in
    let view = view_after first e1.view e2.view e1.pages e2.pages c.run_chain.new.machine.kept h ran g gone in
    record {
      served = is_served first e1.view e2.view e1.pages e2.pages c.run_chain.new.machine.kept h ran g gone o.waits o.no_ring c.give_all.ensures.none_held;
      number = o.numbers.number_is ∙ sym (ap (λ (e : DeviceView). e.wanted.number) view);
    }

pub returns-clause-answered : goal.returns-clause-answered
returns-clause-answered c =
    let first = c.args.end.now.view in
    let e1 = c.run_chain.new.end in
    let e2 = c.give_all.new.end in
    let kept = c.run_chain.new.machine.kept in
    let ran = c.run_chain.ensures.ran in
    record {
      pages = e1.pages;
      kept = kept;
      ran = ran;
      answered = ap (λ (d : DeviceSeen). d.view) c.reply.ensures
          ∙ answered_is first e1.view e2.view e1.pages e2.pages kept c.run_chain.ensures.holding ran c.give_all.ensures.giving c.give_all.ensures.none_there;
    }

pub returns-clause-resting : goal.returns-clause-resting
returns-clause-resting c =
    let first = c.args.end.now.view in
    let e1 = c.run_chain.new.end in
    let e2 = c.give_all.new.end in
    let kept = c.run_chain.new.machine.kept in
    let ran = c.run_chain.ensures.ran in
    let gone = c.give_all.ensures.none_there in
    let view = ap (λ (d : DeviceSeen). d.view) c.reply.ensures
    ∙ answered_is first e1.view e2.view e1.pages e2.pages kept c.run_chain.ensures.holding ran c.give_all.ensures.giving gone in
    let before : State = record { kept = first.kept; memory = e1.pages } in
    let limits = ap (λ k. k.limits) ran.stepped ∙ step_limits before (chain_of first.wanted) in
    record {
      kept = ap (λ (e : DeviceView). e.kept) view;
      limits = ap (λ (e : DeviceView). e.terms.limits) view ∙ c.requires.resting.limits ∙ sym limits ∙ sym (ap (λ (e : DeviceView). e.kept.limits) view);
      noted = ap (λ (e : DeviceView). e.noted) view;
      pages = ap (λ (d : DeviceSeen). d.pages) c.reply.ensures ∙ no_pages e2.pages gone;
    }
