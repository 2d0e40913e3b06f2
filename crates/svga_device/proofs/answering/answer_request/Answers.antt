use Rattle.std.proofs.Common.{subst}
use Rattle.svga_link.specs.Holding.{RequestTold}
use Rattle.svga_device.proofs.ChainOut.{resting_told, told_out}
use Rattle.svga_device.proofs.answering.answer_request.Goals as goal

pub answer-requires : goal.answer-requires
answer-requires c =
    let e = c.args.end.now in
    let e1 = c.read_request.new.self in
    let t = c.read_request.ensures in
    let told = subst (RequestTold e.view e1.view) c.in-Some.is t.told in
    record {
      out = told_out e.view e1.view c.in-Some.request told;
      resting = resting_told e e1 c.args.machine.now c.read_request.result t.left t.told c.requires.resting;
      empty = c.requires.empty;
    }

pub returns-in-Some-clause-answered : goal.returns-in-Some-clause-answered
returns-in-Some-clause-answered c = λ is. record {
  request = c.in-Some.request;
  loaded = c.read_request.new.self.view;
  told = subst (RequestTold c.args.end.now.view c.read_request.new.self.view) c.in-Some.is c.read_request.ensures.told;
  answered = c.answer.ensures.answered;
}

pub returns-in-None-clause-none : goal.returns-in-None-clause-none
returns-in-None-clause-none c = λ is. subst (RequestTold c.args.end.now.view c.read_request.new.self.view) c.in-None.is c.read_request.ensures.told

pub returns-in-None-clause-resting : goal.returns-in-None-clause-resting
returns-in-None-clause-resting c =
    let t = c.read_request.ensures in
    resting_told c.args.end.now c.read_request.new.self c.args.machine.now c.read_request.result t.left t.told c.requires.resting
