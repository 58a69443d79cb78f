use Rattle.std.proofs.Common.{◌∙◌, ap}
use Rattle.std.specs.Prelude.{not}
use Rattle.jguard.proofs.SingleAsks.{asked_nothing}
use Rattle.jforms.specs.jtables.Engines.{asks_next}
use Rattle.jforms.proofs.JtablesProofs.GuardQuestions.{answers_none, asks_nothing, fixed_then, without}
use Rattle.jforms.proofs.JengineProofs.StepPremises.{has_frames, has_rules}
use Rattle.jforms.proofs.jengine.advancing.advance.Goals as goal

pub begin_thread-requires-clause-none : goal.begin_thread-requires-clause-none
begin_thread-requires-clause-none g c = without c.args.m.now (c.is_none.ensures ∙ ap not c.if-is_none.true)

pub returns-then-is_none-clause-answered : goal.returns-then-is_none-clause-answered
returns-then-is_none-clause-answered g c =
    let m = c.args.m.now in
    answers_none _ _ _ _ _ m c.begin_thread.new.m _ _ c.in_ok-came.came (asks_nothing m (without m (c.is_none.ensures ∙ ap not c.if-is_none.true))) c.in_ok-came.ensures.comes

pub execute-requires-clause-frames : goal.execute-requires-clause-frames
execute-requires-clause-frames g c = has_frames c.args.m.now (c.is_none.ensures ∙ ap not c.if-is_none.false)

pub execute-requires-clause-rules : goal.execute-requires-clause-rules
execute-requires-clause-rules g c = has_rules g.G.Guard.mark c.args.m.now c.requires.carry

pub returns-then-is_none-clause-once : goal.returns-then-is_none-clause-once
returns-then-is_none-clause-once g c =
    let m = c.args.m.now in
    asked_nothing g.G.Guard.asked c.args.guard.now (asks_next m) (asks_nothing m (without m (c.is_none.ensures ∙ ap not c.if-is_none.true)))

pub answer-requires : goal.answer-requires
answer-requires g c = record {
  before = c.args.m.now;
  executes = c.in_ok-found.ensures.done;
  fixed = c.in_ok-found.ensures.fixed;
  carry = c.requires.carry;
  known = c.requires.known;
}

pub returns-clause-answered : goal.returns-clause-answered
returns-clause-answered g c = c.in_ok-done.ensures.answered c.args.m.now c.in_ok-found.ensures.done c.in_ok-found.ensures.fixed

pub returns-clause-fixed : goal.returns-clause-fixed
returns-clause-fixed g c = fixed_then c.args.m.now c.execute.new.m c.answer.new.m c.in_ok-found.ensures.fixed c.in_ok-done.ensures.fixed

pub returns-clause-quiet : goal.returns-clause-quiet
returns-clause-quiet g c none = c.answer.ensures.quiet c.args.m.now c.in_ok-found.ensures.done none

pub returns-clause-once : goal.returns-clause-once
returns-clause-once g c = c.in_ok-done.ensures.once c.args.m.now c.in_ok-found.ensures.done
