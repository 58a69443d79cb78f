use Rattle.std.proofs.Common.{length}
use Rattle.jresolution.specs.jprogram.ProgramClasses.{known}
use Rattle.jresolution.proofs.JprogramProofs.ImplementationRows.{all_made, below_next, below_none, steps_end}
use Rattle.jresolution.proofs.jprogram.classes.NamedProgram.fill.Goals as goal

pub loop-step-init : goal.loop-step-init
loop-step-init c = (c.most_steps-steps.ensures, c.requires.rows, below_none c.args.self.now c.args.rows.now)

pub loop-step-preserved : goal.loop-step-preserved
loop-step-preserved c = (c.loop-step.invariant.0, c.in_ok-round.ensures.rows, below_next c.args.self.now c.requires.order c.loop-step.step c.loop-step.rows c.round.new.rows c.loop-step.invariant.2 c.in_ok-round.ensures.made)

pub returns : goal.returns
returns c =
    all_made c.args.self.now c.requires.order c.loop-step.rows c.loop-step.step (steps_end c.most_steps-steps.result (length (known c.args.self.now)) c.loop-step.step c.most_steps-steps.ensures c.loop-step-test.false) c.loop-step.invariant.1 c.loop-step.invariant.2
