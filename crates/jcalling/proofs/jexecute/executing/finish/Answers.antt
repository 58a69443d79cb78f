use Rattle.jstepping.specs.declared.jstep.outcomes.Stepped.TheVariants as steps
use Rattle.jcalling.proofs.JexecuteProofs.StepOutcomes.{finish_as}
use Rattle.jcalling.proofs.jexecute.executing.finish.Goals as goal

pub returns-in-Went-clause-done : goal.returns-in-Went-clause-done
returns-in-Went-clause-done g c =
    finish_as c.end_step.result c.args.m.now c.end_step.new.m c.args.came steps.Went c.in-Went.is (λ e h. h) c.end_step.ensures.done

pub returns-in-Ended-clause-done : goal.returns-in-Ended-clause-done
returns-in-Ended-clause-done g c =
    finish_as c.end_step-in-Ended.result c.args.m.now c.end_step-in-Ended.new.m c.args.came steps.Ended c.in-Ended.is (λ e h. h) c.end_step-in-Ended.ensures.done

pub returns-in-Handled-clause-done : goal.returns-in-Handled-clause-done
returns-in-Handled-clause-done g c =
    finish_as c.end_step-in-Handled.result c.args.m.now c.end_step-in-Handled.new.m c.args.came (steps.Handled c.in-Handled.field-0) c.in-Handled.is (λ e h. h) c.end_step-in-Handled.ensures.done

pub returns-in-Uncaught-clause-done : goal.returns-in-Uncaught-clause-done
returns-in-Uncaught-clause-done g c =
    finish_as c.end_step-in-Uncaught.result c.args.m.now c.end_step-in-Uncaught.new.m c.args.came (steps.Uncaught c.in-Uncaught.field-0) c.in-Uncaught.is (λ e h. h) c.end_step-in-Uncaught.ensures.done

pub returns-in-Full-clause-done : goal.returns-in-Full-clause-done
returns-in-Full-clause-done g c =
    finish_as c.end_step-in-Full.result c.args.m.now c.end_step-in-Full.new.m c.args.came steps.Full c.in-Full.is (λ e h. h) c.end_step-in-Full.ensures.done
