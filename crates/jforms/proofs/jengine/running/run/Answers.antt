use Rattle.jground.proofs.JbaseProofs.Cuts.{cut_none}
use Rattle.jsemantics.specs.jmachine.Machine.{run as run_of}
use Rattle.jsemantics.specs.jmachine.RunTraces.{run_text}
use Rattle.jforms.proofs.JengineProofs.InitialMachines.{at_err}
use Rattle.jforms.proofs.jengine.running.run.Goals as goal

pub run_on-came-requires-clause-safe : goal.run_on-came-requires-clause-safe
run_on-came-requires-clause-safe g c = record { sound = c.is_sound.ensures; side = c.requires.side; sided = c.requires.sided }

-- where there is no memory

pub returns-in_err-base-clause-cut : goal.returns-in_err-base-clause-cut
returns-in_err-base-clause-cut g c =
    let plan = c.args.plan.now in
    at_err c.from_residual.result
    (cut_none (g.K.Sink.out c.args.out.now) (run_text (run_of (g.G.Guard.rules c.args.guard) c.args.program.now plan plan.steps)))
