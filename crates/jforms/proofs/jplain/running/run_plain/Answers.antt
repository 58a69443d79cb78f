use Rattle.std.proofs.Common.{List, OnErr, subst}
use Rattle.jground.specs.jbase.FaultCauses.{IsCut}
use Rattle.jground.proofs.JbaseProofs.Cuts.{cut_none}
use Rattle.jperm.specs.declared.permission.Permission.{Permission}
use Rattle.jresolution.specs.jprogram.ProgramClasses.{Program}
use Rattle.jdomain.specs.Domains.{has}
use Rattle.jsemantics.specs.jmachine.Machine.{run as run_of}
use Rattle.jsemantics.specs.jmachine.RunTraces.{run_text}
use Rattle.jsemantics.specs.jrules.PlainRules.{rules as plain}
use Rattle.jforms.proofs.JplainProofs.PassingSide.{same_side}
use Rattle.jforms.proofs.JengineProofs.InitialMachines.{at_err}
use Rattle.jforms.proofs.jplain.running.run_plain.Goals as goal

pub run-requires-clause-typed : goal.run-requires-clause-typed
run-requires-clause-typed g c = rw c.linked.ensures.same c.linked.ensures.well

pub run-requires-clause-main : goal.run-requires-clause-main
run-requires-clause-main g c = rw c.linked.ensures.same c.requires.main

pub run-requires-clause-side : goal.run-requires-clause-side
run-requires-clause-side g c = rw c.linked.ensures.same (same_side (has c.in_ok-guard.guard.domains) c.args.program.now.side c.linked.ensures.side)

pub run-requires-clause-sided : goal.run-requires-clause-sided
run-requires-clause-sided g c = c.rules_laws.ensures.plain (has c.in_ok-guard.guard.domains)

pub returns-clause-cut : goal.returns-clause-cut
returns-clause-cut g c =
    subst (λ (d : List (List Permission)). OnErr c.run.result (IsCut (g.K.Sink.out c.args.out.now) (g.K.Sink.out c.run.new.out)
    (run_text (run_of (plain (has d)) c.args.program.now c.args.plan.now c.args.plan.now.steps))))
    c.in_ok-guard.ensures
    (subst (λ (p : Program). OnErr c.run.result (IsCut (g.K.Sink.out c.args.out.now) (g.K.Sink.out c.run.new.out)
    (run_text (run_of (plain (has c.in_ok-guard.guard.domains)) p c.args.plan.now c.args.plan.now.steps))))
    c.linked.ensures.same c.run.ensures.cut)

pub returns-in_err-guard-clause-cut : goal.returns-in_err-guard-clause-cut
returns-in_err-guard-clause-cut g c =
    let plan = c.args.plan.now in
    at_err c.from_residual.result (cut_none (g.K.Sink.out c.args.out.now) (run_text (run_of (plain (has c.args.domains.now)) c.args.program.now plan plan.steps)))
