use Rattle.std.proofs.Common.{◌≡◌, List, ap, subst}
use Rattle.std.specs.Prelude.{IfOk}
use Rattle.jperm.specs.declared.permission.Permission.{Permission}
use Rattle.jresolution.specs.jprogram.ProgramClasses.{Program}
use Rattle.jdomain.specs.Domains.{has}
use Rattle.jsemantics.specs.jmachine.Machine.{run}
use Rattle.jsemantics.specs.jrules.InspectingRules.{rules as inspecting}
use Rattle.jforms.specs.jinspect.InspectingGuards.{Inspects}
use Rattle.jforms.specs.jengine.RunTallies.{tally_of}
use Rattle.jforms.proofs.JinspectProofs.InspectingSide.{same_side}
use Rattle.jforms.proofs.jinspect.counting.count_inspect.Goals as goal

pub count-requires-clause-typed : goal.count-requires-clause-typed
count-requires-clause-typed c = rw c.linked.ensures.same c.linked.ensures.well

pub count-requires-clause-main : goal.count-requires-clause-main
count-requires-clause-main c = rw c.linked.ensures.same c.requires.main

pub count-requires-clause-side : goal.count-requires-clause-side
count-requires-clause-side c = rw c.linked.ensures.same (same_side (has c.in_ok-guard.guard.domains) c.args.program.now.side c.requires.side)

pub count-requires-clause-sided : goal.count-requires-clause-sided
count-requires-clause-sided c = c.rules_laws.ensures.inspecting (has c.in_ok-guard.guard.domains)

pub returns : goal.returns
returns c =
    subst (λ (d : List (List Permission)). IfOk c.count.result (λ t. t ≡ tally_of (run (inspecting (has d)) c.args.program.now c.args.plan.now c.args.plan.now.steps)))
    (ap (λ (i : Inspects). i.domains) c.in_ok-guard.ensures)
    (subst (λ (p : Program). IfOk c.count.result (λ t. t ≡ tally_of (run (inspecting (has c.in_ok-guard.guard.domains)) p c.args.plan.now c.args.plan.now.steps)))
    c.linked.ensures.same c.count.ensures)
