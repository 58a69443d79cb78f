use Rattle.std.proofs.Common.{subst}
use Rattle.jdomain.specs.Domains.{has}
use Rattle.jresolution.specs.jprogram.ProgramClasses.{Program}
use Rattle.jsoundness_laws.specs.progress.SoundPrograms.{IsSound}
use Rattle.jmoved_laws.specs.contexts.SmallContexts.{HasSmall}
use Rattle.jpass_laws.specs.PassSimulation.{passed}
use Rattle.jforms.proofs.JpassProofs.EventTransfer.{complete, main_named, passes, simulated, tells}
use Rattle.jpass_laws.proofs.RunProgress.{inspected_unstuck, passed_unstuck}
use Rattle.jforms.proofs.jpass.running.run_pass.Goals as goal

pub is_sound-requires : goal.is_sound-requires
is_sound-requires g c = rw c.linked.ensures.same c.linked.ensures.well

pub returns-clause-simulated : goal.returns-clause-simulated
returns-clause-simulated g c =
    let run = passed (has c.args.domains.now) c.args.program.now c.args.plan.now c.args.plan.now.steps in
    let told = tells run c.run_plain.result (g.K.Sink.out c.args.out.now) (g.K.Sink.out c.run_plain.new.out)
    c.run_plain.ensures.written c.run_plain.ensures.end c.run_plain.ensures.cut in
    λ p is. simulated c.moved_laws.ensures.runs c.begin_law.ensures.main (has c.args.domains.now) p c.args.program.now c.args.plan.now is c.requires.main c.run_plain.result _ _ told

pub returns-clause-complete : goal.returns-clause-complete
returns-clause-complete g c =
    let run = passed (has c.args.domains.now) c.args.program.now c.args.plan.now c.args.plan.now.steps in
    let told = tells run c.run_plain.result (g.K.Sink.out c.args.out.now) (g.K.Sink.out c.run_plain.new.out)
    c.run_plain.ensures.written c.run_plain.ensures.end c.run_plain.ensures.cut in
    λ p is. complete c.moved_laws.ensures.runs c.begin_law.ensures.main (has c.args.domains.now) p c.args.program.now c.args.plan.now is c.requires.main c.run_plain.result _ _ told

pub returns-clause-agrees : goal.returns-clause-agrees
returns-clause-agrees g c =
    λ p is. passes c.moved_laws.ensures.runs c.begin_law.ensures.main (has c.args.domains.now) p c.args.program.now c.args.plan.now is c.requires.main

pub returns-clause-checked : goal.returns-clause-checked
returns-clause-checked g c =
    let sound : IsSound c.args.program.now = rw c.linked.ensures.same at c.is_sound.ensures in
    record { side = c.linked.ensures.side; links = sound.links; typed = c.linked.ensures.well }

pub returns-clause-steps : goal.returns-clause-steps
returns-clause-steps g c =
    let sound : IsSound c.args.program.now = rw c.linked.ensures.same at c.is_sound.ensures in
    passed_unstuck c.states_laws.ensures.run c.rules_laws.ensures.plain (has c.args.domains.now) c.args.program.now c.args.plan.now c.linked.ensures.side sound c.requires.main

pub returns-clause-unstuck : goal.returns-clause-unstuck
returns-clause-unstuck g c =
    λ p is. inspected_unstuck c.runs_law.ensures c.rules_laws.ensures.inspecting (has c.args.domains.now) p c.args.plan.now c.requires.main.0 is.linked is.typed
    (main_named c.begin_law.ensures.main p c.args.program.now c.args.plan.now is c.requires.main)

pub returns-clause-small : goal.returns-clause-small
returns-clause-small g c =
    let h = has c.args.domains.now in
    λ p is k. subst (λ (q : Program). HasSmall p (passed h q c.args.plan.now k).state) is.moved
    (c.small_law.ensures h p c.args.plan.now k is.linked is.typed is.small)
