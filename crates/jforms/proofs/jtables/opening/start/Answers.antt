use Rattle.std.proofs.Common.{◌≡◌, ◌∙◌, List, Option, true, ap, subst, sym}
use Rattle.std.specs.Prelude.{is_some}
use Rattle.jresolution.specs.jprogram.ProgramClasses.{Program}
use Rattle.jsemantics.specs.declared.jmachine.plan.Plan.{Plan}
use Rattle.jstepping.specs.declared.jopen.opening.FirstFrame.{FirstFrame}
use Rattle.jstepping.specs.declared.jcore.machine.Machine.{Machine}
use Rattle.jresolution.specs.juses.IndexedInstructions.{code_at}
use Rattle.jlinking.specs.jlink.ProgramFiles.{AreFiles}
use Rattle.jlib.specs.declared.side.Side.{Side}
use Rattle.jsemantics.specs.jmachine.Security.{handed}
use Rattle.jstepping.specs.jopen.InitialMachines as opened
use Rattle.jforms.specs.jtables.RunTables.{BegunOr, IsGround}
use Rattle.jforms.proofs.JtablesProofs.InitialStates.{first_typed, starts}
use Rattle.jforms.proofs.jtables.opening.start.Goals as goal

of_program : {M : Type 0} {p q : Program} (plan : Plan) (side : Side) (marks : List M) (first : FirstFrame M) (m : Option (Machine M)) → p ≡ q
    → BegunOr p plan side marks first m → BegunOr q plan side marks first m
of_program plan side marks first m same begun = subst (λ x. BegunOr x plan side marks first m) same begun

pub begin-requires-clause-base : goal.begin-requires-clause-base
begin-requires-clause-base g c =
    let mark = g.G.Guard.mark in
    (mark, subst (λ p. IsGround p mark c.args.base.now) (sym c.requires.base.ready) c.requires.base)

pub begin-requires-clause-coded : goal.begin-requires-clause-coded
begin-requires-clause-coded g c =
    subst (λ p. is_some (code_at p c.args.plan.now.main) ≡ true) (sym c.requires.base.ready)
    (c.states_laws.ensures.coded c.args.program.now c.requires.main.0 c.args.plan.now.main c.requires.safe.sound c.requires.main.1)

pub begin-requires-clause-files : goal.begin-requires-clause-files
begin-requires-clause-files g c = subst AreFiles (sym c.requires.base.ready) c.requires.safe.sound.files

pub returns-clause-starts : goal.returns-clause-starts
returns-clause-starts g c =
    let mark = g.G.Guard.mark in
    let rules = g.G.Guard.rules c.args.guard.now in
    let given = c.in_ok-given.given in
    let hands = subst (λ (side : Side). handed side given ≡ opened.handed c.handed-context.result) (c.SIDE.ensures ∙ sym c.SIDE-2.ensures) c.handed-context.ensures in
    let begun = of_program c.args.plan.now c.SIDE-2.result c.args.base.now.marks
    (record { main = c.args.plan.now.main; mark = c.mark_of-mark.result; context = c.handed-context.result }) c.in_ok-begun.begun c.requires.base.ready
    c.in_ok-begun.ensures in
    starts _ _ mark rules c.args.program.now c.args.plan.now c.SIDE-2.result _ given c.args.base.now.marks c.in_ok-begun.begun c.guard_laws.ensures.opening
    (λ d. c.first.ensures.marks (mark d) (rules.entry_of d) (c.mark_of-mark.ensures.stands d)) c.in_ok-given.ensures.stands
    (c.mark_of-mark.ensures.side ∙ sym c.SIDE-2.ensures) (c.mark_of-mark.ensures.mark ∙ ap mark c.domain_of.ensures) hands c.requires.base.marks
    c.requires.safe (first_typed rules c.args.program.now c.args.plan.now c.states_laws.ensures.opening c.requires.safe c.requires.main) begun
