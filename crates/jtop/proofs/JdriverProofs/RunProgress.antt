-- No run that a job asks for is stuck: its program links, is of class files and well typed, and begins with the `main` of one of its classes.
use Rattle.std.proofs.Common.{◌≡◌, ◌∙◌, ℕ, Bool, List, Some, None, Result, Ok, refl, sym, ap, subst}
use Rattle.std.specs.List.{flat_map}
use Rattle.jground.specs.jbase.ListMaps.{each}
use Rattle.jground.specs.jbase.MemoryFailures.{◌>>=◌}
use Rattle.joutput.specs.jio.ShelfFiles.{File}
use Rattle.jperm.specs.declared.permission.Permission.{Permission}
use Rattle.jdomain.specs.Domains.{has}
use Rattle.jdomain.specs.DomainStacks.{Stack}
use Rattle.jground.specs.jtext.Modified.{group}
use Rattle.jctx.specs.declared.item.Item.{Item}
use Rattle.jlib.specs.declared.side.Side.{Side}
use Rattle.jlib.specs.declared.side.Side.TheVariants.{Passing, Source}
use Rattle.jlinking.specs.jlink.ProgramFiles.{AreFiles}
use Rattle.jlinking.specs.jlink.LinkedPrograms.{Links, link_fault}
use Rattle.jresolution.specs.declared.jprogram.member.MethodId.{MethodId}
use Rattle.jresolution.specs.declared.jprogram.part.CodePart.{CodePart}
use Rattle.jresolution.specs.jprogram.ProgramClasses.{Program, program}
use Rattle.jresolution.specs.jprogram.MemberResolution.{main_of}
use Rattle.jtyping.specs.jwelltyped.VerifierTests.{WellTyped, type_fault}
use Rattle.jsemantics.specs.declared.jmachine.plan.Plan.{Plan}
use Rattle.jsemantics.specs.jmachine.MachineStates.{NoStep, Outcome, State}
use Rattle.jsemantics.specs.jmachine.RunTraces.{Run}
use Rattle.jsemantics.specs.jmachine.Security.{Rules}
use Rattle.jsemantics.specs.jmachine.MachineSteps.{step}
use Rattle.jrewriting.specs.jrewrite.LinkageLaws.{IsLinked}
use Rattle.jrewriting.specs.jrewrite.RewrittenParts.{PartsAreFiles}
use Rattle.jrewriting.specs.jrewrite.RewrittenPrograms.{limits, moved}
use Rattle.jrewriting.specs.jrewrite.ReferenceLaws.{LinksStay}
use Rattle.jmoved_laws.specs.types.MovedTypes.{TypesStay}
use Rattle.jsemantics.specs.jrules.InspectingRules as inspecting
use Rattle.jsemantics.specs.jrules.InspectingRules.{Carried}
use Rattle.jsemantics.specs.jrules.PlainRules as plain
use Rattle.jmoved_laws.specs.names.OpeningLaws.{MainsStay}
use Rattle.jsoundness_laws.specs.library.YieldLaws.{AreSided}
use Rattle.jsoundness_laws.specs.progress.TypedStates.{ComesTo, IsTypedRun}
use Rattle.jsoundness_laws.specs.program.SoundRuns.{LinkedRunsTyped}
use Rattle.jjob.specs.declared.command.Command.{Command}
use Rattle.jjob.specs.declared.command.Command.TheVariants as commands
use Rattle.jjob.specs.declared.command.Form.{Form}
use Rattle.jjob.specs.declared.command.Form.TheVariants.{Inspect, Pass, Plain}
use Rattle.jjob.specs.Jobs.{job}
use Rattle.jjob_laws.specs.StoredJobs.{JobIsSmall}
use Rattle.jpass_laws.specs.PassSimulation.{inspected, passed}
use Rattle.jshow.specs.declared.refusal.Refusal.TheVariants.{NoMain}
use Rattle.jtasks.specs.declared.jstages.job_setup.JobSetup.{JobSetup}
use Rattle.jtasks.specs.declared.jtask.task.Task.{Task}
use Rattle.jtasks.specs.declared.jtask.task.Task.TheVariants as tasks
use Rattle.jtasks.specs.jstages.CheckStage.{checked}
use Rattle.jtasks.specs.jstages.JobPlans.{ground_of, plan_of}
use Rattle.jtasks.specs.jstages.LinkStage.{linked}
use Rattle.jtasks.specs.jstages.RewriteStage.{rewritten}
use Rattle.jtasks.specs.jstages.Stages.{Stopped, bytes_at, judged}
use Rattle.jtasks.specs.jstages.ReadStage.{grants_at, ground_at, ground_in, job_read, part_at}
use Rattle.jtasks.specs.jtask.Tasks.{run_at, run_in, run_of_ground, run_of_parts, runnable, side_of, task}
use Rattle.jtasks.proofs.JtaskProofs.Mains.{found_is}
use Rattle.jstore.proofs.Binds.{bound}
use Rattle.jtop.specs.jdriver.JobProgress.{AllGoOn, BothGoOn, ContextsGoOn, FramesGoOn, GoesOn, HoldBytes}
use Rattle.jtop.proofs.JdriverProofs.Grounds.{Fine, is_fine}
use Rattle.jtop.proofs.JdriverProofs.Headlines.{task_is}
use Rattle.jtop.proofs.JdriverProofs.ProgramParts.{SpellsWhole, all_fit, are_parts, are_parts_of}
use Rattle.jtop.proofs.JdriverProofs.RewriteAnswers.{ground_is, job_is, links, small, types}

-- ---- the program of a run

-- a program of a side that can be run from a method
record Runs (side : Side) (p : Program) (main : MethodId) : Type 0 where
  on : p.side ≡ side
  links : Links p
  files : AreFiles p
  typed : WellTyped p
  name : List ℕ
  named : main_of p name ≡ Some main

abbrev pair : Program → MethodId → Program × MethodId
pair p main = (p, main)

abbrev ok_pair : Program × MethodId → Result (Program × MethodId) Stopped
ok_pair x = Ok x

both_are : (x y : Program × MethodId) → ok_pair x ≡ ok_pair y → (x.0 ≡ y.0) × (x.1 ≡ y.1)
both_are x y e =
    let same : x ≡ y = cc in
    (ap (λ (z : Program × MethodId). z.0) same, ap (λ (z : Program × MethodId). z.1) same)

abbrev ok_ground : JobSetup → Result JobSetup Stopped
ok_ground g = Ok g

abbrev ok_task : Task → Result Task Stopped
ok_task t = Ok t

same_task : (t u : Task) → ok_task t ≡ ok_task u → t ≡ u
same_task t u e = cc

-- what its stages come to
record Made (side : Side) (name : List ℕ) (parts : List CodePart) (p : Program) (main : MethodId) : Type 0 where
  made : program side parts ≡ p
  rules : link_fault p ≡ None
  places : type_fault p ≡ None
  named : main_of p (flat_map group name) ≡ Some main

module _ (side : Side) (name : List ℕ) (parts : List CodePart) where
  abbrev first : Program
  first = program side parts

  last_stage : (a c : Program) (main : MethodId) (found : Program × MethodId) → linked first ≡ Ok a → judged (NoMain name) (main_of a (flat_map group name)) ≡ Ok main → checked a ≡ Ok c
      → ok_pair (pair c main) ≡ ok_pair found → Made side name parts found.0 found.1
  last_stage a c main found linking named checking e =
      let l = links first a linking in
      let t = types a c checking in
      let both = both_are (pair c main) found e in
      let last : a ≡ found.0 = t.0 ∙ both.0 in
      record {
        made = l.0 ∙ last;
        rules = subst (λ (x : Program). link_fault x ≡ None) (l.0 ∙ last) l.1;
        places = subst (λ (x : Program). type_fault x ≡ None) last t.1;
        named = subst (λ (x : Program). main_of x (flat_map group name) ≡ Some found.1) last
            (found_is (NoMain name) (main_of a (flat_map group name)) main named ∙ ap (λ (m : MethodId). Some m) both.1);
      }

  made : (found : Program × MethodId) → runnable side name parts ≡ ok_pair found → Made side name parts found.0 found.1
  made found e =
      let a = bound (linked first) (λ x. judged (NoMain name) (main_of x (flat_map group name)) >>= λ main. checked x >>= λ y. ok_pair (pair y main)) found e in
      let b = bound (judged (NoMain name) (main_of a.0 (flat_map group name))) (λ main. checked a.0 >>= λ y. ok_pair (pair y main)) found a.2 in
      let c = bound (checked a.0) (λ y. ok_pair (pair y b.0)) found b.2 in
      last_stage a.0 c.0 b.0 found a.1 b.1 c.1 c.2

-- a job that was read has few class files, and its code sources are numbered in order
pub fine_at : JobIsSmall → (files : List File) (path : List ℕ) (g : JobSetup) → ground_at files path ≡ ok_ground g → Fine g
unfolding ground_at ground_in
fine_at few files path g e =
    let a = bound (bytes_at files path) (λ text. ground_in files text) g e in
    let b = bound (job_read (job a.0)) (λ it. grants_at files it >>= λ grants. ok_ground (ground_of it grants)) g a.2 in
    let c = bound (grants_at files b.0) (λ grants. ok_ground (ground_of b.0 grants)) g b.2 in
    subst Fine (ground_is (ground_of b.0 c.0) g c.2) (is_fine few a.0 b.0 c.0 (job_is (job a.0) b.0 b.1))

-- ---- the laws of typed states

has_step : {K E : Type 0} (r : Rules K E) (p : Program) (plan : Plan) (x : Run (State K E)) → IsTypedRun r p plan x → step r p plan x.state ≡ NoStep → ⊥
has_step {K} {E} r p plan x is none = subst (λ (o : Outcome (State K E)). ComesTo p r.side o) none is.steps

on_source : (h : ℕ → Permission → Bool) → (inspecting.rules h).side ≡ Source
unfolding inspecting.rules
on_source h = refl

on_passing : (h : ℕ → Permission → Bool) → (plain.rules h).side ≡ Passing
unfolding plain.rules
on_passing h = refl

module _ (frames : LinkedRunsTyped Stack Carried) (frames_sided : (h : ℕ → Permission → Bool) → AreSided (inspecting.rules h))
    (contexts : LinkedRunsTyped (List Item) (Unit {0})) (contexts_sided : (h : ℕ → Permission → Bool) → AreSided (plain.rules h))
    (are_files : PartsAreFiles) (links_stay : LinksStay) (types_stay : TypesStay) (mains_stay : MainsStay) where
  frames_go : (p : Program) (domains : List (List Permission)) (plan : Plan) → Runs Source p plan.main → FramesGoOn p domains plan
  frames_go p domains plan w k goes =
      let h = has domains in
      has_step (inspecting.rules h) p plan (inspected h p plan k)
      (frames (inspecting.rules h) p plan w.name k w.links w.files w.typed (on_source h ∙ sym w.on) (frames_sided h) w.named)

  contexts_go : (p : Program) (domains : List (List Permission)) (plan : Plan) → Runs Passing p plan.main → ContextsGoOn p domains plan
  contexts_go p domains plan w k goes =
      let h = has domains in
      has_step (plain.rules h) p plan (passed h p plan k)
      (contexts (plain.rules h) p plan w.name k w.links w.files w.typed (on_passing h ∙ sym w.on) (contexts_sided h) w.named)

  moved_side : (p : Program) → (moved p).side ≡ Passing
  unfolding moved
  moved_side p = refl

  moved_runs : (p : Program) (main : MethodId) → Runs Source p main → limits p ≡ None → Runs Passing (moved p) main
  moved_runs p main w few =
      let linked : IsLinked p = record { source = w.on; links = w.links; files = w.files } in
      record {
        on = moved_side p;
        links = links_stay p linked w.typed few;
        files = are_files p linked w.typed few;
        typed = types_stay p linked w.typed few;
        name = w.name;
        named = mains_stay p linked w.typed few w.name ∙ w.named;
      }

  in_form : (form : Form) (p : Program) (domains : List (List Permission)) (plan : Plan) (it : Task) → Runs (side_of form) p plan.main → run_in form p domains plan ≡ ok_task it → GoesOn it
  in_form Inspect p domains plan it w e = subst GoesOn (same_task (tasks.Run p domains plan) it e) (frames_go p domains plan w)
  in_form Plain p domains plan it w e = subst GoesOn (same_task (tasks.RunPlain p domains plan) it e) (contexts_go p domains plan w)
  in_form Pass p domains plan it w e =
      let a = bound (rewritten p) (λ q. ok_task (tasks.RunPass q domains plan)) it e in
      let s = small p a.0 a.1 in
      let goes : ContextsGoOn (moved p) domains plan = contexts_go (moved p) domains plan (moved_runs p plan.main w s.1) in
      subst GoesOn (ap (λ (q : Program). tasks.RunPass q domains plan) s.0 ∙ same_task (tasks.RunPass a.0 domains plan) it a.2) goes

  -- ---- what files ask for

  module _ (few : JobIsSmall) (spells : SpellsWhole) (files : List File) (bytes : HoldBytes files) where
    runs : (g : JobSetup) (parts : List CodePart) (side : Side) (found : Program × MethodId) → Fine g → each (part_at files) g.classes ≡ Ok parts
        → runnable side g.main parts ≡ ok_pair found → Runs side found.0 found.1
    unfolding WellTyped
    runs g parts side found fine read e =
        let m = made side g.main parts found e in
        let of_classes = are_parts_of files g.classes parts bytes spells read in
        let files_are : AreFiles (program side parts) = all_fit g.classes parts of_classes in
        record {
          on = ap (λ (x : Program). x.side) (sym m.made);
          links = subst (λ (x : Program). Links x) m.made
              (record { parts = are_parts g.classes parts of_classes fine.few fine.rise; rules = ap link_fault m.made ∙ m.rules });
          files = subst (λ (x : Program). AreFiles x) m.made files_are;
          typed = m.places;
          name = flat_map group g.main;
          named = m.named;
        }

    goes_on : (form : Form) (path : List ℕ) (it : Task) → task (commands.Run form path) files ≡ ok_task it → GoesOn it
    unfolding task run_at run_of_ground
    goes_on form path it e =
        let a = bound (ground_at files path) (λ g. run_of_ground files form g) it e in
        let g = a.0 in
        let b = bound (each (part_at files) g.classes) (λ parts. run_of_parts form g parts) it a.2 in
        let c = bound (runnable (side_of form) g.main b.0) (λ found. run_in form found.0 g.domains (plan_of g.setting found.1)) it b.2 in
        let found = c.0 in
        in_form form found.0 g.domains (plan_of g.setting found.1) it (runs g b.0 (side_of form) found (fine_at few files path g a.1) b.1 c.1) c.2

  module _ (few : JobIsSmall) (spells : SpellsWhole) where
    pub all_go_on : AllGoOn
    all_go_on files form path it bytes e = goes_on few spells files bytes form path it e

    pub both_go_on : BothGoOn
    both_go_on c files p domains plan bytes is =
        let pass : task (commands.Run Pass is.path) files ≡ ok_task (tasks.RunPass (moved p) domains plan) = ap (λ (x : Command). task x files) (sym is.command) ∙ task_is c files p domains plan is in (
          goes_on few spells files bytes Inspect is.path (tasks.Run p domains plan) is.job,
          goes_on few spells files bytes Pass is.path (tasks.RunPass (moved p) domains plan) pass,
        )
