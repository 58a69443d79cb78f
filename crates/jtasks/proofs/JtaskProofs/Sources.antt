-- The program that is run of a job: it links, it is well typed, and it begins with the `main` of one of its classes; and what the pass form
-- makes of it.
use Rattle.std.proofs.Common.{◌≡◌, ◌∙◌, ℕ, List, Ok, Err, Option, Some, None, refl, sym, ap, subst}
use Rattle.std.specs.Prelude.{Result}
use Rattle.std.specs.List.{flat_map}
use Rattle.jground.specs.jbase.ListMaps.{each}
use Rattle.jground.specs.jbase.MemoryFailures.{◌>>=◌}
use Rattle.joutput.specs.jio.ShelfFiles.{File}
use Rattle.jperm.specs.declared.permission.Permission.{Permission}
use Rattle.jground.specs.jtext.Modified.{group}
use Rattle.jjob.specs.declared.command.Command.TheVariants as commands
use Rattle.jjob.specs.declared.command.Form.TheVariants.{Inspect, Pass}
use Rattle.jlib.specs.declared.side.Side.TheVariants.{Source}
use Rattle.jlinking.specs.jlink.ProgramFiles.{AreFiles}
use Rattle.jlinking.specs.jlink.LinkedPrograms.{Links, link_fault}
use Rattle.jresolution.specs.declared.jprogram.fault.LinkFault.{LinkFault}
use Rattle.jresolution.specs.declared.jprogram.member.MethodId.{MethodId}
use Rattle.jresolution.specs.declared.jprogram.part.CodePart.{CodePart}
use Rattle.jresolution.specs.jprogram.ProgramClasses.{Program, program}
use Rattle.jresolution.specs.jprogram.MemberResolution.{main_of}
use Rattle.jtyping.specs.jwelltyped.VerifierTests.{Place, WellTyped, type_fault}
use Rattle.jrewriting.specs.jrewrite.LinkageLaws.{IsLinked}
use Rattle.jrewriting.specs.jrewrite.RewrittenPrograms.{limits, moved}
use Rattle.jsemantics.specs.declared.jmachine.plan.Plan.{Plan}
use Rattle.jshow.specs.declared.refusal.Refusal.TheVariants.{NoMain}
use Rattle.jtasks.specs.declared.jstages.job_setup.JobSetup.{JobSetup}
use Rattle.jtasks.specs.declared.jtask.task.Task.{Task}
use Rattle.jtasks.specs.declared.jtask.task.Task.TheVariants as tasks
use Rattle.jtasks.specs.jstages.CheckStage.{checked, unless_untyped}
use Rattle.jtasks.specs.jstages.JobPlans.{plan_of}
use Rattle.jtasks.specs.jstages.LinkStage.{linked, unless_broken}
use Rattle.jtasks.specs.jstages.RewriteStage.{rewritten, unless_limited}
use Rattle.jtasks.specs.jstages.Stages.{Stopped, judged}
use Rattle.jtasks.specs.jstages.ReadStage.{ground_at, part_at}
use Rattle.jtasks.specs.jtask.Tasks.{JobClasses, run_at, run_in, run_of_ground, run_of_parts, runnable, task}
use Rattle.jtasks.proofs.JtaskProofs.Mains.{checked_is, found_is}

bound : {A B F : Type 0} (x : Result A F) (f : A → Result B F) (y : B) → (x >>= f) ≡ Ok y → (a : A) × (x ≡ Ok a) × (f a ≡ Ok y)
bound (Ok a) f y e = (a, refl, e)
bound (Err fault) f y e = absurd (let x = e in cc)

-- ---- a program that links and is well typed

unbroken : (p q : Program) (o : Option LinkFault) → unless_broken p o ≡ Ok q → (p ≡ q) × (o ≡ None)
unbroken p q None e = let x = e in (cc, refl)
unbroken p q (Some fault) e = absurd (let x = e in cc)

links : (p q : Program) → linked p ≡ Ok q → (p ≡ q) × (link_fault p ≡ None)
unfolding linked
links p q e = unbroken p q (link_fault p) e

untyped : (p q : Program) (o : Option Place) → unless_untyped p o ≡ Ok q → o ≡ None
untyped p q None e = refl
untyped p q (Some place) e = absurd (let x = e in cc)

typed : (p q : Program) → checked p ≡ Ok q → type_fault p ≡ None
unfolding checked
typed p q e = untyped p q (type_fault p) e

abbrev pair : Program → MethodId → Program × MethodId
pair p main = (p, main)

abbrev run_from : Program → MethodId → Result (Program × MethodId) Stopped
run_from p main = Ok (pair p main)

-- a program of the source side that can be run from a method
pub record CanRun (name : List ℕ) (parts : List CodePart) (p : Program) (main : MethodId) : Type 0 where
  pub made : program Source parts ≡ p
  pub rules : link_fault p ≡ None
  pub places : type_fault p ≡ None
  pub named : main_of p (flat_map group name) ≡ Some main

both_are : (p q : Program) (m n : MethodId) → run_from p m ≡ run_from q n → (p ≡ q) × (m ≡ n)
both_are p q m n e =
    let same : pair p m ≡ pair q n = cc in
    (ap (λ (x : Program × MethodId). x.0) same, ap (λ (x : Program × MethodId). x.1) same)

module _ (name : List ℕ) (parts : List CodePart) (p : Program) (main : MethodId) where
  last_stage : (first : Program) (found : MethodId) → linked (program Source parts) ≡ Ok first → judged (NoMain name) (main_of first (flat_map group name)) ≡ Ok found
      → (last : Program) × (checked first ≡ Ok last) × (run_from last found ≡ run_from p main) → CanRun name parts p main
  last_stage first found linking named (last, checking, e) =
      let same : first ≡ p = checked_is first last checking ∙ (both_are last p found main e).0 in
      let made : program Source parts ≡ p = (links (program Source parts) first linking).0 ∙ same in
      record {
        made = made;
        rules = subst (λ (x : Program). link_fault x ≡ None) made (links (program Source parts) first linking).1;
        places = subst (λ (x : Program). type_fault x ≡ None) same (typed first last checking);
        named = subst (λ (x : Program). main_of x (flat_map group name) ≡ Some main) same
            (found_is (NoMain name) (main_of first (flat_map group name)) found named ∙ ap (λ (m : MethodId). Some m) (both_are last p found main e).1);
      }

  named_stage : (first : Program) → linked (program Source parts) ≡ Ok first → (found : MethodId) × (judged (NoMain name) (main_of first (flat_map group name)) ≡ Ok found)
      × ((checked first >>= λ last. run_from last found) ≡ run_from p main) → CanRun name parts p main
  named_stage first linking (found, named, e) = last_stage first found linking named (bound (checked first) (λ last. run_from last found) (p, main) e)

  linked_stage : (first : Program) × (linked (program Source parts) ≡ Ok first)
      × ((judged (NoMain name) (main_of first (flat_map group name)) >>= λ found. checked first >>= λ last. run_from last found) ≡ run_from p main)
      → CanRun name parts p main
  linked_stage (first, linking, e) =
      named_stage first linking (bound (judged (NoMain name) (main_of first (flat_map group name))) (λ found. checked first >>= λ last. run_from last found) (p, main) e)

  can_run : runnable Source name parts ≡ Ok (p, main) → CanRun name parts p main
  can_run e = linked_stage (bound (linked (program Source parts))
      (λ first. judged (NoMain name) (main_of first (flat_map group name)) >>= λ found. checked first >>= λ last. run_from last found) (p, main) e)

-- ---- the run of a job

-- by what it was made of
pub record Sources (files : List File) (path : List ℕ) (p : Program) (domains : List (List Permission)) (plan : Plan) : Type 0 where
  pub ground : JobSetup
  pub parts : List CodePart
  pub at : ground_at files path ≡ Ok ground
  pub read : each (part_at files) ground.classes ≡ Ok parts
  pub runs : runnable Source ground.main parts ≡ Ok (p, plan.main)
  pub domains_are : ground.domains ≡ domains
  pub plan_is : plan_of ground.setting plan.main ≡ plan

abbrev ran_task : Program → List (List Permission) → Plan → Result Task Stopped
ran_task p domains plan = Ok (tasks.Run p domains plan)

all_are : (p q : Program) (d e : List (List Permission)) (x y : Plan) → ran_task p d x ≡ ran_task q e y → (p ≡ q) × (d ≡ e) × (x ≡ y)
all_are p q d e x y same = (cc, cc, cc)

module _ (files : List File) (path : List ℕ) (p : Program) (domains : List (List Permission)) (plan : Plan) where
  run_stage : (g : JobSetup) (parts : List CodePart) → ground_at files path ≡ Ok g → each (part_at files) g.classes ≡ Ok parts
      → (found : Program × MethodId) × (runnable Source g.main parts ≡ Ok found) × (ran_task found.0 g.domains (plan_of g.setting found.1) ≡ ran_task p domains plan)
      → Sources files path p domains plan
  run_stage g parts at read ((q, main), runs, e) =
      let same = all_are q p g.domains domains (plan_of g.setting main) plan e in
      let begins : main ≡ plan.main = ap (λ (x : Plan). x.main) same.2 in
      record {
        ground = g;
        parts = parts;
        at = at;
        read = read;
        runs = runs ∙ ap (λ (x : Program). run_from x main) same.0 ∙ ap (λ (m : MethodId). run_from p m) begins;
        domains_are = same.1;
        plan_is = ap (plan_of g.setting) (sym begins) ∙ same.2;
      }

  read_stage : (g : JobSetup) → ground_at files path ≡ Ok g
      → (parts : List CodePart) × (each (part_at files) g.classes ≡ Ok parts) × (run_of_parts Inspect g parts ≡ ran_task p domains plan) → Sources files path p domains plan
  read_stage g at (parts, read, e) =
      run_stage g parts at read (bound (runnable Source g.main parts) (λ found. ran_task found.0 g.domains (plan_of g.setting found.1)) (tasks.Run p domains plan) e)

  ground_stage : (g : JobSetup) × (ground_at files path ≡ Ok g) × (run_of_ground files Inspect g ≡ ran_task p domains plan) → Sources files path p domains plan
  unfolding run_of_ground
  ground_stage (g, at, e) = read_stage g at (bound (each (part_at files) g.classes) (run_of_parts Inspect g) (tasks.Run p domains plan) e)

  pub sources : task (commands.Run Inspect path) files ≡ Ok (tasks.Run p domains plan) → Sources files path p domains plan
  unfolding task run_at
  sources e = ground_stage (bound (ground_at files path) (run_of_ground files Inspect) (tasks.Run p domains plan) e)

module _ (files : List File) (path : List ℕ) (p : Program) (domains : List (List Permission)) (plan : Plan) (given : Sources files path p domains plan) where
  can : CanRun given.ground.main given.parts p plan.main
  can = can_run given.ground.main given.parts p plan.main given.runs

  pub linked_in : JobClasses files path → IsLinked p
  linked_in are =
      let classes = are given.ground given.at given.parts given.read in
      record {
        source = ap (λ (x : Program). x.side) (sym can.made);
        links = subst (λ (x : Program). Links x) can.made (record { parts = classes.parts; rules = ap link_fault can.made ∙ can.rules });
        files = subst (λ (x : Program). AreFiles x) can.made classes.files;
      }

  pub typed_in : WellTyped p
  unfolding WellTyped
  typed_in = can.places

  pub main_in : (name : List ℕ) × (main_of p name ≡ Some plan.main)
  main_in = (flat_map group given.ground.main, can.named)

  unlimited : limits p ≡ None → rewritten p ≡ Ok (moved p)
  unfolding rewritten
  unlimited small = ap (unless_limited p) small

  -- the moved program is what the pass form runs
  pub moved_in : limits p ≡ None → task (commands.Run Pass path) files ≡ Ok (tasks.RunPass (moved p) domains plan)
  unfolding task run_at run_of_ground
  moved_in small =
      ap (λ (r : Result JobSetup Stopped). r >>= run_of_ground files Pass) given.at
      ∙ ap (λ (r : Result (List CodePart) Stopped). r >>= run_of_parts Pass given.ground) given.read
      ∙ ap (λ (r : Result (Program × MethodId) Stopped). r >>= λ found. run_in Pass found.0 given.ground.domains (plan_of given.ground.setting found.1)) given.runs
      ∙ ap (λ (r : Result Program Stopped). r >>= λ q. Ok (tasks.RunPass q given.ground.domains (plan_of given.ground.setting plan.main))) (unlimited small)
      ∙ ap (λ (d : List (List Permission)). Ok (tasks.RunPass (moved p) d (plan_of given.ground.setting plan.main))) given.domains_are
      ∙ ap (λ (x : Plan). Ok (tasks.RunPass (moved p) domains x)) given.plan_is
