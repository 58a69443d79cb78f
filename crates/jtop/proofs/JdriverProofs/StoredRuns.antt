-- What was stored runs in the form plain as the first job runs in the form pass.
use Rattle.std.proofs.Common.{◌≡◌, ◌+◌, ◌<◌, ℕ, suc, List, [], ◌∷◌, ◌++◌, Option, Some, None, Result, Ok, codes, map, refl, sym, ap, ◌∙◌, subst, arith}
use Rattle.std.specs.Prelude.{IsTrue, slice_get}
use Rattle.std.specs.List.{AllByRecursion, flat_map}
use Rattle.jground.specs.jbase.ListMaps.{each}
use Rattle.jground.specs.jbase.MemoryFailures.{◌>>=◌}
use Rattle.joutput.specs.jio.ShelfFiles.{File, readable}
use Rattle.jground.specs.jtext.Modified.{group}
use Rattle.jclass.specs.Class.{class_file}
use Rattle.jlib.specs.declared.side.Side.TheVariants.{Passing, Source}
use Rattle.jlinking.specs.jlink.LinkedPrograms.{link_fault}
use Rattle.jpolicy.specs.declared.grant.Grant.{Grant}
use Rattle.jpolicy.specs.Policies.{policy}
use Rattle.jresolution.specs.declared.jprogram.member.MethodId.{MethodId}
use Rattle.jresolution.specs.declared.jprogram.part.CodePart.{CodePart}
use Rattle.jresolution.specs.jprogram.ProgramClasses.{Program, program}
use Rattle.jresolution.specs.jprogram.MemberResolution.{main_of}
use Rattle.jtyping.specs.jwelltyped.VerifierTests.{WellTyped, type_fault}
use Rattle.jmoveclass.specs.MovedClasses.{moved_part}
use Rattle.jrewriting.specs.jrewrite.RewrittenFiles.{files_of, out_file}
use Rattle.jrewriting.specs.jrewrite.LinkageLaws.{IsLinked}
use Rattle.jrewriting.specs.jrewrite.RewrittenParts.{PartsAreFiles}
use Rattle.jrewriting.specs.jrewrite.RewrittenPrograms.{limits, moved}
use Rattle.jrewriting.specs.jrewrite.ReferenceLaws.{LinksStay}
use Rattle.jmoved_laws.specs.types.MovedTypes.{TypesStay}
use Rattle.jmoved_laws.specs.names.OpeningLaws.{MainsStay}
use Rattle.jjob.specs.declared.command.Command.TheVariants as commands
use Rattle.jjob.specs.declared.command.Form.TheVariants.{Pass, Plain}
use Rattle.jjob.specs.declared.job.Job.{Job}
use Rattle.jjob.specs.Jobs.{job}
use Rattle.jjob.specs.StoredJobText.{stored_job}
use Rattle.jjob_laws.specs.StoredJobs.{IsName, JobAgain, JobIsSmall, with_classes}
use Rattle.jshow.specs.declared.refusal.Refusal.TheVariants.{NoMain}
use Rattle.jtasks.specs.declared.jstages.job_setup.JobSetup.{JobSetup}
use Rattle.jtasks.specs.declared.jtask.task.Task.{Task}
use Rattle.jtasks.specs.declared.jtask.task.Task.TheVariants as tasks
use Rattle.jtasks.specs.jstages.CheckStage.{checked, unless_untyped}
use Rattle.jtasks.specs.jstages.JobPlans.{ground_of, plan_of}
use Rattle.jtasks.specs.jstages.LinkStage.{linked, unless_broken}
use Rattle.jtasks.specs.jstages.RewriteStage.{rewritten, unless_limited}
use Rattle.jtasks.specs.jstages.Stages.{Stopped, found, judged}
use Rattle.jtasks.specs.jstages.ReadStage.{grants_at, grants_of, grants_read, ground_at, ground_in, job_read, part_at}
use Rattle.jtasks.specs.jtask.Tasks.{run_at, run_in, run_of_ground, run_of_parts, runnable, task}
use Rattle.jstore.specs.Folders.{all_below, class_below, files_below, job_below, path_of}
use Rattle.jstore.proofs.Names.{is_name}
use Rattle.jtop.specs.jdriver.Answers.{answer, shown}
use Rattle.jtop.specs.jdriver.RewrittenRuns.{AreRead, IsStored, RunsAlike}
use Rattle.jtop.proofs.JdriverProofs.Grounds.{Fine, ground_again, is_fine, replaced}
use Rattle.jtop.proofs.JdriverProofs.ProgramParts.{AllHeld, ArePartsOf, ReadsBack, SpellsWhole, all_fit, are_parts, are_parts_of, domains_small, parts_again, paths_of}
use Rattle.jtop.proofs.JdriverProofs.RewriteAnswers.{Rewrites, rewrites, stored_files}
use Rattle.jtop.specs.jdriver.GeneratedRuns.{unless_stopped}

-- ---- programs

abbrev ok_program : Program → Result Program Stopped
ok_program p = Ok p

abbrev from_main : Program → MethodId → Program × MethodId
from_main p main = (p, main)

-- the program, run from the `main` of a name, if it has one
abbrev from_named : Program → List ℕ → Option MethodId → Result (Program × MethodId) Stopped
from_named p name o = judged (NoMain name) o >>= λ main. Ok (from_main p main)

it_links : (p : Program) → link_fault p ≡ None → linked p ≡ ok_program p
unfolding linked
it_links p e = ap (unless_broken p) e

it_checks : (p : Program) → type_fault p ≡ None → checked p ≡ ok_program p
unfolding checked
it_checks p e = ap (unless_untyped p) e

it_moves : (p : Program) → limits p ≡ None → rewritten p ≡ ok_program (moved p)
unfolding rewritten
it_moves p e = ap (unless_limited p) e

abbrev after_main : Program → List ℕ → Option MethodId → Result Program Stopped → Result (Program × MethodId) Stopped
after_main p name o r = judged (NoMain name) o >>= λ main. r >>= λ q. Ok (from_main q main)

it_runs : (p : Program) (name : List ℕ) (o : Option MethodId) → linked p ≡ ok_program p → checked p ≡ ok_program p → main_of p (flat_map group name) ≡ o
    → (linked p >>= λ x. judged (NoMain name) (main_of x (flat_map group name)) >>= λ main. checked x >>= λ q. Ok (from_main q main)) ≡ from_named p name o
it_runs p name o links checks is =
    ap (λ (r : Result Program Stopped). r >>= λ x. judged (NoMain name) (main_of x (flat_map group name)) >>= λ main. checked x >>= λ q. Ok (from_main q main)) links
    ∙ ap (λ (m : Option MethodId). after_main p name m (checked p)) is ∙ ap (after_main p name o) checks

-- ---- all that was read and stored

module _ (again : JobAgain) (few : JobIsSmall) (spells : SpellsWhole) (back : ReadsBack) (are_files : PartsAreFiles) (links_stay : LinksStay) (types_stay : TypesStay) (mains_stay : MainsStay)
    (files shelf : List File) (path to : List ℕ) (s : IsStored files shelf path to) where
  r : Rewrites files path to
  r = rewrites files path to s.done

  abbrev p : Program
  p = program Source r.parts

  abbrev q : Program
  q = moved p

  abbrev g : JobSetup
  g = ground_of r.it r.grants

  -- ---- the program that was moved

  of_classes : ArePartsOf g.classes r.parts
  of_classes = are_parts_of files g.classes r.parts s.bytes spells r.classes

  fine : Fine g
  fine = is_fine few r.text r.it r.grants r.job

  is_linked : IsLinked p
  is_linked = record { source = refl; links = record { parts = are_parts g.classes r.parts of_classes fine.few fine.rise; rules = r.links }; files = all_fit g.classes r.parts of_classes }

  is_typed : WellTyped p
  unfolding WellTyped
  is_typed = r.types

  moved_links : link_fault q ≡ None
  moved_links = (links_stay p is_linked is_typed r.limits).rules

  moved_types : type_fault q ≡ None
  unfolding WellTyped
  moved_types = types_stay p is_linked is_typed r.limits

  moved_parts : q.parts ≡ map (moved_part p) r.parts
  unfolding moved
  moved_parts = refl

  moved_side : program Passing (map (moved_part p) r.parts) ≡ q
  unfolding moved
  moved_side = refl

  -- ---- what is held

  abbrev parts : List CodePart
  parts = map (moved_part p) r.parts

  abbrev paths : List (List ℕ)
  paths = paths_of to parts

  stored_are : (answer (commands.Rewrite path to) files).files ≡ all_below to r.text (map out_file parts)
  unfolding files_below files_of moved
  stored_are = stored_files files path to r

  all_are_read : AreRead shelf (all_below to r.text (map out_file parts))
  all_are_read = subst (AreRead shelf) stored_are s.held

  path_list : (xs : List CodePart) → map (path_of to) (map out_file xs) ≡ paths_of to xs
  path_list [] = refl
  path_list (x ∷ xs) = ap (λ (rest : List (List ℕ)). path_of to (out_file x) ∷ rest) (path_list xs)

  front_read : (xs ys : List File) → AreRead shelf (xs ++ ys) → AreRead shelf xs × AreRead shelf ys
  front_read [] ys h = (tt, h)
  front_read (x ∷ xs) ys h = let k = front_read xs ys h.1 in ((h.0, k.0), k.1)

  parted : AreRead shelf (map (class_below to) (map out_file parts)) × AreRead shelf (job_below to r.text (map out_file parts) ∷ [])
  parted = front_read (map (class_below to) (map out_file parts)) (job_below to r.text (map out_file parts) ∷ []) all_are_read

  abbrev stored : List ℕ
  stored = stored_job r.text paths

  job_held : readable shelf (to ++ codes "/job") ≡ Some stored
  job_held = parted.1.0 ∙ ap (λ (ps : List (List ℕ)). Some (stored_job r.text ps)) (path_list parts)

  held_each : (xs : List CodePart) → AreRead shelf (map (class_below to) (map out_file xs)) → ((i : ℕ) (x : CodePart) → slice_get xs i ≡ Some x → IsTrue (class_file.fits x.class)) → AllHeld shelf to xs
  held_each [] h fits = tt
  held_each (x ∷ xs) h fits = ((h.0, fits 0 x refl), held_each xs h.1 (λ i y at. fits (i + 1) y (next i y at)))
    where
      next : (i : ℕ) (y : CodePart) → slice_get xs i ≡ Some y → slice_get (x ∷ xs) (i + 1) ≡ Some y
      next i y at = let n : i + 1 ≡ suc i = omega arith in ap (slice_get (x ∷ xs)) n ∙ at

  moved_fit : (i : ℕ) (x : CodePart) → slice_get parts i ≡ Some x → IsTrue (class_file.fits x.class)
  moved_fit i x at = are_files p is_linked is_typed r.limits i x (ap (λ (xs : List CodePart). slice_get xs i) moved_parts ∙ at)

  all_held : AllHeld shelf to parts
  all_held = held_each parts parted.0 moved_fit

  -- ---- the job, read again

  names_of : (xs : List CodePart) → AllByRecursion (λ (x : CodePart). x.domain < 4096) xs → AllByRecursion IsName (paths_of to (map (moved_part p) xs))
  names_of [] h = tt
  names_of (x ∷ xs) h = (is_name to x.domain _ s.text s.line h.0, names_of xs h.1)

  names : AllByRecursion IsName paths
  names = names_of r.parts (domains_small 0 g.classes r.parts of_classes fine.rise)

  abbrev it : Job
  it = record r.it { sources = with_classes paths r.it.sources }

  job_again : job stored ≡ Ok it
  job_again = again r.text paths r.it r.job names

  policy_again : (o : Option (List ℕ)) → r.it.policy ≡ o → grants_of shelf r.it.props o ≡ grants_of files r.it.props o
  policy_again None e = refl
  policy_again (Some at) e = ap (λ (b : Option (List ℕ)). found b >>= λ bytes. grants_read (policy r.it.props bytes)) (s.policy r.text at r.it r.read r.job e)

  grants_again : grants_at shelf it ≡ Ok r.grants
  unfolding grants_at
  grants_again = policy_again r.it.policy refl ∙ r.granted

  abbrev stored_ground : JobSetup
  stored_ground = record g { classes = replaced paths g.classes }

  abbrev ok_ground : JobSetup → Result JobSetup Stopped
  ok_ground x = Ok x

  ground_is : ground_at shelf (to ++ codes "/job") ≡ ok_ground stored_ground
  unfolding ground_at ground_in
  ground_is =
      ap (λ (b : Option (List ℕ)). found b >>= λ text. ground_in shelf text) job_held
      ∙ ap (λ (x : Result Job ℕ). job_read x >>= λ j. grants_at shelf j >>= λ grants. ok_ground (ground_of j grants)) job_again
      ∙ ap (λ (x : Result (List Grant) Stopped). x >>= λ grants. ok_ground (ground_of it grants)) grants_again
      ∙ ap ok_ground (ground_again r.it r.grants paths)

  parts_read : each (part_at shelf) stored_ground.classes ≡ Ok parts
  parts_read = parts_again shelf to (moved_part p) (λ x. refl) back g.classes r.parts of_classes all_held

  first_ground : ground_at files path ≡ ok_ground g
  unfolding ground_at ground_in
  first_ground =
      ap (λ (b : Option (List ℕ)). found b >>= λ text. ground_in files text) r.read
      ∙ ap (λ (x : Result Job ℕ). job_read x >>= λ j. grants_at files j >>= λ grants. ok_ground (ground_of j grants)) r.job
      ∙ ap (λ (x : Result (List Grant) Stopped). x >>= λ grants. ok_ground (ground_of r.it grants)) r.granted

  -- ---- the runs

  abbrev ok_task : Task → Result Task Stopped
  ok_task t = Ok t

  module _ (o : Option MethodId) (is : main_of p (flat_map group g.main) ≡ o) where
    plain_program : runnable Passing g.main parts ≡ from_named q g.main o
    plain_program =
        ap (λ (x : Program). linked x >>= λ y. judged (NoMain g.main) (main_of y (flat_map group g.main)) >>= λ main. checked y >>= λ z. Ok (from_main z main)) moved_side
        ∙ it_runs q g.main o (it_links q moved_links) (it_checks q moved_types) (mains_stay p is_linked is_typed r.limits (flat_map group g.main) ∙ is)

    pass_program : runnable Source g.main r.parts ≡ from_named p g.main o
    pass_program = it_runs p g.main o (it_links p r.links) (it_checks p r.types) is

    plain_task : task (commands.Run Plain (to ++ codes "/job")) shelf ≡ (from_named q g.main o >>= λ x. run_in Plain x.0 g.domains (plan_of g.setting x.1))
    unfolding task run_at run_of_ground
    plain_task =
        ap (λ (x : Result JobSetup Stopped). x >>= λ y. run_of_ground shelf Plain y) ground_is
        ∙ ap (λ (x : Result (List CodePart) Stopped). x >>= λ y. run_of_parts Plain stored_ground y) parts_read
        ∙ ap (λ (x : Result (Program × MethodId) Stopped). x >>= λ y. run_in Plain y.0 g.domains (plan_of g.setting y.1)) plain_program

    pass_task : task (commands.Run Pass path) files ≡ (from_named p g.main o >>= λ x. run_in Pass x.0 g.domains (plan_of g.setting x.1))
    unfolding task run_at run_of_ground
    pass_task =
        ap (λ (x : Result JobSetup Stopped). x >>= λ y. run_of_ground files Pass y) first_ground
        ∙ ap (λ (x : Result (List CodePart) Stopped). x >>= λ y. run_of_parts Pass g y) r.classes
        ∙ ap (λ (x : Result (Program × MethodId) Stopped). x >>= λ y. run_in Pass y.0 g.domains (plan_of g.setting y.1)) pass_program

  -- the task of a program that is moved, in either form
  ends_alike : (o : Option MethodId)
      → unless_stopped shown (from_named q g.main o >>= λ x. run_in Plain x.0 g.domains (plan_of g.setting x.1)) ≡ unless_stopped shown (from_named p g.main o >>= λ x. run_in Pass x.0 g.domains (plan_of g.setting x.1))
  unfolding shown
  ends_alike None = refl
  ends_alike (Some main) =
      ap (λ (x : Result Program Stopped). unless_stopped shown (x >>= λ y. ok_task (tasks.RunPass y g.domains (plan_of g.setting main)))) (sym (it_moves p r.limits))

  alike : answer (commands.Run Plain (to ++ codes "/job")) shelf ≡ answer (commands.Run Pass path) files
  unfolding answer
  alike =
      let o = main_of p (flat_map group g.main) in
      ap (unless_stopped shown) (plain_task o refl) ∙ ends_alike o ∙ ap (unless_stopped shown) (sym (pass_task o refl))

pub runs_alike : JobAgain → JobIsSmall → SpellsWhole → ReadsBack → PartsAreFiles → LinksStay → TypesStay → MainsStay → RunsAlike
runs_alike again few spells back are_files links_stay types_stay mains_stay files shelf path to s = alike again few spells back are_files links_stay types_stay mains_stay files shelf path to s
