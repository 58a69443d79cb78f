-- What is to be done at a command with the files that are held: they are read in the order job, policy, class files, and each is
-- judged before the next is read; then the classes link, then `main` is looked for where they are to be run, then they are checked, and
-- then the limits of moving are looked at where they are to be moved: to be stored, or to be run in the form `pass`.
use Rattle.std.specs.Prelude.{◌≡◌, ℕ, Bool, true, false, List, length, Result, Ok, Err}
use Rattle.std.specs.List.{flat_map}
use Rattle.jground.specs.jbase.ListMaps.{each}
use Rattle.jground.specs.jbase.MemoryFailures.{◌>>=◌}
use Rattle.joutput.specs.jio.ShelfFiles.{File}
use Rattle.jground.specs.jtext.Modified.{group}
use Rattle.jjob.specs.declared.command.Command.{Command}
use Rattle.jjob.specs.declared.command.Command.TheVariants as commands
use Rattle.jjob.specs.declared.command.Form.{Form}
use Rattle.jjob.specs.declared.command.Form.TheVariants.{Inspect, Pass, Plain}
use Rattle.jlib.specs.declared.side.Side.{Side}
use Rattle.jlib.specs.declared.side.Side.TheVariants.{Source, Passing}
use Rattle.jresolution.specs.declared.jprogram.part.CodePart.{CodePart}
use Rattle.jresolution.specs.declared.jprogram.member.MethodId.{MethodId}
use Rattle.jresolution.specs.jprogram.ProgramClasses.{Program, program}
use Rattle.jresolution.specs.jprogram.MemberResolution.{IsMain, main_of}
use Rattle.jsemantics.specs.declared.jmachine.plan.Plan.{Plan}
use Rattle.jperm.specs.declared.permission.Permission.{Permission}
use Rattle.jshow.specs.declared.refusal.Refusal.TheVariants.{NoMain}
use Rattle.jtasks.specs.declared.jstages.job_setup.JobSetup.{JobSetup}
use Rattle.jtasks.specs.declared.jtask.task.Task.{Task}
use Rattle.jtasks.specs.declared.jtask.task.Task.TheVariants as tasks
use Rattle.jtasks.specs.jstages.CheckStage.{checked}
use Rattle.jtasks.specs.jstages.JobPlans.{plan_of}
use Rattle.jtasks.specs.jstages.LinkStage.{AreClasses, linked}
use Rattle.jtasks.specs.jstages.RewriteStage.{rewritten}
use Rattle.jtasks.specs.jstages.Stages.{Stopped, Missing, judged, bytes_at}
use Rattle.jtasks.specs.jstages.ReadStage.{ground_at, ground_in, part_at}

-- ---- the side

-- the library against which a form is linked and checked: the passing side's for classes that are moved already, and else the source side's
abbrev pub side_of : Form → Side
side_of = elim [ Plain ↦ Passing | _ ↦ Source ]

-- ---- a run

-- the program of a run on a side and the method with which it begins: the classes link, the main class has a `main`, and they are well typed
abbrev pub runnable : Side → List ℕ → List CodePart → Result (Program × MethodId) Stopped
runnable side name parts =
    linked (program side parts) >>= λ p.
    judged (NoMain name) (main_of p (flat_map group name)) >>= λ main.
    checked p >>= λ q.
    Ok (q, main)

-- The run of a program in a form: by the stacks of its frames, by the contexts that its calls hand on, or so once it is moved.
abbrev pub run_in : Form → Program → List (List Permission) → Plan → Result Task Stopped
run_in Inspect p domains plan = Ok (tasks.Run p domains plan)
run_in Plain p domains plan = Ok (tasks.RunPlain p domains plan)
run_in Pass p domains plan = rewritten p >>= λ q. Ok (tasks.RunPass q domains plan)

-- the run of these classes in a form
abbrev pub run_of_parts : Form → JobSetup → List CodePart → Result Task Stopped
run_of_parts form g parts = runnable (side_of form) g.main parts >>= λ found. run_in form found.0 g.domains (plan_of g.setting found.1)

unfoldable pub run_of_ground : List File → Form → JobSetup → Result Task Stopped
run_of_ground files form g = each (part_at files) g.classes >>= λ parts. run_of_parts form g parts

unfoldable pub run_at : List File → Form → List ℕ → Result Task Stopped
run_at files form path = ground_at files path >>= λ g. run_of_ground files form g

-- the class files that a ground names are parts that may be linked
abbrev pub GroundClasses : List File → JobSetup → Type 0
GroundClasses files g = (parts : List CodePart) → each (part_at files) g.classes ≡ Ok parts → AreClasses parts

-- those that the job at a path names are
abbrev pub JobClasses : List File → List ℕ → Type 0
JobClasses files path = (g : JobSetup) → ground_at files path ≡ Ok g → GroundClasses files g

-- ---- a check

-- the check of these classes on a side: they link, and they are well typed
abbrev pub check_of_parts : Side → List CodePart → Result Task Stopped
check_of_parts side parts = linked (program side parts) >>= λ p. checked p >>= λ q. Ok (tasks.Check q)

unfoldable pub check_of_ground : List File → Side → JobSetup → Result Task Stopped
check_of_ground files side g = each (part_at files) g.classes >>= λ parts. check_of_parts side parts

unfoldable pub check_at : List File → Side → List ℕ → Result Task Stopped
check_at files side path = ground_at files path >>= λ g. check_of_ground files side g

-- ---- a rewriting

-- the moved program of these classes: they link, they are well typed, and they break no limit
abbrev pub moved_of_parts : List CodePart → Result Program Stopped
moved_of_parts parts = linked (program Source parts) >>= λ p. checked p >>= λ q. rewritten q

-- the rewriting of these classes
abbrev pub rewrite_of_parts : List ℕ → List ℕ → List CodePart → Result Task Stopped
rewrite_of_parts text to parts = moved_of_parts parts >>= λ p. Ok (tasks.Rewrite p text to)

unfoldable pub rewrite_of_ground : List File → List ℕ → List ℕ → JobSetup → Result Task Stopped
rewrite_of_ground files text to g = each (part_at files) g.classes >>= λ parts. rewrite_of_parts text to parts

-- the rewriting of the classes of a job of this text
unfoldable pub rewrite_of_text : List File → List ℕ → List ℕ → Result Task Stopped
rewrite_of_text files to text = ground_in files text >>= λ g. rewrite_of_ground files text to g

unfoldable pub rewrite_at : List File → List ℕ → List ℕ → Result Task Stopped
rewrite_at files to path = bytes_at files path >>= λ text. rewrite_of_text files to text

-- ---- by verb

-- what the job at a path grants; no class file is read
unfoldable pub policy_at : List File → List ℕ → Result Task Stopped
policy_at files path = ground_at files path >>= λ g. Ok (tasks.Policy g.sources g.domains)

-- the commands that read files; the others make theirs
abbrev pub reads : Command → Bool
reads (commands.Run form path) = true
reads (commands.Check form path) = true
reads (commands.Rewrite path to) = true
reads (commands.Policy path) = true
reads _ = false

-- the commands that store files
abbrev pub stores : Command → Bool
stores = elim [ commands.Rewrite path to ↦ true | _ ↦ false ]

-- What a command that reads files asks for. Nobody comes with another.
unfoldable pub task : Command → List File → Result Task Stopped
task (commands.Run form path) files = run_at files form path
task (commands.Check form path) files = check_at files (side_of form) path
task (commands.Rewrite path to) files = rewrite_at files to path
task (commands.Policy path) files = policy_at files path
task _ files = Err Missing

-- where a command runs a job, those that the job names are
abbrev pub RunClasses : Command → List File → Type 0
RunClasses (commands.Run form path) files = JobClasses files path
RunClasses _ files = Unit {0}

-- ---- tasks

-- a program is run from the `main` of one of its classes, by the stacks of its frames on the source side; and each code source has its permissions
abbrev pub IsWhole : Task → Type 0
IsWhole (tasks.Run program domains plan) = IsMain program plan.main × (program.side ≡ Source)
IsWhole (tasks.RunPlain program domains plan) = IsMain program plan.main
IsWhole (tasks.RunPass program domains plan) = IsMain program plan.main
IsWhole (tasks.Check program) = Unit {0}
IsWhole (tasks.Rewrite program job to) = Unit {0}
IsWhole (tasks.Policy sources domains) = length domains ≡ length sources

-- files are stored for it
abbrev pub is_stored : Task → Bool
is_stored (tasks.Rewrite program job to) = true
is_stored _ = false
