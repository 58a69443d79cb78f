-- No run that a job asks for is ever stuck.
use Rattle.std.specs.Prelude.{◌≡◌, ℕ, List, Ok}
use Rattle.std.specs.List.{AllByRecursion}
use Rattle.jground.specs.jformat.Format.{IsBytes}
use Rattle.joutput.specs.jio.ShelfFiles.{File}
use Rattle.jperm.specs.declared.permission.Permission.{Permission}
use Rattle.jdomain.specs.Domains.{has}
use Rattle.jjob.specs.declared.command.Command.{Command}
use Rattle.jjob.specs.declared.command.Command.TheVariants.{Run}
use Rattle.jjob.specs.declared.command.Form.{Form}
use Rattle.jresolution.specs.jprogram.ProgramClasses.{Program}
use Rattle.jrewriting.specs.jrewrite.RewrittenPrograms.{moved}
use Rattle.jsemantics.specs.declared.jmachine.plan.Plan.{Plan}
use Rattle.jsemantics.specs.jmachine.MachineSteps.{step}
use Rattle.jsemantics.specs.jrules.InspectingRules.{rules as inspecting}
use Rattle.jsemantics.specs.jrules.PlainRules.{rules as plain}
use Rattle.jpass_laws.specs.PassSimulation.{NeverStuck, inspected, passed}
use Rattle.jtasks.specs.declared.jtask.task.Task.{Task}
use Rattle.jtasks.specs.declared.jtask.task.Task.TheVariants as tasks
use Rattle.jtasks.specs.jtask.Tasks.{task}
use Rattle.jtop.specs.jdriver.Headline.{RunsPassed}

-- Behind each number of steps the inspecting run of a program has ended, or has a step;
abbrev pub FramesGoOn : Program → List (List Permission) → Plan → Type 0
FramesGoOn p domains plan = NeverStuck (step (inspecting (has domains)) p plan) (inspected (has domains) p plan)

-- and so has the run by contexts.
abbrev pub ContextsGoOn : Program → List (List Permission) → Plan → Type 0
ContextsGoOn p domains plan = NeverStuck (step (plain (has domains)) p plan) (passed (has domains) p plan)

-- The run of a task, by the machine of its form, is never stuck.
abbrev pub GoesOn : Task → Type 0
GoesOn (tasks.Run program domains plan) = FramesGoOn program domains plan
GoesOn (tasks.RunPlain program domains plan) = ContextsGoOn program domains plan
GoesOn (tasks.RunPass program domains plan) = ContextsGoOn program domains plan
GoesOn _ = Unit {0}

abbrev pub HoldBytes : List File → Type 0
HoldBytes files = AllByRecursion (λ file. IsBytes file.bytes) files

-- Whatever run files ask for that hold bytes, in any form, it is never stuck.
abbrev pub AllGoOn : Type 0
AllGoOn = (files : List File) (form : Form) (path : List ℕ) (it : Task) → HoldBytes files → task (Run form path) files ≡ Ok it → GoesOn it

-- Where a job is run in the pass form, neither the inspecting run of its program nor the run of the moved program is ever stuck.
abbrev pub BothGoOn : Type 0
BothGoOn = (c : Command) (files : List File) (p : Program) (domains : List (List Permission)) (plan : Plan) → HoldBytes files
    → RunsPassed c files p domains plan
    → FramesGoOn p domains plan × ContextsGoOn (moved p) domains plan
