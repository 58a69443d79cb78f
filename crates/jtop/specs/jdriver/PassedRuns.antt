-- What is so of each run in the pass form, whatever a call answers that is to make it.
use Rattle.std.specs.Prelude.{List}
use Rattle.joutput.specs.jio.ShelfFiles.{File}
use Rattle.jperm.specs.declared.permission.Permission.{Permission}
use Rattle.jdomain.specs.Domains.{has}
use Rattle.jjob.specs.declared.command.Command.{Command}
use Rattle.jresolution.specs.jprogram.ProgramClasses.{Program}
use Rattle.jrewriting.specs.jrewrite.RewrittenPrograms.{moved}
use Rattle.jsemantics.specs.declared.jmachine.plan.Plan.{Plan}
use Rattle.jpass_laws.specs.PassSimulation.{Passes}
use Rattle.jforms.specs.jpass.PassRuns.{PassesChecker}
use Rattle.jtop.specs.jdriver.Headline.{RunsPassed}
use Rattle.jtop.specs.jdriver.JobProgress.{ContextsGoOn, FramesGoOn, HoldBytes}

-- what is said of a run: of the program as it was written, of the permissions of its domains, and of the plan
abbrev pub OfRuns : Type 1
OfRuns = Program → List (List Permission) → Plan → Type 0

-- It is so of the run of a command in the pass form, where the files give one.
abbrev pub IsPassedSo : OfRuns → Command → List File → Type 0
IsPassedSo says c files = (p : Program) (domains : List (List Permission)) (plan : Plan) → RunsPassed c files p domains plan → says p domains plan

-- After any number of steps the run of the moved program has the events of the inspecting run after some number of steps, and its end; and
-- where the inspecting run has ended, enough steps have all its events, and its end.
abbrev pub RunsAgree : OfRuns
RunsAgree = λ p domains plan. Passes (has domains) p (moved p) plan

-- The moved program passes the checker.
abbrev pub MovedIsChecked : OfRuns
MovedIsChecked = λ p domains plan. PassesChecker (moved p)

-- Neither the inspecting run nor that of the moved program is ever stuck.
abbrev pub NeitherIsStuck : OfRuns
NeitherIsStuck = λ p domains plan. FramesGoOn p domains plan × ContextsGoOn (moved p) domains plan

-- It is so of each command, over all files that hold bytes.
abbrev pub AlwaysPassedSo : OfRuns → Type 0
AlwaysPassedSo says = (c : Command) (files : List File) → HoldBytes files → IsPassedSo says c files
