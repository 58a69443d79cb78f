-- The headline: what a run in the pass form answers of the program as it was written.
use Rattle.std.specs.Prelude.{◌≡◌, ℕ, List, Option, None, Ok}
use Rattle.joutput.specs.jio.ShelfFiles.{File}
use Rattle.jperm.specs.declared.permission.Permission.{Permission}
use Rattle.jdomain.specs.Domains.{has}
use Rattle.jjob.specs.declared.command.Command.{Command}
use Rattle.jjob.specs.declared.command.Command.TheVariants as commands
use Rattle.jjob.specs.declared.command.Form.TheVariants.{Inspect, Pass}
use Rattle.jresolution.specs.jprogram.ProgramClasses.{Program}
use Rattle.jrewriting.specs.jrewrite.RewrittenPrograms.{limits}
use Rattle.jsemantics.specs.declared.jmachine.plan.Plan.{Plan}
use Rattle.jpass_laws.specs.PassSimulation.{inspected}
use Rattle.jforms.specs.jpass.PassRuns.{AfterSome, OnceEnded}
use Rattle.jshow.specs.declared.status.Status.{Status}
use Rattle.jshow.specs.CommandAnswers.{Answers}
use Rattle.jtasks.specs.declared.jtask.task.Task.TheVariants as tasks
use Rattle.jtasks.specs.jtask.Tasks.{task}
use Rattle.jtop.specs.jdriver.Answers.{ran}

-- A command runs a job in the pass form. The job's files give a program, the permissions of its domains and a plan, as they give them to the
-- inspecting form; the program breaks no limit of moving.
pub record RunsPassed (c : Command) (files : List File) (p : Program) (domains : List (List Permission)) (plan : Plan) : Type 0 where
  pub path : List ℕ
  pub command : c ≡ commands.Run Pass path
  pub job : task (commands.Run Inspect path) files ≡ Ok (tasks.Run p domains plan)
  pub small : limits p ≡ None

-- What the call wrote, and its status, answer what the inspecting run of that program has told after some k steps, which are no more than the
-- plan's; and where it goes on behind them, the plan's steps are at most 8 k + 15.
abbrev pub AnswersSome : Command → List File → Status → Option (List ℕ) → Option (List ℕ) → Type 0
AnswersSome c files s old new = (p : Program) (domains : List (List Permission)) (plan : Plan) → RunsPassed c files p domains plan
    → AfterSome (inspected (has domains) p plan) plan.steps (λ r. Answers (ran r) s old new)

-- They answer all that it tells, where it has ended after n steps and 8 n + 8 are no more than the plan's.
abbrev pub AnswersAll : Command → List File → Status → Option (List ℕ) → Option (List ℕ) → Type 0
AnswersAll c files s old new = (p : Program) (domains : List (List Permission)) (plan : Plan) → RunsPassed c files p domains plan
    → OnceEnded (inspected (has domains) p plan) plan.steps (λ r. Answers (ran r) s old new)
