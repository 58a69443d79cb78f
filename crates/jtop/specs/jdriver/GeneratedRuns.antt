-- The answer to `gen`: the job that a seed and a size make is run in the forms `inspect` and `pass`, and both runs are counted.
use Rattle.std.specs.Prelude.{ℕ, List, [], ◌++◌, Option, Some, None, Result, Ok, Err, codes, decimal}
use Rattle.jground.specs.jbase.MemoryFailures.{◌>>=◌}
use Rattle.joutput.specs.jio.ShelfFiles.{File}
use Rattle.jdomain.specs.Domains.{has}
use Rattle.jsemantics.specs.jmachine.Machine.{run}
use Rattle.jsemantics.specs.jmachine.RunTraces.{Run, ending}
use Rattle.jsemantics.specs.jrules.InspectingRules.{rules as inspecting}
use Rattle.jsemantics.specs.jrules.PlainRules.{rules as plain}
use Rattle.jjob.specs.declared.command.Command.TheVariants as commands
use Rattle.jjob.specs.declared.command.Form.{Form}
use Rattle.jjob.specs.declared.command.Form.TheVariants.{Inspect, Pass}
use Rattle.jshow.specs.CommandAnswers.{Answer, listed, refused_answer}
use Rattle.jshow.specs.Refusals.{refusal_line}
use Rattle.joutput.specs.declared.jtally.counts.Tally.{Tally}
use Rattle.joutput.specs.jtally.LineTallies.{tally, tally_line}
use Rattle.jtasks.specs.declared.jtask.task.Task.{Task}
use Rattle.jtasks.specs.declared.jtask.task.Task.TheVariants as tasks
use Rattle.jtasks.specs.jstages.Stages.{Missing, Refused, Stopped, found}
use Rattle.jtasks.specs.jtask.Tasks.{task}
use Rattle.jstore.specs.GeneratedShelves.{held}

-- ---- both runs

-- what is told of a run that is counted
abbrev pub tally_of : {S : Type 0} → Run S → Tally
tally_of r = tally r.events (ending r)

-- what is told of a task that is a run: how many lines of each kind its text has, and how it ended
unfoldable pub told : Task → Option Tally
told (tasks.Run program domains plan) = Some (tally_of (run (inspecting (has domains)) program plan plan.steps))
told (tasks.RunPlain program domains plan) = Some (tally_of (run (plain (has domains)) program plan plan.steps))
told (tasks.RunPass program domains plan) = Some (tally_of (run (plain (has domains)) program plan plan.steps))
told _ = None

-- what is told of the run of the made job in a form, or its refusal
unfoldable pub told_in : List File → Form → Result Tally Stopped
told_in files form = task (commands.Run form (codes "gen.job")) files >>= λ it. found (told it)

-- the first form comes first, also where something is refused
unfoldable pub told_both : List File → Result (Tally × Tally) Stopped
told_both files = told_in files Inspect >>= λ first. told_in files Pass >>= λ second. Ok (first, second)

-- ---- the answer

-- the line of a job that is made: how many classes it has
abbrev pub made_line : ℕ → List ℕ
made_line size = codes "made " ++ (decimal size ++ codes " classes\n")

-- a line for each run
abbrev pub runs_text : Tally → Tally → List ℕ
runs_text first second = tally_line (codes "inspect") first ++ tally_line (codes "pass") second

abbrev pub made_text : ℕ → Tally → Tally → List ℕ
made_text size first second = made_line size ++ runs_text first second

-- a refusal alone, or what is told of what was found; nothing where a file is missing
abbrev pub unless_stopped : {A : Type 0} → (A → Answer) → Result A Stopped → Answer
unless_stopped tell (Ok it) = tell it
unless_stopped tell (Err (Refused refusal)) = refused_answer (refusal_line refusal)
unless_stopped tell (Err Missing) = record { text = []; files = []; status = None }

-- the answer to a seed and a size
unfoldable pub made : ℕ → ℕ → Answer
made seed size = unless_stopped (λ both. listed (made_text size both.0 both.1)) (told_both (held seed size))
