-- What is answered to a command that makes the files of its job.
use Rattle.std.proofs.Common.{◌≡◌, ◌≤◌, ◌∙◌, ℕ, List, [], Option, Result, Ok, Err, refl, sym, ap, subst}
use Rattle.std.specs.Prelude.{false, true}
use Rattle.joutput.specs.jio.ShelfFiles.{File}
use Rattle.jperm.specs.declared.permission.Permission.{Permission}
use Rattle.jjob.specs.declared.command.Command.{Command}
use Rattle.jjob.specs.declared.command.Command.TheVariants as commands
use Rattle.jresolution.specs.jprogram.ProgramClasses.{Program}
use Rattle.jsemantics.specs.declared.jmachine.plan.Plan.{Plan}
use Rattle.jshow.specs.declared.status.Status.{Status}
use Rattle.jshow.specs.declared.status.Status.TheVariants as statuses
use Rattle.joutput.specs.declared.jtally.counts.Tally.{Tally}
use Rattle.jtasks.specs.jstages.Stages.{Missing, Refused, Stopped}
use Rattle.jtasks.specs.jtask.Tasks.{reads as reads_files}
use Rattle.jstore.specs.GeneratedShelves.{held}
use Rattle.jtop.specs.jdriver.GeneratedRuns.{made, told_both, unless_stopped, made_text}
use Rattle.jtop.specs.jdriver.Answers.{IsSized, NoFileFault, answer, makes}
use Rattle.jtop.specs.jdriver.Headline.{AnswersAll, AnswersSome, RunsPassed}
use Rattle.jshow.specs.CommandAnswers.{listed}

-- it stores no files
stores_none : (size : ℕ) (both : Result (Tally × Tally) Stopped) → (unless_stopped (λ both. listed (made_text size both.0 both.1)) both).files ≡ []
stores_none size (Ok both) = refl
stores_none size (Err (Refused refusal)) = refl
stores_none size (Err Missing) = refl

pub no_file_fault : (s : Status) → (s ≡ statuses.ReadFault → ⊥) → (s ≡ statuses.StoreFault → ⊥) → NoFileFault s
no_file_fault statuses.Finished read store = tt
no_file_fault statuses.Uncaught read store = tt
no_file_fault statuses.Usage read store = tt
no_file_fault statuses.Refused read store = tt
no_file_fault statuses.Bound read store = tt
no_file_fault statuses.HeapFull read store = tt
no_file_fault statuses.Deadlock read store = tt
no_file_fault statuses.ReadFault read store = read refl
no_file_fault statuses.WriteFault read store = tt
no_file_fault statuses.StoreFault read store = store refl
no_file_fault statuses.OutOfMemory read store = tt

-- no command that reads files makes them
pub not_both : {A : Type 0} (c : Command) → reads_files c ≡ true → makes c ≡ true → A
not_both (commands.Run form path) reads makes = absurd (let no : false ≡ true = makes in cc)
not_both (commands.Check form path) reads makes = absurd (let no : false ≡ true = makes in cc)
not_both (commands.Rewrite path to) reads makes = absurd (let no : false ≡ true = makes in cc)
not_both (commands.Policy path) reads makes = absurd (let no : false ≡ true = makes in cc)
not_both (commands.Gen seed size) reads makes = absurd (let no : false ≡ true = reads in cc)

module _ (c : Command) (seed size : ℕ) (is : c ≡ commands.Gen seed size) where
  pub sized : IsSized c → (1 ≤ size) × (size ≤ 1000)
  sized h = subst IsSized is h

  module _ (files : List File) where
    pub made_is : answer c files ≡ made seed size
    unfolding answer
    made_is = ap (λ (x : Command). answer x files) is

    pub no_files : (answer c files).files ≡ []
    unfolding answer made
    no_files = ap (λ (x : Command). (answer x files).files) is ∙ stores_none size (told_both (held seed size))

    -- it is no run in the pass form
    no_run : {A : Type 0} (p : Program) (domains : List (List Permission)) (plan : Plan) → RunsPassed c files p domains plan → A
    no_run p domains plan run = absurd (let both = sym is ∙ run.command in cc)

    module _ (s : Status) (old new : Option (List ℕ)) where
      pub made_some : AnswersSome c files s old new
      made_some p domains plan run = no_run p domains plan run

      pub made_all : AnswersAll c files s old new
      made_all p domains plan run = no_run p domains plan run
