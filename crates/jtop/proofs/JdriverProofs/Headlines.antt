-- What a run in the pass form answers, by the pass theorem of the program that the job's files give.
use Rattle.std.proofs.Common.{◌≡◌, ◌∙◌, ℕ, List, [], Option, Some, None, Ok, Err, refl, sym, ap, subst, arith}
use Rattle.jground.proofs.JbaseProofs.Cuts.{cut_none}
use Rattle.joutput.specs.jio.ShelfFiles.{File}
use Rattle.jperm.specs.declared.permission.Permission.{Permission}
use Rattle.joutput.specs.declared.jtrace.event.End.{End}
use Rattle.jdomain.specs.Domains.{has}
use Rattle.jjob.specs.declared.command.Command.{Command}
use Rattle.jjob.specs.CommandWords.{Word, command}
use Rattle.jresolution.specs.jprogram.ProgramClasses.{Program}
use Rattle.jtyping.specs.jwelltyped.VerifierTests.{WellTyped}
use Rattle.jrewriting.specs.jrewrite.LinkageLaws.{IsLinked}
use Rattle.jrewriting.specs.jrewrite.RewrittenPrograms.{moved}
use Rattle.jsemantics.specs.declared.jmachine.plan.Plan.{Plan}
use Rattle.jsemantics.specs.jmachine.RunTraces.{Run, ending, run_text}
use Rattle.jpass_laws.specs.PassSimulation.{MovedPasses, Passes, inspected, passed}
use Rattle.jforms.specs.jpass.PassRuns.{AfterSome, OnceEnded}
use Rattle.jforms.proofs.JpassProofs.EventTransfer.{ending_alike, text_alike}
use Rattle.jshow.specs.declared.refusal.Refusal.{Refusal}
use Rattle.jshow.specs.declared.status.Status.{Status}
use Rattle.jshow.specs.declared.status.Status.TheVariants as statuses
use Rattle.jshow.specs.CommandAnswers.{Answer, Answers}
use Rattle.jshow.specs.Statuses.{status_of}
use Rattle.jtasks.specs.declared.jtask.task.Task.TheVariants as tasks
use Rattle.jtasks.specs.jstages.Stages.{Refused}
use Rattle.jtasks.specs.jtask.Tasks.{RunClasses, task}
use Rattle.jtasks.proofs.JtaskProofs.Sources.{Sources, linked_in, main_in, moved_in, sources, typed_in}
use Rattle.jtop.specs.jdriver.Answers.{answer, ran, shown}
use Rattle.jtop.specs.jdriver.Headline.{AnswersAll, AnswersSome, RunsPassed}
use Rattle.jtop.specs.jdriver.GeneratedRuns.{unless_stopped}

-- runs that tell the same are answered alike
ran_alike : {S T : Type 0} (r : Run S) (s : Run T) → r.events ≡ s.events → r.end ≡ s.end → ran r ≡ ran s
ran_alike r s events end =
    ap (λ (lines : List ℕ). record { text = lines; files = []; status = Some (status_of (ending r)) }) (text_alike r s events end)
    ∙ ap (λ (e : End). record { text = run_text s; files = []; status = Some (status_of e) }) (ending_alike r s end)

-- ---- where the files give a run

module _ (c : Command) (files : List File) (p : Program) (domains : List (List Permission)) (plan : Plan) (is : RunsPassed c files p domains plan) where
  source : Sources files is.path p domains plan
  source = sources files is.path p domains plan is.job

  pub task_is : task c files ≡ Ok (tasks.RunPass (moved p) domains plan)
  task_is = ap (λ (x : Command). task x files) is.command ∙ moved_in files is.path p domains plan source is.small

  answer_is : answer c files ≡ ran (passed (has domains) (moved p) plan plan.steps)
  unfolding answer shown
  answer_is = ap (λ (x : Command). answer x files) is.command ∙ ap (unless_stopped shown) (moved_in files is.path p domains plan source is.small)

  module _ (law : MovedPasses) (classes : RunClasses c files) (s : Status) (old new : Option (List ℕ)) (answers : Answers (answer c files) s old new) where
    linked : IsLinked p
    linked = linked_in files is.path p domains plan source (subst (λ (x : Command). RunClasses x files) is.command classes)

    typed : WellTyped p
    typed = typed_in files is.path p domains plan source

    passes : Passes (has domains) p (moved p) plan
    passes =
        let main = main_in files is.path p domains plan source in
        law (has domains) p plan main.0 linked typed is.small main.1

    told : Answers (ran (passed (has domains) (moved p) plan plan.steps)) s old new
    told = subst (λ (a : Answer). Answers a s old new) answer_is answers

    some : AfterSome (inspected (has domains) p plan) plan.steps (λ r. Answers (ran r) s old new)
    some =
        let w = passes.simulated plan.steps in
        let same = ran_alike (passed (has domains) (moved p) plan plan.steps) (inspected (has domains) p plan w.k) w.events w.end in
        (w.k, w.within, w.near, subst (λ (a : Answer). Answers a s old new) same told)

    all : OnceEnded (inspected (has domains) p plan) plan.steps (λ r. Answers (ran r) s old new)
    all n end over enough =
        let w = passes.complete n plan.steps end over enough in
        let same = ran_alike (passed (has domains) (moved p) plan plan.steps) (inspected (has domains) p plan n) w.events w.end in
        subst (λ (a : Answer). Answers a s old new) same told

module _ (law : MovedPasses) (c : Command) (files : List File) (classes : RunClasses c files) (s : Status) (old new : Option (List ℕ)) where
  pub answers_some : Answers (answer c files) s old new → AnswersSome c files s old new
  answers_some answers p domains plan is = some c files p domains plan is law classes s old new answers

  pub answers_all : Answers (answer c files) s old new → AnswersAll c files s old new
  answers_all answers p domains plan is = all c files p domains plan is law classes s old new answers

-- ---- where something was refused they give none

module _ (c : Command) (files : List File) (refusal : Refusal) (s : Status) (old new : Option (List ℕ)) (refused : task c files ≡ Err (Refused refusal)) where
  no_run : {A : Type 0} (p : Program) (domains : List (List Permission)) (plan : Plan) → RunsPassed c files p domains plan → A
  no_run p domains plan is = absurd (let both = sym refused ∙ task_is c files p domains plan is in cc)

  pub refused_some : AnswersSome c files s old new
  refused_some p domains plan is = no_run p domains plan is

  pub refused_all : AnswersAll c files s old new
  refused_all p domains plan is = no_run p domains plan is

-- ---- where the words are no command

module _ (words : List Word) (c : Command) (files : List File) (s : Status) (old new : Option (List ℕ)) (none : command words ≡ None) (is : command words ≡ Some c) where
  no_command : {A : Type 0} → A
  no_command = absurd (let both = sym none ∙ is in cc)

  pub unaccepted_some : AnswersSome c files s old new
  unaccepted_some p domains plan run = no_command

  pub unaccepted_all : AnswersAll c files s old new
  unaccepted_all p domains plan run = no_command

-- ---- where nothing was written, a fault of reading and want of memory answer any run

module _ (c : Command) (files : List File) (s : Status) (old new : Option (List ℕ)) (any : (a : Answer) → Answers a s old new) where
  pub any_some : AnswersSome c files s old new
  any_some p domains plan is = (plan.steps, omega arith, λ e. omega arith, any (ran (inspected (has domains) p plan plan.steps)))

  pub any_all : AnswersAll c files s old new
  any_all p domains plan is n end over enough = any (ran (inspected (has domains) p plan n))

pub unread : (old : Option (List ℕ)) (a : Answer) → Answers a statuses.ReadFault old old
unread old a = refl

pub unwritten : (old : Option (List ℕ)) (a : Answer) → Answers a statuses.OutOfMemory old old
unwritten old a = cut_none old a.text
