-- The answer to a command, case by case, and why it is the status where no fault was counted.
use Rattle.std.proofs.Common.{◌≡◌, ◌⊎◌, ℕ, List, true, false, Option, Some, None, Result, Err, refl, sym, ap, ◌∙◌, inl, inr}
use Rattle.jground.specs.jbase.FaultCauses.{Rose}
use Rattle.joutput.specs.jio.ShelfFiles.{File}
use Rattle.jjob.specs.declared.command.Command.{Command}
use Rattle.jjob.specs.declared.command.Command.TheVariants as commands
use Rattle.jshow.specs.declared.status.Status.{Status}
use Rattle.jshow.specs.declared.status.Status.TheVariants as statuses
use Rattle.jshow.specs.CommandAnswers.{Answer, Answers}
use Rattle.jtasks.specs.declared.jtask.task.Task.{Task}
use Rattle.jtasks.specs.jstages.Stages.{Stopped, Missing, Misses}
use Rattle.jtasks.specs.jtask.Tasks.{reads, task}
use Rattle.jtop.specs.jdriver.Answers.{answer, shown}
use Rattle.jtop.specs.jdriver.GeneratedRuns.{unless_stopped}

-- a command that reads files is answered by its task
pub by_task : (c : Command) (files : List File) → reads c ≡ true → answer c files ≡ unless_stopped shown (task c files)
unfolding answer
by_task (commands.Run form path) files b = refl
by_task (commands.Check form path) files b = refl
by_task (commands.Rewrite path to) files b = refl
by_task (commands.Policy path) files b = refl
by_task (commands.Gen seed size) files b = absurd (let no : false ≡ true = b in cc)

pub answer_is : (c : Command) (files : List File) (read : Result Task Stopped) → reads c ≡ true → task c files ≡ read → answer c files ≡ unless_stopped shown read
answer_is c files read b h = by_task c files b ∙ ap (unless_stopped shown) h

pub some_is : {A : Type 0} (a b : A) → Some a ≡ Some b → a ≡ b
some_is a b e = cc

-- what an answer's own status or want of memory is
pub own_status : (a : Answer) (s t : Status) (old new : Option (List ℕ)) → Answers a s old new → a.status ≡ Some t → (s ≡ statuses.ReadFault → ⊥) → (s ≡ statuses.StoreFault → ⊥) → (s ≡ statuses.WriteFault → ⊥) → (s ≡ t) ⊎ (s ≡ statuses.OutOfMemory)
own_status a statuses.Finished t old new h is nr ns nw = inl (some_is _ _ (sym h.0 ∙ is))
own_status a statuses.Uncaught t old new h is nr ns nw = inl (some_is _ _ (sym h.0 ∙ is))
own_status a statuses.Usage t old new h is nr ns nw = inl (some_is _ _ (sym h.0 ∙ is))
own_status a statuses.Refused t old new h is nr ns nw = inl (some_is _ _ (sym h.0 ∙ is))
own_status a statuses.Bound t old new h is nr ns nw = inl (some_is _ _ (sym h.0 ∙ is))
own_status a statuses.HeapFull t old new h is nr ns nw = inl (some_is _ _ (sym h.0 ∙ is))
own_status a statuses.Deadlock t old new h is nr ns nw = inl (some_is _ _ (sym h.0 ∙ is))
own_status a statuses.ReadFault t old new h is nr ns nw = absurd (nr refl)
own_status a statuses.WriteFault t old new h is nr ns nw = absurd (nw refl)
own_status a statuses.StoreFault t old new h is nr ns nw = absurd (ns refl)
own_status a statuses.OutOfMemory t old new h is nr ns nw = inr refl

same_files : (held : Option (List File)) (files others : List File) → held ≡ Some files → held ≡ Some others → others ≡ files
same_files held files others e h = some_is others files (sym h ∙ e)

-- a file is missing, so there is no status
pub no_status : (c : Command) (b : reads c ≡ true) (held : Option (List File)) (files : List File) (t : Status) → held ≡ Some files → Misses held (task c) → (answer c files).status ≡ Some t → ⊥
no_status c b held files t told misses is =
    let same : misses.0 ≡ files = same_files held files misses.0 told misses.1 in
    let none : answer c files ≡ unless_stopped shown (Err Missing) = answer_is c files (Err Missing) b (ap (task c) (sym same) ∙ misses.2) in
    let bad : None ≡ Some t = sym (ap (λ (a : Answer). a.status) none) ∙ is in
    absurd cc

pub no_fault : (before now : ℕ) (c : Command) (b : reads c ≡ true) (held : Option (List File)) (files : List File) (t : Status) → held ≡ Some files → Rose before now ⊎ Misses held (task c) → (Rose before now → ⊥) → (answer c files).status ≡ Some t → ⊥
no_fault before now c b held files t told (inl rose) calm is = calm rose
no_fault before now c b held files t told (inr misses) calm is = no_status c b held files t told misses is
