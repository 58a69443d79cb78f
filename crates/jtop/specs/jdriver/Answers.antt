-- What the program answers to its words, over the files that are held.
use Rattle.std.specs.Prelude.{◌≡◌, ◌≤◌, ◌⊎◌, ℕ, Bool, false, true, List, [], ◌++◌, length, Option, Some, None, codes, decimal, String}
use Rattle.std.specs.declared.alloc.Global.{Global}
use Rattle.jground.specs.jbase.FaultCauses.{Rose}
use Rattle.joutput.specs.jio.ShelfFiles.{File}
use Rattle.jdomain.specs.Domains.{has}
use Rattle.jsemantics.specs.jmachine.Machine.{run}
use Rattle.jsemantics.specs.jmachine.RunTraces.{Run, run_text, ending}
use Rattle.jsemantics.specs.jrules.InspectingRules.{rules as inspecting}
use Rattle.jsemantics.specs.jrules.PlainRules.{rules as plain}
use Rattle.jjob.specs.declared.command.Command.{Command}
use Rattle.jjob.specs.declared.command.Command.TheVariants as commands
use Rattle.jjob.specs.JobLimits.{most_size}
use Rattle.jjob.specs.CommandWords.{command, words_of}
use Rattle.jtop.specs.jdriver.GeneratedRuns.{made, unless_stopped}
use Rattle.jshow.specs.declared.status.Status.{Status}
use Rattle.jshow.specs.declared.status.Status.TheVariants as statuses
use Rattle.jshow.specs.CommandAnswers.{Answer, listed}
use Rattle.jshow.specs.CheckCounts.{checked_line, methods_of}
use Rattle.jshow.specs.Listings.{listing}
use Rattle.jshow.specs.Statuses.{status_of}
use Rattle.jtasks.specs.declared.jtask.task.Task.{Task}
use Rattle.jtasks.specs.declared.jtask.task.Task.TheVariants as tasks
use Rattle.jtasks.specs.jstages.Stages.{Misses}
use Rattle.jtasks.specs.jtask.Tasks.{reads, stores, task}
use Rattle.jstore.specs.Folders.{files_below}
use Rattle.jstore.specs.FileWrites.{StoresFront, with_files}

abbrev pub usage_answer : Answer
usage_answer = record { text = codes "usage: javasec VERB ARGUMENTS\n"; files = []; status = Some statuses.Usage }

abbrev pub ran : {S : Type 0} → Run S → Answer
ran r = record { text = run_text r; files = []; status = Some (status_of (ending r)) }

-- a program that is rewritten: how many classes it has, and the files that are stored
abbrev pub rewrote : List File → ℕ → Answer
rewrote files classes =
    record { text = codes "rewritten " ++ (decimal classes ++ codes " classes\n"); files = files; status = Some statuses.Finished }

-- what is told when a task is done
unfoldable pub shown : Task → Answer
shown (tasks.Run program domains plan) = ran (run (inspecting (has domains)) program plan plan.steps)
shown (tasks.RunPlain program domains plan) = ran (run (plain (has domains)) program plan plan.steps)
shown (tasks.RunPass program domains plan) = ran (run (plain (has domains)) program plan plan.steps)
shown (tasks.Policy sources domains) = listed (listing 0 sources domains)
shown (tasks.Check program) = listed (checked_line (length program.parts) (methods_of program.parts))
shown (tasks.Rewrite program job to) = rewrote (files_below to job program) (length program.parts)

-- The text, the files that are stored and the status at a command. There is none of these where a file that is to be read is missing or too
-- long. For `gen` the files are made, and none is read.
unfoldable pub answer : Command → List File → Answer
answer (commands.Gen seed size) files = made seed size
answer c files = unless_stopped shown (task c files)

-- the answer has a status
abbrev pub HasStatus : Answer → Type 0
HasStatus a = (own : Status) × (a.status ≡ Some own)

-- The answer to each job that is made has one: no file that is read for its runs is missing or too long.
abbrev pub MadeHaveStatus : Type 0
MadeHaveStatus = (seed size : ℕ) → size ≤ most_size → HasStatus (made seed size)

-- the command makes the files of its job
abbrev pub makes : Command → Bool
makes = elim [ commands.Gen seed size ↦ true | _ ↦ false ]

-- a job that is made has 1 to 1,000 classes
abbrev pub IsSized : Command → Type 0
IsSized (commands.Gen seed size) = (1 ≤ size) × (size ≤ most_size)
IsSized _ = Unit {0}

-- ---- words

abbrev pub answer_to : Option Command → List File → Answer
answer_to x files = elim x [ None ↦ usage_answer | Some c ↦ answer c files ]

-- what is answered to the words of the command line
abbrev pub answered : List (String Global) → List File → Answer
answered words = answer_to (command (words_of words))

-- ---- what a call answers

-- Files over which is answered: where any are read, those that the shelf tells that it holds; else any, since none matters.
abbrev pub Over : Bool → Option (List File) → List File → Type 0
Over reading held files = reading ≡ true → held ≡ Some files

-- What the call stored are these files. After a fault of reading nothing was stored; after a fault of storing, and where memory ran out, a
-- front of them.
abbrev pub Stores : List File → Status → Option (List File) → Option (List File) → Type 0
Stores stored statuses.ReadFault old new = new ≡ old
Stores stored statuses.StoreFault old new = StoresFront stored old new
Stores stored statuses.OutOfMemory old new = StoresFront stored old new
Stores stored status old new = new ≡ with_files stored old

-- Usage comes exactly where the words are no command; it yields to a fault of writing and to want of memory.
abbrev pub UsageExactly : Option Command → Status → Type 0
UsageExactly None statuses.Usage = Unit {0}
UsageExactly None statuses.WriteFault = Unit {0}
UsageExactly None statuses.OutOfMemory = Unit {0}
UsageExactly None _ = ⊥
UsageExactly (Some c) statuses.Usage = ⊥
UsageExactly (Some c) _ = Unit {0}

-- None of the counts of faults has risen: that of reads, that of files that are stored, and that of puts.
abbrev pub Calm : ℕ → ℕ → ℕ → ℕ → ℕ → ℕ → Type 0
Calm read_before read_now store_before store_now put_before put_now =
    (Rose read_before read_now → ⊥) × (Rose store_before store_now → ⊥) × (Rose put_before put_now → ⊥)

-- The status is the answer's own over these files, or memory ran out.
abbrev pub Complete : (List File → Answer) → (List File → Type 0) → Status → Type 0
Complete answer_over IsHeld s = (files : List File) (own : Status) → IsHeld files → (answer_over files).status ≡ Some own
    → (s ≡ own) ⊎ (s ≡ statuses.OutOfMemory)

-- The words are a command, and a file that is to be read for it is missing or too long.
abbrev pub MissesAny : Option (List File) → Option Command → Type 0
MissesAny held None = ⊥
MissesAny held (Some c) = Misses held (task c)

-- The words are a command that reads files.
abbrev pub any_reads : Option Command → Bool
any_reads = elim [ None ↦ false | Some c ↦ reads c ]

-- The words are a command that stores files.
abbrev pub any_stores : Option Command → Bool
any_stores = elim [ None ↦ false | Some c ↦ stores c ]

-- The words are a command that makes the files of its job.
abbrev pub any_makes : Option Command → Bool
any_makes = elim [ None ↦ false | Some c ↦ makes c ]

-- It is a fault neither of reading nor of storing.
abbrev pub NoFileFault : Status → Type 0
NoFileFault statuses.ReadFault = ⊥
NoFileFault statuses.StoreFault = ⊥
NoFileFault status = Unit {0}
