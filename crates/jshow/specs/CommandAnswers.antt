-- Answers: a text, the files that are stored, and a status; what a call wrote whose answer is one, and what a call does to its sink.
use Rattle.std.specs.Prelude.{◌≡◌, ◌≤◌, ℕ, List, [], Option, Some, Result, Err, OnErr, OnOk}
use Rattle.jground.specs.jbase.FaultCauses.{appended, IsCut, Rose}
use Rattle.joutput.specs.jio.ShelfFiles.{File}
use Rattle.joutput.specs.declared.jtrace.fault.RunFault.{RunFault}
use Rattle.joutput.specs.declared.jtrace.fault.RunFault.TheVariants as run_faults
use Rattle.jshow.specs.declared.status.Status.{Status}
use Rattle.jshow.specs.declared.status.Status.TheVariants as statuses

-- a text, the files that are stored, and a status where there is one
pub record Answer : Type 0 where
  pub text : List ℕ
  pub files : List File
  pub status : Option Status

abbrev pub refused_answer : List ℕ → Answer
refused_answer line = record { text = line; files = []; status = Some statuses.Refused }

abbrev pub listed : List ℕ → Answer
listed text = record { text = text; files = []; status = Some statuses.Finished }

-- What the call answered and wrote is this answer. After a fault of reading or of storing nothing was written; after a fault of writing,
-- and where memory ran out, a front of its text.
abbrev pub Answers : Answer → Status → Option (List ℕ) → Option (List ℕ) → Type 0
Answers a statuses.ReadFault old new = new ≡ old
Answers a statuses.StoreFault old new = new ≡ old
Answers a statuses.WriteFault old new = IsCut old new a.text
Answers a statuses.OutOfMemory old new = IsCut old new a.text
Answers a status old new = (a.status ≡ Some status) × (new ≡ appended old a.text)

-- A call wrote this text to a sink, whose bytes and count of faults these are; where it failed, a front of the text. The count didn't fall,
-- and a fault of the sink is told only where it rose.
pub record Puts {S T : Type 0} (text : List ℕ) (result : Result T RunFault) (out : S → Option (List ℕ)) (faults : S → ℕ) (old new : S) : Type 0 where
  pub ok : OnOk result (out new ≡ appended (out old) text)
  pub err : OnErr result (IsCut (out old) (out new) text)
  pub later : faults old ≤ faults new
  pub cause : result ≡ Err run_faults.Sink → Rose (faults old) (faults new)

-- A call that neither reads nor stores answered this and wrote its text to a sink. It tells a fault of writing only where the sink's count
-- rose, no other fault, and no usage.
pub record Shows {S : Type 0} (a : Answer) (status : Status) (out : S → Option (List ℕ)) (faults : S → ℕ) (old new : S) : Type 0 where
  pub answer : Answers a status (out old) (out new)
  pub later : faults old ≤ faults new
  pub cause : status ≡ statuses.WriteFault → Rose (faults old) (faults new)
  pub read : status ≡ statuses.ReadFault → ⊥
  pub usage : status ≡ statuses.Usage → ⊥
  pub store : status ≡ statuses.StoreFault → ⊥
