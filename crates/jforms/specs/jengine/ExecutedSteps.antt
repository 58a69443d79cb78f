-- A step that was executed.
use Rattle.std.specs.Prelude.{◌≡◌, ℕ, Option}
use Rattle.jrows.specs.jcalls.FrameMarks.{marks_of}
use Rattle.jstepping.specs.declared.jcore.machine.Machine.{Machine}
use Rattle.jstepping.specs.jcore.AnsweredCalls.{AsksKnown}
use Rattle.jstepping.specs.jcore.MachineInvariants.{StaysFixed}
use Rattle.jcalling.specs.declared.jexecute.executing.Executed.{Executed}
use Rattle.jcalling.specs.jexecute.ThreadSteps.{Executes}
use Rattle.jforms.specs.jtables.Engines.{asks_next}

-- A step of a machine came to this, and has left another, for which what it asks of access control is known to the guard.
pub record WasExecuted {M K E : Type 0} (kept : ℕ → Option K) (entry : M → Option E) (mark : ℕ → M) (found : Executed) (n : Machine M) : Type 0 where
  pub before : Machine M
  pub executes : Executes before found n
  pub fixed : StaysFixed before n
  pub carry : before.fixed.marks.now ≡ marks_of mark before.calls
  pub known : AsksKnown kept entry before (asks_next before)
