-- States of the machine, what an instruction does with the operands that it took, and what a step comes to. `K` is what stands for a
-- security context, and `E` is what a frame carries for access control.
use Rattle.std.specs.Prelude.{ℕ, ◌+◌, Bool, List, [], Option, Some, None, length}
use Rattle.jvalues.specs.declared.jops.value.Value.{Value}
use Rattle.jthreads.specs.declared.thread.Thread.{Thread}
use Rattle.joutput.specs.declared.jtrace.event.Event.{Event}
use Rattle.joutput.specs.declared.jtrace.event.End.{End}
use Rattle.jlib.specs.declared.classes.LibClass.{LibClass}
use Rattle.jlib.specs.declared.classes.LibClass.TheVariants as lib
use Rattle.jlib.specs.declared.classes.Thrown.TheVariants as thrown
use Rattle.jresolution.specs.declared.jprogram.member.MethodId.{MethodId}
use Rattle.jsemantics.specs.jmachine.Store.{Store}

-- ---- states

-- A frame (JVMS 2.6). It stands at an instruction, by its number in the method; one with another frame on it stands at the call that
-- pushed that one, with the call's operands taken. A long takes two locals, and the second holds nothing.
pub record FrameOf (K E : Type 0) : Type 0 where
  pub method : MethodId
  pub place : ℕ
  pub locals : List (Option (Value K))
  -- the newest first
  pub operands : List (Value K)
  pub entry : E

pub record GuestOf (K E : Type 0) : Type 0 where
  -- the newest first; none before the thread begins and after it has ended
  pub frames : List (FrameOf K E)
  -- what its Thread kept when it was made
  pub inherited : Option K
  -- the number of its Runnable, or 0
  pub runnable : ℕ
  -- it ended by an exception
  pub failed : Bool

-- The threads stand in the order of their numbers, so that the running one's number is how many stand before it.
pub record State (K E : Type 0) : Type 0 where
  pub earlier : List (GuestOf K E)
  pub running : GuestOf K E
  pub later : List (GuestOf K E)
  -- which threads were started, have ended and wait
  pub table : List Thread
  pub store : Store K
  -- how many numbers of the schedule were taken
  pub turns : ℕ

-- ---- what an instruction does

pub data Act (K E : Type 0) : Type 0 where
  -- the frame goes on behind its instruction, with these operands on those that it has left
  Goes : Store K → List (Value K) → List Event → Act K E
  -- it goes on at a number
  Jumps : ℕ → Act K E
  -- it goes, and the frame below goes on behind its call, with these operands
  Leaves : List (Value K) → Act K E
  -- a frame of a method is pushed, with these arguments, the newest first; the frame that calls may carry something else from now on
  Calls : MethodId → List (Value K) → Option E → Act K E
  -- behind these events an exception of a class is raised, with a message of these units or with none
  Raises : List Event → LibClass → Option (List ℕ) → Act K E
  -- the object of a number is thrown
  Throws : ℕ → Act K E
  -- the frame goes on, and behind it another thread may take its turn
  Switches : List Thread → Act K E
  -- the frame goes on, and there is one more thread, with its Runnable's number and what it inherits
  Makes : Store K → (runnable : ℕ) → K → Act K E

-- what an instruction does where the heap has the cells for it: what is made takes so many, exceptions aside
pub record Row (K E : Type 0) : Type 0 where
  pub charge : ℕ
  pub act : Act K E

-- what costs no cells, or those of its exception alone
abbrev pub free : {K E : Type 0} → Act K E → Row K E
free act = record { charge = 0; act = act }

abbrev pub costs : {K E : Type 0} → ℕ → Act K E → Row K E
costs cells act = record { charge = cells; act = act }

abbrev pub gives : {K E : Type 0} → Store K → List (Value K) → Row K E
gives s values = free (Goes s values [])

-- an exception without a message
abbrev pub raises : {K E : Type 0} → LibClass → Row K E
raises class = free (Raises [] class None)

-- null stands where an object is wanted
abbrev pub null : {K E : Type 0} → Row K E
null = raises (lib.Thrown thrown.NullPointerException)

-- ---- cells

-- the cells of an exception that the machine raises, of the library's objects that hold something, and of arrays beside their items
abbrev pub two : ℕ
two = 2

-- the cells of a string, or of an array, of so many units or items
abbrev pub cells_of : ℕ → ℕ
cells_of n = two + n

abbrev pub raised_cells : {K E : Type 0} → Act K E → ℕ
raised_cells x = elim x [ Raises events class message ↦ two + (elim message [ None ↦ 0 | Some units ↦ cells_of (length units) ]) | _ ↦ 0 ]

-- the whole charge of a step
abbrev pub charge_of : {K E : Type 0} → Row K E → ℕ
charge_of r = r.charge + raised_cells r.act

-- ---- outcomes

-- What a step comes to. A state that is stuck has no step.
pub data Outcome (S : Type 0) : Type 0 where
  Went : S → List Event → Outcome S
  Over : S → List Event → End → Outcome S
  NoStep : Outcome S
