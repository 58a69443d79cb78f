-- Rows of calls of Thread that ask nothing of access control (class documentation of Thread): start, join and yield.
use Rattle.std.specs.Prelude.{ℕ, List, [], ◌∷◌, Option, Some, None, option_map, if◌then◌else◌}
use Rattle.jlib.specs.declared.classes.Thrown.TheVariants as thrown
use Rattle.jlib.specs.declared.classes.LibClass.TheVariants as lib
use Rattle.jlib.specs.declared.calls.ThreadCall.{ThreadCall}
use Rattle.jlib.specs.declared.calls.ThreadCall.TheVariants as calls
use Rattle.jvalues.specs.declared.jops.value.Value.{Value}
use Rattle.jvalues.specs.declared.jops.value.Value.TheVariants.{Ref}
use Rattle.jthreads.specs.ThreadTables.{is_started, join_answer, joined, table_after_start}
use Rattle.jthreads.specs.declared.table.Joined.{Joined}
use Rattle.jthreads.specs.declared.table.Joined.TheVariants.{AtOnce, Waits}
use Rattle.jsemantics.specs.jmachine.HeapObjects.{Object, Thread}
use Rattle.jsemantics.specs.jmachine.Store.{Store, object_at}
use Rattle.jsemantics.specs.jmachine.MachineStates.{Row, Switches, free, gives, raises}
use Rattle.jsemantics.specs.jmachine.InstructionSites.{Site}

-- the number of the thread that an object stands for
abbrev pub number_in : {K : Type 0} → Option (Object K) → Option ℕ
number_in (Some (Thread number)) = number
number_in x = None

-- a thread is started once
abbrev pub started : {K E : Type 0} → Site → ℕ → Row K E
started at t = if is_started at.table t then raises (lib.Thrown thrown.IllegalThreadStateException) else free
    (Switches (table_after_start t at.table))

abbrev pub joined_by : {K E : Type 0} → Site → Store K → ℕ → Joined → Row K E
joined_by at s t x = elim x [ AtOnce ↦ gives s [] | Waits ↦ free (Switches (joined at.thread t at.table)) ]

-- the running thread waits until another has ended; one that isn't started, or has ended, isn't waited for
abbrev pub waiting : {K E : Type 0} → Site → Store K → ℕ → Row K E
waiting at s t = joined_by at s t (join_answer t at.table)

unfoldable pub thread : {K E : Type 0} → Site → Store K → ThreadCall → List (Value K) → Option (Row K E)
thread at s calls.Start (Ref n ∷ []) = option_map (started at) (number_in (object_at s n))
thread at s calls.Join (Ref n ∷ []) = option_map (waiting at s) (number_in (object_at s n))
thread at s calls.Yield [] = Some (free (Switches at.table))
thread at s call values = None
