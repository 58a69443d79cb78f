-- What is printed is told as an event of the thread.
use Rattle.std.specs.Prelude.{ℕ, List, [], ◌∷◌, Option, Some, None}
use Rattle.joutput.specs.declared.jtrace.event.Event.TheVariants.{Out}
use Rattle.jsemantics.specs.jmachine.MachineStates.{Row}
use Rattle.jsemantics.specs.jmachine.Store.{Store}
use Rattle.jrows.specs.jtexts.TextCallOutcomes.{Comes, leaves}
use Rattle.jrows.specs.declared.jtexts.ran.Ran.TheVariants as rans

-- The row tells this text of a thread and does no more, or where there is no text the state has no step.
abbrev pub Prints : {E : Type 0} → Store ℕ → Option (Row ℕ E) → (thread : ℕ) → Option (List ℕ) → Type 0
Prints s row thread None = Comes s row (leaves rans.Stuck [] s)
Prints s row thread (Some text) = Comes s row (leaves rans.Went (Out thread text ∷ []) s)
