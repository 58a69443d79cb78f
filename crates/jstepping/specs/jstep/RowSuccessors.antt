-- What a step comes to behind a row: what the row left to do is done to the frames, of which it changed the newest.
use Rattle.std.specs.Prelude.{◌≡◌, ℕ, List, [], ◌∷◌, Option, None, nat_le, if◌then◌else◌}
use Rattle.joutput.specs.declared.jtrace.event.End.TheVariants.{HeapFull}
use Rattle.jresolution.specs.jprogram.ProgramClasses.{Program}
use Rattle.jsemantics.specs.declared.jmachine.plan.Plan.{Plan}
use Rattle.jsemantics.specs.jmachine.MachineStates.{FrameOf, State, Outcome, Over, NoStep, two}
use Rattle.jsemantics.specs.jmachine.InstructionActions.{Doing}
use Rattle.jsemantics.specs.jmachine.Security.{Rules}
use Rattle.jsemantics.specs.jmachine.MachineSteps.{done, raised, thrown_at, went}
use Rattle.jsemantics.specs.jmachine.Store.{paid}
use Rattle.jsemantics.specs.jmachine.Unwinding.{with_raised}
use Rattle.jrows.specs.declared.jacts.way.Way.{Way}
use Rattle.jrows.specs.declared.jacts.way.Way.TheVariants as ways
use Rattle.jrows.specs.jacts.RowOutcomes.{Comes, Left}

module _ {E : Type 0} (r : Rules ℕ E) (p : Program) (plan : Plan) (s : State ℕ E) (below : List (FrameOf ℕ E)) where
  -- An exception that the machine raises costs its cells; where they aren't there nothing changes.
  abbrev pub behind : Way → Left E → Outcome (State ℕ E)
  behind ways.Went l = went r p plan s (l.frame ∷ below) l.store l.told
  behind (ways.Raises class) l =
      if nat_le two s.store.left then raised r p plan s (l.frame ∷ below) l.told (with_raised (paid two l.store) class None) else Over s [] HeapFull
  behind (ways.Throws n) l = thrown_at r p plan s (l.frame ∷ below) l.store [] n
  behind ways.Full l = Over s [] HeapFull
  behind ways.Stuck l = NoStep

-- Where a row did what is to be done at the newest frame, the step is what is made of what the row left.
abbrev pub Follows : Type 0 → Type 0
Follows E = (r : Rules ℕ E) (p : Program) (plan : Plan) (s : State ℕ E) (f : FrameOf ℕ E) (below : List (FrameOf ℕ E)) (o : Option (Doing ℕ E))
    (l : Left E)
    → Comes f s.store o l → done r p plan s below o ≡ behind r p plan s below l.way l
