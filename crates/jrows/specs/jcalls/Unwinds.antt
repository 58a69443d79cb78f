-- What unwinding comes to (JVMS 2.10).
use Rattle.std.specs.Prelude.{◌≡◌, ℕ, Bool, true, false, List, [], ◌∷◌, Option, Some, None}
use Rattle.std.specs.List.{AllByRecursion}
use Rattle.jresolution.specs.declared.jprogram.member.MethodId.{MethodId}
use Rattle.jresolution.specs.jprogram.ProgramClasses.{Program}
use Rattle.jtypes.specs.declared.vtype.VType.{VType}
use Rattle.jvalues.specs.declared.jops.value.Value.TheVariants.{Ref}
use Rattle.jsemantics.specs.jmachine.MachineStates.{FrameOf}
use Rattle.jsemantics.specs.jmachine.Unwinding.{handler_at, resumed, unwound}
use Rattle.jruntime.specs.jstate.FrameLists.{Framed, all}
use Rattle.jrows.specs.jcalls.FrameMarks.{marks_of}

-- What is asked about a frame's method and place is where it goes on if something of this type is thrown.
abbrev pub IsTold : {E : Type 0} → Program → VType → (MethodId → ℕ → Option ℕ) → FrameOf ℕ E → Type 0
IsTold p thrown goes f = goes f.method f.place ≡ handler_at p thrown f.method f.place

-- the frames that are left where some handle it
abbrev pub caught_by : {E : Type 0} → Bool → Framed E → Option (List (FrameOf ℕ E))
caught_by true g = Some (all g)
caught_by false g = None

-- The object of a number was thrown: the frames are those that the machine's definition leaves, where one handles its type.
abbrev pub Unwinds : {E : Type 0} → List E → (MethodId → ℕ → Option ℕ) → ℕ → Framed E → Bool → Framed E → Type 0
Unwinds {E} marks goes n f caught g = (entry_of : ℕ → E) (p : Program) (thrown : VType)
    → marks ≡ marks_of entry_of p → AllByRecursion (IsTold p thrown goes) (all f) → unwound entry_of p thrown n (all f) ≡ caught_by caught g

-- The newest of these frames that handles it is the newest that is left, and goes on at a number; where no number is told none does.
abbrev pub going_on : {E : Type 0} → (ℕ → E) → Program → ℕ → Framed E → Option ℕ → Option (List (FrameOf ℕ E))
going_on entry_of p n g None = None
going_on entry_of p n g (Some to) = Some (resumed entry_of p g.newest to (Ref n ∷ []) ∷ g.below)

abbrev pub Settles : {E : Type 0} → (MethodId → ℕ → Option ℕ) → Framed E → Option ℕ → Framed E → Type 0
Settles {E} goes f to g = (entry_of : ℕ → E) (p : Program) (thrown : VType) (n : ℕ)
    → AllByRecursion (IsTold p thrown goes) (all f) → unwound entry_of p thrown n (all f) ≡ going_on entry_of p n g to
