-- What stands as long as a program runs, and how its run begins.
use Rattle.std.specs.Prelude.{◌≡◌, ◌<◌, ◌≤◌, ◌+◌, ◌^◌, ℕ, List, Option, Some, None, length, slice_get}
use Rattle.jlib.specs.declared.side.Side.{Side}
use Rattle.jresolution.specs.jprogram.ProgramClasses.{Program}
use Rattle.jsemantics.specs.declared.jmachine.plan.Plan.{Plan}
use Rattle.jsemantics.specs.jmachine.FrameOperations.{domain_of}
use Rattle.jsemantics.specs.jmachine.Machine.{opening}
use Rattle.jsemantics.specs.jmachine.OpeningState.{opening_charge, opening_state}
use Rattle.jsemantics.specs.jmachine.Security.{Rules, handed}
use Rattle.jready.specs.PreparedPrograms.{Prepared}
use Rattle.jruntime.specs.declared.jstate.shapes.Shape.{Shape}
use Rattle.jserving.specs.declared.jcells.shapes.Shaped.{Shaped}
use Rattle.jserving.specs.jcells.ArrayTypeNumbers.{AreRows, IsStrings}
use Rattle.jserving.specs.jcells.CellLayout.{AreTied}
use Rattle.jrows.specs.jcalls.FrameMarks.{marks_of}
use Rattle.jstepping.specs.declared.jopen.opening.FirstFrame.{FirstFrame}
use Rattle.jstepping.specs.jopen.InitialMachines as opened
use Rattle.jsemantics.specs.jmachine.MachineSteps.{step}
use Rattle.jguard.specs.NumberMeanings.{StandsFor}
use Rattle.jruntime.specs.jrun.StepOutcomes.{Begins}
use Rattle.jstepping.specs.declared.jcore.machine.Machine.{Machine}
use Rattle.jstepping.specs.jcore.MachineInvariants.{IsReady, state_of}
use Rattle.jforms.specs.declared.jtables.grounds.EngineTables.{EngineTables}
use Rattle.jforms.specs.jtables.Engines.{IsEngine}

-- The program is ready, and this is what stands in its heap's cells.
pub record IsShaped (p : Program) (r : Prepared) (x : Shaped) : Type 0 where
  pub ready : r.program ≡ p
  pub tied : AreTied p r.methods.tables x.shapes
  pub numbers : AreRows x.shapes x.numbers
  pub strings : IsStrings x.shapes x.strings
  pub small : (i : ℕ) (shape : Shape) → slice_get x.shapes.users i ≡ Some shape → length shape.cells + 1 < 2 ^ 32

-- It is that of the program, and frames of the methods of each class carry the mark of its domain.
pub record IsGround {M : Type 0} (p : Program) (mark : ℕ → M) (x : EngineTables M) : Type 0 where
  pub ready : x.ready.program ≡ p
  pub tied : AreTied p x.ready.methods.tables x.shaped.shapes
  pub numbers : AreRows x.shaped.shapes x.shaped.numbers
  pub strings : IsStrings x.shaped.shapes x.shaped.strings
  pub small : (i : ℕ) (shape : Shape) → slice_get x.shaped.shapes.users i ≡ Some shape → length shape.cells + 1 < 2 ^ 32
  pub ancestors : x.ancestors ≡ p
  pub marks : x.marks ≡ marks_of mark p

-- A machine stands at the beginning of a run, by all rules by numbers whose frames of `main` carry this mark, and which hand it this context.
pub record IsBegun {M : Type 0} (p : Program) (plan : Plan) (side : Side) (marks : List M) (first : FirstFrame M) (m : Machine M) : Type 0 where
  pub ready : IsReady m
  pub calls : m.calls ≡ p
  pub planned : m.plan.now ≡ plan
  pub sided : m.side ≡ side
  pub carry : m.fixed.marks.now ≡ marks
  pub room : opening_charge p ≤ plan.heap
  pub state : (r : Rules ℕ M) → r.entry_of (domain_of p plan.main) ≡ first.mark → handed r.side r.first ≡ opened.handed first.context
      → state_of m ≡ opening_state r p plan.main plan.heap

-- It does, or the heap has too few cells for it.
abbrev pub BegunOr : {M : Type 0} → Program → Plan → Side → List M → FirstFrame M → Option (Machine M) → Type 0
BegunOr p plan side marks first None = plan.heap < opening_charge p
BegunOr p plan side marks first (Some m) = IsBegun p plan side marks first m

-- A machine stands at the beginning of a run by a guard's rules, by what its numbers and marks stand for.
pub record Starts {M K E : Type 0} (kept : ℕ → Option K) (entry : M → Option E) (mark : ℕ → M) (rules : Rules K E) (p : Program) (plan : Plan)
    (m : Machine M) : Type 0 where
  pub engine : IsEngine kept entry mark rules m
  pub begins : Begins (λ s. StandsFor kept entry (state_of m) s) (opening rules p plan)
  pub steps : step rules m.calls m.plan.now ≡ step rules p plan

-- It does, or the heap has too few cells for it.
abbrev pub StartsOr : {M K E : Type 0} → (ℕ → Option K) → (M → Option E) → (ℕ → M) → Rules K E → Program → Plan → Option (Machine M) → Type 0
StartsOr kept entry mark rules p plan None = plan.heap < opening_charge p
StartsOr kept entry mark rules p plan (Some m) = Starts kept entry mark rules p plan m
