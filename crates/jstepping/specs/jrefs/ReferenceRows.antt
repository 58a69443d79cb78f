-- What an instruction by number with references did that the machine's definition has a row for.
use Rattle.std.specs.Prelude.{◌≡◌, ◌<◌, ◌+◌, ◌^◌, ⊤, ℕ, Bool, List, [], Some, None, length, slice_get}
use Rattle.jparts.specs.declared.jcode.names.Element.TheVariants as items
use Rattle.jmemory.specs.jheap.Heaps as heaps
use Rattle.jmemory.specs.jheap.Heaps.{Heaped}
use Rattle.jresolution.specs.declared.jprogram.member.Member.{Member}
use Rattle.jresolution.specs.declared.jprogram.member.MethodId.{MethodId}
use Rattle.jresolution.specs.jprogram.ProgramClasses.{Program}
use Rattle.jresolution.specs.declared.juses.numbered.Condition.{Condition}
use Rattle.jresolution.specs.declared.juses.numbered.Condition.TheVariants as when
use Rattle.jresolution.specs.juses.IndexedInstructions.{Instruction}
use Rattle.jlinking.specs.jlink.ProgramFiles.{AreFiles}
use Rattle.jlinking.specs.jlink.LinkedPrograms.{Links}
use Rattle.jsemantics.specs.jmachine.MachineStates.{FrameOf}
use Rattle.jsemantics.specs.jmachine.InstructionSites.{Site}
use Rattle.jsemantics.specs.jmachine.MachineSteps.{fetched, own_fields}
use Rattle.jsemantics.specs.jmachine.World.{world}
use Rattle.jready.specs.declared.instr.ArrayInstr.{ArrayInstr}
use Rattle.jready.specs.declared.instr.ArrayInstr.TheVariants as array
use Rattle.jready.specs.declared.instr.FlowInstr.{FlowInstr}
use Rattle.jready.specs.declared.instr.FlowInstr.TheVariants as flow
use Rattle.jready.specs.declared.instr.Instr.{Instr}
use Rattle.jready.specs.declared.instr.Instr.TheVariants as instr
use Rattle.jready.specs.InlineOperands.{Exact}
use Rattle.jready.specs.DecodedInstructions.{meant}
use Rattle.jruntime.specs.declared.jstate.shapes.Shape.{Shape}
use Rattle.jruntime.specs.jstate.HeapMeanings.{Things, store_by}
use Rattle.jrows.specs.declared.jacts.way.Way.{Way}
use Rattle.jrows.specs.declared.jacts.way.Way.TheVariants as ways
use Rattle.jrows.specs.jacts.RowOutcomes.{ActsWhere, leaves}
use Rattle.jrows.specs.declared.jcalls.ready.Counts.{Counts}
use Rattle.jrows.specs.jcalls.Readiness.{AreCounted}
use Rattle.jserving.specs.jcells.ObjectEquivalence.{LeavesAlike}
use Rattle.jserving.specs.jcells.CellLayout.{AreTied}
use Rattle.jstepping.specs.declared.jrefs.lasting.Lasting.{Lasting}

-- ---- instructions that are here

abbrev pub IsRefTest : Condition → Type 0
IsRefTest (when.IfRef test) = ⊤
IsRefTest test = ⊥

-- a branch that tests references
abbrev pub IsFlowHere : FlowInstr → Type 0
IsFlowHere (flow.Jump test to) = IsRefTest test
IsFlowHere f = ⊥

abbrev pub StoresRef : ArrayInstr → Type 0
StoresRef (array.Store items.Ref) = ⊤
StoresRef f = ⊥

-- an instruction with a class or a field, a store of a reference into an array, or a branch that tests references
abbrev pub IsHere : Instr → Type 0
IsHere (instr.Flow f) = IsFlowHere f
IsHere (instr.Array f) = StoresRef f
IsHere (instr.Object f) = ⊤
IsHere (instr.Field op cell narrow i slot owner) = ⊤
IsHere f = ⊥

-- ---- what lasts

-- It is of one program, which links and whose parts are class files; what stands in cells is what the program lays out, and can be counted.
pub record IsLasting (x : Lasting) : Type 0 where
  pub ready : x.ready.now.program ≡ x.ancestors.now
  pub links : Links x.ancestors.now
  pub files : AreFiles x.ancestors.now
  pub tied : AreTied x.ancestors.now x.ready.now.methods.tables x.shapes.now
  pub small : (i : ℕ) (shape : Shape) → slice_get x.shapes.now.users i ≡ Some shape → length shape.cells + 1 < 2 ^ 32

-- ---- the place of an instruction

-- An instruction by number is that for which the machine looks where the frame stands,
abbrev pub IsFetched : {E : Type 0} → Lasting → Instr → FrameOf ℕ E → Type 0
IsFetched x one f = meant x.ancestors.now x.ready.now.methods.tables f.method.class one ≡ fetched x.ancestors.now f.method f.place

-- and holds what its entry stands for.
abbrev pub IsExact : {E : Type 0} → Lasting → Instr → FrameOf ℕ E → Type 0
IsExact x one f = Exact x.ancestors.now x.ready.now.uses.types x.ready.now.methods.tables f.method.class one

-- what a row knows of the place of an instruction of a method
pub record IsSite (p : Program) (m : MethodId) (at : Site) (own : Member → Bool) : Type 0 where
  pub world : at.world ≡ world p
  pub class : at.class ≡ m.class
  pub owns : (field : Member) → own field ≡ own_fields p m field

-- ---- what was done

-- An instruction was done at the newest frame, with the store that the heap stands for, where there are so many permissions and contexts.
abbrev pub ActsAs : {E : Type 0} → Lasting → Counts → Instruction → FrameOf ℕ E → Heaped → Way → FrameOf ℕ E → Heaped → Type 0
ActsAs x counts i f h way g k =
    (things : Things) (constants : List (List ℕ × ℕ)) → AreCounted counts things
    → ActsWhere (IsSite x.ancestors.now f.method) i f (store_by x.ancestors.now x.shapes.now things constants h)
    (leaves way [] g (store_by x.ancestors.now x.shapes.now things constants k))

-- So was what an instruction by number stands for.
abbrev pub Runs : {E : Type 0} → Lasting → Counts → Instr → FrameOf ℕ E → Heaped → Way → FrameOf ℕ E → Heaped → Type 0
Runs x counts one f h way g k =
    (i : Instruction) → meant x.ancestors.now x.ready.now.methods.tables f.method.class one ≡ Some i → ActsAs x counts i f h way g k

-- Where it stands for nothing there is no step.
abbrev pub StaysStuck : {E : Type 0} → Lasting → Instr → FrameOf ℕ E → Way → Type 0
StaysStuck x one f way = meant x.ancestors.now x.ready.now.methods.tables f.method.class one ≡ None → way ≡ ways.Stuck

-- What made the same of the objects as so many permissions and contexts makes the same of those that are, but where there is no step.
abbrev pub RunsAlike : Lasting → Counts → Way → (before after : List heaps.Object) → Type 0
RunsAlike x counts way before after = (things : Things) → AreCounted counts things → LeavesAlike x.ancestors.now x.shapes.now things way before after
