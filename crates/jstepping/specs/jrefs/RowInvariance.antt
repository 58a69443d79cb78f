-- What rows do whatever the machine keeps, where that makes the same of the objects as what it keeps.
use Rattle.std.specs.Prelude.{◌≡◌, ℕ, Bool, List, [], Some}
use Rattle.jparts.specs.declared.jcode.names.FieldOp.TheVariants as ops
use Rattle.jmemory.specs.jheap.Heaps as heaps
use Rattle.jmemory.specs.jheap.Heaps.{Heaped}
use Rattle.jvalues.specs.declared.jops.value.Value.{Value}
use Rattle.jresolution.specs.declared.jprogram.member.Member.{Member}
use Rattle.jresolution.specs.declared.jprogram.member.MethodId.{MethodId}
use Rattle.jresolution.specs.juses.IndexedInstructions.{Instruction}
use Rattle.jresolution.specs.juses.InstructionMeanings as meanings
use Rattle.jresolution.specs.juses.InstructionMeanings.{FieldMeaning, Meaning}
use Rattle.jsemantics.specs.jmachine.MachineStates.{FrameOf}
use Rattle.jsemantics.specs.jmachine.InstructionSites.{Site}
use Rattle.jsemantics.specs.jmachine.World.{world}
use Rattle.jready.specs.declared.instr.Instr.{Instr}
use Rattle.jready.specs.DecodedInstructions.{meant}
use Rattle.jruntime.specs.jstate.HeapMeanings.{Things, store_by}
use Rattle.jrows.specs.declared.jacts.way.Way.{Way}
use Rattle.jrows.specs.jacts.RowOutcomes.{ActsWhere, leaves}
use Rattle.jrows.specs.declared.jcalls.ready.Counts.{Counts}
use Rattle.jrows.specs.jcalls.Readiness.{AreCounted}
use Rattle.jrows.specs.jobjs.EntryOperands.{Serve}
use Rattle.jserving.specs.jcells.ObjectEquivalence.{AreAlike}
use Rattle.jstepping.specs.declared.jrefs.lasting.Lasting.{Lasting}
use Rattle.jstepping.specs.jrefs.ReferenceRows.{IsSite}

-- These make the same of the objects as so many permissions and contexts do.
pub record AreSeen (x : Lasting) (counts : Counts) (objects : List heaps.Object) (others : Things) : Type 0 where
  pub things : Things
  pub counted : AreCounted counts things
  pub alike : AreAlike x.ancestors.now x.shapes.now things others objects

-- The operands of an instruction of a method serve, or they don't.
abbrev pub ServesAs : Lasting → Counts → MethodId → Meaning → Heaped → List (Value ℕ) → Bool → Type 0
ServesAs x counts m meaning h operands serve =
    (others : Things) (constants : List (List ℕ × ℕ)) (at : Site) (own : Member → Bool) → AreSeen x counts h.objects others
    → IsSite x.ancestors.now m at own
    → Serve at own (store_by x.ancestors.now x.shapes.now others constants h) meaning operands serve

-- The same of a write of a field, where this says whether it is one of those that an `<init>` writes before another is called on `this`.
abbrev pub ServesOwn : Lasting → Counts → MethodId → Bool → FieldMeaning → Heaped → List (Value ℕ) → Bool → Type 0
ServesOwn x counts m own f h operands serve =
    (others : Things) (constants : List (List ℕ × ℕ)) (at : Site) (own_of : Member → Bool) → AreSeen x counts h.objects others
    → at.world ≡ world x.ancestors.now
    → at.class ≡ m.class → own_of f.member ≡ own
    → Serve at own_of (store_by x.ancestors.now x.shapes.now others constants h) (meanings.Field ops.PutField f) operands serve

-- An instruction was done at the newest frame, with the store that the heap stands for.
abbrev pub SeenActs : {E : Type 0} → Lasting → Counts → Instruction → FrameOf ℕ E → Heaped → Way → FrameOf ℕ E → Heaped → Type 0
SeenActs x counts i f h way g k =
    (others : Things) (constants : List (List ℕ × ℕ)) → AreSeen x counts h.objects others
    → ActsWhere (IsSite x.ancestors.now f.method) i f (store_by x.ancestors.now x.shapes.now others constants h)
    (leaves way [] g (store_by x.ancestors.now x.shapes.now others constants k))

-- So was what an instruction by number stands for.
abbrev pub SeenRuns : {E : Type 0} → Lasting → Counts → Instr → FrameOf ℕ E → Heaped → Way → FrameOf ℕ E → Heaped → Type 0
SeenRuns x counts one f h way g k =
    (i : Instruction) → meant x.ancestors.now x.ready.now.methods.tables f.method.class one ≡ Some i → SeenActs x counts i f h way g k
