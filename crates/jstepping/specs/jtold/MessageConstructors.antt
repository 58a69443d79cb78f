-- Objects to which a constructor of the library's gives a message.
use Rattle.std.specs.Prelude.{◌≡◌, ◌<◌, ⊤, ℕ, List, Some, length}
use Rattle.jmemory.specs.jheap.Heaps.{Heaped}
use Rattle.jlib.specs.declared.calls.LibCall.{LibCall}
use Rattle.jlib.specs.declared.calls.LibCall.TheVariants as calls
use Rattle.jvalues.specs.declared.jops.value.Value.{Value}
use Rattle.jresolution.specs.declared.jprogram.member.MethodId.{MethodId}
use Rattle.jresolution.specs.jprogram.ProgramClasses.{Program}
use Rattle.jtypes.specs.declared.vtype.Name.{Name}
use Rattle.jresolution.specs.declared.juses.meaning.InvokeKind.{InvokeKind}
use Rattle.jresolution.specs.juses.IndexedInstructions.{Used, instruction_at}
use Rattle.jresolution.specs.juses.InstructionMeanings as meanings
use Rattle.jresolution.specs.juses.InstructionMeanings.{CallMeaning}
use Rattle.jlinking.specs.jlink.ProgramFiles.{AreFiles}
use Rattle.jlinking.specs.jlink.LinkedPrograms.{Links}
use Rattle.jsemantics.specs.jmachine.CallTargets.{Runs, receiver, target}
use Rattle.jsemantics.specs.jmachine.TakenOperands.{Taken}
use Rattle.jsemantics.specs.jmachine.InstructionSites.{Site}
use Rattle.jsemantics.specs.jmachine.World.{world}
use Rattle.jruntime.specs.declared.jstate.shapes.Shapes.{Shapes}
use Rattle.jruntime.specs.jstate.HeapMeanings.{Things, store_by}
use Rattle.jrows.specs.jcalls.MethodCalls.{call_taken}
use Rattle.jrows.specs.jobjs.NewObjects.{HasShape}
use Rattle.jrows.specs.jtexts.Messages.{MayBeTold}

-- The call gives an object a message, or none: it is a constructor of what can be thrown.
abbrev pub IsTelling : LibCall → Type 0
IsTelling (calls.ThrownInit class how) = ⊤
IsTelling calls.AccessControlInit = ⊤
IsTelling call = ⊥

-- Each user's class has a shape.
abbrev pub AreShaped : Program → Shapes → Type 0
AreShaped p shapes = (i : ℕ) → i < length p.parts → HasShape (world p) shapes i

-- Where the operands of a call serve that comes to such a constructor, its object may be told a message.
abbrev pub TellsWhatMay : Type 0
TellsWhatMay = (p : Program) (shapes : Shapes) (things : Things) (constants : List (List ℕ × ℕ)) (h : Heaped)
    (m : MethodId) (i : ℕ) (by : InvokeKind) (c : CallMeaning) (at : Site) (this : Name) (operands : List (Value ℕ)) (t : Taken ℕ) (call : LibCall)
    (v : Value ℕ)
    → Links p → AreFiles p → AreShaped p shapes → instruction_at p m i ≡ Some (Used (meanings.Call by c)) → at.world ≡ world p
    → call_taken at.world (store_by p shapes things constants h) this by c operands ≡ Some t
    → target at (store_by p shapes things constants h) by c t.values ≡ Some (Runs call) → IsTelling call → receiver t.values ≡ Some v
    → MayBeTold shapes h v
