-- Whether the operands of a throw or of a call serve, where these are the objects of a heap.
use Rattle.std.specs.Prelude.{◌≡◌, ℕ, Bool, List, [], ◌∷◌, Option, is_some, length, option_map}
use Rattle.jmemory.specs.jheap.Heaps.{Heaped}
use Rattle.jvalues.specs.declared.jops.value.Value.{Value}
use Rattle.jresolution.specs.declared.jprogram.part.ClassRef.{ClassRef}
use Rattle.jresolution.specs.jprogram.ProgramClasses.{Program}
use Rattle.jtyping.specs.jrule.StackEffects.{Fits}
use Rattle.jtyping.specs.jrule.PoolEffects.{throwable}
use Rattle.jresolution.specs.declared.juses.meaning.InvokeKind.{InvokeKind}
use Rattle.jresolution.specs.declared.juses.meaning.Span.{Span}
use Rattle.jresolution.specs.declared.juses.types.TypeRef.{TypeRef}
use Rattle.jresolution.specs.juses.InstructionMeanings.{CallMeaning, spanned}
use Rattle.jsemantics.specs.jmachine.TakenOperands.{taken}
use Rattle.jsemantics.specs.jmachine.World.{world}
use Rattle.jruntime.specs.declared.jstate.shapes.Shapes.{Shapes}
use Rattle.jruntime.specs.jstate.FrameLists.{Framed}
use Rattle.jruntime.specs.jstate.HeapMeanings.{Things, store_by}
use Rattle.jrows.specs.declared.jcalls.ready.Counts.{Counts}
use Rattle.jrows.specs.jcalls.MethodCalls.{call_taken, took}
use Rattle.jrows.specs.jcalls.Readiness.{AreCounted}
use Rattle.jserving.specs.jserve.CallOperandChecks.{CallServes, IsCall, count_of}
use Rattle.jstepping.specs.declared.jstep.run_tables.RunTables.{RunTables}

-- what is thrown serves, or it doesn't
abbrev pub ServesThrown : Program → Shapes → Counts → Heaped → List (Value ℕ) → Bool → Type 0
ServesThrown p shapes counts h operands serve =
    (things : Things) (constants : List (List ℕ × ℕ)) → AreCounted counts things
    → is_some (taken (world p) (store_by p shapes things constants h) (Fits throwable ∷ []) operands) ≡ serve

-- the operands of a call serve, or they don't
abbrev pub ServesCall : {E : Type 0} → Program → Shapes → Counts → Heaped → Framed E → InvokeKind → ClassRef → List TypeRef → Bool → Type 0
ServesCall p shapes counts h f by owner params serve =
    (things : Things) (constants : List (List ℕ × ℕ)) (c : CallMeaning) → AreCounted counts things → IsCall p owner params c
    → CallServes p (store_by p shapes things constants h) f.newest.method.class by c (count_of by (length params)) f.newest.operands serve

-- so many operands of a call are taken, if they serve
abbrev pub TakesCall : {E : Type 0} → RunTables E → Counts → Heaped → Framed E → InvokeKind → ClassRef → Span → Option ℕ → Type 0
TakesCall x counts h f by owner params count =
    (things : Things) (constants : List (List ℕ × ℕ)) (c : CallMeaning)
    → AreCounted counts things → IsCall x.ancestors.now owner (spanned x.ready.now.uses.types params) c
    → call_taken (world x.ancestors.now) (store_by x.ancestors.now x.shapes.now things constants h)
    ((world x.ancestors.now).named f.newest.method.class) by c
    f.newest.operands ≡ option_map (λ n. took n f.newest.operands) count
