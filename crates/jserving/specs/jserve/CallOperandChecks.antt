-- Whether the operands of a call serve.
use Rattle.std.specs.Prelude.{◌≡◌, ℕ, zero, suc, ◌+◌, Bool, true, false, List, map, Option, Some, None}
use Rattle.jvalues.specs.declared.jops.value.Value.{Value}
use Rattle.jvalues.specs.declared.jops.value.Value.TheVariants.{Ref}
use Rattle.jmemory.specs.declared.jheap.cell.Kind.{Kind}
use Rattle.jmemory.specs.jheap.Heaps.{kind_at}
use Rattle.jtypes.specs.declared.vtype.VType.TheVariants.{Object}
use Rattle.jresolution.specs.declared.jprogram.part.ClassRef.{ClassRef}
use Rattle.jresolution.specs.jprogram.ProgramClasses.{Program}
use Rattle.jresolution.specs.declared.juses.meaning.InvokeKind.{InvokeKind}
use Rattle.jresolution.specs.declared.juses.meaning.InvokeKind.TheVariants as how
use Rattle.jresolution.specs.declared.juses.types.TypeRef.{TypeRef}
use Rattle.jresolution.specs.juses.InstructionMeanings.{CallMeaning}
use Rattle.jresolution.specs.juses.InternedTypes.{class_named, named}
use Rattle.jsemantics.specs.jmachine.Store.{Store}
use Rattle.jsemantics.specs.jmachine.World.{fits, world}
use Rattle.jrows.specs.jcalls.MethodCalls.{call_taken}
use Rattle.jserving.specs.declared.jserve.values.Objects.{Objects}
use Rattle.jserving.specs.jserve.OperandChecks.{took_if}
use Rattle.jserving.specs.jserve.ValueTypes.{kind_type}

-- how many operands a call takes that has so many parameters
abbrev pub count_of : InvokeKind → ℕ → ℕ
count_of how.Static params = params
count_of by params = params + 1

-- A call names a class, and has these parameters, by number.
pub record IsCall (p : Program) (owner : ClassRef) (params : List TypeRef) (c : CallMeaning) : Type 0 where
  pub owned : c.owner ≡ class_named p owner
  pub taken : c.params ≡ map (named p) params

-- its operands serve, or they don't
abbrev pub CallServes : Program → Store ℕ → (this : ℕ) → InvokeKind → CallMeaning → (count : ℕ) → List (Value ℕ) → Bool → Type 0
CallServes p s this by c count operands serve = call_taken (world p) s ((world p).named this) by c operands ≡ took_if count operands serve

-- an `<init>` of a class may be called on an object of a kind
abbrev pub begins_as : Program → Objects → ClassRef → Option Kind → Bool
begins_as p x owner None = false
begins_as p x owner (Some kind) = fits (world p) (named p (kind_type x.shapes.now kind)) (Object (class_named p owner))

abbrev pub begins_in : Program → Objects → ClassRef → Value ℕ → Bool
begins_in p x owner (Ref zero) = true
begins_in p x owner (Ref (suc o)) = begins_as p x owner (kind_at x.heap.now (suc o))
begins_in p x owner v = false

abbrev pub begins_at : Program → Objects → ClassRef → Option (Value ℕ) → Bool
begins_at p x owner None = false
begins_at p x owner (Some v) = begins_in p x owner v
