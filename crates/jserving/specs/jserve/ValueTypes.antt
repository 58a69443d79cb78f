-- The types of values by number.
use Rattle.std.specs.Prelude.{◌≡◌, ℕ, zero, suc, List, Option, Some, None, option_and_then, if◌then◌else◌}
use Rattle.jvalues.specs.declared.jops.value.Value.{Value}
use Rattle.jvalues.specs.declared.jops.value.Value.TheVariants.{Int, Long, Ref, Ctx}
use Rattle.jmemory.specs.declared.jheap.cell.Kind.{Kind}
use Rattle.jmemory.specs.declared.jheap.cell.Kind.TheVariants as kinds
use Rattle.jmemory.specs.jheap.Heaps as heaps
use Rattle.jlib.specs.declared.classes.LibClass.TheVariants as lib
use Rattle.jresolution.specs.declared.jprogram.part.ClassRef.TheVariants as refs
use Rattle.jresolution.specs.jprogram.ProgramClasses.{Program}
use Rattle.jresolution.specs.declared.juses.types.TypeRef.{TypeRef}
use Rattle.jresolution.specs.declared.juses.types.TypeRef.TheVariants as types
use Rattle.jsemantics.specs.jmachine.Store.{Store}
use Rattle.jruntime.specs.declared.jstate.shapes.Shapes.{Shapes}
use Rattle.jruntime.specs.jstate.ClassNumbers.{class_numbered}
use Rattle.jruntime.specs.jstate.HeapMeanings.{Things, array_at, store_by}
use Rattle.jrows.specs.declared.jcalls.ready.Counts.{Counts}
use Rattle.jrows.specs.jcalls.Readiness.{AreCounted, ready_counted}
use Rattle.jserving.specs.declared.jserve.values.Objects.{Objects}

-- ---- the store

-- A store is what these objects are.
pub record IsStore (p : Program) (x : Objects) (s : Store ℕ) : Type 0 where
  pub things : Things
  pub constants : List (List ℕ × ℕ)
  pub counted : AreCounted x.counts things
  pub seen : s ≡ store_by p x.shapes.now things constants x.heap.now

-- ---- types

-- the class of an object, or the type of an array
abbrev pub kind_type : Shapes → Kind → TypeRef
kind_type shapes (kinds.Object n) = types.Object (class_numbered n)
kind_type shapes (kinds.Array n) = types.Array (array_at shapes n)
kind_type shapes kinds.Text = types.Object (refs.Lib lib.String)
kind_type shapes kinds.Piece = types.Object (refs.Lib lib.StringBuilder)

abbrev pub object_type : Shapes → Counts → heaps.Object → Option TypeRef
object_type shapes counts x = if ready_counted counts x.kind x.cells then Some (kind_type shapes x.kind) else None

-- the type of a value, if it may be used
abbrev pub type_in : Objects → Value ℕ → Option TypeRef
type_in x (Int n) = Some types.Int
type_in x (Long n) = Some types.Long
type_in x (Ctx k) = Some types.Ctx
type_in x (Ref zero) = Some types.Null
type_in x (Ref (suc o)) = option_and_then (object_type x.shapes.now x.counts) (heaps.object_at x.heap.now (suc o))
