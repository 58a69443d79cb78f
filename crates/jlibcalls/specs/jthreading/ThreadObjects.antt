-- Which thread an object of the heap stands for.
use Rattle.std.specs.Prelude.{ℕ, Bool, true, false, List, Option, Some, None, if◌then◌else◌}
use Rattle.jmemory.specs.declared.jheap.cell.Kind.{Kind}
use Rattle.jmemory.specs.declared.jheap.cell.Kind.TheVariants as kinds
use Rattle.jmemory.specs.jheap.Heaps as heaps
use Rattle.jmemory.specs.jheap.Heaps.{Heaped}
use Rattle.jlib.specs.declared.classes.LibClass.TheVariants as lib
use Rattle.jvalues.specs.declared.jops.value.Value.{Value}
use Rattle.jvalues.specs.declared.jops.value.Value.TheVariants.{Ref}
use Rattle.jresolution.specs.declared.jprogram.part.ClassRef.{ClassRef}
use Rattle.jresolution.specs.declared.jprogram.part.ClassRef.TheVariants as refs
use Rattle.jruntime.specs.jstate.ClassNumbers.{class_numbered}
use Rattle.jruntime.specs.jstate.HeapMeanings.{first, number_in}

abbrev pub thread_by : ClassRef → List ℕ → Option ℕ
thread_by (refs.Lib lib.Thread) cells = number_in (first cells)
thread_by c cells = None

abbrev pub thread_of_kind : Kind → List ℕ → Option ℕ
thread_of_kind (kinds.Object n) cells = thread_by (class_numbered n) cells
thread_of_kind kind cells = None

abbrev pub thread_found : Option heaps.Object → Option ℕ
thread_found None = None
thread_found (Some x) = thread_of_kind x.kind x.cells

-- the number of the thread for which the object stands that a value names, if it does
abbrev pub thread_in : Heaped → Value ℕ → Option ℕ
thread_in h (Ref o) = thread_found (heaps.object_at h o)
thread_in h v = None

-- ---- objects of Thread

abbrev pub is_thread : ClassRef → Bool
is_thread (refs.Lib lib.Thread) = true
is_thread c = false

abbrev pub thread_kind : ℕ → Option Kind → Option ℕ
thread_kind o (Some (kinds.Object n)) = if is_thread (class_numbered n) then Some o else None
thread_kind o kind = None

-- the number of an object of Thread that a value names
abbrev pub thread_object : Heaped → Value ℕ → Option ℕ
thread_object h (Ref o) = thread_kind o (heaps.kind_at h o)
thread_object h v = None
