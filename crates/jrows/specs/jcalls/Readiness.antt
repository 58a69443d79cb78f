-- When an object of the heap may be used: some hold nothing yet, as the machine's definition has it, and are of no type.
use Rattle.std.specs.Prelude.{◌≡◌, ℕ, zero, suc, Bool, true, false, List, length, nat_lt, Option, Some, None, is_some}
use Rattle.jvalues.specs.declared.jops.value.Value.{Value}
use Rattle.jvalues.specs.declared.jops.value.Value.TheVariants.{Ref}
use Rattle.jmemory.specs.declared.jheap.cell.Kind.{Kind}
use Rattle.jmemory.specs.declared.jheap.cell.Kind.TheVariants as kinds
use Rattle.jmemory.specs.jheap.Heaps as heaps
use Rattle.jmemory.specs.jheap.Heaps.{Heaped}
use Rattle.jlib.specs.declared.classes.LibClass.TheVariants as lib
use Rattle.jresolution.specs.declared.jprogram.part.ClassRef.{ClassRef}
use Rattle.jresolution.specs.declared.jprogram.part.ClassRef.TheVariants as refs
use Rattle.jruntime.specs.jstate.ClassNumbers.{class_numbered}
use Rattle.jruntime.specs.jstate.HeapMeanings.{Things, first, number_in, place_in}
use Rattle.jrows.specs.declared.jcalls.ready.Needs.{Needs}
use Rattle.jrows.specs.declared.jcalls.ready.Needs.TheVariants as needs
use Rattle.jrows.specs.declared.jcalls.ready.Counts.{Counts}

-- what an object of a class has to hold
abbrev pub needed : ClassRef → Needs
needed (refs.Lib lib.String) = needs.Units
needed (refs.Lib (lib.Permission c)) = needs.Permission
needed (refs.Lib lib.AccessControlContext) = needs.Context
needed (refs.Lib lib.Thread) = needs.Thread
needed c = needs.Nothing

-- what `new` makes of a string never gets units
abbrev pub holds : Things → List ℕ → Needs → Bool
holds things cells needs.Nothing = true
holds things cells needs.Units = false
holds things cells needs.Permission = is_some (place_in things.permissions (first cells))
holds things cells needs.Context = is_some (place_in things.kept (first cells))
holds things cells needs.Thread = is_some (number_in (first cells))

abbrev pub ready_by : Things → Kind → List ℕ → Bool
ready_by things (kinds.Object n) cells = holds things cells (needed (class_numbered n))
ready_by things kind cells = true

abbrev pub is_ready_in : Things → Option heaps.Object → Bool
is_ready_in things None = false
is_ready_in things (Some x) = ready_by things x.kind x.cells

-- a value is null, or names an object that may be used
abbrev pub is_reference : Things → Heaped → Value ℕ → Bool
is_reference things h (Ref zero) = true
is_reference things h (Ref (suc o)) = is_ready_in things (heaps.object_at h (suc o))
is_reference things h v = false

-- a cell's number is that of one of so many things, which count from 1
abbrev pub is_within : ℕ → ℕ → Bool
is_within count zero = false
is_within count (suc n) = nat_lt n count

-- there are so many permissions and contexts
pub record AreCounted (counts : Counts) (things : Things) : Type 0 where
  pub permissions : length things.permissions ≡ counts.permissions
  pub contexts : length things.kept ≡ counts.contexts

-- ---- by how many there are

abbrev pub holds_counted : Counts → List ℕ → Needs → Bool
holds_counted counts cells needs.Nothing = true
holds_counted counts cells needs.Units = false
holds_counted counts cells needs.Permission = is_within counts.permissions (first cells)
holds_counted counts cells needs.Context = is_within counts.contexts (first cells)
holds_counted counts cells needs.Thread = is_some (number_in (first cells))

-- whether an object of a kind may be used
abbrev pub ready_counted : Counts → Kind → List ℕ → Bool
ready_counted counts (kinds.Object n) cells = holds_counted counts cells (needed (class_numbered n))
ready_counted counts kind cells = true
