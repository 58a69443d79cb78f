-- What AccessControlContexts keep, by number.
use Rattle.std.specs.Prelude.{◌≡◌, ◌<◌, ◌^◌, ◌++◌, ℕ, Bool, true, false, List, Option, Some, if◌then◌else◌}
use Rattle.jmemory.specs.declared.jheap.cell.Kind.{Kind}
use Rattle.jmemory.specs.declared.jheap.cell.Kind.TheVariants as kinds
use Rattle.jmemory.specs.jheap.Heaps as heaps
use Rattle.jmemory.specs.jheap.Heaps.{Heaped, cells_at, kind_at}
use Rattle.jlib.specs.declared.classes.LibClass.TheVariants as lib
use Rattle.jresolution.specs.declared.jprogram.part.ClassRef.{ClassRef}
use Rattle.jresolution.specs.declared.jprogram.part.ClassRef.TheVariants as refs
use Rattle.jresolution.specs.jprogram.ProgramClasses.{Program}
use Rattle.jruntime.specs.declared.jstate.shapes.Shapes.{Shapes}
use Rattle.jruntime.specs.jstate.ClassNumbers.{class_numbered}
use Rattle.jruntime.specs.jstate.HeapMeanings.{Things, first, objects_by, place_in}

-- with these kept
abbrev pub with_kept : List ℕ → Things → Things
with_kept kept things = record { permissions = things.permissions; kept = kept }

-- No object names what is kept behind these: more of it changes nothing of what the objects are.
abbrev pub AreKept : Program → Shapes → Things → List heaps.Object → Type 0
AreKept p shapes things objects = (more : List ℕ) → objects_by p shapes (with_kept (things.kept ++ more) things) objects
    ≡ objects_by p shapes things objects

-- Where these objects name nothing behind what is kept, those that were left of them don't either.
abbrev pub StayKept : List heaps.Object → List heaps.Object → Type 0
StayKept before after = (p : Program) (shapes : Shapes) (things : Things) → AreKept p shapes things before → AreKept p shapes things after

-- Where what keeps the same numbers made the same of these objects, it makes the same of those that were left of them, whatever permissions are kept.
abbrev pub StayHeld : List heaps.Object → List heaps.Object → Type 0
StayHeld before after = (p : Program) (shapes : Shapes) (things others : Things) → others.kept ≡ things.kept
    → objects_by p shapes others before ≡ objects_by p shapes things before → objects_by p shapes others after ≡ objects_by p shapes things after

-- The number stands at a place, from 1, among those that are kept now, and those that were kept stand where they stood.
abbrev pub IsKeptAt : ℕ → List ℕ → ℕ → List ℕ → Type 0
IsKeptAt number before place after = (place_in after place ≡ Some number) × (place < 2 ^ 32) × ((more : List ℕ) × (after ≡ before ++ more))

-- ---- what a context holds

abbrev pub is_context : ClassRef → Bool
is_context (refs.Lib lib.AccessControlContext) = true
is_context c = false

-- the place that an object of a class holds; 0 where it is no AccessControlContext
abbrev pub place_by : ClassRef → List ℕ → ℕ
place_by c cells = if is_context c then first cells else 0

abbrev pub place_of : Option Kind → List ℕ → ℕ
place_of (Some (kinds.Object n)) cells = place_by (class_numbered n) cells
place_of kind cells = 0

-- the place that the object of a number holds
abbrev pub place_held : Heaped → ℕ → ℕ
place_held h o = place_of (kind_at h o) (cells_at h o)
