-- Which permissions objects hold, by number.
use Rattle.std.specs.Prelude.{◌≡◌, ◌≤◌, ◌++◌, ℕ, Bool, true, false, List, Option, Some, if◌then◌else◌}
use Rattle.std.specs.List.{AllByRecursion}
use Rattle.jperm.specs.declared.permission.Permission as perms
use Rattle.jmemory.specs.declared.jheap.cell.Kind.{Kind}
use Rattle.jmemory.specs.declared.jheap.cell.Kind.TheVariants as kinds
use Rattle.jmemory.specs.jheap.Heaps as heaps
use Rattle.jmemory.specs.jheap.Heaps.{Heaped, HasCell, kind_at}
use Rattle.jlib.specs.declared.classes.LibClass.TheVariants as lib
use Rattle.jresolution.specs.declared.jprogram.part.ClassRef.{ClassRef}
use Rattle.jresolution.specs.declared.jprogram.part.ClassRef.TheVariants as refs
use Rattle.jresolution.specs.jprogram.ProgramClasses.{Program}
use Rattle.jruntime.specs.declared.jstate.shapes.Shapes.{Shapes}
use Rattle.jruntime.specs.jstate.ClassNumbers.{class_numbered}
use Rattle.jruntime.specs.jstate.HeapMeanings.{Things, first, objects_by}

-- with these permissions
abbrev pub with_permissions : List perms.Permission → Things → Things
with_permissions permissions things = record { permissions = permissions; kept = things.kept }

-- No object names a permission behind these: more of them change nothing of what the objects are.
abbrev pub AreHeld : Program → Shapes → List perms.Permission → List heaps.Object → Type 0
AreHeld p shapes permissions objects = (things : Things) (more : List perms.Permission) → things.permissions ≡ permissions
    → objects_by p shapes (with_permissions (permissions ++ more) things) objects ≡ objects_by p shapes things objects

-- ---- objects that hold one

abbrev pub is_permission_class : ClassRef → Bool
is_permission_class (refs.Lib (lib.Permission c)) = true
is_permission_class c = false

abbrev pub is_permission_kind : Option Kind → Bool
is_permission_kind (Some (kinds.Object n)) = is_permission_class (class_numbered n)
is_permission_kind kind = false

-- the object of a number is of a class of permissions
abbrev pub is_permission : Heaped → ℕ → Bool
is_permission h o = is_permission_kind (kind_at h o)

-- Then it has the cell for it.
abbrev pub HasHolder : Heaped → ℕ → Type 0
HasHolder h o = is_permission h o ≡ true → HasCell h o 0

-- the number of the permission that an object of a kind holds, 0 where it holds none
abbrev pub held_of : Kind → List ℕ → ℕ
held_of (kinds.Object n) cells = if is_permission_class (class_numbered n) then first cells else 0
held_of kind cells = 0

-- The numbers that objects hold are among so many.
abbrev pub AreWithin : ℕ → List heaps.Object → Type 0
AreWithin most objects = AllByRecursion (λ x. held_of x.kind x.cells ≤ most) objects
