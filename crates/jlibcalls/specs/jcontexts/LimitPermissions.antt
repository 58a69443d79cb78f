-- Permissions that limit a privilege, by number (class documentation of AccessController).
use Rattle.std.specs.Prelude.{◌≡◌, ◌++◌, ℕ, Bool, true, false, List, drop, map, Option, Some, None, if◌then◌else◌}
use Rattle.std.specs.Option.{option_map}
use Rattle.jperm.specs.declared.permission.Permission as perms
use Rattle.jvalues.specs.declared.jops.value.Value.{Value}
use Rattle.jmemory.specs.declared.jheap.cell.CellType.{CellType}
use Rattle.jmemory.specs.declared.jheap.cell.Kind.{Kind}
use Rattle.jmemory.specs.declared.jheap.cell.Kind.TheVariants as kinds
use Rattle.jmemory.specs.jheap.Heaps.{Heaped, cells_at, kind_at}
use Rattle.jmemory.specs.jheap.RawValues.{of_raw}
use Rattle.jlib.specs.declared.classes.LibClass.TheVariants as lib
use Rattle.jresolution.specs.declared.jprogram.part.ClassRef.{ClassRef}
use Rattle.jresolution.specs.declared.jprogram.part.ClassRef.TheVariants as refs
use Rattle.jresolution.specs.jprogram.ProgramClasses.{Program}
use Rattle.jsemantics.specs.jmachine.PrivilegeActions.{all_limits, limit, limits}
use Rattle.jsemantics.specs.jmachine.Store.{Store}
use Rattle.jruntime.specs.declared.jstate.shapes.Shapes.{Shapes}
use Rattle.jruntime.specs.jstate.ClassNumbers.{class_numbered}
use Rattle.jruntime.specs.jstate.HeapMeanings.{Things, first, store_by}
use Rattle.jlibcalls.specs.declared.jcontexts.arrays.Item.{Item}
use Rattle.jlibcalls.specs.declared.jcontexts.arrays.Item.TheVariants as found

-- ---- what a permission's object holds

abbrev pub is_permission : ClassRef → Bool
is_permission (refs.Lib (lib.Permission c)) = true
is_permission c = false

-- the place that an object of a class holds; 0 where it is of no class of permissions
abbrev pub place_by : ClassRef → List ℕ → ℕ
place_by c cells = if is_permission c then first cells else 0

abbrev pub place_of : Option Kind → List ℕ → ℕ
place_of (Some (kinds.Object n)) cells = place_by (class_numbered n) cells
place_of kind cells = 0

-- the place that the object of a number holds
abbrev pub permission_place : Heaped → ℕ → ℕ
permission_place h o = place_of (kind_at h o) (cells_at h o)

-- ---- limits

abbrev pub limit_as : Item → Option (Option perms.Permission)
limit_as found.Null = Some None
limit_as (found.One one) = Some (Some one.now)
limit_as found.Stuck = None

-- A store is that of a heap, where these permissions are held.
abbrev pub IsSeen : List perms.Permission → Heaped → Store ℕ → Type 0
IsSeen permissions h s = (p : Program) × (shapes : Shapes) × (things : Things) × (constants : List (List ℕ × ℕ)) × (things.permissions ≡ permissions)
    × (s ≡ store_by p shapes things constants h)

-- A value is this as a limit, whatever else the store has.
abbrev pub LimitIs : List perms.Permission → Heaped → Value ℕ → Option (Option perms.Permission) → Type 0
LimitIs permissions h v l = (s : Store ℕ) → IsSeen permissions h s → limit s v ≡ l

-- So are all values of cells of a type.
abbrev pub LimitsAre : List perms.Permission → Heaped → CellType → List ℕ → Option (Option (List perms.Permission)) → Type 0
LimitsAre permissions h of cells l = (s : Store ℕ) → IsSeen permissions h s → all_limits s (map (of_raw of) cells) ≡ l

-- these stand in front of the others
abbrev pub in_front : List perms.Permission → Option (Option (List perms.Permission)) → Option (Option (List perms.Permission))
in_front before rest = option_map (option_map (λ ps. before ++ ps)) rest

-- What the first of the cells are was found, and what the others are is left.
abbrev pub AreLeft : List perms.Permission → Heaped → CellType → List ℕ → List perms.Permission → ℕ → Type 0
AreLeft permissions h of cells before i = (s : Store ℕ) → IsSeen permissions h s
    → in_front before (all_limits s (map (of_raw of) (drop i cells))) ≡ all_limits s (map (of_raw of) cells)

-- An array that an operand names limits a privilege so, where the arrays of the heap are of these types.
abbrev pub Limits : List perms.Permission → Shapes → Heaped → Value ℕ → Option (Option (List perms.Permission)) → Type 0
Limits permissions shapes h v l = (p : Program) (things : Things) (constants : List (List ℕ × ℕ)) → things.permissions ≡ permissions
    → limits (store_by p shapes things constants h) v ≡ l
