-- What the objects of a heap are doesn't depend on permissions and on kept numbers that none of them names: two of what a machine keeps may make
-- the same of them.
use Rattle.std.specs.Prelude.{◌≡◌, ⊤, ℕ, Bool, true, false, List, [], ◌∷◌, ◌++◌, Option, Some}
use Rattle.jperm.specs.declared.permission.Permission as perms
use Rattle.jmemory.specs.declared.jheap.cell.Kind.{Kind}
use Rattle.jmemory.specs.declared.jheap.cell.Kind.TheVariants as kinds
use Rattle.jmemory.specs.jheap.Heaps as heaps
use Rattle.jmemory.specs.jheap.Heaps.{Heaped}
use Rattle.jlib.specs.declared.classes.LibClass.TheVariants as lib
use Rattle.jresolution.specs.declared.jprogram.member.Member.{Member}
use Rattle.jresolution.specs.declared.jprogram.part.ClassRef.{ClassRef}
use Rattle.jresolution.specs.declared.jprogram.part.ClassRef.TheVariants as refs
use Rattle.jresolution.specs.jprogram.ProgramClasses.{Program}
use Rattle.joutput.specs.declared.jtrace.event.Event.{Event}
use Rattle.jresolution.specs.juses.IndexedInstructions.{Instruction}
use Rattle.jsemantics.specs.jmachine.MachineStates.{FrameOf}
use Rattle.jsemantics.specs.jmachine.InstructionActions.{Doing, doing}
use Rattle.jsemantics.specs.jmachine.Security.{Rules}
use Rattle.jsemantics.specs.jmachine.InstructionSites.{Site}
use Rattle.jsemantics.specs.jmachine.Store.{Store}
use Rattle.jruntime.specs.declared.jstate.shapes.Shapes.{Shapes}
use Rattle.jruntime.specs.jstate.ClassNumbers.{class_numbered}
use Rattle.jruntime.specs.jstate.HeapMeanings.{Things, first, objects_by, store_by}
use Rattle.jrows.specs.declared.jacts.way.Way.{Way}
use Rattle.jrows.specs.declared.jacts.way.Way.TheVariants as ways
use Rattle.jrows.specs.jacts.RowOutcomes.{Comes, leaves}

-- Others make the same of these objects as these things.
abbrev pub AreAlike : Program → Shapes → (things others : Things) → List heaps.Object → Type 0
AreAlike p shapes things others objects = objects_by p shapes others objects ≡ objects_by p shapes things objects

-- What made the same of the objects that were as these things makes the same of those that are.
abbrev pub StayAlike : Program → Shapes → Things → (before after : List heaps.Object) → Type 0
StayAlike p shapes things before after = (others : Things) → AreAlike p shapes things others before → AreAlike p shapes things others after

-- So it is whatever the program, the shapes and what is kept are: the objects that are name nothing of it that those before didn't.
abbrev pub NamesNoMore : (before after : List heaps.Object) → Type 0
NamesNoMore before after = (p : Program) (shapes : Shapes) (things : Things) → StayAlike p shapes things before after

-- So it is behind a row, but where there is no step.
abbrev pub LeavesAlike : Program → Shapes → Things → Way → (before after : List heaps.Object) → Type 0
LeavesAlike p shapes things ways.Stuck before after = ⊤
LeavesAlike p shapes things way before after = StayAlike p shapes things before after

-- ---- objects that name something

-- an object of the class holds the number of a permission, or the place of a kept number
abbrev pub is_holder : ClassRef → Bool
is_holder (refs.Lib (lib.Permission c)) = true
is_holder (refs.Lib lib.AccessControlContext) = true
is_holder c = false

abbrev pub is_holder_kind : Kind → Bool
is_holder_kind (kinds.Object n) = is_holder (class_numbered n)
is_holder_kind kind = false

-- An object names none of them.
abbrev pub NamesNothing : heaps.Object → Type 0
NamesNothing x = is_holder_kind x.kind ≡ true → first x.cells ≡ 0

-- ---- laws

-- A row leaves one store, but where there is no step.
abbrev pub RowsLeaveOne : Type 0 → Type 0
RowsLeaveOne E = (f g : FrameOf ℕ E) (s t u : Store ℕ) (d : Option (Doing ℕ E)) (way : Way) (told : List Event) → (way ≡ ways.Stuck → ⊥)
    → Comes f s d (leaves way told g t) → Comes f s d (leaves way told g u) → u ≡ t

-- A row leaves objects alike that were, if it did what its instruction does at a site, whichever of those things are kept that make the same of
-- them.
abbrev pub RowsStayAlike : Type 0 → Type 0
RowsStayAlike E = (p : Program) (shapes : Shapes) (things : Things) (h k : Heaped) (f g : FrameOf ℕ E) (way : Way) (told : List Event)
    (before after : List (List ℕ × ℕ)) (i : Instruction) (at : Site) (own : Member → Bool)
    → ((others : Things) → AreAlike p shapes things others h.objects → (r : Rules ℕ E) (entries : List E) (inherited : Option ℕ)
    → let s = store_by p shapes others before h in
    Comes f s (doing r at own s entries inherited i f) (leaves way told g (store_by p shapes others after k)))
    → LeavesAlike p shapes things way h.objects k.objects

-- One more object that names nothing leaves them alike,
abbrev pub MoreStayAlike : Type 0
MoreStayAlike = (objects : List heaps.Object) (x : heaps.Object) → NamesNothing x → NamesNoMore objects (objects ++ x ∷ [])

-- and so does one that is made;
abbrev pub MadeStaysAlike : Type 0
MadeStaysAlike = (h : Heaped) (kind : Kind) (len : ℕ) → NamesNoMore h.objects (heaps.made h kind len).objects

-- a cell that is written does, in an object that holds none of those numbers.
abbrev pub WrittenStaysAlike : Type 0
WrittenStaysAlike = (h : Heaped) (o i n : ℕ) (x : heaps.Object) → heaps.object_at h o ≡ Some x → is_holder_kind x.kind ≡ false
    → NamesNoMore h.objects (heaps.with_cell h o i n).objects

-- ---- what lasts

-- Where more permissions behind these changed nothing of the objects, they change nothing, whatever else is kept.
abbrev pub PermissionsLast : Type 0
PermissionsLast = (p : Program) (shapes : Shapes) (permissions : List perms.Permission) (kept : List ℕ) (before after : List heaps.Object)
    → StayAlike p shapes (record { permissions = permissions; kept = kept }) before after
    → ((things : Things) (more : List perms.Permission) → things.permissions ≡ permissions
    → AreAlike p shapes things (record { permissions = permissions ++ more; kept = things.kept }) before)
    → (things : Things) (more : List perms.Permission) → things.permissions ≡ permissions
    → AreAlike p shapes things (record { permissions = permissions ++ more; kept = things.kept }) after

-- Where more numbers behind those that are kept changed nothing, they change nothing.
abbrev pub KeptLast : Type 0
KeptLast = (p : Program) (shapes : Shapes) (things : Things) (before after : List heaps.Object) → StayAlike p shapes things before after
    → ((more : List ℕ) → AreAlike p shapes things (record { permissions = things.permissions; kept = things.kept ++ more }) before)
    → (more : List ℕ) → AreAlike p shapes things (record { permissions = things.permissions; kept = things.kept ++ more }) after
