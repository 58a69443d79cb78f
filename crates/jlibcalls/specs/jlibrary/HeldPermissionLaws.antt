-- Laws of which permissions objects hold.
use Rattle.std.specs.Prelude.{◌≡◌, ℕ, List, length, Option}
use Rattle.jperm.specs.declared.permission.Permission as perms
use Rattle.jmemory.specs.declared.jheap.cell.Kind.{Kind}
use Rattle.jmemory.specs.jheap.Heaps as heaps
use Rattle.jmemory.specs.jheap.Heaps.{Heaped}
use Rattle.joutput.specs.declared.jtrace.event.Event.{Event}
use Rattle.jresolution.specs.jprogram.ProgramClasses.{Program}
use Rattle.jsemantics.specs.jmachine.MachineStates.{FrameOf}
use Rattle.jsemantics.specs.jmachine.InstructionActions.{Doing}
use Rattle.jsemantics.specs.jmachine.Store.{Store}
use Rattle.jruntime.specs.declared.jstate.shapes.Shapes.{Shapes}
use Rattle.jruntime.specs.jstate.HeapMeanings.{AreBuilt, Things, store_by}
use Rattle.jrows.specs.declared.jacts.way.Way.{Way}
use Rattle.jrows.specs.declared.jacts.way.Way.TheVariants as ways
use Rattle.jrows.specs.jacts.RowOutcomes.{Comes, leaves}
use Rattle.jlibcalls.specs.jlibrary.HeldPermissions.{AreHeld, AreWithin}

-- A row that isn't stuck leaves those held that were, if it did what the definition says for all that is kept by which the heap stands for the
-- same store.
abbrev pub RowsStayHeld : Type 0 → Type 0
RowsStayHeld E = (p : Program) (shapes : Shapes) (permissions : List perms.Permission) (h k : Heaped) (f g : FrameOf ℕ E) (way : Way)
    (told : List Event)
    (before after : List (List ℕ × ℕ)) (doing : Store ℕ → Option (Doing ℕ E)) → (way ≡ ways.Stuck → ⊥) → AreHeld p shapes permissions h.objects
    → ((things others : Things) → things.permissions ≡ permissions → store_by p shapes others before h ≡ store_by p shapes things before h
    → let s = store_by p shapes others before h in Comes f s (doing s) (leaves way told g (store_by p shapes others after k)))
    → AreHeld p shapes permissions k.objects

-- What is made holds none.
abbrev pub MadeStaysHeld : Type 0
MadeStaysHeld = (p : Program) (shapes : Shapes) (permissions : List perms.Permission) (h : Heaped) (kind : Kind) (len : ℕ) → AreBuilt h.objects
    → AreHeld p shapes permissions h.objects → AreHeld p shapes permissions (heaps.made h kind len).objects

-- By their numbers: those that objects hold are there.
abbrev pub HeldByNumber : Type 0
HeldByNumber = (p : Program) (shapes : Shapes) (permissions : List perms.Permission) (objects : List heaps.Object)
    → AreWithin (length permissions) objects
    → AreHeld p shapes permissions objects

-- And so it is, where they are held.
abbrev pub HeldWithin : Type 0
HeldWithin = (p : Program) (shapes : Shapes) (permissions : List perms.Permission) (objects : List heaps.Object)
    → AreHeld p shapes permissions objects
    → AreWithin (length permissions) objects
