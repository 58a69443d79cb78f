-- What holds of a machine whose running thread has other frames, and whose heap has more objects.
use Rattle.std.proofs.Common.{◌≡◌, ◌∙◌, inl, inr, ℕ, ◌≤◌, List, [], ◌∷◌, ◌++◌, length, Option, Some, sym, ap, subst}
use Rattle.jlib.specs.declared.classes.LibClass.{LibClass}
use Rattle.jlib.specs.declared.classes.LibClass.TheVariants as lib
use Rattle.jlib.specs.declared.classes.Thrown.TheVariants as thrown
use Rattle.jmemory.specs.declared.jheap.cell.Kind.TheVariants as kinds
use Rattle.jmemory.specs.jheap.Heaps as heaps
use Rattle.jmemory.specs.jheap.Heaps.{Heaped}
use Rattle.jresolution.specs.jprogram.ProgramClasses.{Program}
use Rattle.jsemantics.specs.jmachine.HeapObjects.{Object, Thrown}
use Rattle.jsemantics.specs.jmachine.Store.{Store, paid}
use Rattle.jsemantics.specs.jmachine.Unwinding.{with_raised}
use Rattle.jruntime.specs.declared.jstate.shapes.Shapes.{Shapes}
use Rattle.jruntime.specs.jstate.ObjectCells.{StayCelled}
use Rattle.jruntime.specs.jstate.FrameLists.{Framed, all}
use Rattle.jruntime.specs.jstate.HeapMeanings.{AreBuilt, Things, objects_by, values_of}
use Rattle.jruntime.specs.jstate.HeapMeaningLaws.{Makes}
use Rattle.jrows.specs.jcalls.FrameMarks.{Stand}
use Rattle.jrows.specs.jcalls.MessageThrows.{TellsHeap, told_cells}
use Rattle.jrows.specs.jcalls.Throws.{RaisedHeap}
use Rattle.jruntime.specs.jguests.GuestThreads.{RunsAs, framed_as}
use Rattle.jlibcalls.specs.jlibrary.HeldPermissions.{with_permissions}
use Rattle.jlibcalls.specs.jcontexts.KeptContexts.{with_kept}
use Rattle.jstepping.specs.declared.jcore.machine.Machine.{Machine}
use Rattle.jstepping.specs.jcore.AnsweredCalls.{Calling}
use Rattle.jstepping.specs.jcore.MachineOutcomes.{IsBehind}
use Rattle.jstepping.specs.jcore.MachineInvariants.{IsMachine, classes_of, state_of, store_of, things_of}
use Rattle.jcalling.specs.jcallcheck.CheckOutcomes.{with_run}

-- ---- objects that name nothing of what is kept

-- what made the same of the objects as these things makes the same of them
abbrev pub StaySame : Program → Shapes → (before after : List heaps.Object) → Type 0
StaySame p shapes before after = (things others : Things) → objects_by p shapes others before ≡ objects_by p shapes things before
    → objects_by p shapes others after ≡ objects_by p shapes things after

module _ (p : Program) (shapes : Shapes) (h k : Heaped) where
  same_stays : k ≡ h → StaySame p shapes h.objects k.objects
  same_stays is = subst (λ (x : Heaped). StaySame p shapes h.objects x.objects) (sym is) (λ things others alike. alike)

  -- the objects behind it are made of those before, whatever is kept
  made_of : (make : List (Object ℕ) → List (Object ℕ)) → ((things : Things) → objects_by p shapes things k.objects ≡ make (objects_by p shapes things h.objects))
      → StaySame p shapes h.objects k.objects
  made_of make each things others alike = each others ∙ ap make alike ∙ sym (each things)

  -- a store of these objects
  abbrev store_with : List (Object ℕ) → Store ℕ
  store_with objects = record { objects = objects; statics = values_of shapes.statics h.statics; constants = []; left = h.left }

  pub told_stays : (class : LibClass) (units : List ℕ) → TellsHeap class units h k → StaySame p shapes h.objects k.objects
  told_stays class units (inl is) = same_stays is
  told_stays class units (inr tells) =
      made_of (λ objects. (with_raised (paid (told_cells units) (store_with objects)) class (Some units)).objects)
      (λ things. ap (λ (s : Store ℕ). s.objects) (tells p shapes things []))

  -- a NullPointerException
  pub null_stays : Makes → AreBuilt h.objects → RaisedHeap thrown.NullPointerException h k → StaySame p shapes h.objects k.objects
  null_stays makes built (inl is) = same_stays is
  null_stays makes built (inr is) =
      made_of (λ objects. objects ++ Thrown (lib.Thrown thrown.NullPointerException) 0 ∷ [])
      (λ things. ap (λ (x : Heaped). objects_by p shapes things x.objects) is
      ∙ ap (λ (s : Store ℕ). s.objects) (makes p shapes things [] h (kinds.Object 6) 1 built))

-- ---- the machine

same_frames : {A : Type 0} (o : Option A) (x y : A) → o ≡ Some x → o ≡ Some y → x ≡ y
same_frames o x y a b = let e : Some x ≡ Some y = sym a ∙ b in cc

-- the frames of a call stand
pub stand_of : {E : Type 0} (m : Machine E) (count : ℕ) (f : Framed E) → Calling m count → m.guests.running.frames ≡ Some f → Stand (classes_of m) (all f)
stand_of {E} m count f calling runs =
    subst (λ (x : Framed E). Stand (classes_of m) (all x)) (same_frames m.guests.running.frames calling.frames f calling.runs runs) calling.stand

pub few_of : {E : Type 0} (m : Machine E) (count : ℕ) (f : Framed E) → Calling m count → m.guests.running.frames ≡ Some f → count ≤ length f.newest.operands
few_of {E} m count f calling runs =
    subst (λ (x : Framed E). count ≤ length x.newest.operands) (same_frames m.guests.running.frames calling.frames f calling.runs runs) calling.few

module _ {E : Type 0} (m : Machine E) (g : Framed E) (k : Heaped) where
  pub machine_with : IsMachine m → AreBuilt k.objects → StayCelled m.heap.objects k.objects → StaySame m.calls m.fixed.shapes.now m.heap.objects k.objects
      → IsMachine (with_run g k m)
  machine_with is built celled same = record {
    fixed = is.fixed;
    files = is.files;
    depth = is.depth;
    tied = is.tied;
    small = is.small;
    constants = is.constants;
    guests = record { at = is.guests.at; husk = is.guests.husk; table = is.guests.table; few = is.guests.few };
    others = is.others;
    built = built;
    celled = celled m.fixed.shapes.now is.celled;
    held = λ things more kept. same things (with_permissions (m.permissions ++ more) things) (is.held things more kept);
    kept = λ more. same (things_of m) (with_kept (m.kept ++ more) (things_of m)) (is.kept more);
  }

  -- it stands for the state with these frames and its store
  pub behind : RunsAs E → IsBehind (with_run g k m) (state_of m)
  behind runs = runs m.guests (framed_as (Some g) m.guests.running) (store_of (with_run g k m))
