-- A step of the running thread's frames, for its machine.
use Rattle.std.proofs.Common.{◌≡◌, ◌∙◌, Some, refl, sym, ap, subst}
use Rattle.std.specs.Prelude.{IfOk, Ok, OnOk, Err, Result}
use Rattle.jmemory.specs.jheap.Heaps.{Heaped}
use Rattle.jlib.specs.declared.side.Side.{Side}
use Rattle.jresolution.specs.jprogram.ProgramClasses.{Program}
use Rattle.jresolution.specs.juses.IndexedInstructions.{instruction_at}
use Rattle.jsemantics.specs.jmachine.AccessQueries.{asks}
use Rattle.jsemantics.specs.jmachine.MachineSteps.{step}
use Rattle.jruntime.specs.jstate.ObjectCells.{AreCelled}
use Rattle.jruntime.specs.jstate.FrameLists.{Framed}
use Rattle.jruntime.specs.jstate.HeapMeanings.{AreBuilt, Things}
use Rattle.jrows.specs.declared.jcalls.ready.Counts.{Counts}
use Rattle.jrows.specs.jcalls.Readiness.{AreCounted}
use Rattle.jlibcalls.specs.jconstants.StringConstants.{Made}
use Rattle.jruntime.specs.jguests.GuestThreads.{AreGuests, frames_of, with_frames}
use Rattle.jserving.specs.jcells.ObjectEquivalence.{KeptLast, PermissionsLast, StayAlike}
use Rattle.jstepping.specs.declared.jstep.outcomes.Stepped.{Stepped}
use Rattle.jstepping.specs.declared.jstep.outcomes.Stepped.TheVariants as steps
use Rattle.jstepping.specs.jstep.StepRelation.{CameTo, StepsAlike, StoodAs}
use Rattle.jstepping.specs.declared.jcore.machine.Machine.{Machine}
use Rattle.jstepping.specs.jcore.MachineInvariants.{IsMachine, IsReady, StaysFixed, classes_of, counts_of, state_of, store_of, things_of}
use Rattle.jcalling.specs.jexecute.FrameSteps.{Advances, IsAt}
use Rattle.jcalling.specs.jexecute.ThreadSteps.{Moves, StaysMachine, moved}

module _ {E : Type 0} (m : Machine E) (f g : Framed E) (k : Heaped) (made : Made) where
  abbrev left : Machine E
  left = moved m g k made

  there : IsMachine m → m.guests.running.frames ≡ Some f → IsAt m.calls m.fixed (counts_of m) m.constants.constants f m.heap m.plan.now (state_of m) (things_of m)
  there machine runs = record {
    depth = machine.depth;
    counted = record { permissions = refl; contexts = refl };
    frames = ap frames_of runs;
    store = refl;
  }

  guests_stay : AreGuests m.guests → AreGuests (with_frames (Some g) m.guests)
  guests_stay are = record { at = are.at; husk = are.husk; table = are.table; few = are.few }

  module _ (machine : IsMachine m) (program : made.program ≡ m.constants.program) (built : AreBuilt k.objects)
      (celled : AreCelled m.fixed.shapes.now k.objects) (permissions : PermissionsLast) (kept : KeptLast) where
    machine_lasts : StayAlike m.calls m.fixed.shapes.now (things_of m) m.heap.objects k.objects → IsMachine left
    machine_lasts stay = record {
      fixed = machine.fixed;
      files = machine.files;
      depth = machine.depth;
      tied = machine.tied;
      small = machine.small;
      constants = program ∙ machine.constants;
      guests = guests_stay machine.guests;
      others = machine.others;
      built = built;
      celled = celled;
      held = permissions m.calls m.fixed.shapes.now m.permissions m.kept m.heap.objects k.objects stay machine.held;
      kept = kept m.calls m.fixed.shapes.now (things_of m) m.heap.objects k.objects stay machine.kept;
    }

    machine_stays : (done : Stepped) → StepsAlike m.calls m.fixed.shapes.now (things_of m) done m.heap.objects k.objects → StaysMachine done left
    machine_stays steps.Went alike = machine_lasts alike
    machine_stays steps.Ended alike = machine_lasts alike
    machine_stays (steps.Handled class) alike = machine_lasts alike
    machine_stays (steps.Uncaught class) alike = machine_lasts alike
    machine_stays (steps.Asks call count) alike = machine_lasts alike
    machine_stays steps.Full alike = machine_lasts alike
    machine_stays steps.Stuck alike = tt

    module _ (runs : m.guests.running.frames ≡ Some f) (done : Stepped)
        (row : Advances m.calls m.fixed (counts_of m) m.constants.constants f m.heap done made.constants g k)
        (stand : StoodAs (classes_of m) done g)
        (alike : (things : Things) → AreCounted (counts_of m) things → StepsAlike m.calls m.fixed.shapes.now things done m.heap.objects k.objects) where
      pub one_moves : Moves m done left
      one_moves = record {
        before = f;
        runs = runs;
        after = g;
        heap = k;
        constants = made;
        is = refl;
        comes = λ r are.
            let A : Side → Type 0 = λ side. CameTo r m.calls m.plan.now (state_of m) f done g (store_of left)
            (step r m.calls m.plan.now (state_of m)) (asks side m.calls m.plan.now (state_of m)) (instruction_at m.calls f.newest.method f.newest.place) in
            subst A are.side (row r m.plan.now (state_of m) (things_of m) are.marks (there machine runs));
        stands = stand;
        machine = machine_stays done (alike (things_of m) (record { permissions = refl; contexts = refl }));
      }

-- ---- what was handed back

-- the machine, where its program is what was handed back
abbrev pub returned : {E : Type 0} → Machine E → Framed E → Heaped → Made → Program → Machine E
returned m g k made calls = record {
  fixed = m.fixed;
  plan = m.plan;
  side = m.side;
  guests = with_frames (Some g) m.guests;
  heap = k;
  constants = made;
  permissions = m.permissions;
  kept = m.kept;
  calls = calls;
}

module _ {E F : Type 0} (m : Machine E) (f g : Framed E) (k : Heaped) (made : Made) (calls : Program) (permissions : PermissionsLast) (kept : KeptLast)
    (ready : IsReady m) (runs : m.guests.running.frames ≡ Some f) (same : calls ≡ m.calls) (program : made.program ≡ m.constants.program) where
  moves_by : (r : Result Stepped F) → IfOk r (λ done. Advances m.calls m.fixed (counts_of m) m.constants.constants f m.heap done made.constants g k)
      → IfOk r (λ done. StoodAs (classes_of m) done g) → OnOk r (AreBuilt k.objects) → OnOk r (AreCelled m.fixed.shapes.now k.objects)
      → IfOk r (λ done. (things : Things) → AreCounted (counts_of m) things → StepsAlike m.calls m.fixed.shapes.now things done m.heap.objects k.objects)
      → IfOk r (λ done. Moves m done (returned m g k made calls))
  moves_by (Ok done) row stand built celled alike =
      let P : Program → Type 0 = λ q. Moves m done (returned m g k made q) in
      subst P (sym same) (one_moves m f g k made ready.machine program built celled permissions kept runs done row stand alike)
  moves_by (Err e) row stand built celled alike = tt

  pub moves : (counts : Counts) → counts ≡ counts_of m → (r : Result Stepped F)
      → IfOk r (λ done. Advances m.calls m.fixed counts m.constants.constants f m.heap done made.constants g k)
      → IfOk r (λ done. StoodAs (classes_of m) done g) → OnOk r (AreBuilt k.objects) → OnOk r (AreCelled m.fixed.shapes.now k.objects)
      → IfOk r (λ done. (things : Things) → AreCounted counts things → StepsAlike m.calls m.fixed.shapes.now things done m.heap.objects k.objects)
      → IfOk r (λ done. Moves m done (returned m g k made calls))
  moves counts is r row stand built celled alike =
      let P : Counts → Type 0 = λ n. IfOk r (λ done. Advances m.calls m.fixed n m.constants.constants f m.heap done made.constants g k) in
      let Q : Counts → Type 0 = λ n. IfOk r (λ done. (things : Things) → AreCounted n things → StepsAlike m.calls m.fixed.shapes.now things done m.heap.objects k.objects) in
      moves_by r (subst P is row) stand built celled (subst Q is alike)

pub stays_fixed : {E : Type 0} (m : Machine E) (g : Framed E) (k : Heaped) (made : Made) (calls : Program) → calls ≡ m.calls
    → StaysFixed m (returned m g k made calls)
stays_fixed m g k made calls same = record { fixed = refl; plan = refl; side = refl; calls = same }
