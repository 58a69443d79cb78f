-- Rows that were done for all that makes the same of the objects were done for what the machine keeps, and leave them alike.
use Rattle.std.proofs.Common.{◌≡◌, ℕ, [], Option, Some, None, refl, sym, subst}
use Rattle.std.specs.Prelude.{Result, Ok, Err, IfOk, false}
use Rattle.jmemory.specs.jheap.Heaps.{Heaped}
use Rattle.jsemantics.specs.jmachine.MachineStates.{FrameOf}
use Rattle.jsemantics.specs.jmachine.InstructionSites.{Site}
use Rattle.jsemantics.specs.jmachine.MachineSteps.{own_fields}
use Rattle.jsemantics.specs.jmachine.World.{world}
use Rattle.jresolution.specs.juses.IndexedInstructions.{Instruction}
use Rattle.jready.specs.declared.instr.Instr.{Instr}
use Rattle.jready.specs.DecodedInstructions.{meant}
use Rattle.jrows.specs.declared.jacts.way.Way.{Way}
use Rattle.jrows.specs.declared.jcalls.ready.Counts.{Counts}
use Rattle.jserving.specs.jcells.ObjectEquivalence.{LeavesAlike, RowsStayAlike}
use Rattle.jstepping.specs.declared.jrefs.lasting.Lasting.{Lasting}
use Rattle.jstepping.specs.jrefs.ReferenceRows.{Runs, RunsAlike, StaysStuck}
use Rattle.jstepping.specs.jrefs.RowInvariance.{SeenRuns}

module _ (x : Lasting) (counts : Counts) (one : Instr) {E : Type 0} (f g : FrameOf ℕ E) (h k : Heaped) where
  pub runs : {F : Type 0} (r : Result Way F) → IfOk r (λ way. SeenRuns x counts one f h way g k) → IfOk r (λ way. Runs x counts one f h way g k)
  runs (Ok way) did = λ i is things constants counted. did i is things constants (record { things = things; counted = counted; alike = refl })
  runs (Err e) did = tt

  abbrev site : Site
  site = record { world = world x.ancestors.now; class = f.method.class; thread = 0; full = false; cwd = []; table = [] }

  alike_by : RowsStayAlike E → (way : Way) → SeenRuns x counts one f h way g k → StaysStuck x one f way → RunsAlike x counts way h.objects k.objects
  alike_by rows way did missing things counted = by (meant x.ancestors.now x.ready.now.methods.tables f.method.class one) refl
    where
      by : (o : Option Instruction) → meant x.ancestors.now x.ready.now.methods.tables f.method.class one ≡ o
          → LeavesAlike x.ancestors.now x.shapes.now things way h.objects k.objects
      by None none = subst (λ (w : Way). LeavesAlike x.ancestors.now x.shapes.now things w h.objects k.objects) (sym (missing none)) tt
      by (Some i) is =
          rows x.ancestors.now x.shapes.now things h k f g way [] [] [] i site (own_fields x.ancestors.now f.method)
          (λ others alike r entries inherited.
          did i is others [] (record { things = things; counted = counted; alike = alike }) r site (own_fields x.ancestors.now f.method) entries inherited
          (record { world = refl; class = refl; owns = λ field. refl }))

  pub runs_alike : {F : Type 0} → RowsStayAlike E → (r : Result Way F) → IfOk r (λ way. SeenRuns x counts one f h way g k) → IfOk r (λ way. StaysStuck x one f way)
      → IfOk r (λ way. RunsAlike x counts way h.objects k.objects)
  runs_alike rows (Ok way) did missing = alike_by rows way did missing
  runs_alike rows (Err e) did missing = tt
