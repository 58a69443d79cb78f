use Rattle.std.proofs.Common.{◌≡◌, ◌≤◌, ◌-◌, length}
use Rattle.jrows.specs.jcalls.FrameMarks.{AreStanding}
use Rattle.jruntime.specs.jstate.ObjectCells.{AreCelled}
use Rattle.jruntime.specs.jstate.HeapMeanings.{AreBuilt}
use Rattle.jcalling.specs.jexecute.FastSteps.{Quietly}
use Rattle.jcalling.proofs.jexecute.hastening.hasten_frames.Given as goal

abbrev pub invariant-loop-steps : goal.invariant-loop-steps
invariant-loop-steps g l = record {
  same : l.calls ≡ l.initial.calls;
  quiet : Quietly l.initial.calls l.fixed l.counts l.steps l.initial.frames l.initial.heap l.frames l.heap;
  stand : AreStanding (length l.fixed.marks.now) l.frames;
  built : AreBuilt l.heap.objects;
  celled : AreCelled l.fixed.shapes.now l.heap.objects;
  few : l.steps ≤ l.most;
}

abbrev pub decreases-loop-steps : goal.decreases-loop-steps
decreases-loop-steps g l = l.most - l.steps
