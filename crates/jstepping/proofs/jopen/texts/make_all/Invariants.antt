use Rattle.std.proofs.Common.{take}
use Rattle.jruntime.specs.jstate.ObjectCells.{StayCelled}
use Rattle.jruntime.specs.jstate.HeapMeanings.{AreBuilt}
use Rattle.jstepping.specs.jopen.StaticRows.{texts_of}
use Rattle.jstepping.specs.jopen.OpeningTexts.{HasMade}
use Rattle.jstepping.proofs.jopen.texts.make_all.Given as goal

abbrev pub invariant-loop-row : goal.invariant-loop-row
invariant-loop-row l = record {
  built : AreBuilt l.heap.objects;
  celled : StayCelled l.initial.heap.objects l.heap.objects;
  made : HasMade l.initial.constants.program l.cells (texts_of l.initial.constants.program (take l.row-index l.rows)) l.constants l.heap;
}
