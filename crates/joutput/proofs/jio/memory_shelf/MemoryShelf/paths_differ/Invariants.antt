use Rattle.std.proofs.Common.{◌↔◌, drop}
use Rattle.joutput.specs.jio.ShelfFiles.{PathsDiffer}
use Rattle.joutput.specs.jio.MemoryDevices.{files_of}
use Rattle.joutput.proofs.jio.memory_shelf.MemoryShelf.paths_differ.Given as goal

abbrev pub invariant-loop-i : goal.invariant-loop-i
invariant-loop-i l = PathsDiffer (files_of (drop l.i l.files)) ↔ PathsDiffer (files_of l.files)
