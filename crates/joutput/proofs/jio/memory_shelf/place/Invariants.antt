use Rattle.std.proofs.Common.{◌≡◌, drop}
use Rattle.joutput.specs.jio.MemoryDevices.{files_of, place_from}
use Rattle.joutput.proofs.jio.memory_shelf.place.Given as goal

abbrev pub invariant-loop-i : goal.invariant-loop-i
invariant-loop-i l = place_from l.i (files_of (drop l.i l.files)) l.path ≡ place_from 0 (files_of l.files) l.path
