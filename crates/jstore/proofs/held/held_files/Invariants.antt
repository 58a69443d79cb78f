use Rattle.std.proofs.Common.{◌≡◌, map}
use Rattle.std.specs.Vec.Iter.{into_iter_items}
use Rattle.joutput.specs.jio.MemoryDevices.{files_of}
use Rattle.jstore.specs.GeneratedShelves.{as_held}
use Rattle.jstore.proofs.MadePaths.{AreNamed}
use Rattle.jstore.proofs.held.held_files.Given as goal

abbrev pub invariant-loop-file : goal.invariant-loop-file
invariant-loop-file l = record {
  files : files_of l.files.items ≡ map as_held l.yielded;
  named : AreNamed (into_iter_items l.file-iterator);
}
