use Rattle.std.proofs.Common.{◌≡◌, ◌≤◌, drop, take, List, Some}
use Rattle.jground.specs.jbase.ListMaps.{each}
use Rattle.jground.proofs.JbaseProofs.Loops.{behind}
use Rattle.joutput.specs.jio.ShelfFiles.{File}
use Rattle.jtasks.specs.jstages.JobPlans.{domains_of}
use Rattle.jtasks.specs.jstages.ReadStage.{part_at}
use Rattle.jtasks.proofs.JstagesProofs.LinkableParts.{domains_in}
use Rattle.jtasks.proofs.jstages.reading.parts_at.Given as goal

abbrev pub invariant-loop-path : goal.invariant-loop-path
invariant-loop-path g l = record {
  domains : domains_in l.parts ≡ domains_of (take l.path-index l.paths);
  held : g.S.Shelf.held l.shelf ≡ g.S.Shelf.held l.fn.shelf;
  stored : g.S.Shelf.write_faults l.shelf ≡ g.S.Shelf.write_faults l.fn.shelf;
  later : g.S.Shelf.read_faults l.fn.shelf ≤ g.S.Shelf.read_faults l.shelf;
  so_far : (files : List File) → g.S.Shelf.held l.fn.shelf ≡ Some files → behind l.parts (each (part_at files) (drop l.path-index l.paths)) ≡ each (part_at files) l.paths;
}
