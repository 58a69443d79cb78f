use Rattle.std.proofs.Common.{◌≡◌, ◌≤◌, map, take}
use Rattle.jstore.specs.FileWrites.{seen, with_files}
use Rattle.jstore.proofs.storing.store_all.Given as goal

abbrev pub invariant-loop-file : goal.invariant-loop-file
invariant-loop-file g l = record {
  held : g.S.Shelf.held l.shelf ≡ with_files (map seen (take l.file-index l.files)) (g.S.Shelf.held l.fn.shelf);
  reads : g.S.Shelf.read_faults l.shelf ≡ g.S.Shelf.read_faults l.fn.shelf;
  later : g.S.Shelf.write_faults l.fn.shelf ≤ g.S.Shelf.write_faults l.shelf;
}
