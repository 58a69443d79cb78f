use Rattle.std.proofs.Common.{◌≡◌, ◌++◌, take}
use Rattle.jsnapshots.specs.SnapshotEntries.{Extends, IsBack}
use Rattle.jsnapshots.specs.SnapshotPath.{Lies, marks_of}
use Rattle.jsnapshots.proofs.path.Path.extend.Given as goal

abbrev pub invariant-loop-mark : goal.invariant-loop-mark
invariant-loop-mark l = record {
  under : l.self.under ≡ l.initial.self.under;
  back : IsBack l.table;
  grown : Extends l.initial.table l.table;
  lies : Lies l.table l.self.under l.self.frames.items;
  marks : marks_of l.self.frames.items ≡ marks_of l.initial.self.frames.items ++ take l.mark-index l.marks;
}
