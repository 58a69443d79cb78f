use Rattle.std.proofs.Common.{◌≡◌, map}
use Rattle.jstore.specs.Folders.{class_below, path_of}
use Rattle.jstore.specs.FileWrites.{seen}
use Rattle.jstore.proofs.storing.all_below.Given as goal

abbrev pub invariant-loop-file : goal.invariant-loop-file
invariant-loop-file l = record {
  files : map seen l.made ≡ map (class_below l.to) l.yielded;
  paths : l.paths ≡ map (path_of l.to) l.yielded;
}
