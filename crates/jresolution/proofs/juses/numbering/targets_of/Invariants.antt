use Rattle.std.proofs.Common.{◌≡◌, drop}
use Rattle.jground.specs.jbase.ListMaps.{each_some}
use Rattle.jground.proofs.JbaseProofs.Loops.{some_behind}
use Rattle.jresolution.specs.juses.IndexedInstructions.{target}
use Rattle.jresolution.proofs.juses.numbering.targets_of.Given as goal

abbrev pub invariant-loop-by : goal.invariant-loop-by
invariant-loop-by l = some_behind l.numbers (each_some (target l.ops l.at) (drop l.by-index l.branches)) ≡ each_some (target l.ops l.at) l.branches
