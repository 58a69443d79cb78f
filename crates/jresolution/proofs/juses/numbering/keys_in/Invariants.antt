use Rattle.std.proofs.Common.{◌≡◌, drop}
use Rattle.jground.specs.jbase.ListMaps.{each_some}
use Rattle.jground.proofs.JbaseProofs.Loops.{some_behind}
use Rattle.jresolution.specs.juses.InternedInstructions.{key_at}
use Rattle.jresolution.proofs.juses.numbering.keys_in.Given as goal

abbrev pub invariant-loop-case : goal.invariant-loop-case
invariant-loop-case l = some_behind l.keys (each_some (key_at l.ops l.at) (drop l.case-index l.cases)) ≡ each_some (key_at l.ops l.at) l.cases
