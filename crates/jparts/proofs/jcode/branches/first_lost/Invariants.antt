use Rattle.std.proofs.Common.{◌≡◌, drop}
use Rattle.jground.specs.jbase.FirstFaults.{first_some}
use Rattle.jparts.specs.ProofNames.{lost}
use Rattle.jparts.proofs.jcode.branches.first_lost.Given as goal

abbrev pub invariant-loop-one : goal.invariant-loop-one
invariant-loop-one l = first_some (lost l.ops) (drop l.one-index l.ops) ≡ first_some (lost l.ops) l.ops
