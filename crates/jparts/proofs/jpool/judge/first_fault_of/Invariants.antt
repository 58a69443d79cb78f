use Rattle.std.proofs.Common.{◌≡◌, drop}
use Rattle.jparts.specs.jpool.ConstantPools.{first_fault}
use Rattle.jparts.proofs.jpool.judge.first_fault_of.Given as goal

abbrev pub invariant-loop-one : goal.invariant-loop-one
invariant-loop-one g l = first_fault (g.T.EntryTest.faults l.test) l.left (drop l.one-index l.entries) ≡ first_fault (g.T.EntryTest.faults l.test) l.fn.left l.entries
