use Rattle.std.proofs.Common.{◌≡◌, ◌≤◌, length}
use Rattle.jtyping.specs.jrule.OperandSlots.{slot_count}
use Rattle.jverify.specs.LocalChains.{chain}
use Rattle.jverify.proofs.ChainComparison.{front}
use Rattle.jverify.proofs.declared.locals_fit.Given as goal

abbrev pub invariant-loop-number : goal.invariant-loop-number
invariant-loop-number l = record {
  within : l.number ≤ length l.chains;
  room : slot_count (chain l.chains l.number) ≤ length l.locals;
  so_far : front l.p l.locals l.chains l.number ≡ front l.p l.locals l.chains l.fn.last;
}

abbrev pub decreases-loop-number : goal.decreases-loop-number
decreases-loop-number l = l.number
