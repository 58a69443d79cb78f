use Rattle.std.proofs.Common.{◌≡◌, ◌+◌, length}
use Rattle.jresolution.specs.juses.PoolTables.{Grows}
use Rattle.jready.specs.CodeLayout.{AreLaid}
use Rattle.jready.specs.TableGrowth.{Grown}
use Rattle.jready.proofs.code.put_ops.Given as goal

abbrev pub invariant-loop-i : goal.invariant-loop-i
invariant-loop-i l = record {
  laid : AreLaid l.known.p.now l.known.uses.now.types l.tables l.class l.ops l.code (length l.fn.code) l.i;
  count : length l.code ≡ length l.fn.code + l.i;
  behind : Grows l.fn.code l.code;
  grown : Grown l.fn.tables l.tables;
}
