use Rattle.std.proofs.Common.{◌≡◌, length}
use Rattle.jready.specs.MethodNumbers.{AreFirstsTo, methods_before}
use Rattle.jready.proofs.ready.firsts_of.Given as goal

abbrev pub invariant-loop-part : goal.invariant-loop-part
invariant-loop-part l = record {
  so_far : AreFirstsTo l.p l.firsts l.part-index;
  count : length l.firsts ≡ l.part-index;
  next : l.first ≡ methods_before l.p l.part-index;
}
