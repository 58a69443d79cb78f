use Rattle.std.proofs.Common.{◌≡◌, ◌+◌, length}
use Rattle.jresolution.specs.juses.PoolTables.{Grows}
use Rattle.jready.specs.MethodTables.{AreMethods}
use Rattle.jready.specs.PreparedPrograms.{AreOwn}
use Rattle.jready.proofs.ready.put_class.Given as goal

abbrev pub invariant-loop-method : goal.invariant-loop-method
invariant-loop-method l = record {
  are : AreMethods l.known.p.now l.known.uses.now.types l.methods;
  count : length l.methods.rows ≡ length l.fn.methods.rows + l.method;
  behind : Grows l.fn.methods.rows l.methods.rows;
  own : AreOwn l.methods.rows (length l.fn.methods.rows) l.class l.method;
}
