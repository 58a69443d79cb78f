use Rattle.std.proofs.Common.{◌≡◌, length}
use Rattle.jready.specs.MethodTables.{AreMethods}
use Rattle.jready.specs.MethodNumbers.{methods_before}
use Rattle.jready.specs.PreparedPrograms.{AreNumbered}
use Rattle.jready.proofs.ready.methods_of.Given as goal

abbrev pub invariant-loop-i : goal.invariant-loop-i
invariant-loop-i l = record {
  are : AreMethods l.known.p.now l.known.uses.now.types l.methods;
  count : length l.methods.rows ≡ methods_before l.known.p.now l.i;
  numbered : AreNumbered l.known.p.now l.methods.rows l.i;
}
