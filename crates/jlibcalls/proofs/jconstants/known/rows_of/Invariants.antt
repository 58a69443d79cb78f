use Rattle.jlibcalls.specs.jconstants.StringConstants.{AreNone}
use Rattle.jlibcalls.proofs.jconstants.known.rows_of.Given as goal

abbrev pub invariant-loop-part : goal.invariant-loop-part
invariant-loop-part l = AreNone l.rows.items
