use Rattle.std.proofs.Common.{◌≡◌, ◌++◌, map, take}
use Rattle.jmoveclass.specs.EntryLocals.{bare_this, item}
use Rattle.jmoveclass.proofs.beginning.bare_beginning.Given as goal

abbrev pub invariant-loop-t : goal.invariant-loop-t
invariant-loop-t l = l.items ≡ bare_this l.class l.method ++ map (item 0) (take l.t-index l.params)
