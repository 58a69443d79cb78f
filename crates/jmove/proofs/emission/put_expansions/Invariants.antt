use Rattle.std.proofs.Common.{◌≡◌, ◌++◌, drop}
use Rattle.jmove.specs.AssemblyLines.{end_of, placed}
use Rattle.jmove.specs.MethodExpansion.{expansions}
use Rattle.jmove.specs.PlaceTables.{in_table}
use Rattle.jmove.proofs.emission.put_expansions.Given as goal

abbrev pub invariant-loop-i : goal.invariant-loop-i
invariant-loop-i l = record {
  same_end : end_of l.at (expansions l.s (drop l.i l.kinds) (drop l.i l.ops)) ≡ end_of l.begin (expansions l.s l.kinds l.ops);
  so_far : l.out.items ++ placed (in_table l.places) l.at (expansions l.s (drop l.i l.kinds) (drop l.i l.ops)) ≡ l.fn.out.items ++ placed (in_table l.places) l.begin (expansions l.s l.kinds l.ops);
}
