use Rattle.std.proofs.Common.{◌≡◌, ◌++◌, map, drop}
use Rattle.jmove.specs.AssemblyLines.{Do, placed, reach}
use Rattle.jmove.specs.PlaceTables.{in_table}
use Rattle.jmove.proofs.emission.put_begin.Given as goal

abbrev pub invariant-loop-op : goal.invariant-loop-op
invariant-loop-op l = record {
  same_end : reach l.at (drop l.op-index l.begin) ≡ reach 0 l.begin;
  so_far : l.out.items ++ placed (in_table l.places) l.at (map (Do 0) (drop l.op-index l.begin)) ≡ l.fn.out.items ++ placed (in_table l.places) 0 (map (Do 0) l.begin);
}
