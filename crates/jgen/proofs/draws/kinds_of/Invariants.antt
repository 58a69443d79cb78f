use Rattle.std.proofs.Common.{◌≡◌, ◌<◌, ◌+◌, ◌*◌, ◌-◌, ◌++◌}
use Rattle.jgen.specs.Draws.{kinds, kinds_from, state}
use Rattle.jgen.proofs.draws.kinds_of.Given as goal

abbrev pub invariant-loop-i : goal.invariant-loop-i
invariant-loop-i l = record {
  state : l.x ≡ state l.seed (3 * l.i);
  small : l.x < 0x80000000;
  so_far : l.all ++ kinds_from l.seed l.size l.i (l.size - l.i) ≡ kinds l.seed l.size;
}
