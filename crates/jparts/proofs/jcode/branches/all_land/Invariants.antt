use Rattle.std.proofs.Common.{take}
use Rattle.std.specs.Prelude.{IsTrue}
use Rattle.std.specs.List.{list_all}
use Rattle.jparts.specs.jcode.Instructions.{lands}
use Rattle.jparts.proofs.jcode.branches.all_land.Given as goal

abbrev pub invariant-loop-by : goal.invariant-loop-by
invariant-loop-by l = IsTrue (list_all (lands l.ops l.at) (take l.by-index l.branches))
