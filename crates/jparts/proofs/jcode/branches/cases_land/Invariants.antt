use Rattle.std.proofs.Common.{take}
use Rattle.std.specs.Prelude.{IsTrue}
use Rattle.std.specs.List.{list_all}
use Rattle.jparts.specs.jcode.Instructions.{lands}
use Rattle.jparts.proofs.jcode.branches.cases_land.Given as goal

abbrev pub invariant-loop-case : goal.invariant-loop-case
invariant-loop-case l = IsTrue (list_all (λ c. lands l.ops l.at c.branch) (take l.case-index l.cases))
