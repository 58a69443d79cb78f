use Rattle.std.proofs.Common.{◌≡◌, drop}
use Rattle.jground.specs.jbase.FirstFaults.{first_some}
use Rattle.jlinking.specs.jreferring.CodeUnits.{item_names}
use Rattle.jlinking.proofs.jreferring.units.items_names.Given as goal

abbrev pub invariant-loop-one : goal.invariant-loop-one
invariant-loop-one l = first_some (item_names l.table) (drop l.one-index l.items) ≡ first_some (item_names l.table) l.items
