use Rattle.std.proofs.Common.{◌≡◌, drop}
use Rattle.jctx.specs.ContextGrowth.{joined}
use Rattle.jctx.proofs.making.take_over.Given as goal

-- adding what is left gives what adding all gives
abbrev pub invariant-loop-item : goal.invariant-loop-item
invariant-loop-item l = joined l.made (drop l.item-index l.item-items) ≡ joined l.fn.made l.item-items
