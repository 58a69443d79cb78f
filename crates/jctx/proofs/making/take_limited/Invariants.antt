use Rattle.std.proofs.Common.{◌≡◌, drop, map}
use Rattle.jctx.specs.ContextItems.{with_limits}
use Rattle.jctx.specs.ContextGrowth.{joined}
use Rattle.jctx.proofs.making.take_limited.Given as goal

-- adding what is left gives what adding all gives
abbrev pub invariant-loop-item : goal.invariant-loop-item
invariant-loop-item l =
    joined l.made (map (with_limits l.limits) (drop l.item-index l.item-items)) ≡ joined l.fn.made (map (with_limits l.limits) l.item-items)
