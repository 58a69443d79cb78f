use Rattle.std.proofs.Common.{◌≡◌, drop}
use Rattle.jdomain.specs.Domains.{has}
use Rattle.jctx.specs.Contexts.{verdict}
use Rattle.jinterned.specs.ContextStores.{items_of}
use Rattle.jinterned.proofs.making.decide_run.Given as goal

-- what is left decides as the whole does
abbrev pub invariant-loop-pair : goal.invariant-loop-pair
invariant-loop-pair l = verdict (has l.domains) l.asked (items_of l.sets (drop l.pair-index l.run)) ≡ verdict (has l.domains) l.asked (items_of l.sets l.run)
