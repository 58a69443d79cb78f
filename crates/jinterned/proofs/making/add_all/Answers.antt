use Rattle.std.proofs.Common.{[], length, arith}
use Rattle.std.specs.Prelude.{get_or}
use Rattle.jinterned.specs.ContextStores.{item_of}
use Rattle.jinterned.proofs.ContextGrowth.{joined_next, joined_end}
use Rattle.jinterned.proofs.LimitNumbers.{named_at}
use Rattle.jinterned.proofs.making.add_all.Goals as goal

pub read-requires-clause-pair : goal.read-requires-clause-pair
read-requires-clause-pair c = omega (arith, c.loop-i-test.true, c.count-i-end.ensures)

pub add-requires-clause-pair : goal.add-requires-clause-pair
add-requires-clause-pair c =
    named_at (length c.args.sets.now) c.args.lists.now c.args.n c.loop-i.i c.read.result c.requires.lists c.requires.there c.read.ensures

pub loop-i-preserved : goal.loop-i-preserved
loop-i-preserved c = (
  joined_next (item_of c.args.sets.now) (get_or c.args.lists.now c.args.n []) _ _ _ c.loop-i.i c.read.result c.read.ensures c.in_ok-add.ensures.added c.loop-i.invariant.0,
  c.in_ok-add.ensures.named,
)

pub returns-clause-added : goal.returns-clause-added
returns-clause-added c =
    joined_end (item_of c.args.sets.now) (get_or c.args.lists.now c.args.n []) _ _ c.loop-i.i (omega (arith, c.loop-i-test.false, c.count-i-end.ensures)) c.loop-i.invariant.0

pub returns-clause-named : goal.returns-clause-named
returns-clause-named c = c.loop-i.invariant.1
