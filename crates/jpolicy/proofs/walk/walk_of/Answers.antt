use Rattle.std.proofs.Common.{length}
use Rattle.std.proofs.lemmas.Result.{err_from_is_err_and}
use Rattle.jpolicy.specs.ListWalks.{walk}
use Rattle.jpolicy.proofs.ListWalks.{walk_more, walk_fails, walk_over, walk_out}
use Rattle.jpolicy.proofs.walk.walk_of.Goals as goal

pub returns-then-is_over : goal.returns-then-is_over
returns-then-is_over g c = walk_over (g.W.Walk.ends c.args.by.now) (g.W.Walk.goes c.args.by.now) (length c.args.items.now) c.loop.counter c.loop.state c.loop.rest.now (walk (g.W.Walk.ends c.args.by.now) (g.W.Walk.goes c.args.by.now) (length c.args.items.now) c.args.first c.args.items.now) c.loop-test.true c.if-is_over.ensures c.loop.invariant

pub returns-in_err-next : goal.returns-in_err-next
returns-in_err-next g c =
    let p = err_from_is_err_and c.from_residual.result c.from_residual.ensures.1 in
    rw (p.1, p.2) (walk_fails (g.W.Walk.ends c.args.by.now) (g.W.Walk.goes c.args.by.now) (length c.args.items.now) c.loop.counter c.loop.state c.loop.rest.now c.in_err-next.field-0.0 (walk (g.W.Walk.ends c.args.by.now) (g.W.Walk.goes c.args.by.now) (length c.args.items.now) c.args.first c.args.items.now) c.loop-test.true c.if-is_over.ensures c.in_err-next.ensures c.loop.invariant)

pub loop-preserved : goal.loop-preserved
loop-preserved g c = walk_more (g.W.Walk.ends c.args.by.now) (g.W.Walk.goes c.args.by.now) (length c.args.items.now) c.loop.counter c.loop.state c.in_ok-next.next c.loop.rest.now c.in_ok-next.left.now (walk (g.W.Walk.ends c.args.by.now) (g.W.Walk.goes c.args.by.now) (length c.args.items.now) c.args.first c.args.items.now) c.loop-test.true c.if-is_over.ensures c.in_ok-next.ensures c.loop.invariant

pub returns : goal.returns
returns g c = walk_out (g.W.Walk.ends c.args.by.now) (g.W.Walk.goes c.args.by.now) (length c.args.items.now) c.loop.counter c.loop.state c.loop.rest.now (walk (g.W.Walk.ends c.args.by.now) (g.W.Walk.goes c.args.by.now) (length c.args.items.now) c.args.first c.args.items.now) c.loop-test.false c.loop.invariant
