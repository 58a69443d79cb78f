use Rattle.std.proofs.Common.{arith}
use Rattle.std.proofs.lemmas.Result.{err_from_is_err_and}
use Rattle.jground.specs.jformat.BodyFormats.{times_at}
use Rattle.jground.proofs.JformatProofs.ReadingLoops.{times_begin, times_more, times_fail, times_end}
use Rattle.jground.proofs.jformat.loops.times_of.Goals as goal

pub loop-init : goal.loop-init
loop-init g c = rw c.new-items.ensures (times_begin (g.R.Reader.reads c.args.reader.now) _ c.args.count c.args.bytes.now (omega arith))

pub returns-in_err-one : goal.returns-in_err-one
returns-in_err-one g c =
    let p = err_from_is_err_and c.from_residual.result c.from_residual.ensures.1 in
    rw (p.1, p.2) (times_fail (λ (u : Unit {0}). g.R.Reader.reads c.args.reader.now) (λ (u : Unit {0}) (a : g.row.R-Item.Denot). u) tt c.in_err-one.field-0.0 c.loop.items c.args.count c.loop.counter c.loop.rest.now (times_at (g.R.Reader.reads c.args.reader.now) c.args.count c.args.bytes.now) c.loop-test.true c.in_err-one.ensures c.loop.invariant)

pub loop-preserved : goal.loop-preserved
loop-preserved g c =
    rw c.in_ok-push.ensures.ok (times_more (λ (u : Unit {0}). g.R.Reader.reads c.args.reader.now) (λ (u : Unit {0}) (a : g.row.R-Item.Denot). u) tt c.loop.items c.args.count c.loop.counter c.loop.rest.now c.in_ok-one.one c.in_ok-one.after.now (times_at (g.R.Reader.reads c.args.reader.now) c.args.count c.args.bytes.now) c.loop-test.true c.in_ok-one.ensures c.loop.invariant)

pub returns : goal.returns
returns g c = times_end (λ (u : Unit {0}). g.R.Reader.reads c.args.reader.now) (λ (u : Unit {0}) (a : g.row.R-Item.Denot). u) tt c.loop.items c.args.count c.loop.counter c.loop.rest.now (times_at (g.R.Reader.reads c.args.reader.now) c.args.count c.args.bytes.now) c.loop-test.false c.loop.invariant
