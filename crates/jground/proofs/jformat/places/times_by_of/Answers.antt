use Rattle.std.proofs.Common.{arith}
use Rattle.std.proofs.lemmas.Result.{err_from_is_err_and}
use Rattle.jground.specs.jformat.StatefulFormats.{times_from}
use Rattle.jground.proofs.JformatProofs.ReadingLoops.{times_by_begin, times_more, times_fail, times_end}
use Rattle.jground.proofs.jformat.places.times_by_of.Goals as goal

pub loop-init : goal.loop-init
loop-init g c = rw c.new-items.ensures (times_by_begin (g.R.StateReader.reads c.args.reader.now) (g.R.StateReader.goes_to c.args.reader.now) c.args.first _ c.args.count c.args.bytes.now (omega arith))

pub returns-in_err-one : goal.returns-in_err-one
returns-in_err-one g c =
    let p = err_from_is_err_and c.from_residual.result c.from_residual.ensures.1 in
    rw (p.1, p.2) (times_fail (g.R.StateReader.reads c.args.reader.now) (g.R.StateReader.goes_to c.args.reader.now) c.loop.state c.in_err-one.field-0.0 c.loop.items c.args.count c.loop.counter c.loop.rest.now (times_from (g.R.StateReader.reads c.args.reader.now) (g.R.StateReader.goes_to c.args.reader.now) c.args.first c.args.count c.args.bytes.now) c.loop-test.true c.in_err-one.ensures c.loop.invariant)

pub loop-preserved : goal.loop-preserved
loop-preserved g c =
    rw (c.in_ok-push.ensures.ok, c.next-state.ensures) (times_more (g.R.StateReader.reads c.args.reader.now) (g.R.StateReader.goes_to c.args.reader.now) c.loop.state c.loop.items c.args.count c.loop.counter c.loop.rest.now c.in_ok-one.one c.in_ok-one.after.now (times_from (g.R.StateReader.reads c.args.reader.now) (g.R.StateReader.goes_to c.args.reader.now) c.args.first c.args.count c.args.bytes.now) c.loop-test.true c.in_ok-one.ensures c.loop.invariant)

pub returns : goal.returns
returns g c = times_end (g.R.StateReader.reads c.args.reader.now) (g.R.StateReader.goes_to c.args.reader.now) c.loop.state c.loop.items c.args.count c.loop.counter c.loop.rest.now (times_from (g.R.StateReader.reads c.args.reader.now) (g.R.StateReader.goes_to c.args.reader.now) c.args.first c.args.count c.args.bytes.now) c.loop-test.false c.loop.invariant
