use Rattle.std.proofs.Common.{◌<◌, length, arith}
use Rattle.std.proofs.lemmas.Result.{err_from_is_err_and}
use Rattle.jground.specs.jformat.BodyFormats.{many_at}
use Rattle.jground.proofs.JformatProofs.ReadingLoops.{many_begin, many_more, many_fail, many_done, many_over, is_none, is_some}
use Rattle.jground.proofs.jformat.loops.many_of.Goals as goal

pub loop-init : goal.loop-init
loop-init g c = rw c.new-items.ensures (many_begin c.args.more (g.R.Reader.reads c.args.reader.now) _ (length c.args.bytes.now) c.args.bytes.now (omega arith))

pub returns-then-is_empty : goal.returns-then-is_empty
returns-then-is_empty g c = many_done c.args.more (λ (u : Unit {0}). g.R.Reader.reads c.args.reader.now) (λ (u : Unit {0}) (a : g.row.R-Item.Denot). u) tt c.loop.items _ c.loop.rest.now _ (is_none c.loop.rest.now c.if-is_empty.ensures) c.loop.invariant

pub returns-in_err-one : goal.returns-in_err-one
returns-in_err-one g c =
    let p = err_from_is_err_and c.from_residual.result c.from_residual.ensures.1 in
    let some : 0 < length c.loop.rest.now = is_some c.loop.rest.now c.if-is_empty.ensures in
    rw (p.1, p.2) (many_fail c.args.more (λ (u : Unit {0}). g.R.Reader.reads c.args.reader.now) (λ (u : Unit {0}) (a : g.row.R-Item.Denot). u) tt c.in_err-one.field-0.0 c.loop.items (length c.args.bytes.now) c.loop.counter c.loop.rest.now (many_at c.args.more (g.R.Reader.reads c.args.reader.now) (length c.args.bytes.now) c.args.bytes.now) c.loop-test.true some c.in_err-one.ensures c.loop.invariant)

pub loop-preserved : goal.loop-preserved
loop-preserved g c =
    let some : 0 < length c.loop.rest.now = is_some c.loop.rest.now c.if-is_empty.ensures in
    rw c.in_ok-push.ensures.ok (many_more c.args.more (λ (u : Unit {0}). g.R.Reader.reads c.args.reader.now) (λ (u : Unit {0}) (a : g.row.R-Item.Denot). u) tt c.loop.items (length c.args.bytes.now) c.loop.counter c.loop.rest.now c.in_ok-one.one c.in_ok-one.after.now (many_at c.args.more (g.R.Reader.reads c.args.reader.now) (length c.args.bytes.now) c.args.bytes.now) c.loop-test.true some c.in_ok-one.ensures c.loop.invariant)

pub returns-then-is_empty-2 : goal.returns-then-is_empty-2
returns-then-is_empty-2 g c = many_done c.args.more (λ (u : Unit {0}). g.R.Reader.reads c.args.reader.now) (λ (u : Unit {0}) (a : g.row.R-Item.Denot). u) tt c.loop.items _ c.loop.rest.now _ (is_none c.loop.rest.now c.if-is_empty-2.ensures) c.loop.invariant

pub returns : goal.returns
returns g c =
    let some : 0 < length c.loop.rest.now = is_some c.loop.rest.now c.if-is_empty-2.ensures in
    rw c.fault.ensures (many_over c.args.more (λ (u : Unit {0}). g.R.Reader.reads c.args.reader.now) (λ (u : Unit {0}) (a : g.row.R-Item.Denot). u) tt c.loop.items (length c.args.bytes.now) c.loop.counter c.loop.rest.now (many_at c.args.more (g.R.Reader.reads c.args.reader.now) (length c.args.bytes.now) c.args.bytes.now) c.loop-test.false some c.loop.invariant)
