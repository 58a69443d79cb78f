use Rattle.std.proofs.Common.{◌-◌, ◌<◌, length, refl}
use Rattle.std.proofs.lemmas.Result.{err_from_is_err_and}
use Rattle.jground.proofs.JformatProofs.ReadingLoops.{many_more, many_fail, many_done, many_over, is_none, is_some}
use Rattle.jparts.specs.declared.jcode.fault.CodeFault.TheVariants.{Truncated}
use Rattle.jparts.specs.jcode.Instructions.{placed, place_behind, placed_at, instructions}
use Rattle.jparts.proofs.JcodeProofs.Places.{goes, reads_placed, stops_placed}
use Rattle.jparts.proofs.jcode.coding.ops_of.Goals as goal

pub returns-then-is_empty : goal.returns-then-is_empty
unfolding instructions
returns-then-is_empty c = many_done Truncated (λ t. (placed t).read) place_behind _ c.loop.ops _ c.loop.rest.now _ (is_none c.loop.rest.now c.if-is_empty.ensures) c.loop.invariant.so_far

pub returns-in_err-op : goal.returns-in_err-op
unfolding instructions
returns-in_err-op c =
    let p = err_from_is_err_and c.from_residual.result c.from_residual.ensures.1 in
    let some : 0 < length c.loop.rest.now = is_some c.loop.rest.now c.if-is_empty.ensures in
    let at = length c.args.bytes.now - length c.loop.rest.now in
    rw (p.1, p.2) (many_fail Truncated (λ t. (placed t).read) place_behind at c.in_err-op.field-0.0 c.loop.ops (length c.args.bytes.now) c.loop.counter c.loop.rest.now _ c.loop-test.true some (stops_placed at c.in_err-op.field-0.0 c.loop.rest.now c.in_err-op.ensures) c.loop.invariant.so_far)

pub loop-preserved : goal.loop-preserved
loop-preserved c =
    let some : 0 < length c.loop.rest.now = is_some c.loop.rest.now c.if-is_empty.ensures in
    let at = length c.args.bytes.now - length c.loop.rest.now in
    let g = goes at (length c.args.bytes.now) c.loop.rest.now c.in_ok-op.after.now c.in_ok-op.op c.loop.invariant.bytes c.loop.invariant.inside refl c.in_ok-op.ensures in
    record {
      bytes = g.bytes;
      inside = g.inside;
      so_far = rw (c.in_ok-push.ensures.ok, g.place) (many_more Truncated (λ t. (placed t).read) place_behind at c.loop.ops (length c.args.bytes.now) c.loop.counter c.loop.rest.now (placed_at at c.in_ok-op.op) c.in_ok-op.after.now _ c.loop-test.true some (reads_placed at c.loop.rest.now c.in_ok-op.after.now c.in_ok-op.op c.in_ok-op.ensures) c.loop.invariant.so_far);
    }

pub returns-then-is_empty-2 : goal.returns-then-is_empty-2
unfolding instructions
returns-then-is_empty-2 c = many_done Truncated (λ t. (placed t).read) place_behind _ c.loop.ops _ c.loop.rest.now _ (is_none c.loop.rest.now c.if-is_empty-2.ensures) c.loop.invariant.so_far

pub returns : goal.returns
unfolding instructions
returns c =
    let some : 0 < length c.loop.rest.now = is_some c.loop.rest.now c.if-is_empty-2.ensures in
    rw c.fault.ensures (many_over Truncated (λ t. (placed t).read) place_behind _ c.loop.ops (length c.args.bytes.now) c.loop.counter c.loop.rest.now _ c.loop-test.false some c.loop.invariant.so_far)
