use Rattle.std.proofs.Common.{[], ◌∷◌, ◌≡◌, Some, ap, sym, ◌∙◌}
use Rattle.std.specs.Prelude.{slice_get}
use Rattle.std.proofs.lemmas.Option.{slice_get-get_or}
use Rattle.std.proofs.lemmas.Result.{err_from_is_err_and}
use Rattle.jmoveclass.specs.MovedMembers.{with_method}
use Rattle.jmoveclass.specs.PoolPuts.{with_each}
use Rattle.jmoveclass.proofs.MovedAttributes.{no_limit}
use Rattle.jmoveclass.proofs.Growth.{method_grows}
use Rattle.jmoveclass.proofs.TextLengths.{moved_short}
use Rattle.jresolution.specs.jprogram.ClassFileParts.{member_desc}
use Rattle.jmoveclass.proofs.ItemAdditions.{all_turned, next_turn, turn_refused}
use Rattle.jmoveclass.proofs.whole.put_methods.Goals as goal

pub put_method-requires-clause-short : goal.put_method-requires-clause-short
put_method-requires-clause-short c =
    let items = c.as_slice-m-items.result.now in
    let there : slice_get items c.loop-m.m-index ≡ Some c.m-item.result = slice_get-get_or items c.loop-m.m-index c.m-item.result c.loop-m-test.true ∙ ap Some (sym c.m-item.is) in
    moved_short (member_desc c.args.c.now.class.now c.m-item.result) (c.requires.moving.short c.m-item.result (c.loop-m.m-index, ap (λ ms. slice_get ms c.loop-m.m-index) (sym c.as_slice-m-items.ensures) ∙ there))

pub put_method-requires-clause-limits : goal.put_method-requires-clause-limits
put_method-requires-clause-limits c =
    let items = c.as_slice-m-items.result.now in
    let there : slice_get items c.loop-m.m-index ≡ Some c.m-item.result = slice_get-get_or items c.loop-m.m-index c.m-item.result c.loop-m-test.true ∙ ap Some (sym c.m-item.is) in
    no_limit c.args.c.now.program.now c.args.c.now.class.now c.m-item.result c.requires.moving.good (c.loop-m.m-index, ap (λ ms. slice_get ms c.loop-m.m-index) (sym c.as_slice-m-items.ensures) ∙ there) c.requires.limits

pub returns-in_err-one : goal.returns-in_err-one
returns-in_err-one c =
    let p = err_from_is_err_and c.from_residual.result c.from_residual.ensures.1 in
    let f = with_method c.args.c.now.program.now c.args.c.now.class.now c.args.c.now.domain in
    rw (p.1, p.2) (turn_refused f c.args.c.now.class.now.methods c.loop-m.moved c.loop-m.m-index c.m-item.result c.in_err-one.field-0.0 c.loop-m.pool (with_each f c.args.c.now.class.now.methods c.args.pool.now)
    (method_grows c.args.c.now.program.now c.args.c.now.class.now c.args.c.now.domain) (rw c.as_slice-m-items.ensures at c.loop-m-test.true) (rw c.as_slice-m-items.ensures at c.m-item.is) c.in_err-one.ensures c.loop-m.invariant)

pub loop-m-preserved : goal.loop-m-preserved
loop-m-preserved c =
    let f = with_method c.args.c.now.program.now c.args.c.now.class.now c.args.c.now.domain in
    rw c.in_ok-push.ensures.ok (next_turn f c.args.c.now.class.now.methods c.loop-m.moved (c.in_ok-one.one ∷ []) c.loop-m.m-index c.m-item.result c.loop-m.pool c.put_method.new.pool (with_each f c.args.c.now.class.now.methods c.args.pool.now)
    (rw c.as_slice-m-items.ensures at c.loop-m-test.true) (rw c.as_slice-m-items.ensures at c.m-item.is) c.in_ok-one.ensures c.loop-m.invariant)

pub returns : goal.returns
returns c =
    let f = with_method c.args.c.now.program.now c.args.c.now.class.now c.args.c.now.domain in
    all_turned f c.args.c.now.class.now.methods c.loop-m.moved c.loop-m.m-index c.loop-m.pool (with_each f c.args.c.now.class.now.methods c.args.pool.now) (rw c.as_slice-m-items.ensures at c.loop-m-test.false) c.loop-m.invariant
