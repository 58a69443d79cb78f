use Rattle.std.proofs.Common.{◌≡◌, ◌<◌, length, Some, sym, ap, ◌∙◌, arith}
use Rattle.std.specs.Prelude.{slice_get}
use Rattle.std.proofs.lemmas.Option.{slice_get-get_or}
use Rattle.jresolution.proofs.JprogramProofs.MemberCounts.{few_methods}
use Rattle.jmoveclass.proofs.limits.methods_limit.Goals as goal

pub overflow_cast-place : goal.overflow_cast-place
overflow_cast-place c =
    let few : length c.args.c.now.class.now.methods < 65536 = few_methods c.args.c.now.class.now c.requires.good in
    let same : length c.as_slice-m-items.result.now ≡ length c.args.c.now.class.now.methods = ap length c.as_slice-m-items.ensures in
    let less : c.loop-j.j < length c.as_slice-m-items.result.now = c.loop-j-test.true in
    omega (arith, few, same, less)

pub method_limit-requires-clause-method : goal.method_limit-requires-clause-method
method_limit-requires-clause-method c =
    let items = c.as_slice-m-items.result.now in
    let there : slice_get items c.loop-j.j ≡ Some c.m-item.result = slice_get-get_or items c.loop-j.j c.m-item.result c.loop-j-test.true ∙ ap Some (sym c.m-item.is) in
    (c.loop-j.j, ap (λ ms. slice_get ms c.loop-j.j) (sym c.as_slice-m-items.ensures) ∙ there)
