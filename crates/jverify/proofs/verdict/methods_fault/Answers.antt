use Rattle.std.proofs.Common.{◌≡◌, ◌<◌, ◌≤◌, length, Some, slice_get, sym, ap, ◌∙◌, arith}
use Rattle.std.proofs.lemmas.Option.{slice_get-get_or}
use Rattle.jverify.proofs.MethodCounts.{few_in}
use Rattle.jverify.proofs.verdict.methods_fault.Goals as goal

pub overflow_cast-place : goal.overflow_cast-place
overflow_cast-place c =
    let few : length c.args.class.now.methods ≤ 0xffff = few_in c.args.class.now c.requires.good in
    let same : length c.as_slice-method-items.result.now ≡ length c.args.class.now.methods = ap length c.as_slice-method-items.ensures in
    let less : c.loop-j.j < length c.as_slice-method-items.result.now = c.loop-j-test.true in
    omega (arith, few, same, less)

pub member_fault-requires-clause-there : goal.member_fault-requires-clause-there
member_fault-requires-clause-there c =
    let items = c.as_slice-method-items.result.now in
    let there : slice_get items c.loop-j.j ≡ Some c.method-item.result = slice_get-get_or items c.loop-j.j c.method-item.result c.loop-j-test.true ∙ ap Some (sym c.method-item.is) in
    (c.loop-j.j, ap (λ ms. slice_get ms c.loop-j.j) (sym c.as_slice-method-items.ensures) ∙ there)
