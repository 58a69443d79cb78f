use Rattle.std.proofs.Common.{◌<◌, ◌^◌, List, length, ap, arith}
use Rattle.jparts.specs.declared.jcode.op.Case.{Case}
use Rattle.jparts.specs.jcode.OperandFormats.{lookup_switch}
use Rattle.jparts.proofs.JcodeProofs.Sizes.{lookup_length}
use Rattle.jparts.proofs.jcode.sizing.lookup_size.Goals as goal

pub overflow_cast-result : goal.overflow_cast-result
overflow_cast-result c =
    let all = lookup_length c.args.at c.args.switch.now in
    let same = ap (λ (xs : List Case). length xs) c.as_slice.ensures in
    let low : length ((lookup_switch c.args.at).spell c.args.switch.now) < 2 ^ 32 = c.requires in
    omega arith

pub overflow_mul-result : goal.overflow_mul-result
overflow_mul-result c =
    let all = lookup_length c.args.at c.args.switch.now in
    let same = ap (λ (xs : List Case). length xs) c.as_slice.ensures in
    let low : length ((lookup_switch c.args.at).spell c.args.switch.now) < 2 ^ 32 = c.requires in
    omega arith

pub overflow_add-result : goal.overflow_add-result
overflow_add-result c =
    let all = lookup_length c.args.at c.args.switch.now in
    let same = ap (λ (xs : List Case). length xs) c.as_slice.ensures in
    let low : length ((lookup_switch c.args.at).spell c.args.switch.now) < 2 ^ 32 = c.requires in
    omega arith

pub overflow_add-result-2 : goal.overflow_add-result-2
overflow_add-result-2 c =
    let all = lookup_length c.args.at c.args.switch.now in
    let same = ap (λ (xs : List Case). length xs) c.as_slice.ensures in
    let low : length ((lookup_switch c.args.at).spell c.args.switch.now) < 2 ^ 32 = c.requires in
    omega arith

pub returns : goal.returns
returns c =
    let all = lookup_length c.args.at c.args.switch.now in
    let same = ap (λ (xs : List Case). length xs) c.as_slice.ensures in
    let low : length ((lookup_switch c.args.at).spell c.args.switch.now) < 2 ^ 32 = c.requires in
    omega arith
