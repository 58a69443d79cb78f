use Rattle.std.proofs.Common.{ℤ, ◌<◌, ◌^◌, List, length, ap, arith}
use Rattle.jparts.specs.jcode.OperandFormats.{table_switch}
use Rattle.jparts.proofs.JcodeProofs.Sizes.{table_length}
use Rattle.jparts.proofs.jcode.sizing.table_size.Goals as goal

pub overflow_cast-result : goal.overflow_cast-result
overflow_cast-result c =
    let all = table_length c.args.at c.args.switch.now in
    let same = ap (λ (xs : List ℤ). length xs) c.as_slice.ensures in
    let low : length ((table_switch c.args.at).spell c.args.switch.now) < 2 ^ 32 = c.requires in
    omega arith

pub overflow_mul-result : goal.overflow_mul-result
overflow_mul-result c =
    let all = table_length c.args.at c.args.switch.now in
    let same = ap (λ (xs : List ℤ). length xs) c.as_slice.ensures in
    let low : length ((table_switch c.args.at).spell c.args.switch.now) < 2 ^ 32 = c.requires in
    omega arith

pub overflow_add-result : goal.overflow_add-result
overflow_add-result c =
    let all = table_length c.args.at c.args.switch.now in
    let same = ap (λ (xs : List ℤ). length xs) c.as_slice.ensures in
    let low : length ((table_switch c.args.at).spell c.args.switch.now) < 2 ^ 32 = c.requires in
    omega arith

pub overflow_add-result-2 : goal.overflow_add-result-2
overflow_add-result-2 c =
    let all = table_length c.args.at c.args.switch.now in
    let same = ap (λ (xs : List ℤ). length xs) c.as_slice.ensures in
    let low : length ((table_switch c.args.at).spell c.args.switch.now) < 2 ^ 32 = c.requires in
    omega arith

pub returns : goal.returns
returns c =
    let all = table_length c.args.at c.args.switch.now in
    let same = ap (λ (xs : List ℤ). length xs) c.as_slice.ensures in
    let low : length ((table_switch c.args.at).spell c.args.switch.now) < 2 ^ 32 = c.requires in
    omega arith
