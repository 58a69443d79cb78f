use Rattle.std.proofs.Common.{arith, sym}
use Rattle.jmove.proofs.CodeLayout.{last_ends, none_last}
use Rattle.jmove.proofs.moving.code_length.Goals as goal

pub size_at-requires : goal.size_at-requires
size_at-requires c = omega (arith, last_ends c.args.ops.now c.in-Some.one.now c.requires.is_code (sym c.in-Some.ensures.value), c.requires.short)

pub overflow_add-result : goal.overflow_add-result
overflow_add-result c = omega (arith, last_ends c.args.ops.now c.in-Some.one.now c.requires.is_code (sym c.in-Some.ensures.value), c.requires.short, c.size_at.ensures)

pub returns-in-None : goal.returns-in-None
returns-in-None c = sym (none_last c.args.ops.now (sym c.in-None.ensures.value))

pub returns-in-Some : goal.returns-in-Some
returns-in-Some c = omega (arith, last_ends c.args.ops.now c.in-Some.one.now c.requires.is_code (sym c.in-Some.ensures.value), c.size_at.ensures)
