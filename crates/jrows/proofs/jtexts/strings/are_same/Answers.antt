use Rattle.std.proofs.Common.{◌∙◌, arith, sym}
use Rattle.jmemory.specs.jheap.Heaps.{cells_at}
use Rattle.jrows.proofs.JtextsProofs.Units.{differs, same_on}
use Rattle.jrows.proofs.jtexts.strings.are_same.Goals as goal

pub returns-then-unit : goal.returns-then-unit
returns-then-unit c =
    differs (cells_at c.args.heap.now c.args.a) (cells_at c.args.heap.now c.args.b) c.loop-i.i _ (omega (arith, c.loop-i-test.true, c.len-count.ensures))
    (omega (arith, c.loop-i-test.true, c.len.ensures, c.if-len-count.false)) (λ e. c.if-unit.true (c.unit.ensures ∙ e ∙ sym c.unit-in-loop-i.ensures)) c.loop-i.invariant

pub loop-i-preserved : goal.loop-i-preserved
loop-i-preserved c =
    same_on (cells_at c.args.heap.now c.args.a) (cells_at c.args.heap.now c.args.b) c.loop-i.i _ (omega (arith, c.loop-i-test.true, c.len-count.ensures))
    (omega (arith, c.loop-i-test.true, c.len.ensures, c.if-len-count.false)) (sym c.unit.ensures ∙ c.if-unit.false ∙ c.unit-in-loop-i.ensures) c.loop-i.invariant
