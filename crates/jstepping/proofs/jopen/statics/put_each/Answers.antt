use Rattle.std.proofs.Common.{◌≡◌, ◌-◌, ℕ, length, ap, sym, ◌∙◌, arith}
use Rattle.std.specs.Prelude.{replicate}
use Rattle.jstepping.specs.jopen.StaticRows.{row_value}
use Rattle.jstepping.proofs.JopenProofs.InitialHeap.{set_begin, set_next}
use Rattle.jstepping.proofs.jopen.statics.put_each.Goals as goal

pub loop-i-init : goal.loop-i-init
loop-i-init c =
    let all : length c.args.rows.now - 0 ≡ length c.args.rows.now = omega arith in
    set_begin (length c.args.rows.now - 0) c.args.heap.now (c.requires.none ∙ ap (λ (n : ℕ). replicate n 0) (sym all))

pub loop-i-preserved : goal.loop-i-preserved
loop-i-preserved c =
    let made = c.args.constants.now in
    set_next c.args.rows.now (row_value made.program made.constants) c.loop-i.i _ c.in_ok-value.value c.args.heap.now c.loop-i.heap c.put.new.heap
    c.loop-i-test.true c.loop-i.invariant c.in_ok-value.ensures c.put.ensures.sets c.put.ensures.back
