use Rattle.std.proofs.Common.{ℕ, List, ap, arith, ◌≡◌, ◌∙◌, length}
use Rattle.std.specs.Int.RustNames.{bit_or}
use Rattle.jresolution.specs.jprogram.BitSets.{word_at}
use Rattle.jresolution.proofs.JprogramProofs.BitLaws.{joined_next, joined_none, joins, set_length}
use Rattle.jresolution.proofs.jprogram.sets.join.Goals as goal

pub loop-i-init : goal.loop-i-init
loop-i-init c = (c.in_ok-grow.ensures.long, joined_none c.args.other.now c.args.words.now c.grow.new.words c.in_ok-grow.ensures.same)

pub loop-i-preserved : goal.loop-i-preserved
loop-i-preserved c =
    let long = c.loop-i.invariant.0 in
    let here = c.loop-i-test.true in
    let size : length c.set.new.self ≡ length c.loop-i.words = ap (λ (xs : List ℕ). length xs) c.set.ensures ∙ set_length c.loop-i.words c.loop-i.i _ in (
      omega (arith, long, size),
      joined_next c.args.other.now c.args.words.now c.loop-i.words c.set.new.self c.loop-i.i _ c.loop-i.invariant.1 (omega (arith, long, here)) (ap (λ (xs : List ℕ). bit_or (word_at xs c.loop-i.i) (word_at c.args.other.now c.loop-i.i)) c.as_slice.ensures) c.set.ensures,
    )

pub returns : goal.returns
returns c = joins c.args.other.now c.args.words.now c.loop-i.words c.loop-i.i c.loop-i.invariant.1 c.loop-i-test.false
