use Rattle.std.proofs.Common.{ℕ, ◌*◌, ◌/◌, ◌%◌, ◌^◌, List, ap, arith}
use Rattle.std.specs.Int.RustNames.{bit_or}
use Rattle.jresolution.specs.jprogram.BitSets.{word_at}
use Rattle.jresolution.proofs.JprogramProofs.BitLaws.{puts}
use Rattle.jresolution.proofs.jprogram.sets.put.Goals as goal

pub returns : goal.returns
returns c =
    let long = c.in_ok-grow.ensures.long in
    puts c.args.words.now c.grow.new.words c.set.new.self c.args.number _ c.in_ok-grow.ensures.same (omega (arith, long)) (ap (λ (xs : List ℕ). bit_or (word_at xs (c.args.number / 64)) (1 * 2 ^ (c.args.number % 64) % 2 ^ 64)) c.as_slice.ensures) c.set.ensures
