use Rattle.std.proofs.Common.{ℕ, ◌+◌, ◌<◌, List, ◌++◌, length, take, refl, sym, ap, ◌∙◌, arith}
use Rattle.std.specs.Prelude.{codes, decimal}
use Rattle.std.proofs.Math.ListN.{length-set}
use Rattle.joutput.specs.jio.TextOutput.{written}
use Rattle.jperm.specs.PermissionTexts.{parts}
use Rattle.joutput.proofs.JtraceProofs.ItemCounts.{joined, joined_more, counted_more}
use Rattle.joutput.proofs.JtraceProofs.CheckLineParts.{next_texts, next_room}
use Rattle.joutput.proofs.jtrace.lines.check_parts.Goals as goal

pub loop-at-init : goal.loop-at-init
unfolding written
loop-at-init c = record {
  size = refl;
  bytes = ap (λ (n : ℕ). c.args.word.now ++ (decimal n ++ codes " ")) c.from.ensures;
  room = omega arith;
}

pub loop-at-preserved : goal.loop-at-preserved
loop-at-preserved c =
    let all = parts c.args.asked.now in
    let at = c.loop-at.at in
    let before = joined (take at all) in
    let after = joined (take (at + 1) all) in
    let there : at < length all = omega (arith, c.text_laws.ensures.count c.args.asked.now, c.loop-at-test.true) in
    let free : 3 + at < length c.loop-at.parts = omega (arith, c.loop-at.invariant.size, c.loop-at-test.true) in
    record {
      size = length-set c.loop-at.parts (3 + at) _ ∙ c.loop-at.invariant.size;
      bytes = next_texts c.loop-at.parts (3 + at) (3 + (at + 1)) _ c.args.word.now c.args.thread before c.part.result.now after (omega arith) free c.loop-at.invariant.bytes refl (joined_more all at there ∙ ap (λ (x : List ℕ). before ++ x) (sym c.part.ensures));
      room = next_room c.loop-at.parts (3 + at) (3 + (at + 1)) _ (length c.args.word.now + 21) (length before) (length c.part.result.now) (length after) (omega arith) free c.loop-at.invariant.room refl (counted_more all at there ∙ ap (λ (x : List ℕ). length before + length x) (sym c.part.ensures));
    }
