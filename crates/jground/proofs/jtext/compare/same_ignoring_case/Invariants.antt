use Rattle.std.proofs.Common.{◌≡◌, drop}
use Rattle.jground.specs.jtext.Texts.{same_ignoring_case}
use Rattle.jground.proofs.jtext.compare.same_ignoring_case.Given as goal

abbrev pub invariant-loop-i : goal.invariant-loop-i
invariant-loop-i l = same_ignoring_case (drop l.i l.text) (drop l.i l.word) ≡ same_ignoring_case l.text l.word
