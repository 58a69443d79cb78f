use Rattle.std.proofs.Common.{◌≡◌, length, reverse}
use Rattle.jperm.specs.Actions.{behind_blanks}
use Rattle.jperm.proofs.action.before_blanks.Given as goal

abbrev pub invariant-loop-last : goal.invariant-loop-last
invariant-loop-last l = behind_blanks (reverse l.text) ≡ behind_blanks (reverse l.fn.text)

abbrev pub decreases-loop-last : goal.decreases-loop-last
decreases-loop-last l = length l.text
