use Rattle.std.proofs.Common.{◌≡◌, length}
use Rattle.jperm.specs.Actions.{behind_blanks}
use Rattle.jperm.proofs.action.behind_blanks.Given as goal

abbrev pub invariant-loop-first : goal.invariant-loop-first
invariant-loop-first l = behind_blanks l.text ≡ behind_blanks l.fn.text

abbrev pub decreases-loop-first : goal.decreases-loop-first
decreases-loop-first l = length l.text
