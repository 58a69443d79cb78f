use Rattle.std.proofs.Common.{◌≡◌, length}
use Rattle.jpolicy.specs.Tokens.{behind_comment}
use Rattle.jpolicy.proofs.lexing.behind_comment.Given as goal

abbrev pub invariant-loop-rest : goal.invariant-loop-rest
invariant-loop-rest l = behind_comment l.rest ≡ behind_comment l.text

abbrev pub decreases-loop-rest : goal.decreases-loop-rest
decreases-loop-rest l = length l.rest
