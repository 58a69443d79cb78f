use Rattle.std.proofs.Common.{◌≡◌, ◌++◌, drop}
use Rattle.jgen.specs.GeneratedFiles.{grants}
use Rattle.jgen.proofs.texts.policy_text.Given as goal

abbrev pub invariant-loop-i : goal.invariant-loop-i
invariant-loop-i l = l.out ++ grants l.i (drop l.i l.kinds) ≡ grants 0 l.kinds
