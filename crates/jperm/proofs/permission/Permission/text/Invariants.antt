use Rattle.std.proofs.Common.{◌≡◌, ◌++◌, drop}
use Rattle.jperm.specs.PermissionTexts.{parts, text_of}
use Rattle.jperm.proofs.TextParts.{in_a_row}
use Rattle.jperm.proofs.permission.Permission.text.Given as goal

abbrev pub invariant-loop-at : goal.invariant-loop-at
invariant-loop-at l = l.text.items ++ in_a_row (drop l.at (parts l.self)) ≡ text_of l.self
