use Rattle.std.proofs.Common.{◌≡◌, ◌≤◌, take, length}
use Rattle.jperm.specs.PermissionTexts.{parts}
use Rattle.joutput.proofs.JtraceProofs.ItemCounts.{joined}
use Rattle.joutput.proofs.jtrace.lines.is_short_permission.Given as goal

abbrev pub invariant-loop-at : goal.invariant-loop-at
invariant-loop-at l = record {
  counted : l.units ≡ length (joined (take l.at (parts l.asked)));
  few : l.units ≤ 4294967295;
}
