use Rattle.std.proofs.Common.{◌≡◌, ◌+◌, ◌*◌, take, length}
use Rattle.jperm.specs.PermissionTexts.{parts}
use Rattle.joutput.specs.jtrace.TraceLines.{checked, texts, room}
use Rattle.joutput.proofs.JtraceProofs.ItemCounts.{joined}
use Rattle.joutput.proofs.jtrace.lines.check_parts.Given as goal

abbrev pub invariant-loop-at : goal.invariant-loop-at
invariant-loop-at l = record {
  size : length l.parts ≡ 16;
  bytes : texts (take (3 + l.at) l.parts) ≡ checked l.word l.thread (joined (take l.at (parts l.asked)));
  room : room (take (3 + l.at) l.parts) ≡ length l.word + 21 + 6 * length (joined (take l.at (parts l.asked)));
}
