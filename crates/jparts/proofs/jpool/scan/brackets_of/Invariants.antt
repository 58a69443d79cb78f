use Rattle.std.proofs.Common.{◌≡◌, ◌+◌, drop}
use Rattle.std.specs.List.{prefix_len}
use Rattle.jparts.specs.jpool.Descriptors.{is_bracket}
use Rattle.jparts.proofs.jpool.scan.brackets_of.Given as goal

abbrev pub invariant-loop-i : goal.invariant-loop-i
invariant-loop-i l = l.i + prefix_len is_bracket (drop l.i l.text) ≡ prefix_len is_bracket l.text
