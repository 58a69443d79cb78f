use Rattle.std.proofs.Common.{◌≡◌, ◌+◌, drop}
use Rattle.std.specs.List.{position_or_len}
use Rattle.jparts.specs.jpool.Descriptors.{is_semicolon}
use Rattle.jparts.proofs.jpool.scan.semicolon_of.Given as goal

abbrev pub invariant-loop-i : goal.invariant-loop-i
invariant-loop-i l = l.i + position_or_len is_semicolon (drop l.i l.text) ≡ position_or_len is_semicolon l.text
