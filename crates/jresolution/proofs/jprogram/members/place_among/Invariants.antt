use Rattle.std.proofs.Common.{◌≡◌, ◌+◌, drop}
use Rattle.std.specs.List.{position_or_len}
use Rattle.jresolution.specs.jprogram.ClassFileParts.{is_called}
use Rattle.jresolution.proofs.jprogram.members.place_among.Given as goal

abbrev pub invariant-loop-i : goal.invariant-loop-i
invariant-loop-i l = l.i + position_or_len (is_called l.class l.name l.desc) (drop l.i l.members) ≡ position_or_len (is_called l.class l.name l.desc) l.members
