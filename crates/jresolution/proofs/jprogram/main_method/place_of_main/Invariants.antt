use Rattle.std.proofs.Common.{◌≡◌, ◌+◌, drop}
use Rattle.std.specs.List.{position_or_len}
use Rattle.jresolution.specs.jprogram.MemberResolution.{is_main}
use Rattle.jresolution.proofs.jprogram.main_method.place_of_main.Given as goal

abbrev pub invariant-loop-i : goal.invariant-loop-i
invariant-loop-i l = l.i + position_or_len (is_main l.side l.class) (drop l.i l.methods) ≡ position_or_len (is_main l.side l.class) l.methods
