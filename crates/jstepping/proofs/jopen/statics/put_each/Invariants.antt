use Rattle.std.proofs.Common.{◌-◌, length, take}
use Rattle.jstepping.specs.jopen.StaticRows.{values_of}
use Rattle.jstepping.specs.jopen.OpeningTexts.{HasSet}
use Rattle.jstepping.proofs.jopen.statics.put_each.Given as goal

abbrev pub invariant-loop-i : goal.invariant-loop-i
invariant-loop-i l =
    HasSet (values_of l.constants.program l.constants.constants (take l.i l.rows)) (length l.rows - l.i) l.initial.heap l.heap
