-- How many bytes moved code has.
use Rattle.std.specs.Prelude.{◌≡◌, ℕ, ℤ, List}
use Rattle.jparts.specs.declared.jcode.op.Op.{Op}
use Rattle.jparts.specs.jcode.Instructions.{size}
use Rattle.jmove.specs.AssemblyLines.{Line, end_of, with_branches, assembled, Laid}

-- An instruction has as many bytes with other distances of its branches.
abbrev pub SameSize : Type 0
SameSize = (f : ℤ → ℤ) (at : ℕ) (op : Op) → size at (with_branches f op) ≡ size at op

-- What lines stand for stands one behind the other, from place 0 to the place behind the lines.
abbrev pub StandsLaid : Type 0
StandsLaid = (ls : List Line) → Laid 0 (assembled ls) (end_of 0 ls)
