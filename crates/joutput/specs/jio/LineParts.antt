-- A line of several parts.
use Rattle.std.specs.Prelude.{ℕ, ◌+◌, ◌*◌, List, [], ◌∷◌, ◌++◌, length, decimal}
use Rattle.joutput.specs.declared.jio.parts.Part.{Part}
use Rattle.joutput.specs.declared.jio.parts.Part.TheVariants.{Plain, Text, Number}
use Rattle.joutput.specs.jio.TextOutput.{written}

-- What a part writes.
abbrev pub part_of : Part → List ℕ
part_of (Plain text) = text.now
part_of (Text units) = written units.now
part_of (Number number) = decimal number

-- The parts one behind the other, and a line feed.
abbrev pub line_of : List Part → List ℕ
line_of [] = 10 ∷ []
line_of (part ∷ parts) = part_of part ++ line_of parts

-- No more bytes than these are in a part.
abbrev pub part_room : Part → ℕ
part_room (Plain text) = length text.now
part_room (Text units) = 6 * length units.now
part_room (Number number) = 20

-- No more bytes than these are in the line.
abbrev pub room_of : List Part → ℕ
room_of [] = 1
room_of (part ∷ parts) = part_room part + room_of parts
