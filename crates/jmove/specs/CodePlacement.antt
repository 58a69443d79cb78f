-- What holds of lines, and of code by its places.
use Rattle.std.specs.Prelude.{◌≡◌, ◌≤◌, ℕ, List, ◌++◌, map, length, IsTrue}
use Rattle.jparts.specs.declared.jcode.op.Op.{Op}
use Rattle.jparts.specs.declared.jcode.op.Placed.{Placed}
use Rattle.jparts.specs.jcode.Instructions.{code}
use Rattle.jmove.specs.AssemblyLines.{Line, Do, reach, end_of, place_of, Laid}

-- Lines go on behind the instructions that stand in front of them,
abbrev pub EndBehind : Type 0
EndBehind = (at from : ℕ) (os : List Op) (rest : List Line) → end_of at (map (Do from) os ++ rest) ≡ end_of (reach at os) rest

-- among which there is no label.
abbrev pub PlaceBehind : Type 0
PlaceBehind = (old at from : ℕ) (os : List Op) (rest : List Line) → place_of old at (map (Do from) os ++ rest) ≡ place_of old (reach at os) rest

-- They end where they begin or behind it,
abbrev pub EndAbove : Type 0
EndAbove = (at : ℕ) (ls : List Line) → at ≤ end_of at ls

-- and no label lies behind their end.
abbrev pub PlaceWithin : Type 0
PlaceWithin = (old at : ℕ) (ls : List Line) → place_of old at ls ≤ end_of at ls

-- The instructions of code stand one behind the other, from place 0 to its length.
abbrev pub CodeLaid : Type 0
CodeLaid = (is : List Placed) → IsTrue (code.fits is) → Laid 0 is (length (code.spell is))
