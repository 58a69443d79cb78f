-- The rule of moves of the stack (JVMS 4.10.1.9). A long is an item of two slots, any other an item of one. Of Top it isn't known
-- which it is, so that no item stands there or below.
use Rattle.std.specs.Prelude.{ℕ, ◌++◌, List, [], ◌∷◌, drop, Option, option_map, option_and_then, if◌then◌else◌}
use Rattle.jvalues.specs.declared.jnames.names.Shuffle.{Shuffle}
use Rattle.jvalues.specs.jops.Shuffles.{Item, One, Two, shuffle}
use Rattle.jtypes.specs.declared.vtype.VType.{VType}
use Rattle.jtypes.specs.TypeFrames.{Frame, is_long}
use Rattle.jtyping.specs.jrule.LocalRule.{is_top}
use Rattle.jtyping.specs.jrule.StackOperands.{with_room}

abbrev pub item : VType → Item VType
item a = if is_long a then Two a else One a

-- the newest first
unfoldable pub items : List VType → List (Item VType)
items [] = []
items (a ∷ stack) = if is_top a then [] else item a ∷ items stack

abbrev pub move : ℕ → Shuffle → Frame → Option Frame
move most s f = option_and_then (with_room most f) (option_map (λ m. m.put ++ drop m.taken f.stack) (shuffle s (items f.stack)))
