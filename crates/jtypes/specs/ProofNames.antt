-- Names by which proofs and the contracts of inner functions call what the definitions say in place. What `javasec` and `dispatch` promise
-- reaches none of them.
use Rattle.std.specs.Prelude.{Bool, false, ◌&&◌}
use Rattle.jtypes.specs.declared.vtype.Name.{Name}
use Rattle.jtypes.specs.declared.vtype.Element.{Element}
use Rattle.jtypes.specs.declared.vtype.VType.{VType}
use Rattle.jtypes.specs.TypeFrames.{implies, is_long}
use Rattle.jtypes.specs.declared.vtype.Element.TheVariants as elements

-- ---- of Assignability

-- every array fits what an array of this element holds
abbrev pub is_above_array : (Name → Bool) → Element → Bool
is_above_array above = elim [ elements.Class c ↦ above c | _ ↦ false ]

-- ---- of TypeFrames

-- on the stack a long fits a long alone, so that Top stands for one place there
abbrev pub item_fits : (VType → VType → Bool) → VType → VType → Bool
item_fits f a b = f a b && implies (is_long a) (is_long b)
