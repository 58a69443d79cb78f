-- The rules of contexts are those of the passing side.
use Rattle.std.proofs.Common.{◌≡◌, ◌∙◌, ℕ, Bool, refl, sym}
use Rattle.jlib.specs.declared.side.Side.{Side}
use Rattle.jlib.specs.declared.side.Side.TheVariants.{Passing}
use Rattle.jperm.specs.declared.permission.Permission.{Permission}
use Rattle.jsemantics.specs.jrules.PlainRules.{rules as plain}

on_passing : (has : ℕ → Permission → Bool) → (plain has).side ≡ Passing
unfolding plain
on_passing has = refl

pub same_side : (has : ℕ → Permission → Bool) (side : Side) → side ≡ Passing → (plain has).side ≡ side
same_side has side is = on_passing has ∙ sym is
