-- The inspecting rules are those of the source side.
use Rattle.std.proofs.Common.{◌≡◌, ◌∙◌, ℕ, Bool, refl, sym}
use Rattle.jlib.specs.declared.side.Side.{Side}
use Rattle.jlib.specs.declared.side.Side.TheVariants.{Source}
use Rattle.jperm.specs.declared.permission.Permission.{Permission}
use Rattle.jsemantics.specs.jrules.InspectingRules.{rules as inspecting}

on_source : (has : ℕ → Permission → Bool) → (inspecting has).side ≡ Source
unfolding inspecting
on_source has = refl

pub same_side : (has : ℕ → Permission → Bool) (side : Side) → side ≡ Source → (inspecting has).side ≡ side
same_side has side is = on_source has ∙ sym is
