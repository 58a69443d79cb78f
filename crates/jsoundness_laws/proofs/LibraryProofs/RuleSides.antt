-- The rules of both machines hand contexts over by their side.
use Rattle.std.proofs.Common.{ℕ, Bool, refl}
use Rattle.jperm.specs.declared.permission.Permission.{Permission}
use Rattle.jsemantics.specs.jrules.InspectingRules as inspecting
use Rattle.jsemantics.specs.jrules.PlainRules as plain
use Rattle.jsoundness_laws.specs.library.YieldLaws.{AreSided}

pub inspecting_sided : (has : ℕ → Permission → Bool) → AreSided (inspecting.rules has)
unfolding inspecting.rules
inspecting_sided has = record { first = refl; handed = λ domain ctx given limits entries. refl }

pub plain_sided : (has : ℕ → Permission → Bool) → AreSided (plain.rules has)
unfolding plain.rules
plain_sided has = record { first = refl; handed = λ domain ctx given limits entries. refl }
