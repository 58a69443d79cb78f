-- Branches that test references.
use Rattle.std.specs.Prelude.{◌≡◌, ℕ, Bool, true, false, List, Option, Some, None, is_some}
use Rattle.jparts.specs.declared.jcode.names.RefTest.{RefTest}
use Rattle.jparts.specs.declared.jcode.names.RefTest.TheVariants as tests
use Rattle.jparts.specs.jcode.InstructionForms.{compared}
use Rattle.jvalues.specs.declared.jops.value.Value.{Value}
use Rattle.jvalues.specs.declared.jops.value.Value.TheVariants.{Ref}
use Rattle.jtyping.specs.jrule.StackEffects.{of_kinds}
use Rattle.jsemantics.specs.jmachine.TakenOperands.{taken}
use Rattle.jsemantics.specs.jmachine.InstructionSites.{Site}
use Rattle.jsemantics.specs.jmachine.Store.{Store}

abbrev pub null_test : Bool → RefTest
null_test true = tests.Null
null_test false = tests.NonNull

abbrev pub same_test : Bool → RefTest
same_test true = tests.Same
same_test false = tests.Other

-- the number of a reference
abbrev pub ref_in : Option (Value ℕ) → Option ℕ
ref_in (Some (Ref n)) = Some n
ref_in v = None

-- The operands serve for what is tested, or they don't.
abbrev pub ServeTest : Site → Store ℕ → RefTest → List (Value ℕ) → Bool → Type 0
ServeTest at s test operands serve = is_some (taken at.world s (of_kinds (compared test)) operands) ≡ serve
