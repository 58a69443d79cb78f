-- Operands that serve, by number.
use Rattle.std.specs.Prelude.{◌≡◌, ℕ, Bool, true, false, ◌&&◌, List, [], ◌∷◌, Option, Some, None, is_some, option_map}
use Rattle.jvalues.specs.declared.jops.value.Value.{Value}
use Rattle.jresolution.specs.jprogram.ProgramClasses.{Program}
use Rattle.jtyping.specs.jrule.StackEffects.{Fits, Want}
use Rattle.jtyping.specs.jrule.PoolEffects.{throwable}
use Rattle.jresolution.specs.juses.InternedTypes.{named}
use Rattle.jsemantics.specs.jmachine.TakenOperands.{Taken, taken, serves_as}
use Rattle.jsemantics.specs.jmachine.InstructionSites.{Site}
use Rattle.jsemantics.specs.jmachine.Store.{Store}
use Rattle.jsemantics.specs.jmachine.World.{world}
use Rattle.jrows.specs.jcalls.MethodCalls.{took}
use Rattle.jserving.specs.declared.jserve.values.Objects.{Objects}
use Rattle.jserving.specs.jserve.ValueTypes.{type_in}

-- a value serves where this is wanted
abbrev pub serves_in : Program → Objects → Want → Value ℕ → Bool
serves_in p x want v = serves_as (world p) want (option_map (named p) (type_in x v))

-- the newest operands serve for what is wanted
unfoldable pub all_serve : (Want → Value ℕ → Bool) → List Want → List (Value ℕ) → Bool
all_serve f [] operands = true
all_serve f (want ∷ wants) [] = false
all_serve f (want ∷ wants) (v ∷ operands) = f want v && all_serve f wants operands

-- an operand serves, if it is there
abbrev pub one_serves : (Want → Value ℕ → Bool) → Want → Option (Value ℕ) → Bool
one_serves f want None = false
one_serves f want (Some v) = f want v

-- so many operands, if they serve
abbrev pub took_if : ℕ → List (Value ℕ) → Bool → Option (Taken ℕ)
took_if count operands true = Some (took count operands)
took_if count operands false = None

-- what is thrown serves, or it doesn't
abbrev pub ServeThrown : Site → Store ℕ → List (Value ℕ) → Bool → Type 0
ServeThrown at s operands serve = is_some (taken at.world s (Fits throwable ∷ []) operands) ≡ serve
