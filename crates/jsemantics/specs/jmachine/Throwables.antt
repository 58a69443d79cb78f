-- Rows of the constructors of what can be thrown, and of getMessage (class documentation of Throwable).
use Rattle.std.specs.Prelude.{ℕ, List, [], ◌∷◌, Option, Some, None, option_map}
use Rattle.jlib.specs.declared.calls.ThrownInit.{ThrownInit}
use Rattle.jlib.specs.declared.calls.ThrownInit.TheVariants as given
use Rattle.jvalues.specs.declared.jops.value.Value.{Value}
use Rattle.jvalues.specs.declared.jops.value.Value.TheVariants.{Ref}
use Rattle.jsemantics.specs.jmachine.HeapObjects.{Object, Instance, Thrown}
use Rattle.jsemantics.specs.jmachine.Store.{Store, object_at, with_object}
use Rattle.jsemantics.specs.jmachine.MachineStates.{Row, gives}

abbrev pub with_message : {K : Type 0} → ℕ → Option (Object K) → Option (Object K)
with_message m (Some (Instance class old fields)) = Some (Instance class m fields)
with_message m (Some (Thrown c old)) = Some (Thrown c m)
with_message m x = None

abbrev pub message_of : {K : Type 0} → Option (Object K) → Option ℕ
message_of (Some (Instance class m fields)) = Some m
message_of (Some (Thrown c m)) = Some m
message_of x = None

-- the object of a number has a message
abbrev pub told : {K E : Type 0} → Store K → ℕ → ℕ → Option (Row K E)
told s n m = option_map (λ x. gives (with_object s n x) []) (with_message m (object_at s n))

unfoldable pub init : {K E : Type 0} → Store K → ThrownInit → List (Value K) → Option (Row K E)
init s given.Message (Ref m ∷ Ref n ∷ []) = told s n m
init s given.Nothing (Ref n ∷ []) = told s n 0
init s how values = None

unfoldable pub message : {K E : Type 0} → Store K → List (Value K) → Option (Row K E)
message s (Ref n ∷ []) = option_map (λ m. gives s (Ref m ∷ [])) (message_of (object_at s n))
message s values = None
