-- Rows of the constructors of permissions (class documentation of these).
use Rattle.std.specs.Prelude.{ℕ, zero, List, [], ◌∷◌, Option, Some, None, option_map, option_and_then, Result, Ok, Err}
use Rattle.jperm.specs.declared.permission.Permission as perms
use Rattle.jperm.specs.declared.making.PermClass.{PermClass}
use Rattle.jperm.specs.declared.making.PermClass.TheVariants as classes
use Rattle.jperm.specs.declared.making.PermError.{PermError}
use Rattle.jperm.specs.declared.making.PermError.TheVariants.{NoName}
use Rattle.jperm.specs.PermissionConstructors.{made}
use Rattle.jlib.specs.declared.calls.PermissionInit.{PermissionInit}
use Rattle.jlib.specs.declared.calls.PermissionInit.TheVariants as inits
use Rattle.jlib.specs.declared.classes.Thrown.TheVariants as thrown
use Rattle.jlib.specs.declared.classes.LibClass.{LibClass}
use Rattle.jlib.specs.declared.classes.LibClass.TheVariants as lib
use Rattle.jvalues.specs.declared.jops.value.Value.{Value}
use Rattle.jvalues.specs.declared.jops.value.Value.TheVariants.{Ref}
use Rattle.jsemantics.specs.jmachine.HeapObjects.{Object, Permission}
use Rattle.jsemantics.specs.jmachine.Store.{Store, object_at, with_object}
use Rattle.jsemantics.specs.jmachine.MachineStates.{Row, gives, raises}
use Rattle.jsemantics.specs.jmachine.TextCalls.{units}

-- ---- what a constructor is given

pub record Given : Type 0 where
  pub name : Option (List ℕ)
  pub actions : Option (List ℕ)
  -- the number of the object
  pub object : ℕ

-- a string, or null
abbrev pub text : {K : Type 0} → Store K → Value K → Option (Option (List ℕ))
text s (Ref zero) = Some None
text s v = option_map Some (units s v)

abbrev pub named : {K : Type 0} → Store K → ℕ → Value K → Option Given
named s n name = option_map (λ x. record { name = x; actions = None; object = n }) (text s name)

abbrev pub named_with : {K : Type 0} → Store K → ℕ → Value K → Value K → Option Given
named_with s n name actions = option_and_then (λ x. option_map (λ y. record { name = x; actions = y; object = n }) (text s actions)) (text s name)

abbrev pub number_of : {K : Type 0} → Value K → Option ℕ
number_of x = elim x [ Ref n ↦ Some n | _ ↦ None ]

abbrev pub bare : ℕ → Given
bare n = record { name = None; actions = None; object = n }

-- nothing, a name, or a name and actions
abbrev pub given : {K : Type 0} → Store K → List (Value K) → Option Given
given s (v ∷ []) = option_map bare (number_of v)
given s (name ∷ v ∷ []) = option_and_then (λ n. named s n name) (number_of v)
given s (actions ∷ name ∷ v ∷ []) = option_and_then (λ n. named_with s n name actions) (number_of v)
given s values = None

-- ---- what it makes

abbrev pub class_of : PermissionInit → PermClass
class_of inits.All = classes.All
class_of inits.Runtime = classes.Runtime
class_of inits.RuntimeActions = classes.Runtime
class_of inits.Security = classes.Security
class_of inits.SecurityActions = classes.Security
class_of inits.Property = classes.Property
class_of inits.File = classes.File

-- a name that is null, and any other fault
abbrev pub fault_class : PermError → LibClass
fault_class = elim [ NoName ↦ lib.Thrown thrown.NullPointerException | _ ↦ lib.Thrown thrown.IllegalArgumentException ]

abbrev pub with_value : {K : Type 0} → perms.Permission → Option (Object K) → Option (Object K)
with_value p (Some (Permission c old)) = Some (Permission c (Some p))
with_value p x = None

abbrev pub constructed : {K E : Type 0} → Store K → ℕ → Result perms.Permission PermError → Option (Row K E)
constructed s n (Ok p) = option_map (λ x. gives (with_object s n x) []) (with_value p (object_at s n))
constructed s n (Err e) = Some (raises (fault_class e))

abbrev pub made_in : {K E : Type 0} → Store K → List ℕ → PermissionInit → Given → Option (Row K E)
made_in s cwd call g = constructed s g.object (made (class_of call) g.name g.actions cwd)

-- the names of files are read in a directory
unfoldable pub init : {K E : Type 0} → Store K → List ℕ → PermissionInit → List (Value K) → Option (Row K E)
init s cwd call values = option_and_then (made_in s cwd call) (given s values)
