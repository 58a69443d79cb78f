-- Names by which proofs and the contracts of inner functions call what the definitions say in place. What `javasec` and `dispatch` promise
-- reaches none of them.
use Rattle.std.specs.Prelude.{◌∷◌, [], pos, length, Bool, List, ℕ, true, codes, false, ℤ, option_and_then, slice_get, ◌==◌, if◌then◌else◌, Option, Some, None}
use Rattle.std.specs.Str.{byte}
use Rattle.jvalues.specs.declared.jops.value.Value.TheVariants.{Int, Ref}
use Rattle.jresolution.specs.juses.InstructionMeanings.{CallMeaning}
use Rattle.jlib.specs.declared.classes.LibClass.{LibClass}
use Rattle.jdomain.specs.DomainStacks.{Unmarked}
use Rattle.jvalues.specs.declared.jops.value.Value.{Value}
use Rattle.jparts.specs.declared.jcode.names.RefTest.{RefTest}
use Rattle.jresolution.specs.declared.jprogram.member.CallKind.TheVariants as kinds
use Rattle.jlib.specs.declared.classes.LibClass.TheVariants as lib
use Rattle.jlib.specs.declared.classes.Thrown.TheVariants as thrown
use Rattle.jparts.specs.declared.jcode.names.RefTest.TheVariants as refs
use Rattle.jvalues.specs.jops.Operations as operations
use Rattle.jvalues.specs.declared.jnames.names.Compare.TheVariants as compares
use Rattle.jperm.specs.declared.permission.Permission as perms
use Rattle.jsemantics.specs.jmachine.Store.{Store}
use Rattle.jsemantics.specs.jmachine.ArrayInstructions.{Items}
use Rattle.jsemantics.specs.jmachine.MachineStates.{Row, gives}
use Rattle.jsemantics.specs.jmachine.World.{World}
use Rattle.jsemantics.specs.jmachine.HeapObjects.{Object, id_of, Text, Builder}
use Rattle.jsemantics.specs.jmachine.CallTargets.{Target, reached}
use Rattle.jsemantics.specs.jmachine.TextCalls.{unit_given}
use Rattle.jsemantics.specs.jmachine.Narrowing.{place}
use Rattle.jsemantics.specs.jrules.InspectingRules.{Carried}
use Rattle.jsemantics.specs.jmachine.PrivilegeActions.{all_limits}

-- ---- of jmachine.ArrayInstructions

abbrev pub length_row : {K E : Type 0} → Store K → Items K → Row K E
length_row s x = gives s (Int (pos (length x.items)) ∷ [])

-- ---- of jmachine.CallTargets

abbrev pub by_class : {K : Type 0} → World → Bool → CallMeaning → Object K → Target
by_class w full c x = reached full (w.select (id_of x) c.member kinds.Virtual)

abbrev pub null_pointer : LibClass
null_pointer = lib.Thrown thrown.NullPointerException

-- ---- of jmachine.TextCalls

-- the word of a boolean, of which is told whether its int is 0
abbrev pub zero_text : Bool → List ℕ
zero_text = elim [ true ↦ codes "false" | false ↦ codes "true" ]

abbrev pub char_at : {K E : Type 0} → Store K → ℤ → List ℕ → Row K E
char_at s i us = unit_given s (option_and_then (slice_get us) (place i))

-- ---- of jmachine.Unwinding

abbrev pub dotted : ℕ → ℕ
dotted u = if u == byte "/" then byte "." else u

-- ---- of jrules.InspectingRules

abbrev pub unmarked : ℕ → Carried
unmarked d = record { domain = d; mark = Unmarked }

-- ---- of jmachine.LibraryCalls

-- the constructor of Object does nothing
abbrev pub object_init : {K E : Type 0} → Store K → List (Value K) → Option (Row K E)
object_init s (v ∷ []) = Some (gives s [])
object_init s values = None

-- ---- of jmachine.BasicInstructions

abbrev pub compared : {K : Type 0} → RefTest → List (Value K) → Option Bool
compared refs.Same (b ∷ a ∷ []) = operations.test compares.Eq a b
compared refs.Other (b ∷ a ∷ []) = operations.test compares.Ne a b
compared refs.Null (a ∷ []) = operations.test compares.Eq a (Ref 0)
compared refs.NonNull (a ∷ []) = operations.test compares.Ne a (Ref 0)
compared test values = None

-- ---- of jmachine.TextCalls

abbrev pub units_in : {K : Type 0} → Option (Object K) → Option (List ℕ)
units_in (Some (Text units)) = units
units_in x = None

abbrev pub built_in : {K : Type 0} → Option (Object K) → Option (List ℕ)
built_in (Some (Builder us)) = Some us
built_in x = None

-- ---- of jmachine.PrivilegeActions

abbrev pub limits_in : {K : Type 0} → Store K → Option (Items K) → Option (Option (List perms.Permission))
limits_in s y = elim y [ None ↦ None | Some x ↦ all_limits s x.items ]
