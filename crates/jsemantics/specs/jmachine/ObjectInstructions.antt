-- Rows of instructions that push constants, make objects and look at their classes (JVMS 6.5: ldc, ldc2_w, new, checkcast, instanceof).
use Rattle.std.specs.Prelude.{ℕ, zero, ◌+◌, pos, Bool, true, false, List, [], ◌∷◌, length, map, Option, Some, None, option_map}
use Rattle.std.specs.Result.{result_unwrap_or}
use Rattle.jground.specs.jtext.Modified as modified
use Rattle.jlib.specs.declared.classes.Thrown.TheVariants as thrown
use Rattle.jlib.specs.declared.classes.LibClass.{LibClass}
use Rattle.jlib.specs.declared.classes.LibClass.TheVariants as lib
use Rattle.jtypes.specs.declared.vtype.Name.{Name}
use Rattle.jtypes.specs.declared.vtype.VType.{VType}
use Rattle.jvalues.specs.declared.jops.value.Value.{Value}
use Rattle.jvalues.specs.declared.jops.value.Value.TheVariants.{Int, Long, Ref}
use Rattle.jparts.specs.declared.jcode.names.CastOp.{CastOp}
use Rattle.jparts.specs.declared.jcode.names.CastOp.TheVariants as casts
use Rattle.jresolution.specs.declared.jprogram.part.ClassRef.{ClassRef}
use Rattle.jresolution.specs.declared.jprogram.part.ClassRef.TheVariants as refs
use Rattle.jresolution.specs.juses.InstructionMeanings as meanings
use Rattle.jresolution.specs.juses.InstructionMeanings.{Pushed}
use Rattle.jsemantics.specs.jmachine.HeapObjects.{Object, Instance, Thrown, Text, Builder, Permission, Context, Thread, Bare}
use Rattle.jsemantics.specs.jmachine.Store.{Store, constant_at, next_number, with_constant, with_made}
use Rattle.jsemantics.specs.jmachine.MachineStates.{Row, Goes, cells_of, costs, gives, raises, two}
use Rattle.jsemantics.specs.jmachine.Narrowing.{default}
use Rattle.jsemantics.specs.jmachine.TakenOperands.{type_of}
use Rattle.jsemantics.specs.jmachine.World.{World, can_be_thrown, is_instance}

-- ---- constants

-- the units of a text that a class file holds
unfoldable pub units_of : List ℕ → List ℕ
units_of bytes = result_unwrap_or (modified.text.read bytes) []

-- a new string
abbrev pub text_made : {K E : Type 0} → Store K → List ℕ → Row K E
text_made s units = costs (cells_of (length units)) (Goes (with_made s (Text (Some units))) (Ref (next_number s) ∷ []) [])

-- a string constant is made when it is first loaded; later loads give the same object
abbrev pub text_loaded : {K E : Type 0} → Store K → List ℕ → Option ℕ → Row K E
text_loaded s units x = elim x [ Some n ↦ gives s (Ref n ∷ []) | None ↦ text_made (with_constant s units) units ]

unfoldable pub push : {K E : Type 0} → Store K → Pushed → List (Value K) → Option (Row K E)
push s (meanings.Int n) [] = Some (gives s (Int n ∷ []))
push s (meanings.Long n) [] = Some (gives s (Long n ∷ []))
push s (meanings.Text bytes) [] = Some (text_loaded s (units_of bytes) (constant_at s.constants (units_of bytes)))
push s constant values = None

-- ---- new

-- what is made, and its cells
pub record New (K : Type 0) : Type 0 where
  pub object : Object K
  pub cells : ℕ

abbrev pub of : {K : Type 0} → ℕ → Object K → New K
of cells x = record { object = x; cells = cells }

abbrev pub library_object : {K : Type 0} → LibClass → New K
library_object (lib.Thrown c) = of two (Thrown (lib.Thrown c) 0)
library_object lib.AccessControlException = of two (Thrown lib.AccessControlException 0)
library_object lib.String = of 1 (Text None)
library_object lib.StringBuilder = of two (Builder [])
library_object (lib.Permission c) = of two (Permission c None)
library_object lib.AccessControlContext = of two (Context None)
library_object lib.Thread = of two (Thread None)
library_object c = of 1 (Bare c)

-- the cell of a message, where objects of the class can be thrown
abbrev pub message_cell : Bool → ℕ
message_cell = elim [ true ↦ 1 | false ↦ 0 ]

abbrev pub user_object : {K : Type 0} → World → ℕ → New K
user_object w i = of (1 + message_cell (can_be_thrown w (w.named i)) + length (w.layout i)) (Instance i 0 (map default (w.layout i)))

abbrev pub object_of : {K : Type 0} → World → ClassRef → New K
object_of w x = elim x [ refs.User i ↦ user_object w i | refs.Lib c ↦ library_object c ]

abbrev pub new : {K E : Type 0} → Store K → New K → Row K E
new s x = costs x.cells (Goes (with_made s x.object) (Ref (next_number s) ∷ []) [])

unfoldable pub make : {K E : Type 0} → World → Store K → Name → List (Value K) → Option (Row K E)
make w s c x = elim x [ [] ↦ option_map (λ r. new s (object_of w r)) (w.class c) | _ ↦ None ]

-- ---- casts

-- a reference is one to an object of a type
abbrev pub is_one : World → VType → Option VType → Bool
is_one w t = elim [ None ↦ false | Some a ↦ is_instance w a t ]

abbrev pub tested : {K E : Type 0} → Store K → Bool → Row K E
tested s x = elim x [ true ↦ gives s (Int (pos 1) ∷ []) | false ↦ gives s (Int (pos 0) ∷ []) ]

abbrev pub checked : {K E : Type 0} → Store K → Value K → Bool → Row K E
checked s v x = elim x [ true ↦ gives s (v ∷ []) | false ↦ raises (lib.Thrown thrown.ClassCastException) ]

-- null may be cast to each type, and is an instance of none
unfoldable pub cast : {K E : Type 0} → World → Store K → CastOp → VType → List (Value K) → Option (Row K E)
cast w s casts.CheckCast t (Ref zero ∷ []) = Some (gives s (Ref 0 ∷ []))
cast w s casts.CheckCast t (Ref n ∷ []) = Some (checked s (Ref n) (is_one w t (type_of w s (Ref n))))
cast w s casts.InstanceOf t (Ref zero ∷ []) = Some (gives s (Int (pos 0) ∷ []))
cast w s casts.InstanceOf t (Ref n ∷ []) = Some (tested s (is_one w t (type_of w s (Ref n))))
cast w s op t values = None
