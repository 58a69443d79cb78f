-- The rows of instructions that push constants, make objects and look at their classes don't depend on what is kept.
use Rattle.std.proofs.Common.{◌≡◌, ◌∙◌, ℕ, zero, suc, ◌+◌, Bool, true, false, List, [], ◌∷◌, ◌++◌, map, length, Option, Some, None, option_map, refl, sym, ap}
use Rattle.jvalues.specs.declared.jops.value.Value.{Value}
use Rattle.jvalues.specs.declared.jops.value.Value.TheVariants.{Int, Long, Ref, Ctx}
use Rattle.jlib.specs.declared.classes.LibClass.{LibClass}
use Rattle.jlib.specs.declared.classes.LibClass.TheVariants as lib
use Rattle.jtypes.specs.declared.vtype.Name.{Name}
use Rattle.jtypes.specs.declared.vtype.VType.{VType}
use Rattle.jparts.specs.declared.jcode.names.CastOp.{CastOp}
use Rattle.jparts.specs.declared.jcode.names.CastOp.TheVariants as casts
use Rattle.jresolution.specs.declared.jprogram.part.ClassRef.{ClassRef}
use Rattle.jresolution.specs.declared.jprogram.part.ClassRef.TheVariants as refs
use Rattle.jresolution.specs.juses.InstructionMeanings as meanings
use Rattle.jresolution.specs.juses.InstructionMeanings.{Pushed}
use Rattle.jsemantics.specs.jmachine.MachineStates.{cells_of}
use Rattle.jsemantics.specs.jmachine.ObjectInstructions.{New, cast, checked, is_one, library_object, make, message_cell, new, object_of, of, push, tested, text_loaded, text_made, units_of}
use Rattle.jsemantics.specs.jmachine.StateMaps.{object_map, row_map, store_map, value_map, values_map}
use Rattle.jsemantics.specs.jmachine.NaturalityLaws.{CastAlike, MakeAlike, PushAlike}
use Rattle.jsemantics.specs.jmachine.HeapObjects.{Instance, Text}
use Rattle.jsemantics.specs.jmachine.TakenOperands.{type_of}
use Rattle.jsemantics.specs.jmachine.Store.{Store, constant_at, with_constant}
use Rattle.jsemantics.specs.jmachine.World.{World, can_be_thrown}
use Rattle.jsemantics.proofs.JmachineProofs.Stores.{defaults_alike, new_alike, next_alike}
use Rattle.jsemantics.proofs.JmachineProofs.Takes.{type_alike}

module _ {K L : Type 0} (f : K → L) where
  constant_alike : (s : Store K) (units : List ℕ) → store_map f (with_constant s units) ≡ with_constant (store_map f s) units
  constant_alike s units = ap (λ n. with_number n) (next_alike f s)
    where
      with_number : ℕ → Store L
      with_number n = record { objects = map (object_map f) s.objects; statics = values_map f s.statics; constants = s.constants ++ (units, n) ∷ []; left = s.left }

  abbrev new_map : New K → New L
  new_map x = record { object = object_map f x.object; cells = x.cells }

  library_alike : (c : LibClass) → new_map (library_object c) ≡ library_object c
  library_alike lib.Object = refl
  library_alike (lib.Thrown c) = refl
  library_alike lib.AccessControlException = refl
  library_alike lib.String = refl
  library_alike lib.StringBuilder = refl
  library_alike lib.System = refl
  library_alike lib.PrintStream = refl
  library_alike lib.Void = refl
  library_alike lib.Cloneable = refl
  library_alike lib.Serializable = refl
  library_alike lib.Runnable = refl
  library_alike lib.Thread = refl
  library_alike lib.PrivilegedAction = refl
  library_alike lib.AccessController = refl
  library_alike lib.AccessControlContext = refl
  library_alike (lib.Permission c) = refl
  library_alike lib.Rt = refl
  library_alike lib.Ctx = refl

  object_of_alike : (w : World) (r : ClassRef) → new_map (object_of w r) ≡ object_of w r
  object_of_alike w (refs.Lib c) = library_alike c
  object_of_alike w (refs.User i) = ap (λ (vs : List (Value L)). of (1 + message_cell (can_be_thrown w (w.named i)) + length (w.layout i)) (Instance i 0 vs)) (defaults_alike f (w.layout i))

module _ {K L E F : Type 0} (f : K → L) (g : E → F) where
  pub text_made_alike : (s : Store K) (units : List ℕ) → row_map f g (text_made s units) ≡ text_made (store_map f s) units
  text_made_alike s units = new_alike f g s (cells_of (length units)) (Text (Some units))

  loaded_alike : (s : Store K) (units : List ℕ) (o : Option ℕ) → row_map f g (text_loaded s units o) ≡ text_loaded (store_map f s) units o
  loaded_alike s units (Some n) = refl
  loaded_alike s units None = text_made_alike (with_constant s units) units ∙ ap (λ (t : Store L). text_made {E = F} t units) (constant_alike f s units)

  pub push_alike : (s : Store K) (constant : Pushed) (values : List (Value K)) → option_map (row_map f g) (push s constant values) ≡ push (store_map f s) constant (values_map f values)
  unfolding push
  push_alike s (meanings.Int n) [] = refl
  push_alike s (meanings.Long n) [] = refl
  push_alike s (meanings.Text bytes) [] = ap Some (loaded_alike s (units_of bytes) (constant_at s.constants (units_of bytes)))
  push_alike s (meanings.Int n) (v ∷ rest) = refl
  push_alike s (meanings.Long n) (v ∷ rest) = refl
  push_alike s (meanings.Text bytes) (v ∷ rest) = refl

  new_made : (s : Store K) (x : New K) → row_map f g (new s x) ≡ new (store_map f s) (new_map f x)
  new_made s x = new_alike f g s x.cells x.object

  of_class : (w : World) (s : Store K) (o : Option ClassRef) → option_map (row_map f g) (option_map (λ r. new s (object_of w r)) o) ≡ option_map (λ r. new (store_map f s) (object_of w r)) o
  of_class w s None = refl
  of_class w s (Some r) = ap Some (new_made s (object_of w r) ∙ ap (λ (x : New L). new {E = F} (store_map f s) x) (object_of_alike f w r))

  pub make_alike : (w : World) (s : Store K) (c : Name) (values : List (Value K)) → option_map (row_map f g) (make w s c values) ≡ make w (store_map f s) c (values_map f values)
  unfolding make
  make_alike w s c [] = of_class w s (w.class c)
  make_alike w s c (v ∷ rest) = refl

  pub tested_alike : (s : Store K) (b : Bool) → row_map f g (tested s b) ≡ tested (store_map f s) b
  tested_alike s true = refl
  tested_alike s false = refl

  checked_alike : (s : Store K) (v : Value K) (b : Bool) → row_map f g (checked s v b) ≡ checked (store_map f s) (value_map f v) b
  checked_alike s v true = refl
  checked_alike s v false = refl

  pub cast_alike : (w : World) (s : Store K) (op : CastOp) (t : VType) (values : List (Value K)) → option_map (row_map f g) (cast w s op t values) ≡ cast w (store_map f s) op t (values_map f values)
  unfolding cast
  cast_alike w s casts.CheckCast t (Int x ∷ rest) = refl
  cast_alike w s casts.CheckCast t (Long x ∷ rest) = refl
  cast_alike w s casts.CheckCast t (Ctx x ∷ rest) = refl
  cast_alike w s casts.CheckCast t [] = refl
  cast_alike w s casts.CheckCast t (Ref zero ∷ []) = refl
  cast_alike w s casts.CheckCast t (Ref zero ∷ v ∷ rest) = refl
  cast_alike w s casts.CheckCast t (Ref (suc n) ∷ v ∷ rest) = refl
  cast_alike w s casts.InstanceOf t (Int x ∷ rest) = refl
  cast_alike w s casts.InstanceOf t (Long x ∷ rest) = refl
  cast_alike w s casts.InstanceOf t (Ctx x ∷ rest) = refl
  cast_alike w s casts.InstanceOf t [] = refl
  cast_alike w s casts.InstanceOf t (Ref zero ∷ []) = refl
  cast_alike w s casts.InstanceOf t (Ref zero ∷ v ∷ rest) = refl
  cast_alike w s casts.InstanceOf t (Ref (suc n) ∷ v ∷ rest) = refl
  cast_alike w s casts.CheckCast t (Ref (suc n) ∷ []) =
      ap Some (checked_alike s (Ref (suc n)) (is_one w t (type_of w s (Ref (suc n))))
      ∙ ap (λ o. checked {E = F} (store_map f s) (Ref (suc n)) (is_one w t o)) (sym (type_alike f w s (Ref (suc n)))))
  cast_alike w s casts.InstanceOf t (Ref (suc n) ∷ []) =
      ap Some (tested_alike s (is_one w t (type_of w s (Ref (suc n))))
      ∙ ap (λ o. tested {E = F} (store_map f s) (is_one w t o)) (sym (type_alike f w s (Ref (suc n)))))

pub push_law : (K L E F : Type 0) → PushAlike K L E F
push_law K L E F f g s constant values = push_alike f g s constant values

pub make_law : (K L E F : Type 0) → MakeAlike K L E F
make_law K L E F f g w s c values = make_alike f g w s c values

pub cast_law : (K L E F : Type 0) → CastAlike K L E F
cast_law K L E F f g w s op t values = cast_alike f g w s op t values
