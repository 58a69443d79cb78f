-- What operands serve doesn't depend on what is kept.
use Rattle.std.proofs.Common.{◌≡◌, ◌∙◌, zero, suc, Bool, true, false, List, [], ◌∷◌, Option, Some, None, option_map, refl, sym, ap}
use Rattle.std.specs.Prelude.{if◌then◌else◌}
use Rattle.jvalues.specs.declared.jops.value.Value.{Value}
use Rattle.jvalues.specs.declared.jops.value.Value.TheVariants.{Int, Long, Ref, Ctx}
use Rattle.jtyping.specs.jrule.StackEffects.{Want}
use Rattle.jsemantics.specs.jmachine.StateMaps.{object_map, store_map, taken_map, value_map, values_map}
use Rattle.jsemantics.specs.jmachine.NaturalityLaws.{TakesAlike}
use Rattle.jsemantics.specs.jmachine.HeapObjects.{Object, Instance, Thrown, Text, Builder, Piece, Permission, Context, Thread, Bare, Array}
use Rattle.jsemantics.specs.jmachine.TakenOperands.{Taken, ready_type, serves, taken, type_of, with_value, serves_as, found_type}
use Rattle.jsemantics.specs.jmachine.Store.{Store, object_at}
use Rattle.jsemantics.specs.jmachine.World.{World}
use Rattle.jsemantics.proofs.JmachineProofs.Stores.{object_alike}

module _ {K L : Type 0} (f : K → L) (w : World) where
  ready_alike : (x : Object K) → ready_type w (object_map f x) ≡ ready_type w x
  ready_alike (Instance class message fields) = refl
  ready_alike (Thrown c message) = refl
  ready_alike (Text None) = refl
  ready_alike (Text (Some units)) = refl
  ready_alike (Builder units) = refl
  ready_alike (Piece units) = refl
  ready_alike (Permission c None) = refl
  ready_alike (Permission c (Some held)) = refl
  ready_alike (Context None) = refl
  ready_alike (Context (Some kept)) = refl
  ready_alike (Thread None) = refl
  ready_alike (Thread (Some number)) = refl
  ready_alike (Bare c) = refl
  ready_alike (Array a items) = refl

  found_alike : (o : Option (Object K)) → found_type w (option_map (object_map f) o) ≡ found_type w o
  found_alike None = refl
  found_alike (Some x) = ready_alike x

  pub type_alike : (s : Store K) (v : Value K) → type_of w (store_map f s) (value_map f v) ≡ type_of w s v
  type_alike s (Int x) = refl
  type_alike s (Long x) = refl
  type_alike s (Ctx k) = refl
  type_alike s (Ref zero) = refl
  type_alike s (Ref (suc n)) = ap (found_type w) (object_alike f s (suc n)) ∙ found_alike (object_at s (suc n))

  serves_alike : (s : Store K) (want : Want) (v : Value K) → serves w s want v ≡ serves w (store_map f s) want (value_map f v)
  serves_alike s want v = ap (serves_as w want) (sym (type_alike s v))

  abbrev either : {J : Type 0} → Bool → Value J → Option (Taken J) → Option (Taken J)
  either b v t = if b then option_map (with_value v) t else None

  with_alike : (v : Value K) (t : Option (Taken K)) → option_map (taken_map f) (option_map (with_value v) t) ≡ option_map (with_value (value_map f v)) (option_map (taken_map f) t)
  with_alike v None = refl
  with_alike v (Some t) = refl

  either_alike : (b : Bool) (v : Value K) (t : Option (Taken K)) → option_map (taken_map f) (either b v t) ≡ either b (value_map f v) (option_map (taken_map f) t)
  either_alike true v t = with_alike v t
  either_alike false v t = refl

  pub taken_alike : (s : Store K) (wants : List Want) (operands : List (Value K)) → option_map (taken_map f) (taken w s wants operands) ≡ taken w (store_map f s) wants (values_map f operands)
  unfolding taken
  taken_alike s [] operands = refl
  taken_alike s (want ∷ wants) [] = refl
  taken_alike s (want ∷ wants) (v ∷ operands) =
      either_alike (serves w s want v) v (taken w s wants operands)
      ∙ ap (λ b. either b (value_map f v) (option_map (taken_map f) (taken w s wants operands))) (serves_alike s want v)
      ∙ ap (either (serves w (store_map f s) want (value_map f v)) (value_map f v)) (taken_alike s wants operands)

pub takes_law : (K L : Type 0) → TakesAlike K L
takes_law K L f w s wants operands = taken_alike f w s wants operands
