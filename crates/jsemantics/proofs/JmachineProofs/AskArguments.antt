-- What the rows of calls that ask something look at: permissions, what is kept, limits.
use Rattle.std.proofs.Common.{◌≡◌, ◌∙◌, ℕ, zero, suc, List, [], ◌∷◌, ◌++◌, Option, Some, None, option_map, refl, sym, ap}
use Rattle.std.specs.Prelude.{option_to_list}
use Rattle.jvalues.specs.declared.jops.value.Value.{Value}
use Rattle.jvalues.specs.declared.jops.value.Value.TheVariants.{Int, Long, Ref, Ctx}
use Rattle.jsemantics.specs.jmachine.ArrayInstructions.{Items, items_in}
use Rattle.jsemantics.specs.jmachine.StateMaps.{object_map, store_map, value_map, values_map}
use Rattle.jsemantics.specs.jmachine.HeapObjects.{Object, Instance, Thrown, Text, Builder, Piece, Permission, Context, Thread, Bare, Array}
use Rattle.jsemantics.specs.jmachine.PrivilegeActions.{all_limits, given, limit, limits, with_limit}
use Rattle.jsemantics.specs.ProofNames.{limits_in}
use Rattle.jsemantics.specs.jmachine.Security.{kept_in, permission_in}
use Rattle.jsemantics.specs.jmachine.Store.{Store, object_at}
use Rattle.jsemantics.specs.jmachine.ThreadOperations.{number_in}
use Rattle.jsemantics.proofs.JmachineProofs.ArrayRows.{found_items, items_map}
use Rattle.jsemantics.proofs.JmachineProofs.Stores.{object_alike}

module _ {K L : Type 0} (f : K → L) where
  pub permission_alike : (o : Option (Object K)) → permission_in o ≡ permission_in (option_map (object_map f) o)
  permission_alike None = refl
  permission_alike (Some (Instance class message fields)) = refl
  permission_alike (Some (Thrown c message)) = refl
  permission_alike (Some (Text units)) = refl
  permission_alike (Some (Builder units)) = refl
  permission_alike (Some (Piece units)) = refl
  permission_alike (Some (Permission c held)) = refl
  permission_alike (Some (Context kept)) = refl
  permission_alike (Some (Thread number)) = refl
  permission_alike (Some (Bare c)) = refl
  permission_alike (Some (Array a items)) = refl

  pub kept_alike : (o : Option (Object K)) → option_map f (kept_in o) ≡ kept_in (option_map (object_map f) o)
  kept_alike None = refl
  kept_alike (Some (Instance class message fields)) = refl
  kept_alike (Some (Thrown c message)) = refl
  kept_alike (Some (Text units)) = refl
  kept_alike (Some (Builder units)) = refl
  kept_alike (Some (Piece units)) = refl
  kept_alike (Some (Permission c held)) = refl
  kept_alike (Some (Context kept)) = refl
  kept_alike (Some (Thread number)) = refl
  kept_alike (Some (Bare c)) = refl
  kept_alike (Some (Array a items)) = refl

  pub number_alike : (o : Option (Object K)) → number_in o ≡ number_in (option_map (object_map f) o)
  number_alike None = refl
  number_alike (Some (Instance class message fields)) = refl
  number_alike (Some (Thrown c message)) = refl
  number_alike (Some (Text units)) = refl
  number_alike (Some (Builder units)) = refl
  number_alike (Some (Piece units)) = refl
  number_alike (Some (Permission c held)) = refl
  number_alike (Some (Context kept)) = refl
  number_alike (Some (Thread number)) = refl
  number_alike (Some (Bare c)) = refl
  number_alike (Some (Array a items)) = refl

  pub some_alike : (o : Option K) → option_map (option_map f) (option_map Some o) ≡ option_map Some (option_map f o)
  some_alike None = refl
  some_alike (Some k) = refl

  pub given_alike : (s : Store K) (v : Value K) → option_map (option_map f) (given s v) ≡ given (store_map f s) (value_map f v)
  given_alike s (Int x) = refl
  given_alike s (Long x) = refl
  given_alike s (Ctx k) = refl
  given_alike s (Ref zero) = refl
  given_alike s (Ref (suc n)) = some_alike (kept_in (object_at s (suc n))) ∙ ap (option_map Some) (kept_alike (object_at s (suc n)) ∙ ap kept_in (sym (object_alike f s (suc n))))

  pub limit_alike : (s : Store K) (v : Value K) → limit s v ≡ limit (store_map f s) (value_map f v)
  limit_alike s (Int x) = refl
  limit_alike s (Long x) = refl
  limit_alike s (Ctx k) = refl
  limit_alike s (Ref zero) = refl
  limit_alike s (Ref (suc n)) = ap (option_map Some) (permission_alike (object_at s (suc n)) ∙ ap permission_in (sym (object_alike f s (suc n))))

  pub all_alike : (s : Store K) (values : List (Value K)) → all_limits s values ≡ all_limits (store_map f s) (values_map f values)
  unfolding all_limits
  all_alike s [] = refl
  all_alike s (v ∷ values) = ap (λ l. with_limit l (all_limits s values)) (limit_alike s v) ∙ ap (with_limit (limit (store_map f s) (value_map f v))) (all_alike s values)

  pub items_limits : (s : Store K) (o : Option (Items K)) → limits_in s o ≡ limits_in (store_map f s) (option_map (items_map f) o)
  items_limits s None = refl
  items_limits s (Some x) = all_alike s x.items

  pub limits_alike : (s : Store K) (v : Value K) → limits s v ≡ limits (store_map f s) (value_map f v)
  limits_alike s (Int x) = refl
  limits_alike s (Long x) = refl
  limits_alike s (Ctx k) = refl
  limits_alike s (Ref zero) = refl
  limits_alike s (Ref (suc n)) = items_limits s (items_in (object_at s (suc n))) ∙ ap (limits_in (store_map f s)) (found_items f s (suc n))

  pub hand_alike : (n : ℕ) (o : Option K) → values_map f (option_to_list (option_map Ctx o) ++ Ref n ∷ []) ≡ option_to_list (option_map Ctx (option_map f o)) ++ Ref n ∷ []
  hand_alike n None = refl
  hand_alike n (Some k) = refl
