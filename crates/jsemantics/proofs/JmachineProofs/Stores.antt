-- Stores with other things in the place of what is kept.
use Rattle.std.proofs.Common.{◌≡◌, ◌∙◌, ℕ, zero, suc, ◌+◌, List, [], ◌∷◌, map, Option, Some, None, option_map, refl, sym, ap}
use Rattle.std.proofs.lemmas.Option.{slice_get-map}
use Rattle.std.proofs.lemmas.List.{length-map, map-append, map-set}
use Rattle.jvalues.specs.declared.jops.value.Value.{Value}
use Rattle.jvalues.specs.declared.jops.value.Value.TheVariants.{Int, Long, Ref, Ctx}
use Rattle.jtypes.specs.declared.vtype.Name.{Name}
use Rattle.jtypes.specs.declared.vtype.Element.{Element}
use Rattle.jtypes.specs.declared.vtype.VType.{VType}
use Rattle.jtypes.specs.declared.vtype.VType.TheVariants as types
use Rattle.jsemantics.specs.jmachine.MachineStates.{Goes, costs, gives}
use Rattle.jsemantics.specs.jmachine.StateMaps.{object_map, row_map, store_map, value_map, values_map}
use Rattle.jsemantics.specs.jmachine.Narrowing.{default, narrowed}
use Rattle.jsemantics.specs.jmachine.HeapObjects.{Object, Instance, Thrown, Text, Builder, Piece, Permission, Context, Thread, Bare, Array, class_of, id_of}
use Rattle.jsemantics.specs.jmachine.Store.{Store, next_number, object_at, object_of, with_made, with_object, with_objects}

module _ {K L : Type 0} (f : K → L) where
  pub object_alike : (s : Store K) (n : ℕ) → object_at (store_map f s) n ≡ option_map (object_map f) (object_at s n)
  object_alike s zero = refl
  object_alike s (suc n) = slice_get-map (object_map f) s.objects n

  pub made_alike : (s : Store K) (x : Object K) → store_map f (with_made s x) ≡ with_made (store_map f s) (object_map f x)
  made_alike s x = ap (λ (xs : List (Object L)). with_objects (store_map f s) xs) (map-append (object_map f) s.objects (x ∷ []))

  pub set_alike : (s : Store K) (n : ℕ) (x : Object K) → store_map f (with_object s n x) ≡ with_object (store_map f s) n (object_map f x)
  set_alike s zero x = refl
  set_alike s (suc n) x = ap (λ (xs : List (Object L)). with_objects (store_map f s) xs) (map-set (object_map f) s.objects n x)

  pub next_alike : (s : Store K) → next_number s ≡ next_number (store_map f s)
  next_alike s = ap (λ n. n + 1) (sym (length-map s.objects (object_map f)))

  pub default_alike : (t : VType) → value_map f (default t) ≡ default t
  default_alike types.Top = refl
  default_alike types.Int = refl
  default_alike types.Long = refl
  default_alike types.Null = refl
  default_alike types.UninitThis = refl
  default_alike (types.Uninit o) = refl
  default_alike (types.Object c) = refl
  default_alike (types.Array a) = refl
  default_alike types.Ctx = refl

  pub defaults_alike : (ts : List VType) → values_map f (map default ts) ≡ map default ts
  defaults_alike [] = refl
  defaults_alike (t ∷ ts) = ap (λ (v : Value L). v ∷ values_map f (map default ts)) (default_alike t) ∙ ap (λ (vs : List (Value L)). default t ∷ vs) (defaults_alike ts)

  pub narrowed_alike : (e : Option Element) (v : Value K) → value_map f (narrowed e v) ≡ narrowed e (value_map f v)
  narrowed_alike None v = refl
  narrowed_alike (Some e) (Int x) = refl
  narrowed_alike (Some e) (Long x) = refl
  narrowed_alike (Some e) (Ref n) = refl
  narrowed_alike (Some e) (Ctx k) = refl

  pub named_alike : (s : Store K) (v : Value K) → object_of (store_map f s) (value_map f v) ≡ option_map (object_map f) (object_of s v)
  named_alike s (Int x) = refl
  named_alike s (Long x) = refl
  named_alike s (Ref n) = object_alike s n
  named_alike s (Ctx k) = refl

  pub class_alike : (named : ℕ → Name) (x : Object K) → class_of named x ≡ class_of named (object_map f x)
  class_alike named (Instance class message fields) = refl
  class_alike named (Thrown c message) = refl
  class_alike named (Text units) = refl
  class_alike named (Builder units) = refl
  class_alike named (Piece units) = refl
  class_alike named (Permission c held) = refl
  class_alike named (Context kept) = refl
  class_alike named (Thread number) = refl
  class_alike named (Bare c) = refl
  class_alike named (Array a items) = refl

  pub id_alike : (x : Object K) → id_of x ≡ id_of (object_map f x)
  id_alike (Instance class message fields) = refl
  id_alike (Thrown c message) = refl
  id_alike (Text units) = refl
  id_alike (Builder units) = refl
  id_alike (Piece units) = refl
  id_alike (Permission c held) = refl
  id_alike (Context kept) = refl
  id_alike (Thread number) = refl
  id_alike (Bare c) = refl
  id_alike (Array a items) = refl

-- ---- rows

module _ {K L E F : Type 0} (f : K → L) (g : E → F) where
  pub given_alike : (s : Store K) (o : Option (Value K)) → option_map (row_map f g) (option_map (λ v. gives s (v ∷ [])) o) ≡ option_map (λ v. gives (store_map f s) (v ∷ [])) (option_map (value_map f) o)
  given_alike s None = refl
  given_alike s (Some v) = refl

  pub kept_alike : (o : Option (Store K)) → option_map (row_map f g) (option_map (λ t. gives t []) o) ≡ option_map (λ t. gives t []) (option_map (store_map f) o)
  kept_alike None = refl
  kept_alike (Some t) = refl

  pub changed_alike : (s : Store K) (n : ℕ) (o : Option (Object K)) → option_map (row_map f g) (option_map (λ x. gives (with_object s n x) []) o) ≡ option_map (λ x. gives (with_object (store_map f s) n x) []) (option_map (object_map f) o)
  changed_alike s n None = refl
  changed_alike s n (Some x) = ap (λ (t : Store L). Some (gives {E = F} t [])) (set_alike f s n x)

  pub new_alike : (s : Store K) (cells : ℕ) (x : Object K) → row_map f g (costs cells (Goes (with_made s x) (Ref (next_number s) ∷ []) [])) ≡ costs cells (Goes (with_made (store_map f s) (object_map f x)) (Ref (next_number (store_map f s)) ∷ []) [])
  new_alike s cells x =
      ap (λ (t : Store L). costs {E = F} cells (Goes t (Ref (next_number s) ∷ []) [])) (made_alike f s x)
      ∙ ap (λ n. costs {E = F} cells (Goes (with_made (store_map f s) (object_map f x)) (Ref n ∷ []) [])) (next_alike f s)
