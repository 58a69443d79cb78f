-- The rows of instructions with arrays don't depend on what is kept.
use Rattle.std.proofs.Common.{◌≡◌, ◌∙◌, ℕ, zero, suc, ℤ, pos, Bool, true, false, List, [], ◌∷◌, map, length, Option, Some, None, option_map, refl, sym, ap}
use Rattle.std.specs.Prelude.{option_and_then, replicate, slice_get, slice_set, if◌then◌else◌}
use Rattle.std.proofs.lemmas.Option.{slice_get-map}
use Rattle.std.proofs.lemmas.List.{length-map, map-set}
use Rattle.jvalues.specs.declared.jops.value.Value.{Value}
use Rattle.jvalues.specs.declared.jops.value.Value.TheVariants.{Int, Long, Ref, Ctx}
use Rattle.jtypes.specs.declared.vtype.ArrayType.{ArrayType}
use Rattle.jtypes.specs.declared.vtype.VType.{VType}
use Rattle.jtypes.specs.declared.vtype.VType.TheVariants as types
use Rattle.jtyping.specs.jrule.ArrayRule.{component, of_numbers}
use Rattle.jparts.specs.declared.jcode.op_form.ArrayForm.{ArrayForm}
use Rattle.jparts.specs.declared.jcode.op_form.ArrayForm.TheVariants as forms
use Rattle.jlib.specs.declared.classes.Thrown.TheVariants as thrown
use Rattle.jlib.specs.declared.classes.LibClass.TheVariants as lib
use Rattle.jsemantics.specs.jmachine.MachineStates.{Row, Goes, cells_of, costs, gives, raises}
use Rattle.jsemantics.specs.jmachine.ArrayInstructions.{Items, array, items_in, load, load_at, made, made_of, make, store, store_at, with_item, within}
use Rattle.jsemantics.specs.ProofNames.{length_row}
use Rattle.jsemantics.specs.jmachine.StateMaps.{object_map, row_map, store_map, value_map, values_map}
use Rattle.jsemantics.specs.jmachine.Narrowing.{default, held_by, narrowed, place}
use Rattle.jsemantics.specs.jmachine.NaturalityLaws.{ArrayAlike, MakeArrayAlike}
use Rattle.jsemantics.specs.jmachine.HeapObjects.{Object, Instance, Thrown, Text, Builder, Piece, Permission, Context, Thread, Bare, Array}
use Rattle.jsemantics.specs.jmachine.TakenOperands.{type_of}
use Rattle.jsemantics.specs.jmachine.Store.{Store, next_number, object_at, with_made, with_object}
use Rattle.jsemantics.specs.jmachine.World.{World}
use Rattle.jsemantics.proofs.JmachineProofs.Stores.{default_alike, given_alike, narrowed_alike, new_alike, object_alike, set_alike}
use Rattle.jsemantics.proofs.JmachineProofs.Takes.{type_alike}
use Rattle.jsemantics.specs.jmachine.ObjectInstructions.{is_one}

pub map_replicate : {A B : Type 0} (h : A → B) (n : ℕ) (x : A) → map h (replicate n x) ≡ replicate n (h x)
map_replicate h zero x = refl
map_replicate {A} {B} h (suc n) x = ap (λ (xs : List B). h x ∷ xs) (map_replicate h n x)

module _ {K L : Type 0} (f : K → L) where
  abbrev pub items_map : Items K → Items L
  items_map x = record { type = x.type; items = values_map f x.items }

  items_alike : (o : Option (Object K)) → option_map items_map (items_in o) ≡ items_in (option_map (object_map f) o)
  items_alike None = refl
  items_alike (Some (Instance class message fields)) = refl
  items_alike (Some (Thrown c message)) = refl
  items_alike (Some (Text units)) = refl
  items_alike (Some (Builder units)) = refl
  items_alike (Some (Piece units)) = refl
  items_alike (Some (Permission c held)) = refl
  items_alike (Some (Context kept)) = refl
  items_alike (Some (Thread number)) = refl
  items_alike (Some (Bare c)) = refl
  items_alike (Some (Array a items)) = refl

  pub found_items : (s : Store K) (n : ℕ) → option_map items_map (items_in (object_at s n)) ≡ items_in (object_at (store_map f s) n)
  found_items s n = items_alike (object_at s n) ∙ ap items_in (sym (object_alike f s n))

  made_of_alike : (a : ArrayType) (n : ℕ) → object_map f (made_of a n) ≡ made_of a n
  made_of_alike a n = ap (λ (xs : List (Value L)). Array a xs) (map_replicate (value_map f) n (default (component a)) ∙ ap (λ (v : Value L). replicate n v) (default_alike f (component a)))

  item_alike : (s : Store K) (n : ℕ) (x : Items K) (i : ℕ) (v : Value K) → store_map f (with_item s n x i v) ≡ with_item (store_map f s) n (items_map x) i (value_map f v)
  item_alike s n x i v =
      set_alike f s n (Array x.type (slice_set x.items i (narrowed (held_by x.type) v)))
      ∙ ap (λ (xs : List (Value L)). with_object (store_map f s) n (Array x.type xs)) (map-set (value_map f) x.items i (narrowed (held_by x.type) v))
      ∙ ap (λ (u : Value L). with_object (store_map f s) n (Array x.type (slice_set (values_map f x.items) i u))) (narrowed_alike f (held_by x.type) v)

module _ {K L E F : Type 0} (f : K → L) (g : E → F) where
  array_made : (s : Store K) (a : ArrayType) (n : Option ℕ) → row_map f g (made s a n) ≡ made (store_map f s) a n
  array_made s a None = refl
  array_made s a (Some n) =
      new_alike f g s (cells_of n) (made_of a n)
      ∙ ap (λ (x : Object L). costs {E = F} (cells_of n) (Goes (with_made (store_map f s) x) (Ref (next_number (store_map f s)) ∷ []) [])) (made_of_alike f a n)

  pub make_alike : (s : Store K) (t : VType) (values : List (Value K)) → option_map (row_map f g) (make s t values) ≡ make (store_map f s) t (values_map f values)
  unfolding make
  make_alike s (types.Array a) [] = refl
  make_alike s (types.Array a) (Int n ∷ []) = ap Some (array_made s a (place n))
  make_alike s (types.Array a) (Int n ∷ v ∷ rest) = refl
  make_alike s (types.Array a) (Long n ∷ rest) = refl
  make_alike s (types.Array a) (Ref n ∷ rest) = refl
  make_alike s (types.Array a) (Ctx n ∷ rest) = refl
  make_alike s types.Top values = refl
  make_alike s types.Int values = refl
  make_alike s types.Long values = refl
  make_alike s types.Null values = refl
  make_alike s types.UninitThis values = refl
  make_alike s (types.Uninit o) values = refl
  make_alike s (types.Object c) values = refl
  make_alike s types.Ctx values = refl

  -- ---- access

  load_at_alike : (s : Store K) (x : Items K) (o : Option ℕ) → option_map (row_map f g) (load_at s x o) ≡ load_at (store_map f s) (items_map f x) o
  load_at_alike s x None = refl
  load_at_alike s x (Some i) = given_alike f g s (slice_get x.items i) ∙ ap (λ (o : Option (Value L)). option_map (λ v. gives {E = F} (store_map f s) (v ∷ [])) o) (sym (slice_get-map (value_map f) x.items i))

  load_alike : (s : Store K) (i : ℤ) (o : Option (Items K)) → option_map (row_map f g) (option_and_then (load s i) o) ≡ option_and_then (load (store_map f s) i) (option_map (items_map f) o)
  load_alike s i None = refl
  load_alike s i (Some x) =
      load_at_alike s x (within (length x.items) (place i))
      ∙ ap (λ n. load_at {E = F} (store_map f s) (items_map f x) (within n (place i))) (sym (length-map x.items (value_map f)))

  length_alike : (s : Store K) (o : Option (Items K)) → option_map (row_map f g) (option_map (length_row s) o) ≡ option_map (length_row (store_map f s)) (option_map (items_map f) o)
  length_alike s None = refl
  length_alike s (Some x) = ap (λ n. Some (gives {E = F} (store_map f s) (Int (pos n) ∷ []))) (sym (length-map x.items (value_map f)))

  either_alike : (b : Bool) (x y : Row K E) → row_map f g (if b then x else y) ≡ (if b then row_map f g x else row_map f g y)
  either_alike true x y = refl
  either_alike false x y = refl

  abbrev either : Bool → Row L F → Row L F → Row L F
  either b x y = if b then x else y

  store_at_alike : (w : World) (s : Store K) (n : ℕ) (v : Value K) (x : Items K) (o : Option ℕ) → row_map f g (store_at w s n v x o) ≡ store_at w (store_map f s) n (value_map f v) (items_map f x) o
  store_at_alike w s n v x None = refl
  store_at_alike w s n v x (Some i) =
      either_alike (is_one w (component x.type) (type_of w s v)) (gives (with_item s n x i v) []) (raises (lib.Thrown thrown.ArrayStoreException))
      ∙ ap (λ t. either (is_one w (component x.type) t) (gives (store_map f (with_item s n x i v)) []) (raises (lib.Thrown thrown.ArrayStoreException))) (sym (type_alike f w s v))
      ∙ ap (λ (t : Store L). either (is_one w (component x.type) (type_of w (store_map f s) (value_map f v))) (gives t []) (raises (lib.Thrown thrown.ArrayStoreException))) (item_alike f s n x i v)

  store_alike : (w : World) (s : Store K) (n : ℕ) (i : ℤ) (v : Value K) (o : Option (Items K)) → option_map (row_map f g) (option_map (store w s n i v) o) ≡ option_map (store w (store_map f s) n i (value_map f v)) (option_map (items_map f) o)
  store_alike w s n i v None = refl
  store_alike w s n i v (Some x) =
      ap Some (store_at_alike w s n v x (within (length x.items) (place i))
      ∙ ap (λ k. store_at {E = F} w (store_map f s) n (value_map f v) (items_map f x) (within k (place i))) (sym (length-map x.items (value_map f))))

  -- ---- all

  pub array_alike : (w : World) (s : Store K) (form : ArrayForm) (values : List (Value K)) → option_map (row_map f g) (array w s form values) ≡ array w (store_map f s) form (values_map f values)
  unfolding array
  array_alike w s (forms.New kind) values = make_alike s (types.Array (record { depth = 1; element = of_numbers kind })) values
  array_alike w s (forms.NewRef n) values = refl
  array_alike w s (forms.Load e) [] = refl
  array_alike w s (forms.Load e) (Long x ∷ rest) = refl
  array_alike w s (forms.Load e) (Ref x ∷ rest) = refl
  array_alike w s (forms.Load e) (Ctx x ∷ rest) = refl
  array_alike w s (forms.Load e) (Int i ∷ []) = refl
  array_alike w s (forms.Load e) (Int i ∷ Int x ∷ rest) = refl
  array_alike w s (forms.Load e) (Int i ∷ Long x ∷ rest) = refl
  array_alike w s (forms.Load e) (Int i ∷ Ctx x ∷ rest) = refl
  array_alike w s (forms.Load e) (Int i ∷ Ref zero ∷ []) = refl
  array_alike w s (forms.Load e) (Int i ∷ Ref (suc n) ∷ []) = load_alike s i (items_in (object_at s (suc n))) ∙ ap (λ (o : Option (Items L)). option_and_then (load {E = F} (store_map f s) i) o) (found_items f s (suc n))
  array_alike w s (forms.Load e) (Int i ∷ Ref zero ∷ v ∷ rest) = refl
  array_alike w s (forms.Load e) (Int i ∷ Ref (suc n) ∷ v ∷ rest) = refl
  array_alike w s (forms.Store e) [] = refl
  array_alike w s (forms.Store e) (v ∷ []) = refl
  array_alike w s (forms.Store e) (v ∷ Long x ∷ rest) = refl
  array_alike w s (forms.Store e) (v ∷ Ref x ∷ rest) = refl
  array_alike w s (forms.Store e) (v ∷ Ctx x ∷ rest) = refl
  array_alike w s (forms.Store e) (v ∷ Int i ∷ []) = refl
  array_alike w s (forms.Store e) (v ∷ Int i ∷ Int x ∷ rest) = refl
  array_alike w s (forms.Store e) (v ∷ Int i ∷ Long x ∷ rest) = refl
  array_alike w s (forms.Store e) (v ∷ Int i ∷ Ctx x ∷ rest) = refl
  array_alike w s (forms.Store e) (v ∷ Int i ∷ Ref zero ∷ []) = refl
  array_alike w s (forms.Store e) (v ∷ Int i ∷ Ref (suc n) ∷ []) = store_alike w s (suc n) i v (items_in (object_at s (suc n))) ∙ ap (λ (o : Option (Items L)). option_map (store {E = F} w (store_map f s) (suc n) i (value_map f v)) o) (found_items f s (suc n))
  array_alike w s (forms.Store e) (v ∷ Int i ∷ Ref zero ∷ u ∷ rest) = refl
  array_alike w s (forms.Store e) (v ∷ Int i ∷ Ref (suc n) ∷ u ∷ rest) = refl
  array_alike w s forms.Length [] = refl
  array_alike w s forms.Length (Int x ∷ rest) = refl
  array_alike w s forms.Length (Long x ∷ rest) = refl
  array_alike w s forms.Length (Ctx x ∷ rest) = refl
  array_alike w s forms.Length (Ref zero ∷ []) = refl
  array_alike w s forms.Length (Ref (suc n) ∷ []) = length_alike s (items_in (object_at s (suc n))) ∙ ap (λ (o : Option (Items L)). option_map (length_row {E = F} (store_map f s)) o) (found_items f s (suc n))
  array_alike w s forms.Length (Ref zero ∷ v ∷ rest) = refl
  array_alike w s forms.Length (Ref (suc n) ∷ v ∷ rest) = refl

pub array_law : (K L E F : Type 0) → ArrayAlike K L E F
array_law K L E F f g w s form values = array_alike f g w s form values

pub make_array_law : (K L E F : Type 0) → MakeArrayAlike K L E F
make_array_law K L E F f g s t values = make_alike f g s t values
