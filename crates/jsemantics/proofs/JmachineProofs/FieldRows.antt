-- The rows of instructions with fields don't depend on what is kept.
use Rattle.std.proofs.Common.{◌≡◌, ◌∙◌, ℕ, zero, suc, Bool, true, false, List, [], ◌∷◌, length, Option, Some, None, option_map, refl, sym, ap}
use Rattle.std.specs.Prelude.{nat_lt, option_and_then, slice_get, slice_set, if◌then◌else◌}
use Rattle.std.proofs.lemmas.Option.{slice_get-map}
use Rattle.std.proofs.lemmas.List.{length-map, map-set}
use Rattle.jvalues.specs.declared.jops.value.Value.{Value}
use Rattle.jvalues.specs.declared.jops.value.Value.TheVariants.{Int, Long, Ref, Ctx}
use Rattle.jparts.specs.declared.jcode.names.FieldOp.{FieldOp}
use Rattle.jparts.specs.declared.jcode.names.FieldOp.TheVariants as fields
use Rattle.jresolution.specs.declared.jprogram.member.Member.{Member}
use Rattle.jresolution.specs.declared.jprogram.member.Member.TheVariants.{Field, LibField, LibMethod, Method}
use Rattle.jsemantics.specs.jmachine.MachineStates.{gives}
use Rattle.jsemantics.specs.jmachine.FieldInstructions.{field, get_from, get_static, put_into, put_static, with_place}
use Rattle.jsemantics.specs.jmachine.StateMaps.{object_map, row_map, store_map, value_map, values_map}
use Rattle.jsemantics.specs.jmachine.Narrowing.{narrowed}
use Rattle.jsemantics.specs.jmachine.NaturalityLaws.{FieldAlike}
use Rattle.jsemantics.specs.jmachine.HeapObjects.{Object, Instance, Thrown, Text, Builder, Piece, Permission, Context, Thread, Bare, Array}
use Rattle.jsemantics.specs.jmachine.Store.{Store, object_at, with_object, with_statics}
use Rattle.jsemantics.specs.jmachine.World.{World}
use Rattle.jsemantics.proofs.JmachineProofs.Stores.{changed_alike, given_alike, kept_alike, narrowed_alike, object_alike}

module _ {K L : Type 0} (f : K → L) where
  got_alike : (vs : List (Value K)) (o : Option ℕ) → option_map (value_map f) (option_and_then (slice_get vs) o) ≡ option_and_then (slice_get (values_map f vs)) o
  got_alike vs None = refl
  got_alike vs (Some i) = sym (slice_get-map (value_map f) vs i)

  abbrev if_there : Bool → List (Value L) → Option (List (Value L))
  if_there b vs = if b then Some vs else None

  there_alike : (b : Bool) (vs : List (Value K)) → option_map (values_map f) (if b then Some vs else None) ≡ if_there b (values_map f vs)
  there_alike true vs = refl
  there_alike false vs = refl

  place_alike : (vs : List (Value K)) (v : Value K) (i : ℕ) → option_map (values_map f) (with_place vs v i) ≡ with_place (values_map f vs) (value_map f v) i
  place_alike vs v i =
      there_alike (nat_lt i (length vs)) (slice_set vs i v)
      ∙ ap (λ n. if_there (nat_lt i n) (values_map f (slice_set vs i v))) (sym (length-map vs (value_map f)))
      ∙ ap (if_there (nat_lt i (length (values_map f vs)))) (map-set (value_map f) vs i v)

  places_alike : (vs : List (Value K)) (v : Value K) (o : Option ℕ) → option_map (values_map f) (option_and_then (with_place vs v) o) ≡ option_and_then (with_place (values_map f vs) (value_map f v)) o
  places_alike vs v None = refl
  places_alike vs v (Some i) = place_alike vs v i

  static_alike : (w : World) (s : Store K) (m : Member) → option_map (value_map f) (get_static w s m) ≡ get_static w (store_map f s) m
  static_alike w s LibField = refl
  static_alike w s (Field i j) = got_alike s.statics (w.slot (Field i j))
  static_alike w s (Method m) = got_alike s.statics (w.slot (Method m))
  static_alike w s (LibMethod c) = got_alike s.statics (w.slot (LibMethod c))

  statics_alike : (s : Store K) (o : Option (List (Value K))) → option_map (store_map f) (option_map (with_statics s) o) ≡ option_map (with_statics (store_map f s)) (option_map (values_map f) o)
  statics_alike s None = refl
  statics_alike s (Some vs) = refl

  put_static_alike : (w : World) (s : Store K) (m : Member) (v : Value K) → option_map (store_map f) (put_static w s m v) ≡ put_static w (store_map f s) m (value_map f v)
  put_static_alike w s m v =
      statics_alike s (option_and_then (with_place s.statics (narrowed (w.element m) v)) (w.slot m))
      ∙ ap (λ (o : Option (List (Value L))). option_map (with_statics (store_map f s)) o) (places_alike s.statics (narrowed (w.element m) v) (w.slot m)
      ∙ ap (λ (u : Value L). option_and_then (with_place (values_map f s.statics) u) (w.slot m)) (narrowed_alike f (w.element m) v))

  get_alike : (w : World) (m : Member) (o : Option (Object K)) → option_map (value_map f) (get_from w m o) ≡ get_from w m (option_map (object_map f) o)
  get_alike w m None = refl
  get_alike w m (Some (Instance class message vs)) = got_alike vs (w.slot m)
  get_alike w m (Some (Thrown c message)) = refl
  get_alike w m (Some (Text units)) = refl
  get_alike w m (Some (Builder units)) = refl
  get_alike w m (Some (Piece units)) = refl
  get_alike w m (Some (Permission c held)) = refl
  get_alike w m (Some (Context kept)) = refl
  get_alike w m (Some (Thread number)) = refl
  get_alike w m (Some (Bare c)) = refl
  get_alike w m (Some (Array a items)) = refl

  instance_alike : (class message : ℕ) (o : Option (List (Value K))) → option_map (object_map f) (option_map (Instance class message) o) ≡ option_map (Instance class message) (option_map (values_map f) o)
  instance_alike class message None = refl
  instance_alike class message (Some vs) = refl

  put_alike : (w : World) (m : Member) (v : Value K) (o : Option (Object K)) → option_map (object_map f) (put_into w m v o) ≡ put_into w m (value_map f v) (option_map (object_map f) o)
  put_alike w m v None = refl
  put_alike w m v (Some (Instance class message vs)) = instance_alike class message (option_and_then (with_place vs (narrowed (w.element m) v)) (w.slot m))
      ∙ ap (λ (o : Option (List (Value L))). option_map (Instance class message) o) (places_alike vs (narrowed (w.element m) v) (w.slot m)
      ∙ ap (λ (u : Value L). option_and_then (with_place (values_map f vs) u) (w.slot m)) (narrowed_alike f (w.element m) v))
  put_alike w m v (Some (Thrown c message)) = refl
  put_alike w m v (Some (Text units)) = refl
  put_alike w m v (Some (Builder units)) = refl
  put_alike w m v (Some (Piece units)) = refl
  put_alike w m v (Some (Permission c held)) = refl
  put_alike w m v (Some (Context kept)) = refl
  put_alike w m v (Some (Thread number)) = refl
  put_alike w m v (Some (Bare c)) = refl
  put_alike w m v (Some (Array a items)) = refl

module _ {K L E F : Type 0} (f : K → L) (g : E → F) where
  pub field_alike : (w : World) (s : Store K) (op : FieldOp) (m : Member) (values : List (Value K)) → option_map (row_map f g) (field w s op m values) ≡ field w (store_map f s) op m (values_map f values)
  unfolding field
  field_alike w s fields.GetStatic m [] = given_alike f g s (get_static w s m) ∙ ap (λ (o : Option (Value L)). option_map (λ v. gives {E = F} (store_map f s) (v ∷ [])) o) (static_alike f w s m)
  field_alike w s fields.GetStatic m (v ∷ rest) = refl
  field_alike w s fields.PutStatic m [] = refl
  field_alike w s fields.PutStatic m (v ∷ []) = kept_alike f g (put_static w s m v) ∙ ap (λ (o : Option (Store L)). option_map (λ t. gives {E = F} t []) o) (put_static_alike f w s m v)
  field_alike w s fields.PutStatic m (v ∷ u ∷ rest) = refl
  field_alike w s fields.GetField m [] = refl
  field_alike w s fields.GetField m (Int x ∷ rest) = refl
  field_alike w s fields.GetField m (Long x ∷ rest) = refl
  field_alike w s fields.GetField m (Ctx x ∷ rest) = refl
  field_alike w s fields.GetField m (Ref zero ∷ []) = refl
  field_alike w s fields.GetField m (Ref (suc n) ∷ []) =
      given_alike f g s (get_from w m (object_at s (suc n)))
      ∙ ap (λ (o : Option (Value L)). option_map (λ v. gives {E = F} (store_map f s) (v ∷ [])) o) (get_alike f w m (object_at s (suc n)) ∙ ap (get_from w m) (sym (object_alike f s (suc n))))
  field_alike w s fields.GetField m (Ref zero ∷ v ∷ rest) = refl
  field_alike w s fields.GetField m (Ref (suc n) ∷ v ∷ rest) = refl
  field_alike w s fields.PutField m [] = refl
  field_alike w s fields.PutField m (v ∷ []) = refl
  field_alike w s fields.PutField m (v ∷ Int x ∷ rest) = refl
  field_alike w s fields.PutField m (v ∷ Long x ∷ rest) = refl
  field_alike w s fields.PutField m (v ∷ Ctx x ∷ rest) = refl
  field_alike w s fields.PutField m (v ∷ Ref zero ∷ []) = refl
  field_alike w s fields.PutField m (v ∷ Ref (suc n) ∷ []) =
      changed_alike f g s (suc n) (put_into w m v (object_at s (suc n)))
      ∙ ap (λ (o : Option (Object L)). option_map (λ x. gives {E = F} (with_object (store_map f s) (suc n) x) []) o) (put_alike f w m v (object_at s (suc n)) ∙ ap (put_into w m (value_map f v)) (sym (object_alike f s (suc n))))
  field_alike w s fields.PutField m (v ∷ Ref zero ∷ u ∷ rest) = refl
  field_alike w s fields.PutField m (v ∷ Ref (suc n) ∷ u ∷ rest) = refl

pub field_law : (K L E F : Type 0) → FieldAlike K L E F
field_law K L E F f g w s op m values = field_alike f g w s op m values
