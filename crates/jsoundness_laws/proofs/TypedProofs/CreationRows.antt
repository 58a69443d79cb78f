-- Rows of instructions that push constants, cast, make arrays and tell the length of one.
use Rattle.std.proofs.Common.{◌≡◌, ℕ, zero, suc, ◌+◌, ◌-◌, ℤ, pos, Bool, true, false, List, [], ◌∷◌, length, replicate, Option, Some, None, option_map, refl, sym, ap, subst, arith, ◌∙◌}
use Rattle.std.specs.Prelude.{if◌then◌else◌}
use Rattle.std.specs.Str.{bytes_eq}
use Rattle.jvalues.specs.declared.jnames.kinds.Kind.TheVariants as kinds
use Rattle.jclass.specs.FileContents.{IsIn}
use Rattle.jvalues.specs.declared.jops.value.Value.{Value}
use Rattle.jvalues.specs.declared.jops.value.Value.TheVariants.{Int, Long, Ref}
use Rattle.jparts.specs.declared.jcode.names.ArrayType as codes_of
use Rattle.jparts.specs.declared.jcode.names.CastOp.{CastOp}
use Rattle.jparts.specs.declared.jcode.names.CastOp.TheVariants as casts
use Rattle.jparts.specs.declared.jcode.op_form.ArrayForm.TheVariants as forms
use Rattle.jtypes.specs.declared.vtype.ArrayType.{ArrayType}
use Rattle.jtypes.specs.declared.vtype.Element.{Element}
use Rattle.jtypes.specs.declared.vtype.Element.TheVariants as elements
use Rattle.jtypes.specs.declared.vtype.VType.{VType}
use Rattle.jtypes.specs.declared.vtype.VType.TheVariants as types
use Rattle.jtypes.specs.DescriptorElements.{in_brackets}
use Rattle.jresolution.specs.juses.IndexedInstructions.{Instruction, goes_on}
use Rattle.jresolution.specs.juses.InstructionMeanings as meanings
use Rattle.jresolution.specs.juses.InstructionMeanings.{Pushed}
use Rattle.jtyping.specs.jrule.ArrayRule.{component, of_numbers, row}
use Rattle.jtyping.specs.jrule.StackEffects.{Of, is_array, is_ref}
use Rattle.jtyping.specs.jrule.InstructionContext.{Here}
use Rattle.jtyping.specs.jrule.PoolEffects.{constant}
use Rattle.jtyping.specs.ProofNames.{of_cast, string}
use Rattle.jsemantics.specs.jmachine.MachineStates.{Row, gives, null}
use Rattle.jsemantics.specs.ProofNames
use Rattle.jsemantics.specs.jmachine.ArrayInstructions.{array, items_in, made, made_of, make}
use Rattle.jsemantics.specs.jmachine.ObjectInstructions.{cast, checked, is_one, push, tested, text_loaded, text_made, units_of}
use Rattle.jsemantics.specs.jmachine.Narrowing.{default, place}
use Rattle.jsemantics.specs.jmachine.HeapObjects.{Object, Text, class_of}
use Rattle.jsemantics.specs.jmachine.TakenOperands.{type_of}
use Rattle.jsemantics.specs.jmachine.Store.{Store, constant_at, next_number, object_at, with_constant, with_made}
use Rattle.jsemantics.specs.jmachine.World.{World}
use Rattle.jsoundness_laws.specs.typed.RuntimeAssignability.{IsValueType}
use Rattle.jsoundness_laws.specs.typed.TypedStores.{EachOf, IsStored}
use Rattle.jsoundness_laws.specs.typed.TypedFrames.{News}
use Rattle.jsoundness_laws.specs.typed.TypedValues.{AllServe, HasDimensions, IsA, Serves, is_whole, whole_type}
use Rattle.jsoundness_laws.proofs.TypedProofs.Faces.{FacesOf, instance_is}
use Rattle.jsoundness_laws.proofs.TypedProofs.SubtypeTransitivity.{InOrder, fits_itself}
use Rattle.jsoundness_laws.proofs.TypedProofs.StoreMonotonicity.{grows_constant, grows_itself, grows_made}
use Rattle.jsoundness_laws.proofs.TypedProofs.TypedValues.{has_of}
use Rattle.jsoundness_laws.proofs.TypedProofs.ValueKinds.{array_value, int_value, known_type, ref_value}
use Rattle.jsoundness_laws.proofs.TypedProofs.Simples.{HasRow}
use Rattle.jsoundness_laws.proofs.TypedProofs.ObjectAllocation.{stored_constant, stored_made, get_end}

some_is : {A : Type 0} (a b : A) → Some a ≡ Some b → a ≡ b
some_is a b e = cc

suc_is : (n : ℕ) → n + 1 ≡ suc n
suc_is n = omega arith

-- ---- what places hold at first

module _ {K : Type 0} (w : World) (t : Store K) where
  zero_is : IsA w t types.Int (Int (pos 0))
  zero_is = record { type = types.Int; is = refl; met = refl }

  default_is : (d : ℕ) (x : Element) → IsA w t (in_brackets d x) (default (in_brackets d x))
  default_is zero elements.Boolean = zero_is
  default_is zero elements.Char = zero_is
  default_is zero elements.Byte = zero_is
  default_is zero elements.Short = zero_is
  default_is zero elements.Int = zero_is
  default_is zero elements.Long = record { type = types.Long; is = refl; met = refl }
  default_is zero (elements.Class c) = record { type = types.Null; is = refl; met = refl }
  default_is (suc d) x = record { type = types.Null; is = refl; met = refl }

  each_same : (a : VType) (v : Value K) (n : ℕ) → IsA w t a v → EachOf w t a (replicate n v)
  each_same a v zero h = tt
  each_same a v (suc n) h = (h, each_same a v n h)

-- ---- what was made last

module _ {K : Type 0} (w : World) (order : InOrder w.tree) (s : Store K) (x : Object K) (whole : is_whole x ≡ true) (value : IsValueType (class_of w.named x)) where
  last_at : object_at (with_made s x) (suc (length s.objects)) ≡ Some x
  last_at = get_end s.objects x

  last_is : IsA w (with_made s x) (class_of w.named x) (Ref (suc (length s.objects)))
  last_is = record {
    type = class_of w.named x;
    is = ap (whole_type w (with_made s x)) last_at ∙ ap (λ b. if b then Some (class_of w.named x) else None) whole;
    met = fits_itself w.tree order (class_of w.named x) value;
  }

  pub made_is : IsA w (with_made s x) (class_of w.named x) (Ref (next_number s))
  made_is = subst (λ n. IsA w (with_made s x) (class_of w.named x) (Ref n)) (sym (suc_is (length s.objects))) last_is

-- ---- string constants

found_in : (cs : List (List ℕ × ℕ)) (units : List ℕ) (n : ℕ) → constant_at cs units ≡ Some n → (c : List ℕ × ℕ) × IsIn c cs × (c.1 ≡ n)
found_in [] units n e = absurd (cc)
found_in (c ∷ cs) units n e = go (found_in cs units n) (bytes_eq c.0 units) e
  where
    go : (constant_at cs units ≡ Some n → (d : List ℕ × ℕ) × IsIn d cs × (d.1 ≡ n)) → (b : Bool) → (if b then Some c.1 else constant_at cs units) ≡ Some n
        → (d : List ℕ × ℕ) × IsIn d (c ∷ cs) × (d.1 ≡ n)
    go more true e = (c, (0, refl), some_is c.1 n e)
    go more false e = let found = more e in (found.0, (suc found.1.0, found.1.1), found.2)

text_at : {K : Type 0} (w : World) (s : Store K) → InOrder w.tree → (n : ℕ) (units : List ℕ) → object_at s n ≡ Some (Text (Some units)) → IsA w s string (Ref n)
text_at w s order zero units e = absurd (cc)
text_at w s order (suc n) units e = record { type = string; is = ap (whole_type w s) e; met = fits_itself w.tree order string tt }

-- ---- rows

module _ {K E : Type 0} (w : World) (s : Store K) (order : InOrder w.tree) (statics : List VType) (stored : IsStored w s statics) (i : Instruction) (on : goes_on i ≡ true)
    (here : Here) (news : News) where
  abbrev IsRow : Option VType → Option (Row K E) → Type 0
  IsRow gives found = HasRow {K = K} {E = E} w s statics here news i gives found

  made_row : (a : ArrayType) → HasDimensions (types.Array a) → (o : Option ℕ) → IsRow (Some (types.Array a)) (Some (made s a o))
  made_row a d None = record { row = made s a None; is = refl; act = tt }
  made_row a d (Some n) = record {
    row = made s a (Some n);
    is = refl;
    act = (
      on,
      grows_made K w s (made_of a n),
      stored_made K w s (made_of a n) statics stored (d, each_same w (with_made s (made_of a n)) (component a) (default (component a)) n (default_is w (with_made s (made_of a n)) (a.depth - 1) a.element)),
      ((made_is w order s (made_of a n) refl tt, d), tt),
    );
  }

  int_row : (a : ArrayType) → HasDimensions (types.Array a) → (n : ℤ) → IsRow (Some (types.Array a)) (make s (types.Array a) (Int n ∷ []))
  unfolding make
  int_row a d n = made_row a d (place n)

  pub make_row : (a : ArrayType) → HasDimensions (types.Array a) → (given : List (Value K)) → AllServe w s (Of kinds.Int ∷ []) given → IsRow (Some (types.Array a)) (make s (types.Array a) given)
  make_row a d (v ∷ []) h = let n = int_value w s v h.0 in subst (λ v. IsRow (Some (types.Array a)) (make s (types.Array a) (v ∷ []))) (sym n.1) (int_row a d n.0)
  make_row a d [] h = absurd h
  make_row a d (v ∷ u ∷ more) h = absurd h.1

  pub new_row : (kind : codes_of.ArrayType) (given : List (Value K)) → AllServe w s (Of kinds.Int ∷ []) given
      → IsRow (Some (row (of_numbers kind))) (array w s (forms.New kind) given)
  unfolding array
  new_row kind given h = make_row (record { depth = 1; element = of_numbers kind }) (λ e. cc) given h

  -- ---- constants

  loaded_row : (units : List ℕ) (o : Option ℕ) → constant_at s.constants units ≡ o → IsRow (Some string) (Some (text_loaded s units o))
  loaded_row units (Some n) e =
      let found = found_in s.constants units n e in
      record { row = text_loaded s units (Some n); is = refl; act = (on, grows_itself K w s, stored, (text_at w s order n found.0.0 (ap (object_at s) (sym found.2) ∙ stored.constants found.0 found.1), tt)) }
  loaded_row units None e =
      let t : Store K = with_constant s units in record {
        row = text_made t units;
        is = refl;
        act = (on, grows_constant K w s units (Text (Some units)), stored_constant K w s units statics stored, (made_is w order t (Text (Some units)) refl tt, tt));
      }

  pub push_row : (c : Pushed) (given : List (Value K)) → AllServe w s [] given → IsRow (Some (constant c)) (push s c given)
  unfolding push
  push_row (meanings.Int n) [] h = record { row = gives s (Int n ∷ []); is = refl; act = (on, grows_itself K w s, stored, (record { type = types.Int; is = refl; met = refl }, tt)) }
  push_row (meanings.Long n) [] h = record { row = gives s (Long n ∷ []); is = refl; act = (on, grows_itself K w s, stored, (record { type = types.Long; is = refl; met = refl }, tt)) }
  push_row (meanings.Text bytes) [] h = loaded_row (units_of bytes) (constant_at s.constants (units_of bytes)) refl
  push_row c (v ∷ more) h = absurd h

module _ {K E : Type 0} (w : World) (s : Store K) (statics : List VType) (stored : IsStored w s statics) (i : Instruction) (on : goes_on i ≡ true) (here : Here) (news : News) where
  abbrev Gives : Option VType → Option (Row K E) → Type 0
  Gives gives found = HasRow {K = K} {E = E} w s statics here news i gives found

  -- ---- lengths

  int_given : (n : ℤ) → Gives (Some types.Int) (Some (gives s (Int n ∷ [])))
  int_given n = record { row = gives s (Int n ∷ []); is = refl; act = (on, grows_itself K w s, stored, (record { type = types.Int; is = refl; met = refl }, tt)) }

  length_of : (n : ℕ) → Serves w s (Of kinds.Array) (Ref n) → Gives (Some types.Int) (array w s forms.Length (Ref n ∷ []))
  unfolding array
  length_of zero h = record { row = null; is = refl; act = tt }
  length_of (suc n) h =
      let x = array_value w s n h in
      subst (λ o. Gives (Some types.Int) (option_map (ProofNames.length_row s) (items_in o))) (sym x.2) (int_given (pos (length x.1)))

  pub length_row : (given : List (Value K)) → AllServe w s (Of kinds.Array ∷ []) given → Gives (Some types.Int) (array w s forms.Length given)
  length_row (v ∷ []) h =
      let n = ref_value w s v (array_ref v h.0) in
      subst (λ v. Gives (Some types.Int) (array w s forms.Length (v ∷ []))) (sym n.1) (length_of n.0 (subst (λ v. Serves w s (Of kinds.Array) v) n.1 h.0))
    where
      is_reference : (a : VType) → is_array a ≡ true → is_ref a ≡ true
      is_reference types.Null e = refl
      is_reference (types.Array b) e = refl
      is_reference _ e = absurd (cc)

      array_ref : (v : Value K) → Serves w s (Of kinds.Array) v → Serves w s (Of kinds.Ref) v
      array_ref v x = record { type = x.type; is = x.is; met = is_reference x.type x.met }
  length_row [] h = absurd h
  length_row (v ∷ u ∷ more) h = absurd h.1

-- ---- casts

module _ {K : Type 0} (w : World) (s : Store K) where
  null_is : (t : VType) → is_ref t ≡ true → IsA w s t (Ref 0)
  null_is types.Null e = record { type = types.Null; is = refl; met = refl }
  null_is (types.Object c) e = record { type = types.Null; is = refl; met = refl }
  null_is (types.Array b) e = record { type = types.Null; is = refl; met = refl }
  null_is _ e = absurd (cc)

  one_is : FacesOf w → (t : VType) (v : Value K) → Serves w s (Of kinds.Ref) v → is_one w t (type_of w s v) ≡ true → IsA w s t v
  one_is faces t v x e = record { type = x.type; is = x.is; met = instance_is w faces x.type t (sym (ap (is_one w t) (known_type w s v x.type x.is)) ∙ e) }

module _ {K E : Type 0} (w : World) (s : Store K) (faces : FacesOf w) (statics : List VType) (stored : IsStored w s statics) (i : Instruction) (on : goes_on i ≡ true)
    (here : Here) (news : News) where
  abbrev Casts : Option VType → Option (Row K E) → Type 0
  Casts gives found = HasRow {K = K} {E = E} w s statics here news i gives found

  tested_row : (b : Bool) → Casts (Some types.Int) (Some (tested s b))
  tested_row true = record { row = tested s true; is = refl; act = (on, grows_itself K w s, stored, (record { type = types.Int; is = refl; met = refl }, tt)) }
  tested_row false = record { row = tested s false; is = refl; act = (on, grows_itself K w s, stored, (record { type = types.Int; is = refl; met = refl }, tt)) }

  checked_row : (t : VType) → HasDimensions t → (v : Value K) (b : Bool) → (b ≡ true → IsA w s t v) → Casts (Some t) (Some (checked s v b))
  checked_row t d v true h = record { row = checked s v true; is = refl; act = (on, grows_itself K w s, stored, (has_of w s here news t v (h refl) d, tt)) }
  checked_row t d v false h = record { row = checked s v false; is = refl; act = tt }

  ref_cast : (op : CastOp) (t : VType) → is_ref t ≡ true → HasDimensions t → (n : ℕ) → Serves w s (Of kinds.Ref) (Ref n) → Casts (of_cast op t).gives (cast w s op t (Ref n ∷ []))
  unfolding cast
  ref_cast casts.CheckCast t r d zero h = record { row = gives s (Ref 0 ∷ []); is = refl; act = (on, grows_itself K w s, stored, (has_of w s here news t (Ref 0) (null_is w s t r) d, tt)) }
  ref_cast casts.CheckCast t r d (suc n) h = checked_row t d (Ref (suc n)) (is_one w t (type_of w s (Ref (suc n)))) (one_is w s faces t (Ref (suc n)) h)
  ref_cast casts.InstanceOf t r d zero h = tested_row false
  ref_cast casts.InstanceOf t r d (suc n) h = tested_row (is_one w t (type_of w s (Ref (suc n))))

  pub cast_row : (op : CastOp) (t : VType) → is_ref t ≡ true → HasDimensions t → (given : List (Value K)) → AllServe w s (Of kinds.Ref ∷ []) given → Casts (of_cast op t).gives (cast w s op t given)
  cast_row op t r d (v ∷ []) h =
      let n = ref_value w s v h.0 in
      subst (λ v. Casts (of_cast op t).gives (cast w s op t (v ∷ []))) (sym n.1) (ref_cast op t r d n.0 (subst (λ v. Serves w s (Of kinds.Ref) v) n.1 h.0))
  cast_row op t r d [] h = absurd h
  cast_row op t r d (v ∷ u ∷ more) h = absurd h.1
