-- Loads from arrays and stores into them in typed frames.
use Rattle.std.proofs.Common.{◌≡◌, ℕ, zero, suc, ◌-◌, ℤ, Bool, true, false, List, [], ◌∷◌, length, Option, Some, None, refl, sym, ap, subst, ◌∙◌}
use Rattle.std.specs.Prelude.{option_and_then, option_map, slice_set, if◌then◌else◌}
use Rattle.jvalues.specs.declared.jnames.kinds.Kind.TheVariants as kinds
use Rattle.jvalues.specs.declared.jops.value.Value.{Value}
use Rattle.jvalues.specs.declared.jops.value.Value.TheVariants.{Int, Ref}
use Rattle.jparts.specs.declared.jcode.names.Element as items
use Rattle.jparts.specs.declared.jcode.names.Element.TheVariants as item
use Rattle.jparts.specs.declared.jcode.op_form.ArrayForm.TheVariants as forms
use Rattle.jparts.specs.jcode.InstructionForms.{element}
use Rattle.jlib.specs.declared.classes.LibClass.TheVariants as lib
use Rattle.jlib.specs.declared.classes.Thrown.TheVariants as thrown
use Rattle.jtypes.specs.declared.vtype.ArrayType.{ArrayType}
use Rattle.jtypes.specs.declared.vtype.VType.{VType}
use Rattle.jtypes.specs.declared.vtype.VType.TheVariants as types
use Rattle.jtypes.specs.TypeFrames.{Frame}
use Rattle.jtypes.specs.ClassTrees.{Tree}
use Rattle.jresolution.specs.declared.jprogram.member.Member.{Member}
use Rattle.jresolution.specs.juses.IndexedInstructions as instructions
use Rattle.jtyping.specs.jrule.ArrayRule as rules
use Rattle.jtyping.specs.jrule.ArrayRule.{component, loaded, loaded_on, operands}
use Rattle.jtyping.specs.ProofNames.{wanted}
use Rattle.jtyping.specs.jrule.StackEffects.{Holds, Of, Want, holds, is_int, items_of, same_items}
use Rattle.jtyping.specs.jrule.InstructionContext.{Here}
use Rattle.jtyping.specs.jrule.StackOperands.{below, pushed, taken as types_taken, with_stack}
use Rattle.jsemantics.specs.jmachine.MachineStates.{FrameOf, Row, gives, null, raises}
use Rattle.jsemantics.specs.jmachine.ArrayInstructions.{array, items_in, load, load_at, outside, store, store_at, with_item, within}
use Rattle.jsemantics.specs.jmachine.InstructionActions.{by_taken}
use Rattle.jsemantics.specs.jmachine.FrameOperations.{with_operands}
use Rattle.jsemantics.specs.jmachine.Narrowing.{held_by, narrowed, place}
use Rattle.jsemantics.specs.jmachine.HeapObjects.{Object, Array}
use Rattle.jsemantics.specs.jmachine.TakenOperands.{Taken, serves, taken, type_of, with_value}
use Rattle.jsemantics.specs.jmachine.Security.{Rules}
use Rattle.jsemantics.specs.jmachine.InstructionSites.{Site}
use Rattle.jsemantics.specs.jmachine.Store.{Store, object_at}
use Rattle.jsemantics.specs.jmachine.World.{World}
use Rattle.jsoundness_laws.specs.typed.TypedActions.{CanDo}
use Rattle.jsoundness_laws.specs.typed.TypedFrames.{AllHave, AllHold, Has, News, Suits}
use Rattle.jsoundness_laws.specs.typed.StoreGrowth.{Becomes, Grows}
use Rattle.jsoundness_laws.specs.typed.TypedStores.{IsStored}
use Rattle.jsoundness_laws.specs.typed.TypedValues.{AllServe, HasDimensions, IsA, Serves}
use Rattle.jsoundness_laws.proofs.TypedProofs.ObjectUpdates.{stored_changed}
use Rattle.jsoundness_laws.proofs.TypedProofs.OperandExchange.{Exchanged, given_leaves, taken_does, taken_leaves}
use Rattle.jsoundness_laws.proofs.TypedProofs.Faces.{FacesOf, instance_is}
use Rattle.jsoundness_laws.proofs.TypedProofs.SubtypeTransitivity.{InOrder}
use Rattle.jsoundness_laws.proofs.TypedProofs.StoreMonotonicity.{grows_changed, grows_itself}
use Rattle.jsoundness_laws.proofs.TypedProofs.TypedValues.{has_of}
use Rattle.jsoundness_laws.proofs.TypedProofs.ArrayItems.{ArrayAt, array_at, as_array, as_ref, brackets_dimensions, each_set, holds_served, item_of, loaded_is, narrowed_is, no_null, within_there}
use Rattle.jsoundness_laws.proofs.TypedProofs.Locals.{if_some}
use Rattle.jsoundness_laws.proofs.TypedProofs.ValueKinds.{IsPlain, array_value, has_kind, int_value, known_type, ref_value, served}
use Rattle.jsoundness_laws.proofs.TypedProofs.Simples.{HasRow}
use Rattle.jsoundness_laws.proofs.TypedProofs.ObjectAllocation.{each_kept}
use Rattle.jsoundness_laws.proofs.TypedProofs.StoreMonotonicity.{serves_kept}
use Rattle.jsoundness_laws.proofs.TypedProofs.TakenOperands.{IsServed, plain_served}
use Rattle.jsemantics.specs.jmachine.ObjectInstructions.{is_one}

-- two operands are taken
taken_two : {K : Type 0} (w : World) (s : Store K) (first second : Want) (v u : Value K) (under : List (Value K)) → Serves w s first v → Serves w s second u
    → taken w s (first ∷ second ∷ []) (v ∷ u ∷ under) ≡ Some (record { values = v ∷ u ∷ []; below = under })
unfolding taken
taken_two {K} w s first second v u under h k =
    let rest : Option (Taken K) = if serves w s second u then option_map (with_value u) (Some (record { values = []; below = under })) else None in
    ap (λ c. if c then option_map (with_value v) rest else None) (served w s first v h)
    ∙ ap (λ c. option_map (with_value v) (if c then option_map (with_value u) (Some (record { values = []; below = under })) else None)) (served w s second u k)

-- ---- loads

module _ {K : Type 0} (E : Type 0) (w : World) (s : Store K) (order : InOrder w.tree) (statics : List VType) (stored : IsStored w s statics) (here : Here) (news : News) (e : items.Element) where
  abbrev IsLoad : VType → Option (Row K E) → Type 0
  IsLoad a found = HasRow {K = K} {E = E} w s statics here news (instructions.Array (forms.Load e)) (Some (loaded e a)) found

  item_row : (a : ArrayType) (n : ℕ) → HasDimensions (types.Array a) → same_items e (items_of a) ≡ true → (x : ArrayAt w s order statics stored a n) (i : Option ℕ) (k : ℤ) → within (length x.items) (place k) ≡ i
      → IsLoad (types.Array a) (load_at s (record { type = x.type; items = x.items }) i)
  item_row a n d same x None k at = record { row = outside; is = refl; act = tt }
  item_row a n d same x (Some i) k at =
      let u = within_there x.items (place k) i at in
      let has = has_of w s here news (component a) u.0 (item_of w s order statics stored a n d x i u.0 u.1) (brackets_dimensions (a.depth - 1) a.element) in record {
        row = gives s (u.0 ∷ []);
        is = ap (option_map (λ v. gives s (v ∷ []))) u.1;
        act = (refl, grows_itself K w s, stored, (subst (λ c. Has w s here news c u.0) (sym (loaded_is e a.depth a.element d same)) has, tt));
      }

  array_row : (a : ArrayType) → HasDimensions (types.Array a) → same_items e (items_of a) ≡ true → (k : ℤ) (n : ℕ) → IsA w s (types.Array a) (Ref n)
      → IsLoad (types.Array a) (array w s (forms.Load e) (Int k ∷ Ref n ∷ []))
  unfolding array
  array_row a d same k zero h = record { row = null; is = refl; act = tt }
  array_row a d same k (suc n) h =
      let x = array_at w s order statics stored a n h in
      subst (λ o. IsLoad (types.Array a) (option_and_then (load s k) (items_in o))) (sym x.at) (item_row a n d same x (within (length x.items) (place k)) k refl)

  null_row : (k : ℤ) (n : ℕ) → IsA w s types.Null (Ref n) → IsLoad types.Null (array w s (forms.Load e) (Int k ∷ Ref n ∷ []))
  unfolding array
  null_row k zero h = record { row = null; is = refl; act = tt }
  null_row k (suc n) h = absurd (no_null w s order statics stored n h)

  load_row : (a : VType) (u : Value K) → Has w s here news a u → holds e a ≡ true → (k : ℤ) (n : ℕ) → u ≡ Ref n → IsLoad a (array w s (forms.Load e) (Int k ∷ Ref n ∷ []))
  load_row types.Null u x h k n is = null_row k n (subst (λ u. IsA w s types.Null u) is x)
  load_row (types.Array a) u x h k n is = array_row a x.1 h k n (subst (λ u. IsA w s (types.Array a) u) is x.0)
  load_row _ u x h k n is = absurd (cc)

  -- an index and an array are taken, and the row gives an item
  record Loads (gives : VType) (given : List (Value K)) (rest : List VType) : Type 0 where
    values : List (Value K)
    under : List (Value K)
    is : taken w s (Of kinds.Int ∷ Holds e ∷ []) given ≡ Some (record { values = values; below = under })
    row : HasRow {K = K} {E = E} w s statics here news (instructions.Array (forms.Load e)) (Some gives) (array w s (forms.Load e) values)
    fit : AllHave w s here news rest under

  loads : (t : Tree) (stack : List VType) (given : List (Value K)) (rest : List VType) → AllHave w s here news stack given
      → below t (Of kinds.Int ∷ Holds e ∷ []) stack ≡ Some rest → Loads (loaded_on e stack) given rest
  unfolding below
  loads t [] given rest fit is = absurd (cc)
  loads t (i ∷ []) given rest fit is = let x = if_some (is_int i) None rest is in absurd (no_rest x.1)
    where
      no_rest : None ≡ Some rest → ⊥
      no_rest e = cc
  loads t (i ∷ a ∷ ts) [] rest fit is = absurd fit
  loads t (i ∷ a ∷ ts) (v ∷ []) rest fit is = absurd fit.1
  loads t (i ∷ a ∷ ts) (v ∷ u ∷ under) rest fit is =
      let first = if_some (is_int i) (if holds e a then Some ts else None) rest is in
      let second = if_some (holds e a) (Some ts) rest first.1 in
      let index = has_kind w s here news kinds.Int i v tt fit.0 first.0 in
      let held = holds_served w s order statics stored here news t e a u fit.1.0 second.0 in
      let k = int_value w s v index in
      let n = ref_value w s u (as_ref w s e u held) in record {
        values = v ∷ u ∷ [];
        under = under;
        is = taken_two w s (Of kinds.Int) (Holds e) v u under index held;
        row = subst (λ v. IsLoad a (array w s (forms.Load e) (v ∷ u ∷ []))) (sym k.1)
            (subst (λ u. IsLoad a (array w s (forms.Load e) (Int k.0 ∷ u ∷ []))) (sym n.1) (load_row a u fit.1.0 second.0 k.0 n.0 n.1));
        fit = subst (λ ts. AllHave w s here news ts under) (same_rest second.1) fit.1.1;
      }
    where
      same_rest : Some ts ≡ Some rest → ts ≡ rest
      same_rest e = cc

load_leaves : (t : Tree) (most : ℕ) (e : items.Element) (f g : Frame) → rules.load t most e f ≡ Some g → Exchanged t (operands e (forms.Load e)) (Some (loaded_on e f.stack)) f g
unfolding types_taken
load_leaves t most e f g h = go (below t (operands e (forms.Load e)) f.stack) refl h
  where
    go : (o : Option (List VType)) → below t (operands e (forms.Load e)) f.stack ≡ o → option_and_then (pushed most (loaded_on e f.stack)) (option_map (with_stack f) o) ≡ Some g
        → Exchanged t (operands e (forms.Load e)) (Some (loaded_on e f.stack)) f g
    go None is h = absurd (cc)
    go (Some rest) is h = given_leaves t most (operands e (forms.Load e)) f g rest is (Some (loaded_on e f.stack)) h

-- ---- stores

item_want : (e : items.Element) → Of (element e) ≡ wanted e (element e)
item_want item.Int = refl
item_want item.Long = refl
item_want item.Ref = refl
item_want item.Byte = refl
item_want item.Char = refl
item_want item.Short = refl

item_plain : (e : items.Element) → IsPlain (element e)
item_plain item.Int = tt
item_plain item.Long = tt
item_plain item.Ref = tt
item_plain item.Byte = tt
item_plain item.Char = tt
item_plain item.Short = tt

module _ {K : Type 0} (w : World) (s : Store K) (statics : List VType) (stored : IsStored w s statics) where
  -- what may be stored is of what the array holds
  stored_is : FacesOf w → (a : ArrayType) (want : Want) (v : Value K) → Serves w s want v → is_one w (component a) (type_of w s v) ≡ true → IsA w s (component a) v
  stored_is faces a want v x h = record {
    type = x.type;
    is = x.is;
    met = instance_is w faces x.type (component a) (sym (ap (is_one w (component a)) (known_type w s v x.type x.is)) ∙ h);
  }

  module _ (a : ArrayType) (held : List (Value K)) (n : ℕ) (v : Value K) (at : object_at s (suc n) ≡ Some (Array a held)) where
    abbrev other : ℕ → Object K
    other i = Array a (slice_set held i (narrowed (held_by a) v))

    abbrev later : ℕ → Store K
    later i = with_item s (suc n) (record { type = a; items = held }) i v

    becomes : (i : ℕ) → Becomes w (Array a held) (other i)
    becomes i = record { class = refl; whole = λ h. refl; piece = refl }

    grows : (i : ℕ) → Grows w s (later i)
    grows i = grows_changed K w s (suc n) (Array a held) (other i) at (becomes i)

    typed : (i : ℕ) → IsA w s (component a) v → IsStored w (later i) statics
    typed i x =
        let object = stored.objects (suc n) (Array a held) at in
        let each = each_set w (later i) (component a) held i (narrowed (held_by a) v) (each_kept w s (later i) (grows i) (component a) held object.1)
        (narrowed_is w (later i) (component a) (held_by a) v (serves_kept w s (later i) (grows i) _ v x)) in
        stored_changed w s n (Array a held) (other i) statics stored at tt (becomes i) (object.0, each)

module _ {K : Type 0} (E : Type 0) (w : World) (s : Store K) (faces : FacesOf w) (statics : List VType) (stored : IsStored w s statics) (here : Here) (news : News) (e : items.Element) where
  abbrev IsKept : Option (Row K E) → Type 0
  IsKept found = HasRow {K = K} {E = E} w s statics here news (instructions.Array (forms.Store e)) None found

  abbrev refused : Row K E
  refused = raises (lib.Thrown thrown.ArrayStoreException)

  module _ (a : ArrayType) (held : List (Value K)) (n : ℕ) (v : Value K) (at : object_at s (suc n) ≡ Some (Array a held)) where
    abbrev put : ℕ → Store K
    put i = with_item s (suc n) (record { type = a; items = held }) i v

    put_row : (i : ℕ) → IsA w s (component a) v → IsKept (Some (gives (put i) []))
    put_row i x = record { row = gives (put i) []; is = refl; act = (refl, grows w s statics stored a held n v at i, typed w s statics stored a held n v at i x, tt) }

    stored_row : (i : ℕ) (want : Want) → Serves w s want v → (b : Bool) → is_one w (component a) (type_of w s v) ≡ b
        → IsKept (Some (if b then gives (put i) [] else refused))
    stored_row i want x true is = put_row i (stored_is w s statics stored faces a want v x is)
    stored_row i want x false is = record { row = refused; is = refl; act = tt }

    place_row : (want : Want) → Serves w s want v → (o : Option ℕ) → IsKept (Some (store_at w s (suc n) v (record { type = a; items = held }) o))
    place_row want x None = record { row = outside; is = refl; act = tt }
    place_row want x (Some i) = stored_row i want x (is_one w (component a) (type_of w s v)) refl

  ref_kept : (want : Want) (v : Value K) → Serves w s want v → (k : ℤ) (n : ℕ) → Serves w s (Holds e) (Ref n) → IsKept (array w s (forms.Store e) (v ∷ Int k ∷ Ref n ∷ []))
  unfolding array
  ref_kept want v x k zero h = record { row = null; is = refl; act = tt }
  ref_kept want v x k (suc n) h =
      let y = array_value w s n (as_array w s e (Ref (suc n)) h) in
      subst (λ o. IsKept (option_map (store w s (suc n) k v) (items_in o))) (sym y.2) (place_row y.0 y.1 n v y.2 want x (within (length y.1) (place k)))

  pub store_row : (want : Want) (given : List (Value K)) → AllServe w s (want ∷ Of kinds.Int ∷ Holds e ∷ []) given → IsKept (array w s (forms.Store e) given)
  store_row want (v ∷ i ∷ u ∷ []) h =
      let k = int_value w s i h.1.0 in
      let n = ref_value w s u (as_ref w s e u h.1.1.0) in
      subst (λ i. IsKept (array w s (forms.Store e) (v ∷ i ∷ u ∷ []))) (sym k.1) (subst (λ u. IsKept (array w s (forms.Store e) (v ∷ Int k.0 ∷ u ∷ []))) (sym n.1)
      (ref_kept want v h.0 k.0 n.0 (subst (λ u. Serves w s (Holds e) u) n.1 h.1.1.0)))
  store_row want [] h = absurd h
  store_row want (v ∷ []) h = absurd h.1
  store_row want (v ∷ i ∷ []) h = absurd h.1.1
  store_row want (v ∷ i ∷ u ∷ x ∷ more) h = absurd h.1.1.1

-- ---- all

module _ {K E : Type 0} (r : Rules K E) (at : Site) (own : Member → Bool) (s : Store K) (entries : List E) (inherited : Option K) (order : InOrder at.world.tree) (statics : List VType)
    (stored : IsStored at.world s statics) (here : Here) (news : News) (t : Tree) (e : items.Element) (shape behind : Frame) (f : FrameOf K E) (suits : Suits at.world s here news shape f) where
  pub load_does : rules.load t here.max_stack e shape ≡ Some behind
      → CanDo at.world s statics here (instructions.Array (forms.Load e)) behind
      (by_taken r at own s entries inherited f (taken at.world s (operands e (forms.Load e)) f.operands) (array at.world s (forms.Load e)))
  load_does h =
      let x = load_leaves t here.max_stack e shape behind h in
      let found = loads E at.world s order statics stored here news e t shape.stack f.operands x.rest suits.operands x.is in record {
        done = record { frame = with_operands f found.under; row = found.row.row };
        is = ap (λ o. by_taken r at own s entries inherited f o (array at.world s (forms.Load e))) found.is
            ∙ ap (option_map (λ row. record { frame = with_operands f found.under; row = row })) found.row.is;
        news = news;
        does = record {
          gives = Some (loaded_on e shape.stack);
          rest = x.rest;
          stack = x.stack;
          locals = subst (λ ts. AllHold at.world s here news ts f.locals) (sym x.locals) suits.locals;
          operands = found.fit;
          act = found.row.act;
        };
      }

  pub store_does : FacesOf at.world → types_taken t (operands e (forms.Store e)) shape ≡ Some behind
      → CanDo at.world s statics here (instructions.Array (forms.Store e)) behind
      (by_taken r at own s entries inherited f (taken at.world s (operands e (forms.Store e)) f.operands) (array at.world s (forms.Store e)))
  store_does faces h =
      let value : IsServed at.world s here news t (wanted e (element e)) = subst (λ want. IsServed at.world s here news t want) (item_want e)
      (plain_served at.world s here news t (element e ∷ []) (item_plain e, tt)).0 in
      let index : IsServed at.world s here news t (Of kinds.Int) = (plain_served at.world s here news t (kinds.Int ∷ []) (tt, tt)).0 in
      taken_does r at own s entries inherited statics here news (instructions.Array (forms.Store e)) t (operands e (forms.Store e)) None
      (value, (index, (holds_served at.world s order statics stored here news t e, tt)))
      (array at.world s (forms.Store e)) (store_row E at.world s faces statics stored here news e (wanted e (element e))) shape behind f suits
      (taken_leaves t (operands e (forms.Store e)) shape behind h)
