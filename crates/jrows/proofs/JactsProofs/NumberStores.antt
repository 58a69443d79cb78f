-- Stores of numbers into arrays.
use Rattle.std.proofs.Common.{◌≡◌, ◌∙◌, ℕ, zero, suc, ℤ, ◌+◌, ◌-◌, ◌≤◌, Bool, true, false, List, [], ◌∷◌, length, drop, map, Option, Some, None, refl, sym, ap, ap₂, arith}
use Rattle.std.specs.Prelude.{nat_lt, option_map, slice_get, slice_set, if◌then◌else◌}
use Rattle.std.proofs.lemmas.Bool.{lt-ltb}
use Rattle.std.proofs.lemmas.List.{length-map}
use Rattle.jparts.specs.declared.jcode.names.Element.{Element}
use Rattle.jparts.specs.declared.jcode.names.Element.TheVariants as items
use Rattle.jparts.specs.declared.jcode.op_form.ArrayForm.TheVariants as forms
use Rattle.jparts.specs.declared.jcode.names.ArrayType.{ArrayType as ArrayKind}
use Rattle.jparts.specs.jcode.InstructionForms.{element}
use Rattle.jvalues.specs.declared.jnames.kinds.Kind.{Kind}
use Rattle.jvalues.specs.declared.jnames.kinds.Kind.TheVariants as wanted
use Rattle.jmemory.specs.declared.jheap.cell.Kind.{Kind as CellKind}
use Rattle.jmemory.specs.declared.jheap.cell.Kind.TheVariants as kinds
use Rattle.jmemory.specs.jheap.Heaps as heaps
use Rattle.jmemory.specs.jheap.Heaps.{Heaped, cells_at, with_cell}
use Rattle.jmemory.specs.jheap.RawValues.{of_raw, raw}
use Rattle.jmemory.specs.jheap.RawValues as numbers
use Rattle.jlib.specs.declared.classes.LibClass.TheVariants as lib
use Rattle.jlib.specs.declared.classes.Thrown.TheVariants as thrown
use Rattle.jvalues.specs.declared.jops.value.Value.{Value}
use Rattle.jvalues.specs.declared.jops.value.Value.TheVariants.{Int, Long, Ref, Ctx}
use Rattle.jvalues.specs.jops.ValueKinds.{is_of}
use Rattle.jresolution.specs.jprogram.ProgramClasses.{Program}
use Rattle.jtyping.specs.jrule.ArrayRule.{operands, component}
use Rattle.jtyping.specs.jrule.StackEffects.{Of, Holds, Want, items_of, same_items}
use Rattle.jtyping.specs.jrule.StackEffects as rules
use Rattle.jtypes.specs.declared.vtype.Element as elements_of
use Rattle.jtypes.specs.declared.vtype.Element.TheVariants as elements
use Rattle.jtypes.specs.declared.vtype.ArrayType.{ArrayType}
use Rattle.jtypes.specs.declared.vtype.VType.{VType}
use Rattle.jtypes.specs.declared.vtype.VType.TheVariants as types
use Rattle.jtypes.specs.DescriptorElements.{alone, in_brackets}
use Rattle.jresolution.specs.declared.juses.types.ArrayRef.{ArrayRef}
use Rattle.jresolution.specs.juses.IndexedInstructions as instructions
use Rattle.jresolution.specs.juses.InternedTypes.{array_named, element_named}
use Rattle.jsemantics.specs.jmachine.MachineStates.{FrameOf}
use Rattle.jsemantics.specs.jmachine.ArrayInstructions as rows
use Rattle.jsemantics.specs.jmachine.ArrayInstructions.{Items}
use Rattle.jsemantics.specs.jmachine.InstructionActions.{doing}
use Rattle.jsemantics.specs.jmachine.FrameOperations.{standing}
use Rattle.jsemantics.specs.jmachine.Narrowing.{held_by, narrowed, place}
use Rattle.jsemantics.specs.jmachine.HeapObjects.{Array}
use Rattle.jsemantics.specs.jmachine.TakenOperands.{Taken, serves, taken, type_of, with_value}
use Rattle.jsemantics.specs.jmachine.Store.{Store, object_at, with_object}
use Rattle.jsemantics.specs.jmachine.World.{World, is_instance}
use Rattle.jruntime.specs.declared.jstate.shapes.Shapes.{Shapes}
use Rattle.jruntime.specs.jstate.ObjectCells.{StayCelled, WrittenStaysCelled}
use Rattle.jruntime.specs.jstate.FrameLists.{Framed}
use Rattle.jruntime.specs.jstate.ArrayNumbers.{element_of, numbers_at}
use Rattle.jruntime.specs.jstate.HeapMeanings.{AreBuilt, Things, array_at, item_type, kind_by, row_at, store_by}
use Rattle.jruntime.specs.jstate.HeapMeaningLaws.{IsNoPiece, NamesNone, Writes, WritesItem, WrittenStaysBuilt}
use Rattle.jruntime.proofs.JstateProofs.ArrayTypeNumbers.{typed_row, typed_said}
use Rattle.jrows.specs.declared.jacts.arrays.ArrayOperand.TheVariants as found
use Rattle.jrows.specs.jacts.ArrayAccesses.{HasPut, cell_for, items_by, kept_if, with_items}
use Rattle.jrows.specs.jacts.ArrayOperands.{array_found, array_seen}
use Rattle.jrows.specs.jacts.RowOutcomes.{Acts, int_in, leaves}
use Rattle.jrows.specs.declared.jacts.way.Way.{Way}
use Rattle.jrows.specs.declared.jacts.way.Way.TheVariants as ways
use Rattle.jrows.proofs.JactsProofs.ArrayLoads.{array_items, cell_is, items_named, kept_array, kept_null, same_is, serves_not}
use Rattle.jrows.proofs.JactsProofs.ArrayInstructions.{IsHere, front_null, is_here}
use Rattle.jrows.proofs.JactsProofs.Costs.{goes_free}
use Rattle.jrows.proofs.JactsProofs.JumpRows.{no_int}
use Rattle.jrows.proofs.JactsProofs.NumberOperands.{IsNumber, none_of, serves_by}
use Rattle.jsemantics.specs.jmachine.ObjectInstructions.{is_one}

-- ---- numbers in arrays

abbrev IsNumbers : Element → Type 0
IsNumbers e = same_items items.Ref e ≡ false

wants_are : (e : Element) → IsNumbers e → operands e (forms.Store e) ≡ Of (element e) ∷ Of wanted.Int ∷ Holds e ∷ []
wants_are items.Int n = refl
wants_are items.Long n = refl
wants_are items.Ref n = cc
wants_are items.Byte n = refl
wants_are items.Char n = refl
wants_are items.Short n = refl

is_number : (e : Element) → IsNumbers e → IsNumber (element e)
is_number items.Int n = tt
is_number items.Long n = tt
is_number items.Ref n = cc
is_number items.Byte n = tt
is_number items.Char n = tt
is_number items.Short n = tt

-- the type of what is stored
abbrev type_for : Element → VType
type_for items.Long = types.Long
type_for e = types.Int

held_alone : (el : elements_of.Element) → IsNumbers (rules.held_as el) → alone el ≡ type_for (rules.held_as el)
held_alone elements.Boolean n = refl
held_alone elements.Char n = refl
held_alone elements.Byte n = refl
held_alone elements.Short n = refl
held_alone elements.Int n = refl
held_alone elements.Long n = refl
held_alone (elements.Class c) n = cc

component_is : (e : Element) → IsNumbers e → (d : ℕ) (el : elements_of.Element) → e ≡ (if nat_lt 1 d then items.Ref else rules.held_as el) → in_brackets (d - 1) el ≡ type_for e
component_is e n zero el same = rw same (held_alone el (ap (same_items items.Ref) (sym same) ∙ n))
component_is e n (suc zero) el same = rw same (held_alone el (ap (same_items items.Ref) (sym same) ∙ n))
component_is e n (suc (suc d)) el same =
    let more : nat_lt 1 (suc (suc d)) ≡ true = lt-ltb 1 (suc (suc d)) (omega arith) in
    let ref : e ≡ items.Ref = same ∙ ap (λ b. if b then items.Ref else rules.held_as el) more in
    let other = ap (same_items items.Ref) (sym ref) ∙ n in
    cc

value_type : (w : World) (s : Store ℕ) (e : Element) → IsNumbers e → (v : Value ℕ) → is_of (element e) v ≡ true → type_of w s v ≡ Some (type_for e)
value_type w s items.Int n (Int x) h = refl
value_type w s items.Int n (Long x) h = cc
value_type w s items.Int n (Ref m) h = cc
value_type w s items.Int n (Ctx k) h = cc
value_type w s items.Long n (Int x) h = cc
value_type w s items.Long n (Long x) h = refl
value_type w s items.Long n (Ref m) h = cc
value_type w s items.Long n (Ctx k) h = cc
value_type w s items.Ref n (Int x) h = cc
value_type w s items.Ref n (Long x) h = cc
value_type w s items.Ref n (Ref m) h = cc
value_type w s items.Ref n (Ctx k) h = cc
value_type w s items.Byte n (Int x) h = refl
value_type w s items.Byte n (Long x) h = cc
value_type w s items.Byte n (Ref m) h = cc
value_type w s items.Byte n (Ctx k) h = cc
value_type w s items.Char n (Int x) h = refl
value_type w s items.Char n (Long x) h = cc
value_type w s items.Char n (Ref m) h = cc
value_type w s items.Char n (Ctx k) h = cc
value_type w s items.Short n (Int x) h = refl
value_type w s items.Short n (Long x) h = cc
value_type w s items.Short n (Ref m) h = cc
value_type w s items.Short n (Ctx k) h = cc

fits_itself : (w : World) (e : Element) → is_instance w (type_for e) (type_for e) ≡ true
fits_itself w items.Int = refl
fits_itself w items.Long = refl
fits_itself w items.Ref = refl
fits_itself w items.Byte = refl
fits_itself w items.Char = refl
fits_itself w items.Short = refl

may_be_stored : (w : World) (s : Store ℕ) (e : Element) → IsNumbers e → (v : Value ℕ) → is_of (element e) v ≡ true → (t : ArrayType) → same_items e (items_of t) ≡ true
    → is_one w (component t) (type_of w s v) ≡ true
may_be_stored w s e n v of t same =
    rw (value_type w s e n v of, component_is e n t.depth t.element (same_is e (items_of t) same)) (fits_itself w e)

-- ---- cells of numbers

kept_type : (e : Element) → IsNumbers e → (held : Option elements_of.Element) (v : Value ℕ) → is_of (element e) v ≡ true → numbers.type_of (narrowed held v) ≡ cell_for e
kept_type items.Int n None (Int x) h = refl
kept_type items.Int n (Some el) (Int x) h = refl
kept_type items.Int n held (Long x) h = cc
kept_type items.Int n held (Ref m) h = cc
kept_type items.Int n held (Ctx k) h = cc
kept_type items.Long n held (Int x) h = cc
kept_type items.Long n None (Long x) h = refl
kept_type items.Long n (Some el) (Long x) h = refl
kept_type items.Long n held (Ref m) h = cc
kept_type items.Long n held (Ctx k) h = cc
kept_type items.Ref n held (Int x) h = cc
kept_type items.Ref n held (Long x) h = cc
kept_type items.Ref n held (Ref m) h = cc
kept_type items.Ref n held (Ctx k) h = cc
kept_type items.Byte n None (Int x) h = refl
kept_type items.Byte n (Some el) (Int x) h = refl
kept_type items.Byte n held (Long x) h = cc
kept_type items.Byte n held (Ref m) h = cc
kept_type items.Byte n held (Ctx k) h = cc
kept_type items.Char n None (Int x) h = refl
kept_type items.Char n (Some el) (Int x) h = refl
kept_type items.Char n held (Long x) h = cc
kept_type items.Char n held (Ref m) h = cc
kept_type items.Char n held (Ctx k) h = cc
kept_type items.Short n None (Int x) h = refl
kept_type items.Short n (Some el) (Int x) h = refl
kept_type items.Short n held (Long x) h = cc
kept_type items.Short n held (Ref m) h = cc
kept_type items.Short n held (Ctx k) h = cc

-- what is left of a value, where the number of the arrays says what they hold,
pub held_said : (p : Program) (shapes : Shapes) (n : ℕ) (kind : ArrayKind) (v : Value ℕ) → Some kind ≡ numbers_at n
    → narrowed (Some (element_named p (element_of kind))) v ≡ narrowed (held_by (array_named p (array_at shapes n))) v
held_said p shapes n kind v says = sym (ap (λ (a : ArrayRef). narrowed (held_by (array_named p a)) v) (typed_said shapes n kind says))

-- and where it is a row
pub held_row : (p : Program) (shapes : Shapes) (n : ℕ) (v : Value ℕ) → None ≡ numbers_at n
    → narrowed (held_by (array_named p (row_at shapes n))) v ≡ narrowed (held_by (array_named p (array_at shapes n))) v
held_row p shapes n v none = sym (ap (λ (a : ArrayRef). narrowed (held_by (array_named p a)) v) (typed_row shapes n none))

-- ---- operands

pub record IsThird (operands : List (Value ℕ)) (kind : Kind) (v : Value ℕ) (i : ℤ) : Type 0 where
  pub front : operands ≡ v ∷ Int i ∷ drop 2 operands
  pub third : slice_get operands 2 ≡ slice_get (drop 2 operands) 0
  pub rest : drop 1 (drop 2 operands) ≡ drop 3 operands
  pub of : is_of kind v ≡ true

is_kept : (kind : Kind) (v x : Value ℕ) → Some v ≡ kept_if kind (Some x) → (x ≡ v) × (is_of kind v ≡ true)
is_kept kind v x h = by (is_of kind x) refl h
  where
    by : (b : Bool) → is_of kind x ≡ b → Some v ≡ (if b then Some x else None) → (x ≡ v) × (is_of kind v ≡ true)
    by true is h = let same : x ≡ v = cc in (same, ap (is_of kind) (sym same) ∙ is)
    by false is h = cc

pub is_third : (operands : List (Value ℕ)) (kind : Kind) (v : Value ℕ) (i : ℤ) → Some v ≡ kept_if kind (slice_get operands 0) → Some i ≡ int_in (slice_get operands 1) → IsThird operands kind v i
is_third [] kind v i h g = cc
is_third (x ∷ []) kind v i h g = cc
is_third (x ∷ Int y ∷ rest) kind v i h g =
    let value = is_kept kind v x h in
    let index : y ≡ i = cc in
    record { front = ap₂ (λ z k. z ∷ Int k ∷ rest) value.0 index; third = refl; rest = refl; of = value.1 }
is_third (x ∷ Long y ∷ rest) kind v i h g = cc
is_third (x ∷ Ref m ∷ rest) kind v i h g = cc
is_third (x ∷ Ctx k ∷ rest) kind v i h g = cc

module _ (w : World) (s : Store ℕ) where
  behind : (want : Want) (wants : List Want) (v : Value ℕ) (rest : List (Value ℕ)) → taken w s wants rest ≡ None → taken w s (want ∷ wants) (v ∷ rest) ≡ None
  unfolding taken
  behind want wants v rest none = rw none (lost (serves w s want v))
    where
      lost : {A : Type 0} (b : Bool) → (if b then none_of A else none_of A) ≡ none_of A
      lost true = refl
      lost false = refl

  no_value : (k : Kind) → IsNumber k → (wants : List Want) (operands : List (Value ℕ)) → None ≡ kept_if k (slice_get operands 0) → taken w s (Of k ∷ wants) operands ≡ None
  unfolding taken
  no_value k n wants [] none = refl
  no_value k n wants (v ∷ rest) none = rw (serves_by w s k n v) (by (is_of k v) none)
    where
      by : (b : Bool) → None ≡ (if b then Some v else None) → (if b then option_map (with_value v) (taken w s wants rest) else None) ≡ None
      by true none = cc
      by false none = refl

  no_index : (want : Want) (wants : List Want) (operands : List (Value ℕ)) → int_in (slice_get operands 1) ≡ None → taken w s (want ∷ Of wanted.Int ∷ wants) operands ≡ None
  unfolding taken
  no_index want wants [] none = refl
  no_index want wants (v ∷ rest) none = behind want (Of wanted.Int ∷ wants) v rest (no_int w s wants rest none)

-- ---- an array that is there

pub record IsThere (h : Heaped) (n a : ℕ) : Type 0 where
  pub object : heaps.Object
  pub at : heaps.object_at h n ≡ Some object
  pub kind : object.kind ≡ kinds.Array a

pub is_there : (h : Heaped) (n a : ℕ) (v : Option (Value ℕ)) → found.Array n a ≡ array_seen h v → IsThere h n a
is_there h n a None e = cc
is_there h n a (Some (Int x)) e = cc
is_there h n a (Some (Long x)) e = cc
is_there h n a (Some (Ctx k)) e = cc
is_there h n a (Some (Ref zero)) e = cc
is_there h n a (Some (Ref (suc o))) e = look (heaps.object_at h (suc o)) refl e
  where
    look : (x : Option heaps.Object) → heaps.object_at h (suc o) ≡ x → found.Array n a ≡ array_found (suc o) (option_map (λ (y : heaps.Object). y.kind) x) → IsThere h n a
    look None is e = cc
    look (Some x) is e = by x.kind refl e
      where
        by : (k : CellKind) → x.kind ≡ k → found.Array n a ≡ array_found (suc o) (Some k) → IsThere h n a
        by (kinds.Object m) same e = cc
        by (kinds.Array b) same e =
            let number : n ≡ suc o = cc in
            let type : b ≡ a = cc in
            record { object = x; at = ap (heaps.object_at h) number ∙ is; kind = same ∙ ap (λ m. kinds.Array m) type }
        by kinds.Text same e = cc
        by kinds.Piece same e = cc

module _ (p : Program) (shapes : Shapes) (things : Things) (constants : List (List ℕ × ℕ)) (h : Heaped) where
  abbrev known : Store ℕ
  known = store_by p shapes things constants h

  -- the item is written, and nothing else
  is_put : Writes → WritesItem → (n a k : ℕ) (kept : Value ℕ) → IsThere h n a → of_raw (item_type (array_at shapes a)) (raw kept) ≡ kept
      → store_by p shapes things constants (with_cell h n k (raw kept))
      ≡ with_object known n (Array (array_named p (array_at shapes a)) (slice_set (map (of_raw (item_type (array_at shapes a))) (cells_at h n)) k kept))
  is_put law item n a k kept there back =
      let x = there.object in
      let none : IsNoPiece x.kind = rw there.kind tt in
      let object = ap (λ kind. kind_by p shapes h.objects things kind (slice_set x.cells k (raw kept))) there.kind ∙ item p (array_at shapes a) x.cells k (raw kept) in
      let cells_are : x.cells ≡ cells_at h n = rw there.at refl in
      law p shapes things constants h n k (raw kept) x there.at none
      ∙ ap (with_object known n) (object
      ∙ ap₂ (λ cs v. Array (array_named p (array_at shapes a)) (slice_set (map (of_raw (item_type (array_at shapes a))) cs) k v)) cells_are back)

  abbrev items_of_array : ℕ → ℕ → Items ℕ
  items_of_array o a = record { type = array_named p (array_at shapes a); items = map (of_raw (item_type (array_at shapes a))) (cells_at h o) }

  module _ {E : Type 0} (f : FrameOf ℕ E) (e : Element) (n : IsNumbers e) where
    pub store_no_value : (g : FrameOf ℕ E) → None ≡ kept_if (element e) (slice_get f.operands 0) → Acts (instructions.Array (forms.Store e)) f known (leaves ways.Stuck [] g known)
    unfolding doing
    store_no_value g none r at own entries inherited =
        rw (wants_are e n, no_value at.world known (element e) (is_number e n) (Of wanted.Int ∷ Holds e ∷ []) f.operands none) refl

    pub store_no_index : (g : FrameOf ℕ E) → int_in (slice_get f.operands 1) ≡ None → Acts (instructions.Array (forms.Store e)) f known (leaves ways.Stuck [] g known)
    unfolding doing
    store_no_index g none r at own entries inherited =
        rw (wants_are e n, no_index at.world known (Of (element e)) (Holds e ∷ []) f.operands none) refl

    no_array_third : (w : World) (operands : List (Value ℕ)) → found.Other ≡ with_items shapes e (array_seen h (slice_get operands 2))
        → taken w known (Of (element e) ∷ Of wanted.Int ∷ Holds e ∷ []) operands ≡ None
    unfolding taken
    no_array_third w [] other = refl
    no_array_third w (v ∷ []) other = behind w known (Of (element e)) (Of wanted.Int ∷ Holds e ∷ []) v [] refl
    no_array_third w (v ∷ u ∷ []) other = behind w known (Of (element e)) (Of wanted.Int ∷ Holds e ∷ []) v (u ∷ []) (behind w known (Of wanted.Int) (Holds e ∷ []) u [] refl)
    no_array_third w (v ∷ u ∷ x ∷ rest) other =
        let last : taken w known (Holds e ∷ []) (x ∷ rest) ≡ None = rw (serves_not p shapes things constants h w e x rest (array_seen h (Some x)) refl other) refl in
        behind w known (Of (element e)) (Of wanted.Int ∷ Holds e ∷ []) v (u ∷ x ∷ rest) (behind w known (Of wanted.Int) (Holds e ∷ []) u (x ∷ rest) last)

    pub store_other : (g : FrameOf ℕ E) → found.Other ≡ with_items shapes e (array_seen h (slice_get f.operands 2)) → Acts (instructions.Array (forms.Store e)) f known (leaves ways.Stuck [] g known)
    unfolding doing
    store_other g other r at own entries inherited = rw (wants_are e n, no_array_third at.world f.operands other) refl

    module _ (v : Value ℕ) (i : ℤ) (third : IsThird f.operands (element e) v i) where
      abbrev store_taken : ℕ → Taken ℕ
      store_taken o = record { values = v ∷ Int i ∷ Ref o ∷ []; below = drop 3 f.operands }

      null_taken : (w : World) → found.Null ≡ with_items shapes e (array_seen h (slice_get f.operands 2)) → taken w known (Of (element e) ∷ Of wanted.Int ∷ Holds e ∷ []) f.operands ≡ Some (store_taken 0)
      unfolding taken
      null_taken w null =
          let zero_is = front_null f known h (drop 2 f.operands) (kept_null shapes e (array_seen h (slice_get f.operands 2)) null ∙ ap (array_seen h) third.third) in
          let all = third.front ∙ ap (λ xs. v ∷ Int i ∷ xs) (zero_is ∙ ap (λ xs. Ref zero ∷ xs) third.rest) in
          rw (all, serves_by w known (element e) (is_number e n) v, third.of) refl

      pub store_null : found.Null ≡ with_items shapes e (array_seen h (slice_get f.operands 2))
          → Acts (instructions.Array (forms.Store e)) f known (leaves (ways.Raises (lib.Thrown thrown.NullPointerException)) [] f known)
      unfolding doing rows.array
      store_null null r at own entries inherited = rw (wants_are e n, null_taken at.world null) (refl, refl, refl, refl, refl, refl)

      here_third : (o a : ℕ) → found.Array o a ≡ with_items shapes e (array_seen h (slice_get f.operands 2)) → IsHere p shapes things constants h (drop 2 f.operands) o a
      here_third o a is =
          is_here p shapes things constants h (drop 2 f.operands) o a ((kept_array shapes e o a (array_seen h (slice_get f.operands 2)) is).0 ∙ ap (array_seen h) third.third)

      third_taken : (w : World) (b : ℕ) (rest : List (Value ℕ)) → serves w known (Holds e) (Ref (suc b)) ≡ true
          → taken w known (Of (element e) ∷ Of wanted.Int ∷ Holds e ∷ []) (v ∷ Int i ∷ Ref (suc b) ∷ rest) ≡ Some (record { values = v ∷ Int i ∷ Ref (suc b) ∷ []; below = rest })
      unfolding taken
      third_taken w b rest array = rw (serves_by w known (element e) (is_number e n) v, third.of, array) refl

      array_taken : (w : World) (o a : ℕ) → found.Array o a ≡ with_items shapes e (array_seen h (slice_get f.operands 2))
          → taken w known (Of (element e) ∷ Of wanted.Int ∷ Holds e ∷ []) f.operands ≡ Some (store_taken o)
      array_taken w o a is =
          let here = here_third o a is in
          let array = array_items p shapes things constants h w e here.before a (cells_at h o) here.object ∙ (kept_array shapes e o a (array_seen h (slice_get f.operands 2)) is).1 in
          let all = third.front ∙ ap (λ xs. v ∷ Int i ∷ xs) (here.front ∙ ap (λ xs. Ref (suc here.before) ∷ xs) third.rest) in
          ap (taken w known (Of (element e) ∷ Of wanted.Int ∷ Holds e ∷ [])) all ∙ third_taken w here.before (drop 3 f.operands) array ∙ ap (λ m. Some (store_taken m)) (sym here.number)

      row_of : (w : World) (st : Store ℕ) (b : ℕ) (t : ArrayType) (values : List (Value ℕ)) → object_at st (suc b) ≡ Some (Array t values)
          → rows.array {E = E} w st (forms.Store e) (v ∷ Int i ∷ Ref (suc b) ∷ []) ≡ Some (rows.store_at w st (suc b) v (record { type = t; items = values }) (rows.within (length values) (place i)))
      unfolding rows.array
      row_of w st b t values there = rw there refl

      -- what the row is, where the array has such items
      store_is : (w : World) (o a : ℕ) → found.Array o a ≡ with_items shapes e (array_seen h (slice_get f.operands 2)) → (k : Option ℕ)
          → rows.within (length (cells_at h o)) (place i) ≡ k
          → rows.array {E = E} w known (forms.Store e) (v ∷ Int i ∷ Ref o ∷ []) ≡ Some (rows.store_at w known o v (items_of_array o a) k)
      store_is w o a is k at =
          let here = here_third o a is in
          let of = of_raw (item_type (array_at shapes a)) in
          ap (λ m. rows.array {E = E} w known (forms.Store e) (v ∷ Int i ∷ Ref m ∷ [])) here.number
          ∙ row_of w known here.before (array_named p (array_at shapes a)) (map of (cells_at h o)) here.object
          ∙ ap (λ m. Some (rows.store_at {E = E} w known m v (items_of_array o a) (rows.within (length (map of (cells_at h o))) (place i)))) (sym here.number)
          ∙ ap (λ m. Some (rows.store_at {E = E} w known o v (items_of_array o a) (rows.within m (place i)))) (length-map (cells_at h o) of)
          ∙ ap (λ m. Some (rows.store_at {E = E} w known o v (items_of_array o a) m)) at

      -- the item isn't there
      store_outside : (o a : ℕ) → found.Array o a ≡ with_items shapes e (array_seen h (slice_get f.operands 2)) → rows.within (length (cells_at h o)) (place i) ≡ None
          → Acts (instructions.Array (forms.Store e)) f known (leaves (ways.Raises (lib.Thrown thrown.ArrayIndexOutOfBoundsException)) [] f known)
      unfolding doing
      store_outside o a is none r at own entries inherited =
          rw (wants_are e n, array_taken at.world o a is, store_is at.world o a is None none) (refl, refl, refl, refl, refl, refl)

      store_inside : (o a k : ℕ) → found.Array o a ≡ with_items shapes e (array_seen h (slice_get f.operands 2)) → rows.within (length (cells_at h o)) (place i) ≡ Some k
          → (t : Store ℕ) → t ≡ rows.with_item known o (items_of_array o a) k v
          → Acts (instructions.Array (forms.Store e)) f known (leaves ways.Went [] (standing f (f.place + 1) (drop 3 f.operands)) t)
      unfolding doing
      store_inside o a k is inside t same r at own entries inherited =
          let held = kept_array shapes e o a (array_seen h (slice_get f.operands 2)) is in
          let stored = may_be_stored at.world known e n v third.of (array_named p (array_at shapes a)) (ap (same_items e) (items_named p (array_at shapes a)) ∙ held.1) in
          rw (wants_are e n, array_taken at.world o a is, store_is at.world o a is (Some k) inside, stored, same)
          (goes_free f known (rows.with_item known o (items_of_array o a) k v) [] (standing f (f.place + 1) (drop 3 f.operands)))

-- ---- the row

module _ {E : Type 0} (law : Writes) (item : WritesItem) (p : Program) (shapes : Shapes) (things : Things) (constants : List (List ℕ × ℕ)) (s t : Framed E) (h g : Heaped) (e : Element) (n : IsNumbers e)
    (v kept : Value ℕ) (i : ℤ) (third : IsThird s.newest.operands (element e) v i) (o a : ℕ) (is : found.Array o a ≡ with_items shapes e (array_seen h (slice_get s.newest.operands 2)))
    (narrow : kept ≡ narrowed (held_by (array_named p (array_at shapes a))) v) where
  put_by : (way : Way) (k : Option ℕ) → rows.within (length (cells_at h o)) (place i) ≡ k → HasPut o kept s h way t g k
      → Acts (instructions.Array (forms.Store e)) s.newest (store_by p shapes things constants h) (leaves way [] t.newest (store_by p shapes things constants g))
  put_by way None at (went, frames, heap) = rw (went, frames, heap) (store_outside p shapes things constants h s.newest e n v i third o a is at)
  put_by way (Some k) at (went, inside, back, heap, frames) =
      let seen = (kept_array shapes e o a (array_seen h (slice_get s.newest.operands 2)) is) in
      let there = is_there h o a (slice_get s.newest.operands 2) seen.0 in
      let type = cell_is e (array_at shapes a) (same_is e (items_by (array_at shapes a)) seen.1) in
      let same : item_type (array_at shapes a) ≡ numbers.type_of kept = type ∙ sym (ap numbers.type_of narrow ∙ kept_type e n (held_by (array_named p (array_at shapes a))) v third.of) in
      let gives = ap (λ c. of_raw c (raw kept)) same ∙ back in
      let store = is_put p shapes things constants h law item o a k kept there gives in
      let value = ap (λ (x : Value ℕ). with_object (store_by p shapes things constants h) o (Array (array_named p (array_at shapes a)) (slice_set (map (of_raw (item_type (array_at shapes a))) (cells_at h o)) k x))) narrow in
      rw (went, frames) (store_inside p shapes things constants h s.newest e n v i third o a k is at (store_by p shapes things constants g) (ap (store_by p shapes things constants) heap ∙ store ∙ value))

  pub put_row : (way : Way) → HasPut o kept s h way t g (rows.within (length (cells_at h o)) (place i))
      → Acts (instructions.Array (forms.Store e)) s.newest (store_by p shapes things constants h) (leaves way [] t.newest (store_by p shapes things constants g))
  put_row way put = put_by way (rows.within (length (cells_at h o)) (place i)) refl put

-- what holds of the pieces stays
pub put_stays : WrittenStaysBuilt → {E : Type 0} (s t : Framed E) (h g : Heaped) (o a : ℕ) (v : Value ℕ) (way : Way) (seen : Option (Value ℕ)) (k : Option ℕ) → found.Array o a ≡ array_seen h seen
    → HasPut o v s h way t g k → AreBuilt h.objects → AreBuilt g.objects
put_stays law s t h g o a v way seen None is (went, frames, heap) all = rw heap all
put_stays law s t h g o a v way seen (Some k) is (went, inside, back, heap, frames) all =
    let there = is_there h o a seen is in
    let none : NamesNone there.object.kind = rw there.kind (λ cs. refl) in
    rw heap (law h o k (raw v) there.object there.at none all)

-- and of the cells
pub put_celled : WrittenStaysCelled → {E : Type 0} (s t : Framed E) (h g : Heaped) (o : ℕ) (v : Value ℕ) (way : Way) (k : Option ℕ) → HasPut o v s h way t g k → StayCelled h.objects g.objects
put_celled law s t h g o v way None (went, frames, heap) shapes all = rw heap all
put_celled law s t h g o v way (Some k) (went, inside, back, heap, frames) shapes all = rw heap (law h o k (raw v) shapes all)

pub has_third : (shapes : Shapes) (e : Element) (h : Heaped) (n a : ℕ) (operands : List (Value ℕ)) → found.Array n a ≡ with_items shapes e (array_seen h (slice_get operands 2)) → 3 ≤ length operands
has_third shapes e h n a [] is = cc
has_third shapes e h n a (v ∷ []) is = cc
has_third shapes e h n a (v ∷ u ∷ []) is = cc
has_third shapes e h n a (v ∷ u ∷ x ∷ rest) is = omega arith
