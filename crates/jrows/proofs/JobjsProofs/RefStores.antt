-- Stores of references into arrays.
use Rattle.std.proofs.Common.{◌≡◌, ◌∙◌, ℕ, zero, suc, ℤ, ◌+◌, ◌≤◌, Bool, true, false, List, [], ◌∷◌, length, drop, map, Option, Some, None, refl, sym, ap, ap₂, arith}
use Rattle.std.specs.Prelude.{is_some, nat_lt, option_map, slice_get, slice_set, if◌then◌else◌}
use Rattle.std.proofs.lemmas.List.{length-map}
use Rattle.jparts.specs.declared.jcode.names.Element.TheVariants as items
use Rattle.jparts.specs.declared.jcode.op_form.ArrayForm.TheVariants as forms
use Rattle.jvalues.specs.declared.jnames.kinds.Kind.TheVariants as wanted
use Rattle.jmemory.specs.declared.jheap.cell.CellType.TheVariants as cells
use Rattle.jmemory.specs.declared.jheap.cell.Kind.{Kind}
use Rattle.jmemory.specs.declared.jheap.cell.Kind.TheVariants as kinds
use Rattle.jmemory.specs.jheap.Heaps as heaps
use Rattle.jmemory.specs.jheap.Heaps.{Heaped, cells_at, kind_at, with_cell}
use Rattle.jmemory.specs.jheap.RawValues.{of_raw, raw}
use Rattle.jmemory.specs.jheap.RawValues as numbers
use Rattle.jlib.specs.declared.classes.LibClass.TheVariants as lib
use Rattle.jlib.specs.declared.classes.Thrown.TheVariants as thrown
use Rattle.jvalues.specs.declared.jops.value.Value.{Value}
use Rattle.jvalues.specs.declared.jops.value.Value.TheVariants.{Int, Long, Ref, Ctx}
use Rattle.jresolution.specs.jprogram.ProgramClasses.{Program}
use Rattle.jresolution.specs.declared.jprogram.member.Member.{Member}
use Rattle.jresolution.specs.declared.jprogram.part.ClassRef.{ClassRef}
use Rattle.jresolution.specs.declared.jprogram.part.ClassRef.TheVariants as classes
use Rattle.jtyping.specs.jrule.StackEffects.{Of, Holds, Want, same_items}
use Rattle.jtypes.specs.declared.vtype.Element.{Element}
use Rattle.jresolution.specs.declared.juses.types.ArrayRef.{ArrayRef}
use Rattle.jresolution.specs.declared.juses.types.ElementRef.{ElementRef}
use Rattle.jresolution.specs.declared.juses.types.ElementRef.TheVariants as refs
use Rattle.jresolution.specs.juses.IndexedInstructions as instructions
use Rattle.jresolution.specs.juses.InternedTypes.{array_named}
use Rattle.jsemantics.specs.jmachine.MachineStates.{FrameOf}
use Rattle.jsemantics.specs.jmachine.ArrayInstructions as rows
use Rattle.jsemantics.specs.jmachine.ArrayInstructions.{Items}
use Rattle.jsemantics.specs.jmachine.InstructionActions.{doing}
use Rattle.jsemantics.specs.jmachine.FrameOperations.{standing}
use Rattle.jsemantics.specs.jmachine.Narrowing.{held_by, narrowed, place}
use Rattle.jsemantics.specs.jmachine.HeapObjects.{Array}
use Rattle.jsemantics.specs.jmachine.TakenOperands.{Taken, serves, taken, type_of, with_value}
use Rattle.jsemantics.specs.jmachine.InstructionSites.{Site}
use Rattle.jsemantics.specs.jmachine.Store.{Store, object_at, with_object}
use Rattle.jsemantics.specs.jmachine.World.{World}
use Rattle.jruntime.specs.declared.jstate.shapes.Shape.{Shape}
use Rattle.jruntime.specs.declared.jstate.shapes.Shapes.{Shapes}
use Rattle.jruntime.specs.jstate.ObjectCells.{StayCelled, WrittenStaysCelled}
use Rattle.jruntime.specs.jstate.FrameLists.{Framed}
use Rattle.jruntime.specs.jstate.ClassNumbers.{class_numbered}
use Rattle.jruntime.specs.jstate.HeapMeanings.{AreBuilt, Things, array_at, class_by, element_type, item_type, kind_by, object_by, store_by, user_by}
use Rattle.jruntime.specs.jstate.HeapMeaningLaws.{IsNoPiece, NamesNone, SeesEach, Writes, WritesItem, WrittenStaysBuilt}
use Rattle.jrows.specs.jacts.ArrayAccesses.{held_as, items_by}
use Rattle.jrows.specs.jacts.RowOutcomes.{ActsWhere, GoesFree, int_in, leaves}
use Rattle.jrows.specs.declared.jacts.way.Way.{Way}
use Rattle.jrows.specs.declared.jacts.way.Way.TheVariants as ways
use Rattle.jrows.proofs.JactsProofs.ArrayLoads.{array_items}
use Rattle.jrows.specs.declared.jobjs.storing.Held.TheVariants as helds
use Rattle.jrows.specs.jobjs.StoredReferences.{HasStored, MayStore, ServeStore, held_found, held_seen}
use Rattle.jrows.proofs.JobjsProofs.ServedOperands.{not_served}
use Rattle.jsemantics.specs.jmachine.ObjectInstructions.{is_one}
use Rattle.jtyping.specs.jrule.ArrayRule.{component}

-- ---- three operands that serve

record AreThree (w : World) (s : Store ℕ) (a b c : Want) (operands : List (Value ℕ)) : Type 0 where
  pub value : Value ℕ
  pub index : Value ℕ
  pub array : Value ℕ
  pub front : operands ≡ value ∷ index ∷ array ∷ drop 3 operands
  pub first : serves w s a value ≡ true
  pub third : serves w s c array ≡ true
  pub all : taken w s (a ∷ b ∷ c ∷ []) operands ≡ Some (record { values = value ∷ index ∷ array ∷ []; below = drop 3 operands })

module _ (w : World) (s : Store ℕ) (a b c : Want) where
  abbrev rest_of : List (Value ℕ) → Taken ℕ
  rest_of rest = record { values = []; below = rest }

  abbrev none_taken : Option (Taken ℕ)
  none_taken = None

  are_three : (operands : List (Value ℕ)) → is_some (taken w s (a ∷ b ∷ c ∷ []) operands) ≡ true → AreThree w s a b c operands
  unfolding taken
  are_three [] h = cc
  are_three (v ∷ []) h = lone (serves w s a v) h
    where
      lone : {A : Type 0} (t : Bool) → is_some (if t then none_taken else none_taken) ≡ true → A
      lone true h = cc
      lone false h = cc
  are_three (v ∷ u ∷ []) h = pair (serves w s a v) (serves w s b u) h
    where
      pair : {A : Type 0} (t r : Bool) → is_some (if t then option_map (with_value v) (if r then none_taken else none_taken) else none_taken) ≡ true → A
      pair true true h = cc
      pair true false h = cc
      pair false r h = cc
  are_three (v ∷ u ∷ x ∷ rest) h = all (serves w s a v) (serves w s b u) (serves w s c x) refl refl refl h
    where
      all : (t r q : Bool) → serves w s a v ≡ t → serves w s b u ≡ r → serves w s c x ≡ q
          → is_some (if t then option_map (with_value v) (if r then option_map (with_value u) (if q then Some (with_value x (rest_of rest)) else none_taken) else none_taken) else none_taken) ≡ true
          → AreThree w s a b c (v ∷ u ∷ x ∷ rest)
      all true true true one two three h = record { value = v; index = u; array = x; front = refl; first = one; third = three; all = rw (one, two, three) refl }
      all true true false one two three h = cc
      all true false q one two three h = cc
      all false r q one two three h = cc

-- ---- what they are

record IsRef (v : Value ℕ) : Type 0 where
  pub number : ℕ
  pub value : v ≡ Ref number

is_ref : (w : World) (s : Store ℕ) (v : Value ℕ) → serves w s (Of wanted.Ref) v ≡ true → IsRef v
is_ref w s (Int x) serve = cc
is_ref w s (Long x) serve = cc
is_ref w s (Ref n) serve = record { number = n; value = refl }
is_ref w s (Ctx k) serve = cc

index_is : (v : Value ℕ) (i : ℤ) → Some i ≡ int_in (Some v) → v ≡ Int i
index_is (Int x) i h = let e : x ≡ i = cc in ap (λ z. Int z) e
index_is (Long x) i h = cc
index_is (Ref n) i h = cc
index_is (Ctx k) i h = cc

is_null : (h : Heaped) (v : Option (Value ℕ)) → helds.Null ≡ held_seen h v → v ≡ Some (Ref zero)
is_null h None e = cc
is_null h (Some (Int x)) e = cc
is_null h (Some (Long x)) e = cc
is_null h (Some (Ctx k)) e = cc
is_null h (Some (Ref zero)) e = refl
is_null h (Some (Ref (suc o))) e = other (kind_at h (suc o)) e
  where
    other : {A : Type 0} (k : Option Kind) → helds.Null ≡ held_found (suc o) k → A
    other None e = cc
    other (Some (kinds.Object n)) e = cc
    other (Some (kinds.Array n)) e = cc
    other (Some kinds.Text) e = cc
    other (Some kinds.Piece) e = cc

-- an array, with its cells
pub record IsRow (h : Heaped) (v : Option (Value ℕ)) (o a : ℕ) : Type 0 where
  pub before : ℕ
  pub number : o ≡ suc before
  pub value : v ≡ Some (Ref (suc before))
  pub object : heaps.Object
  pub at : heaps.object_at h o ≡ Some object
  pub kind : object.kind ≡ kinds.Array a

pub is_row : (h : Heaped) (v : Option (Value ℕ)) (o a : ℕ) → helds.Array o a ≡ held_seen h v → IsRow h v o a
is_row h None o a e = cc
is_row h (Some (Int x)) o a e = cc
is_row h (Some (Long x)) o a e = cc
is_row h (Some (Ctx k)) o a e = cc
is_row h (Some (Ref zero)) o a e = cc
is_row h (Some (Ref (suc b))) o a e = look (heaps.object_at h (suc b)) refl e
  where
    look : (x : Option heaps.Object) → heaps.object_at h (suc b) ≡ x → helds.Array o a ≡ held_found (suc b) (option_map (λ (y : heaps.Object). y.kind) x) → IsRow h (Some (Ref (suc b))) o a
    look None is e = cc
    look (Some x) is e = by x.kind refl e
      where
        by : (k : Kind) → x.kind ≡ k → helds.Array o a ≡ held_found (suc b) (Some k) → IsRow h (Some (Ref (suc b))) o a
        by (kinds.Object m) same e = cc
        by (kinds.Array m) same e =
            let number : o ≡ suc b = cc in
            let type : m ≡ a = cc in
            record { before = b; number = number; value = refl; object = x; at = ap (heaps.object_at h) number ∙ is; kind = same ∙ ap (λ k. kinds.Array k) type }
        by kinds.Text same e = cc
        by kinds.Piece same e = cc

pub three_there : (h : Heaped) (operands : List (Value ℕ)) (o a : ℕ) → helds.Array o a ≡ held_seen h (slice_get operands 2) → 3 ≤ length operands
three_there h [] o a is = cc
three_there h (v ∷ []) o a is = cc
three_there h (v ∷ u ∷ []) o a is = cc
three_there h (v ∷ u ∷ x ∷ rest) o a is = omega arith

pub row_there : (h : Heaped) (operands : List (Value ℕ)) (o a : ℕ) → helds.Array o a ≡ held_seen h (slice_get operands 2) → is_some (heaps.object_at h o) ≡ true
row_there h operands o a is = let row = is_row h (slice_get operands 2) o a is in rw row.at refl

-- objects of classes have no items
module _ (shapes : Shapes) (objects : List heaps.Object) (things : Things) (cs : List ℕ) where
  no_items : (r : ClassRef) → rows.items_in (Some (class_by shapes objects things r cs)) ≡ None
  no_items (classes.User i) = by (slice_get shapes.users i)
    where
      by : (shape : Option Shape) → rows.items_in (Some (user_by i shape cs)) ≡ None
      by None = refl
      by (Some shape) = refl
  no_items (classes.Lib (lib.Thrown c)) = refl
  no_items (classes.Lib (lib.Permission c)) = refl
  no_items (classes.Lib lib.Object) = refl
  no_items (classes.Lib lib.AccessControlException) = refl
  no_items (classes.Lib lib.String) = refl
  no_items (classes.Lib lib.StringBuilder) = refl
  no_items (classes.Lib lib.System) = refl
  no_items (classes.Lib lib.PrintStream) = refl
  no_items (classes.Lib lib.Void) = refl
  no_items (classes.Lib lib.Cloneable) = refl
  no_items (classes.Lib lib.Serializable) = refl
  no_items (classes.Lib lib.Runnable) = refl
  no_items (classes.Lib lib.Thread) = refl
  no_items (classes.Lib lib.PrivilegedAction) = refl
  no_items (classes.Lib lib.AccessController) = refl
  no_items (classes.Lib lib.AccessControlContext) = refl
  no_items (classes.Lib lib.Rt) = refl
  no_items (classes.Lib lib.Ctx) = refl

-- ---- cells of references

cell_ref : (a : ArrayRef) → same_items items.Ref (items_by a) ≡ true → item_type a ≡ cells.Ref
cell_ref a same = by (nat_lt 1 a.depth) same
  where
    alone : (e : ElementRef) → same_items items.Ref (held_as e) ≡ true → element_type e ≡ cells.Ref
    alone refs.Boolean h = cc
    alone refs.Char h = cc
    alone refs.Byte h = cc
    alone refs.Short h = cc
    alone refs.Int h = cc
    alone refs.Long h = cc
    alone (refs.Class c) h = refl

    by : (b : Bool) → same_items items.Ref (if b then items.Ref else held_as a.element) ≡ true → (if b then cells.Ref else element_type a.element) ≡ cells.Ref
    by true h = refl
    by false h = alone a.element h

narrowed_ref : (held : Option Element) (n : ℕ) → narrowed {K = ℕ} held (Ref n) ≡ Ref n
narrowed_ref None n = refl
narrowed_ref (Some e) n = refl

-- ---- the row

module _ (p : Program) (shapes : Shapes) (things : Things) (constants : List (List ℕ × ℕ)) (h : Heaped) where
  abbrev known : Store ℕ
  known = store_by p shapes things constants h

  abbrev items_of_array : ℕ → ℕ → Items ℕ
  items_of_array o a = record { type = array_named p (array_at shapes a); items = map (of_raw (item_type (array_at shapes a))) (cells_at h o) }

  -- the item is written, and nothing else
  ref_put : Writes → WritesItem → (o a k : ℕ) (v : Value ℕ) (seen : Option (Value ℕ)) → IsRow h seen o a → of_raw (item_type (array_at shapes a)) (raw v) ≡ v
      → store_by p shapes things constants (with_cell h o k (raw v))
      ≡ with_object known o (Array (array_named p (array_at shapes a)) (slice_set (map (of_raw (item_type (array_at shapes a))) (cells_at h o)) k v))
  ref_put law item o a k v seen there back =
      let x = there.object in
      let none : IsNoPiece x.kind = rw there.kind tt in
      let object = ap (λ kind. kind_by p shapes h.objects things kind (slice_set x.cells k (raw v))) there.kind ∙ item p (array_at shapes a) x.cells k (raw v) in
      let cells_are : x.cells ≡ cells_at h o = rw there.at refl in
      law p shapes things constants h o k (raw v) x there.at none
      ∙ ap (with_object known o) (object
      ∙ ap₂ (λ cs y. Array (array_named p (array_at shapes a)) (slice_set (map (of_raw (item_type (array_at shapes a))) cs) k y)) cells_are back)

  module _ {E : Type 0} (f : FrameOf ℕ E) where
    abbrev Told : Bool → Bool → Site → (Member → Bool) → Type 0
    Told serve is at own = ServeStore at known f.operands serve × MayStore at.world p shapes known h f.operands is

    abbrev Three : World → Type 0
    Three w = AreThree w known (Of wanted.Ref) (Of wanted.Int) (Holds items.Ref) f.operands

    pub store_not : (is : Bool) (g : FrameOf ℕ E) → ActsWhere (Told false is) (instructions.Array (forms.Store items.Ref)) f known (leaves ways.Stuck [] g known)
    unfolding doing
    store_not is g r at own entries inherited told = rw (not_served (taken at.world known (Of wanted.Ref ∷ Of wanted.Int ∷ Holds items.Ref ∷ []) f.operands) told.0) refl

    no_index : (w : World) (v u x : Value ℕ) → int_in (Some u) ≡ None → rows.array {E = E} w known (forms.Store items.Ref) (v ∷ u ∷ x ∷ []) ≡ None
    unfolding rows.array
    no_index w v (Int i) x none = cc
    no_index w v (Long i) x none = refl
    no_index w v (Ref n) x none = refl
    no_index w v (Ctx k) x none = refl

    pub store_no_index : (is : Bool) (g : FrameOf ℕ E) → int_in (slice_get f.operands 1) ≡ None → ActsWhere (Told true is) (instructions.Array (forms.Store items.Ref)) f known (leaves ways.Stuck [] g known)
    unfolding doing
    store_no_index is g none r at own entries inherited told =
        let three = are_three at.world known (Of wanted.Ref) (Of wanted.Int) (Holds items.Ref) f.operands told.0 in
        rw (three.all, no_index at.world three.value three.index three.array (ap (λ xs. int_in (slice_get xs 1)) (sym three.front) ∙ none)) refl

    no_row : SeesEach → (w : World) (v x : Value ℕ) (i : ℤ) → helds.Other ≡ held_seen h (Some x) → rows.array {E = E} w known (forms.Store items.Ref) (v ∷ Int i ∷ x ∷ []) ≡ None
    unfolding rows.array
    no_row law w v (Int y) i e = refl
    no_row law w v (Long y) i e = refl
    no_row law w v (Ctx k) i e = refl
    no_row law w v (Ref zero) i e = cc
    no_row law w v (Ref (suc b)) i e = rw (law p shapes things constants h (suc b)) (look (heaps.object_at h (suc b)) e)
      where
        look : (x : Option heaps.Object) → helds.Other ≡ held_found (suc b) (option_map (λ (y : heaps.Object). y.kind) x)
            → option_map (rows.store {E = E} w known (suc b) i v) (rows.items_in (option_map (object_by p shapes h.objects things) x)) ≡ None
        look None e = refl
        look (Some x) e = by x.kind e
          where
            by : (k : Kind) → helds.Other ≡ held_found (suc b) (Some k) → option_map (rows.store {E = E} w known (suc b) i v) (rows.items_in (Some (kind_by p shapes h.objects things k x.cells))) ≡ None
            by (kinds.Object n) e = ap (option_map (rows.store {E = E} w known (suc b) i v)) (no_items shapes h.objects things x.cells (class_numbered n))
            by (kinds.Array n) e = cc
            by kinds.Text e = refl
            by kinds.Piece e = refl

    pub store_other : SeesEach → (is : Bool) (i : ℤ) (g : FrameOf ℕ E) → Some i ≡ int_in (slice_get f.operands 1) → helds.Other ≡ held_seen h (slice_get f.operands 2)
        → ActsWhere (Told true is) (instructions.Array (forms.Store items.Ref)) f known (leaves ways.Stuck [] g known)
    unfolding doing
    store_other law is i g index none r at own entries inherited told =
        let three = are_three at.world known (Of wanted.Ref) (Of wanted.Int) (Holds items.Ref) f.operands told.0 in
        let int : three.index ≡ Int i = index_is three.index i (index ∙ ap (λ xs. int_in (slice_get xs 1)) three.front) in
        let row = ap (λ u. rows.array {E = E} at.world known (forms.Store items.Ref) (three.value ∷ u ∷ three.array ∷ [])) int
        ∙ no_row law at.world three.value three.array i (none ∙ ap (λ xs. held_seen h (slice_get xs 2)) three.front) in
        rw (three.all, row) refl

    -- what was taken, by its index and its array
    three_taken : (w : World) (three : Three w) (i : ℤ) (m : ℕ) → Some i ≡ int_in (slice_get f.operands 1) → three.array ≡ Ref m
        → taken w known (Of wanted.Ref ∷ Of wanted.Int ∷ Holds items.Ref ∷ []) f.operands ≡ Some (record { values = three.value ∷ Int i ∷ Ref m ∷ []; below = drop 3 f.operands })
    three_taken w three i m index array =
        let int : three.index ≡ Int i = index_is three.index i (index ∙ ap (λ xs. int_in (slice_get xs 1)) three.front) in
        three.all ∙ ap₂ (λ (u : Value ℕ) (x : Value ℕ). Some (record { values = three.value ∷ u ∷ x ∷ []; below = drop 3 f.operands })) int array

    pub store_null : (is : Bool) (i : ℤ) → Some i ≡ int_in (slice_get f.operands 1) → helds.Null ≡ held_seen h (slice_get f.operands 2)
        → ActsWhere (Told true is) (instructions.Array (forms.Store items.Ref)) f known (leaves (ways.Raises (lib.Thrown thrown.NullPointerException)) [] f known)
    unfolding doing rows.array
    store_null is i index null r at own entries inherited told =
        let three = are_three at.world known (Of wanted.Ref) (Of wanted.Int) (Holds items.Ref) f.operands told.0 in
        let both : Some three.array ≡ Some (Ref zero) = sym (ap (λ xs. slice_get xs 2) three.front) ∙ is_null h (slice_get f.operands 2) null in
        let array : three.array ≡ Ref zero = cc in
        rw (three_taken at.world three i zero index array) (refl, refl, refl, refl, refl, refl)

    row_of : (w : World) (b : ℕ) (v : Value ℕ) (i : ℤ) (a : ℕ) (values : List (Value ℕ)) → object_at known (suc b) ≡ Some (Array (array_named p (array_at shapes a)) values)
        → rows.array {E = E} w known (forms.Store items.Ref) (v ∷ Int i ∷ Ref (suc b) ∷ [])
        ≡ Some (rows.store_at w known (suc b) v (record { type = array_named p (array_at shapes a); items = values }) (rows.within (length values) (place i)))
    unfolding rows.array
    row_of w b v i a values there = rw there refl

    module _ (law : SeesEach) (i : ℤ) (o a : ℕ) (index : Some i ≡ int_in (slice_get f.operands 1)) (is : helds.Array o a ≡ held_seen h (slice_get f.operands 2)) where
      abbrev here : IsRow h (slice_get f.operands 2) o a
      here = is_row h (slice_get f.operands 2) o a is

      cells_are : here.object.cells ≡ cells_at h o
      cells_are = rw here.at refl

      front_is : (w : World) (three : Three w) → three.array ≡ Ref (suc here.before)
      front_is w three = let both : Some three.array ≡ Some (Ref (suc here.before)) = sym (ap (λ xs. slice_get xs 2) three.front) ∙ here.value in cc

      array_is : (w : World) (three : Three w) → three.array ≡ Ref o
      array_is w three = front_is w three ∙ ap (λ m. Ref m) (sym here.number)

      -- the array as the machine's definition has it
      object_is : object_at known (suc here.before) ≡ Some (Array (array_named p (array_at shapes a)) (map (of_raw (item_type (array_at shapes a))) (cells_at h o)))
      object_is =
          law p shapes things constants h (suc here.before)
          ∙ ap (λ k. option_map (object_by p shapes h.objects things) (heaps.object_at h k)) (sym here.number)
          ∙ ap (option_map (object_by p shapes h.objects things)) here.at
          ∙ ap (λ k. Some (kind_by p shapes h.objects things k here.object.cells)) here.kind
          ∙ ap (λ cs. Some (Array (array_named p (array_at shapes a)) (map (of_raw (item_type (array_at shapes a))) cs))) cells_are

      -- the array holds references
      holds_refs : (w : World) (three : Three w) → item_type (array_at shapes a) ≡ cells.Ref
      holds_refs w three =
          cell_ref (array_at shapes a)
          (sym (array_items p shapes things constants h w items.Ref here.before a (cells_at h o) object_is) ∙ ap (serves w known (Holds items.Ref)) (sym (front_is w three)) ∙ three.third)

      store_is : (w : World) (three : Three w) (v : Value ℕ) (k : Option ℕ) → rows.within (length (cells_at h o)) (place i) ≡ k
          → rows.array {E = E} w known (forms.Store items.Ref) (v ∷ Int i ∷ Ref o ∷ []) ≡ Some (rows.store_at w known o v (items_of_array o a) k)
      store_is w three v k at =
          let of = of_raw (item_type (array_at shapes a)) in
          ap (λ m. rows.array {E = E} w known (forms.Store items.Ref) (v ∷ Int i ∷ Ref m ∷ [])) here.number
          ∙ row_of w here.before v i a (map of (cells_at h o)) object_is
          ∙ ap (λ m. Some (rows.store_at {E = E} w known m v (items_of_array o a) (rows.within (length (map of (cells_at h o))) (place i)))) (sym here.number)
          ∙ ap (λ m. Some (rows.store_at {E = E} w known o v (items_of_array o a) (rows.within m (place i)))) (length-map (cells_at h o) of)
          ∙ ap (λ m. Some (rows.store_at {E = E} w known o v (items_of_array o a) m)) at

      -- the item isn't there
      store_outside : (may : Bool) → rows.within (length (cells_at h o)) (place i) ≡ None
          → ActsWhere (Told true may) (instructions.Array (forms.Store items.Ref)) f known (leaves (ways.Raises (lib.Thrown thrown.ArrayIndexOutOfBoundsException)) [] f known)
      unfolding doing
      store_outside may none r at own entries inherited told =
          let three = are_three at.world known (Of wanted.Ref) (Of wanted.Int) (Holds items.Ref) f.operands told.0 in
          rw (three_taken at.world three i o index (array_is at.world three), store_is at.world three three.value None none) (refl, refl, refl, refl, refl, refl)

      answered : (w : World) (three : Three w) (may : Bool) (k : ℕ) → rows.within (length (cells_at h o)) (place i) ≡ Some k → MayStore w p shapes known h f.operands may
          → is_one w (component (array_named p (array_at shapes a))) (type_of w known three.value) ≡ may
      answered w three may k inside told = told o a k i three.value (ap (λ xs. slice_get xs 0) three.front) index is inside

      -- the array doesn't hold it
      store_fails : (k : ℕ) → rows.within (length (cells_at h o)) (place i) ≡ Some k
          → ActsWhere (Told true false) (instructions.Array (forms.Store items.Ref)) f known (leaves (ways.Raises (lib.Thrown thrown.ArrayStoreException)) [] f known)
      unfolding doing
      store_fails k inside r at own entries inherited told =
          let three = are_three at.world known (Of wanted.Ref) (Of wanted.Int) (Holds items.Ref) f.operands told.0 in
          rw (three_taken at.world three i o index (array_is at.world three), store_is at.world three three.value (Some k) inside, answered at.world three false k inside told.1) (refl, refl, refl, refl, refl, refl)

      -- it is written
      store_done : GoesFree E → Writes → WritesItem → (k : ℕ) (v : Value ℕ) → rows.within (length (cells_at h o)) (place i) ≡ Some k → slice_get f.operands 0 ≡ Some v → of_raw (numbers.type_of v) (raw v) ≡ v
          → ActsWhere (Told true true) (instructions.Array (forms.Store items.Ref)) f known
          (leaves ways.Went [] (standing f (f.place + 1) (drop 3 f.operands)) (store_by p shapes things constants (with_cell h o k (raw v))))
      unfolding doing
      store_done free writes item k v inside newest back r at own entries inherited told =
          let three = are_three at.world known (Of wanted.Ref) (Of wanted.Int) (Holds items.Ref) f.operands told.0 in
          let value : Some v ≡ Some three.value = sym newest ∙ ap (λ xs. slice_get xs 0) three.front in
          let same : v ≡ three.value = cc in
          let ref = is_ref at.world known three.value three.first in
          let number : v ≡ Ref ref.number = same ∙ ref.value in
          let gives : of_raw (item_type (array_at shapes a)) (raw v) ≡ v = ap (λ c. of_raw c (raw v)) (holds_refs at.world three ∙ sym (ap numbers.type_of number)) ∙ back in
          let kept : v ≡ narrowed (held_by (array_named p (array_at shapes a))) three.value =
          number ∙ sym (narrowed_ref (held_by (array_named p (array_at shapes a))) ref.number) ∙ ap (narrowed (held_by (array_named p (array_at shapes a)))) (sym ref.value) in
          let store = ref_put writes item o a k v (slice_get f.operands 2) here gives
          ∙ ap (λ (x : Value ℕ). with_object known o (Array (array_named p (array_at shapes a)) (slice_set (map (of_raw (item_type (array_at shapes a))) (cells_at h o)) k x))) kept in
          rw (three_taken at.world three i o index (array_is at.world three), store_is at.world three three.value (Some k) inside, answered at.world three true k inside told.1, store)
          (free f known (rows.with_item known o (items_of_array o a) k three.value) [] (standing f (f.place + 1) (drop 3 f.operands)))

-- all that a store can come to
module _ {E : Type 0} (free : GoesFree E) (law : SeesEach) (writes : Writes) (item : WritesItem) (p : Program) (shapes : Shapes) (things : Things) (constants : List (List ℕ × ℕ)) (s t : Framed E) (h g : Heaped)
    (v : Value ℕ) (newest : Some v ≡ slice_get s.newest.operands 0) (i : ℤ) (index : Some i ≡ int_in (slice_get s.newest.operands 1)) (o a : ℕ)
    (held : helds.Array o a ≡ held_seen h (slice_get s.newest.operands 2)) where
  store_by_place : (may : Bool) (way : Way) (k : Option ℕ) → rows.within (length (cells_at h o)) (place i) ≡ k → HasStored may o v s h way t g k
      → ActsWhere (Told p shapes things constants h s.newest true may) (instructions.Array (forms.Store items.Ref)) s.newest (store_by p shapes things constants h)
      (leaves way [] t.newest (store_by p shapes things constants g))
  store_by_place may way None at (went, frames, heap) = rw (went, frames, heap) (store_outside p shapes things constants h s.newest law i o a index held may at)
  store_by_place false way (Some k) at (went, frames, heap) = rw (went, frames, heap) (store_fails p shapes things constants h s.newest law i o a index held k at)
  store_by_place true way (Some k) at (went, inside, back, heap, frames) =
      rw (went, frames, heap) (store_done p shapes things constants h s.newest law i o a index held free writes item k v at (sym newest) back)

  pub store_row : (may : Bool) (way : Way) → HasStored may o v s h way t g (rows.within (length (cells_at h o)) (place i))
      → ActsWhere (Told p shapes things constants h s.newest true may) (instructions.Array (forms.Store items.Ref)) s.newest (store_by p shapes things constants h)
      (leaves way [] t.newest (store_by p shapes things constants g))
  store_row may way put = store_by_place may way (rows.within (length (cells_at h o)) (place i)) refl put

-- what holds of the pieces stays
pub stored_stays : WrittenStaysBuilt → {E : Type 0} (s t : Framed E) (h g : Heaped) (o a : ℕ) (v : Value ℕ) (way : Way) (seen : Option (Value ℕ)) (may : Bool) (k : Option ℕ) → helds.Array o a ≡ held_seen h seen
    → HasStored may o v s h way t g k → AreBuilt h.objects → AreBuilt g.objects
stored_stays law s t h g o a v way seen may None is (went, frames, heap) built = rw heap built
stored_stays law s t h g o a v way seen false (Some k) is (went, frames, heap) built = rw heap built
stored_stays law s t h g o a v way seen true (Some k) is (went, inside, back, heap, frames) built =
    let row = is_row h seen o a is in
    let none : NamesNone row.object.kind = rw row.kind (λ cs. refl) in
    rw heap (law h o k (raw v) row.object row.at none built)

-- and of the cells
pub stored_celled : WrittenStaysCelled → {E : Type 0} (s t : Framed E) (h g : Heaped) (o : ℕ) (v : Value ℕ) (way : Way) (may : Bool) (k : Option ℕ)
    → HasStored may o v s h way t g k → StayCelled h.objects g.objects
stored_celled law s t h g o v way may None (went, frames, heap) shapes all = rw heap all
stored_celled law s t h g o v way false (Some k) (went, frames, heap) shapes all = rw heap all
stored_celled law s t h g o v way true (Some k) (went, inside, back, heap, frames) shapes all = rw heap (law h o k (raw v) shapes all)
