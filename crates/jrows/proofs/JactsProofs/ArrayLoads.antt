-- Loads of items from arrays.
use Rattle.std.proofs.Common.{◌≡◌, ◌∙◌, ℕ, zero, suc, ℤ, ◌+◌, ◌<◌, ◌≤◌, Bool, true, false, List, [], ◌∷◌, length, drop, map, Option, Some, None, refl, sym, ap, arith}
use Rattle.std.specs.Prelude.{is_some, nat_lt, option_and_then, option_map, slice_get, unwrap_or, if◌then◌else◌}
use Rattle.std.proofs.lemmas.List.{length-map}
use Rattle.std.proofs.lemmas.Option.{slice_get-map}
use Rattle.jparts.specs.declared.jcode.names.Element.{Element}
use Rattle.jparts.specs.declared.jcode.names.Element.TheVariants as items
use Rattle.jparts.specs.declared.jcode.names.ArrayType.{ArrayType as ArrayKind}
use Rattle.jparts.specs.declared.jcode.op_form.ArrayForm.TheVariants as forms
use Rattle.jvalues.specs.declared.jnames.kinds.Kind.TheVariants as wanted
use Rattle.jmemory.specs.declared.jheap.cell.CellType.{CellType}
use Rattle.jmemory.specs.declared.jheap.cell.Kind.{Kind}
use Rattle.jmemory.specs.declared.jheap.cell.Kind.TheVariants as kinds
use Rattle.jmemory.specs.jheap.Heaps as heaps
use Rattle.jmemory.specs.jheap.Heaps.{Heaped, cell_at, cells_at}
use Rattle.jmemory.specs.jheap.RawValues.{of_raw}
use Rattle.jlib.specs.declared.classes.LibClass.TheVariants as lib
use Rattle.jlib.specs.declared.classes.Thrown.TheVariants as thrown
use Rattle.jvalues.specs.declared.jops.value.Value.{Value}
use Rattle.jvalues.specs.declared.jops.value.Value.TheVariants.{Int, Long, Ref, Ctx}
use Rattle.jresolution.specs.jprogram.ProgramClasses.{Program}
use Rattle.jtyping.specs.jrule.StackEffects.{Of, Holds, items_of, same_items}
use Rattle.jtyping.specs.jrule.StackEffects as rules
use Rattle.jtypes.specs.declared.vtype.ArrayType.{ArrayType}
use Rattle.jtypes.specs.declared.vtype.VType.{VType}
use Rattle.jtypes.specs.declared.vtype.VType.TheVariants as types
use Rattle.jresolution.specs.declared.juses.types.ArrayRef.{ArrayRef}
use Rattle.jresolution.specs.declared.juses.types.ElementRef.{ElementRef}
use Rattle.jresolution.specs.declared.juses.types.ElementRef.TheVariants as elements
use Rattle.jresolution.specs.juses.IndexedInstructions as instructions
use Rattle.jresolution.specs.juses.InternedTypes.{array_named, element_named}
use Rattle.jsemantics.specs.jmachine.MachineStates.{FrameOf, gives}
use Rattle.jsemantics.specs.jmachine.ArrayInstructions as rows
use Rattle.jsemantics.specs.jmachine.InstructionActions.{doing}
use Rattle.jsemantics.specs.jmachine.FrameOperations.{standing}
use Rattle.jsemantics.specs.jmachine.Narrowing.{place}
use Rattle.jsemantics.specs.jmachine.HeapObjects.{Array}
use Rattle.jsemantics.specs.jmachine.TakenOperands.{Taken, serves, taken, serves_as}
use Rattle.jsemantics.specs.jmachine.Store.{Store, object_at}
use Rattle.jsemantics.specs.jmachine.World.{World}
use Rattle.jruntime.specs.declared.jstate.shapes.Shapes.{Shapes}
use Rattle.jruntime.specs.jstate.ArrayNumbers.{element_of, numbers_at}
use Rattle.jruntime.specs.jstate.HeapMeanings.{Things, array_at, element_type, item_type, row_at, store_by}
use Rattle.jruntime.proofs.JstateProofs.ArrayTypeNumbers.{typed_row, typed_said}
use Rattle.jrows.specs.declared.jacts.arrays.ArrayOperand.{ArrayOperand}
use Rattle.jrows.specs.declared.jacts.arrays.ArrayOperand.TheVariants as found
use Rattle.jrows.specs.jacts.ArrayAccesses.{cell_for, held_as, item_in, items_by, with_items}
use Rattle.jrows.specs.jacts.ArrayOperands.{array_found, array_seen}
use Rattle.jrows.specs.jacts.RowOutcomes.{Acts, int_in, leaves}
use Rattle.jrows.specs.declared.jacts.way.Way.TheVariants as ways
use Rattle.jrows.proofs.JactsProofs.ArrayInstructions.{IsHere, array_of, front_null, is_here, no_array}
use Rattle.jrows.proofs.JactsProofs.Costs.{at_no_cost}
use Rattle.jrows.proofs.JactsProofs.JumpRows.{no_int}
use Rattle.jrows.proofs.JactsProofs.NumberOperands.{none_of}

-- ---- what an array holds

held_named : (p : Program) (e : ElementRef) → rules.held_as (element_named p e) ≡ held_as e
held_named p elements.Boolean = refl
held_named p elements.Char = refl
held_named p elements.Byte = refl
held_named p elements.Short = refl
held_named p elements.Int = refl
held_named p elements.Long = refl
held_named p (elements.Class c) = refl

pub items_named : (p : Program) (a : ArrayRef) → items_of (array_named p a) ≡ items_by a
items_named p a = ap (λ e. if nat_lt 1 a.depth then items.Ref else e) (held_named p a.element)

-- where the number of the arrays says them,
pub items_said : (shapes : Shapes) (n : ℕ) (kind : ArrayKind) → Some kind ≡ numbers_at n → held_as (element_of kind) ≡ items_by (array_at shapes n)
items_said shapes n kind says = sym (ap items_by (typed_said shapes n kind says))

-- and where it is a row
pub items_row : (shapes : Shapes) (n : ℕ) → None ≡ numbers_at n → items_by (row_at shapes n) ≡ items_by (array_at shapes n)
items_row shapes n none = sym (ap items_by (typed_row shapes n none))

pub same_is : (x y : Element) → same_items x y ≡ true → x ≡ y
same_is items.Int items.Int h = refl
same_is items.Int items.Long h = cc
same_is items.Int items.Ref h = cc
same_is items.Int items.Byte h = cc
same_is items.Int items.Char h = cc
same_is items.Int items.Short h = cc
same_is items.Long items.Int h = cc
same_is items.Long items.Long h = refl
same_is items.Long items.Ref h = cc
same_is items.Long items.Byte h = cc
same_is items.Long items.Char h = cc
same_is items.Long items.Short h = cc
same_is items.Ref items.Int h = cc
same_is items.Ref items.Long h = cc
same_is items.Ref items.Ref h = refl
same_is items.Ref items.Byte h = cc
same_is items.Ref items.Char h = cc
same_is items.Ref items.Short h = cc
same_is items.Byte items.Int h = cc
same_is items.Byte items.Long h = cc
same_is items.Byte items.Ref h = cc
same_is items.Byte items.Byte h = refl
same_is items.Byte items.Char h = cc
same_is items.Byte items.Short h = cc
same_is items.Char items.Int h = cc
same_is items.Char items.Long h = cc
same_is items.Char items.Ref h = cc
same_is items.Char items.Byte h = cc
same_is items.Char items.Char h = refl
same_is items.Char items.Short h = cc
same_is items.Short items.Int h = cc
same_is items.Short items.Long h = cc
same_is items.Short items.Ref h = cc
same_is items.Short items.Byte h = cc
same_is items.Short items.Char h = cc
same_is items.Short items.Short h = refl

-- the cells of arrays with such items
held_cell : (el : ElementRef) → element_type el ≡ cell_for (held_as el)
held_cell elements.Boolean = refl
held_cell elements.Char = refl
held_cell elements.Byte = refl
held_cell elements.Short = refl
held_cell elements.Int = refl
held_cell elements.Long = refl
held_cell (elements.Class c) = refl

pub cell_is : (e : Element) (a : ArrayRef) → e ≡ items_by a → item_type a ≡ cell_for e
cell_is e a same = by (nat_lt 1 a.depth) refl ∙ ap cell_for (sym same)
  where
    by : (b : Bool) → nat_lt 1 a.depth ≡ b → item_type a ≡ cell_for (items_by a)
    by true is = rw is refl
    by false is = rw is (held_cell a.element)

-- what is no array has no items
type_no_items : (e : Element) (t : VType) → rules.is_array t ≡ false → rules.holds e t ≡ false
type_no_items e types.Top h = refl
type_no_items e types.Int h = refl
type_no_items e types.Long h = refl
type_no_items e types.Null h = cc
type_no_items e types.UninitThis h = refl
type_no_items e (types.Uninit o) h = refl
type_no_items e (types.Object c) h = refl
type_no_items e (types.Array a) h = cc
type_no_items e types.Ctx h = refl

no_items : (w : World) (e : Element) (t : Option VType) → serves_as w (Of wanted.Array) t ≡ false → serves_as w (Holds e) t ≡ false
no_items w e None h = refl
no_items w e (Some t) h = type_no_items e t h

-- ---- an operand behind an int

pub record IsSecond (operands : List (Value ℕ)) (i : ℤ) : Type 0 where
  pub front : operands ≡ Int i ∷ drop 1 operands
  pub second : slice_get operands 1 ≡ slice_get (drop 1 operands) 0
  pub rest : drop 1 (drop 1 operands) ≡ drop 2 operands

pub is_second : (operands : List (Value ℕ)) (i : ℤ) → Some i ≡ int_in (slice_get operands 0) → IsSecond operands i
is_second [] i h = cc
is_second (Int x ∷ rest) i h = let e : i ≡ x = cc in record { front = ap (λ z. Int z ∷ rest) (sym e); second = refl; rest = refl }
is_second (Long x ∷ rest) i h = cc
is_second (Ref n ∷ rest) i h = cc
is_second (Ctx k ∷ rest) i h = cc

module _ (shapes : Shapes) where
  pub kept_array : (e : Element) (n a : ℕ) (x : ArrayOperand) → found.Array n a ≡ with_items shapes e x → (found.Array n a ≡ x) × (same_items e (items_by (array_at shapes a)) ≡ true)
  kept_array e n a found.Other h = cc
  kept_array e n a found.Null h = cc
  kept_array e n a (found.Array m b) h = both (same_items e (items_by (array_at shapes b))) refl h
    where
      both : (t : Bool) → same_items e (items_by (array_at shapes b)) ≡ t → found.Array n a ≡ (if t then found.Array m b else found.Other)
          → (found.Array n a ≡ found.Array m b) × (same_items e (items_by (array_at shapes a)) ≡ true)
      both true is h = let same : a ≡ b = cc in (h, ap (λ k. same_items e (items_by (array_at shapes k))) same ∙ is)
      both false is h = cc

  pub kept_null : (e : Element) (x : ArrayOperand) → found.Null ≡ with_items shapes e x → found.Null ≡ x
  kept_null e found.Other h = cc
  kept_null e found.Null h = refl
  kept_null e (found.Array m b) h = neither (same_items e (items_by (array_at shapes b))) h
    where
      neither : (t : Bool) → found.Null ≡ (if t then found.Array m b else found.Other) → found.Null ≡ found.Array m b
      neither true h = cc
      neither false h = cc

  pub cell_kept : (e : Element) (n a : ℕ) (x : ArrayOperand) → found.Array n a ≡ with_items shapes e x → item_type (array_at shapes a) ≡ cell_for e
  cell_kept e n a x h = cell_is e (array_at shapes a) (same_is e (items_by (array_at shapes a)) (kept_array e n a x h).1)

module _ (p : Program) (shapes : Shapes) (things : Things) (constants : List (List ℕ × ℕ)) (h : Heaped) where
  abbrev known : Store ℕ
  known = store_by p shapes things constants h

  pub array_items : (w : World) (e : Element) (o a : ℕ) (cells : List ℕ) → object_at known (suc o) ≡ Some (array_of p shapes things a cells)
      → serves w known (Holds e) (Ref (suc o)) ≡ same_items e (items_by (array_at shapes a))
  array_items w e o a cells there = rw there (ap (same_items e) (items_named p (array_at shapes a)))

  -- the operand has no such items
  pub serves_not : (w : World) (e : Element) (v : Value ℕ) (rest : List (Value ℕ)) (x : ArrayOperand) → x ≡ array_seen h (Some v) → found.Other ≡ with_items shapes e x → serves w known (Holds e) v ≡ false
  serves_not w e v rest found.Other is other = no_items w e _ (no_array p shapes things constants w h v is)
  serves_not w e v rest found.Null is other = cc
  serves_not w e v rest (found.Array n a) is other =
      let here = is_here p shapes things constants h (v ∷ rest) n a is in
      let value : v ≡ Ref (suc here.before) = cc in
      rw value (array_items w e here.before a (cells_at h n) here.object ∙ lost (same_items e (items_by (array_at shapes a))) other)
    where
      lost : (b : Bool) → found.Other ≡ (if b then found.Array n a else found.Other) → b ≡ false
      lost true other = cc
      lost false other = refl

  -- no array with such items is loaded from
  second_lost : (w : World) (e : Element) (operands : List (Value ℕ)) → found.Other ≡ with_items shapes e (array_seen h (slice_get operands 1))
      → taken w known (Of wanted.Int ∷ Holds e ∷ []) operands ≡ None
  unfolding taken
  second_lost w e [] other = refl
  second_lost w e (v ∷ []) other = lone (serves w known (Of wanted.Int) v)
    where
      lone : {A : Type 0} (b : Bool) → (if b then none_of A else none_of A) ≡ none_of A
      lone true = refl
      lone false = refl
  second_lost w e (v ∷ u ∷ rest) other = rw (serves_not w e u rest (array_seen h (Some u)) refl other) (lone (serves w known (Of wanted.Int) v))
    where
      lone : {A : Type 0} (b : Bool) → (if b then none_of A else none_of A) ≡ none_of A
      lone true = refl
      lone false = refl

  -- ---- loads

  abbrev pub load_taken : Value ℕ → ℤ → List (Value ℕ) → Taken ℕ
  load_taken a i rest = record { values = Int i ∷ a ∷ []; below = rest }

  module _ {E : Type 0} (f : FrameOf ℕ E) (e : Element) (i : ℤ) (index : Some i ≡ int_in (slice_get f.operands 0)) where
    abbrev two : IsSecond f.operands i
    two = is_second f.operands i index

    pub load_other : (g : FrameOf ℕ E) → found.Other ≡ with_items shapes e (array_seen h (slice_get f.operands 1))
        → Acts (instructions.Array (forms.Load e)) f known (leaves ways.Stuck [] g known)
    unfolding doing
    load_other g other r at own entries inherited = rw (second_lost at.world e f.operands other) refl

    pub load_null : found.Null ≡ with_items shapes e (array_seen h (slice_get f.operands 1))
        → Acts (instructions.Array (forms.Load e)) f known (leaves (ways.Raises (lib.Thrown thrown.NullPointerException)) [] f known)
    unfolding doing taken rows.array
    load_null null r at own entries inherited =
        let zero_is = front_null f known h (drop 1 f.operands) (kept_null shapes e (array_seen h (slice_get f.operands 1)) null ∙ ap (array_seen h) two.second) in
        rw (two.front ∙ ap (λ xs. Int i ∷ xs) zero_is) (refl, refl, refl, refl, refl, refl)

    -- an array with such items
    here_at : (n a : ℕ) → found.Array n a ≡ with_items shapes e (array_seen h (slice_get f.operands 1)) → IsHere p shapes things constants h (drop 1 f.operands) n a
    here_at n a is = is_here p shapes things constants h (drop 1 f.operands) n a ((kept_array shapes e n a (array_seen h (slice_get f.operands 1)) is).0 ∙ ap (array_seen h) two.second)

    second_taken : (w : World) (b : ℕ) (rest : List (Value ℕ)) → serves w known (Holds e) (Ref (suc b)) ≡ true
        → taken w known (Of wanted.Int ∷ Holds e ∷ []) (Int i ∷ Ref (suc b) ∷ rest) ≡ Some (load_taken (Ref (suc b)) i rest)
    unfolding taken
    second_taken w b rest array = rw array refl

    load_of : (n a : ℕ) → found.Array n a ≡ with_items shapes e (array_seen h (slice_get f.operands 1)) → (w : World)
        → taken w known (Of wanted.Int ∷ Holds e ∷ []) f.operands ≡ Some (load_taken (Ref n) i (drop 2 f.operands))
    load_of n a is w =
        let here = here_at n a is in
        let array = array_items w e here.before a (cells_at h n) here.object ∙ (kept_array shapes e n a (array_seen h (slice_get f.operands 1)) is).1 in
        let all = two.front ∙ ap (λ xs. Int i ∷ xs) (here.front ∙ ap (λ xs. Ref (suc here.before) ∷ xs) two.rest) in
        ap (taken w known (Of wanted.Int ∷ Holds e ∷ [])) all ∙ second_taken w here.before (drop 2 f.operands) array ∙ ap (λ m. Some (load_taken (Ref m) i (drop 2 f.operands))) (sym here.number)

    loads_value : (t : ArrayType) (g : ℕ → Value ℕ) (cells : List ℕ) (k : Option ℕ) (v : Value ℕ) → Some v ≡ option_and_then (λ j. option_map g (slice_get cells j)) k
        → rows.load_at {E = E} known (record { type = t; items = map g cells }) k ≡ Some (gives known (v ∷ []))
    loads_value t g cells None v is = cc
    loads_value t g cells (Some j) v is = rw (slice_get-map g cells j, ← is) refl

    load_is : (w : World) (s : Store ℕ) (o : ℕ) (t : ArrayType) (values : List (Value ℕ)) → object_at s (suc o) ≡ Some (Array t values)
        → rows.array {E = E} w s (forms.Load e) (Int i ∷ Ref (suc o) ∷ []) ≡ rows.load_at s (record { type = t; items = values }) (rows.within (length values) (place i))
    unfolding rows.array
    load_is w s o t values there = rw there refl

    -- what the row is, where the array has such items
    row_is : (w : World) (n a : ℕ) → found.Array n a ≡ with_items shapes e (array_seen h (slice_get f.operands 1)) → (k : Option ℕ) → rows.within (length (cells_at h n)) (place i) ≡ k
        → rows.array {E = E} w known (forms.Load e) (Int i ∷ Ref n ∷ [])
        ≡ rows.load_at known (record { type = array_named p (array_at shapes a); items = map (of_raw (item_type (array_at shapes a))) (cells_at h n) }) k
    row_is w n a is k at =
        let here = here_at n a is in
        let of = of_raw (item_type (array_at shapes a)) in
        ap (λ m. rows.array {E = E} w known (forms.Load e) (Int i ∷ Ref m ∷ [])) here.number
        ∙ load_is w known here.before (array_named p (array_at shapes a)) (map of (cells_at h n)) here.object
        ∙ ap (λ m. rows.load_at {E = E} known (record { type = array_named p (array_at shapes a); items = map of (cells_at h n) }) (rows.within m (place i))) (length-map (cells_at h n) of)
        ∙ ap (rows.load_at {E = E} known (record { type = array_named p (array_at shapes a); items = map of (cells_at h n) })) at

    pub load_some : (n a : ℕ) (v : Value ℕ) → found.Array n a ≡ with_items shapes e (array_seen h (slice_get f.operands 1))
        → Some v ≡ item_in h (item_type (array_at shapes a)) n i
        → Acts (instructions.Array (forms.Load e)) f known (leaves ways.Went [] (standing f (f.place + 1) (v ∷ drop 2 f.operands)) known)
    unfolding doing
    load_some n a v is item r at own entries inherited =
        let of = of_raw (item_type (array_at shapes a)) in
        let k = rows.within (length (cells_at h n)) (place i) in
        let value = row_is at.world n a is k refl ∙ loads_value (array_named p (array_at shapes a)) of (cells_at h n) k v item in
        rw (load_of n a is at.world, value) (at_no_cost f known [] (standing f (f.place + 1) (v ∷ drop 2 f.operands)))

    pub load_none : (n a : ℕ) → found.Array n a ≡ with_items shapes e (array_seen h (slice_get f.operands 1))
        → false ≡ is_some (rows.within (length (cells_at h n)) (place i))
        → Acts (instructions.Array (forms.Load e)) f known (leaves (ways.Raises (lib.Thrown thrown.ArrayIndexOutOfBoundsException)) [] f known)
    unfolding doing
    load_none n a is outside r at own entries inherited =
        let none = nothing (rows.within (length (cells_at h n)) (place i)) outside in
        rw (load_of n a is at.world, row_is at.world n a is None none) (refl, refl, refl, refl, refl, refl)
      where
        nothing : {A : Type 0} (x : Option A) → false ≡ is_some x → x ≡ None
        nothing None h = refl
        nothing (Some y) h = cc

-- ---- items that are there

pub item_found : (h : Heaped) (of : CellType) (o k : ℕ) (i : ℤ) → Some k ≡ rows.within (length (cells_at h o)) (place i) → k < length (cells_at h o) → Some (of_raw of (cell_at h o k)) ≡ item_in h of o i
item_found h of o k i at inside = rw (← at, there (cells_at h o) k inside) refl
  where
    there : (cells : List ℕ) (k : ℕ) → k < length cells → slice_get cells k ≡ Some (unwrap_or (slice_get cells k) 0)
    there [] k inside = absurd (omega (arith, inside))
    there (c ∷ cells) zero inside = refl
    there (c ∷ cells) (suc k) inside = there cells k (omega (arith, inside))

pub has_second : (shapes : Shapes) (e : Element) (h : Heaped) (n a : ℕ) (operands : List (Value ℕ)) → found.Array n a ≡ with_items shapes e (array_seen h (slice_get operands 1)) → 2 ≤ length operands
has_second shapes e h n a [] is = cc
has_second shapes e h n a (v ∷ []) is = cc
has_second shapes e h n a (v ∷ u ∷ rest) is = omega arith

pub second_there : (shapes : Shapes) (e : Element) (h : Heaped) (n a : ℕ) (v : Option (Value ℕ)) → found.Array n a ≡ with_items shapes e (array_seen h v) → is_some (heaps.object_at h n) ≡ true
second_there shapes e h n a None is = cc
second_there shapes e h n a (Some (Int x)) is = cc
second_there shapes e h n a (Some (Long x)) is = cc
second_there shapes e h n a (Some (Ctx k)) is = cc
second_there shapes e h n a (Some (Ref zero)) is = cc
second_there shapes e h n a (Some (Ref (suc o))) is = look (heaps.object_at h (suc o)) refl is
  where
    look : (x : Option heaps.Object) → heaps.object_at h (suc o) ≡ x → found.Array n a ≡ with_items shapes e (array_found (suc o) (option_map (λ (y : heaps.Object). y.kind) x)) → is_some (heaps.object_at h n) ≡ true
    look None at is = cc
    look (Some x) at is = by x.kind is
      where
        by : (k : Kind) → found.Array n a ≡ with_items shapes e (array_found (suc o) (Some k)) → is_some (heaps.object_at h n) ≡ true
        by (kinds.Object m) is = cc
        by (kinds.Array b) is = same (same_items e (items_by (array_at shapes b))) is
          where
            same : (t : Bool) → found.Array n a ≡ (if t then found.Array (suc o) b else found.Other) → is_some (heaps.object_at h n) ≡ true
            same true is = let number : n ≡ suc o = cc in rw (number, at) refl
            same false is = cc
        by kinds.Text is = cc
        by kinds.Piece is = cc

-- no index is there
pub load_stuck : {E : Type 0} (f : FrameOf ℕ E) (s : Store ℕ) (e : Element) (g : FrameOf ℕ E) → int_in (slice_get f.operands 0) ≡ None
    → Acts (instructions.Array (forms.Load e)) f s (leaves ways.Stuck [] g s)
unfolding doing
load_stuck f s e g none r at own entries inherited = rw (no_int at.world s (Holds e ∷ []) f.operands none) refl
