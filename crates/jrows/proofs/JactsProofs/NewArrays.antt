-- New arrays of numbers.
use Rattle.std.proofs.Common.{◌≡◌, ◌∙◌, ℕ, zero, suc, ℤ, pos, negsuc, ◌+◌, ◌-◌, ◌<◌, ◌≤◌, true, false, List, [], ◌∷◌, length, drop, map, replicate, Some, None, inl, inr, refl, sym, ap, arith, rules}
use Rattle.std.specs.Prelude.{IfOk, OnOk, Result, Ok, Err, nat_le, nat_lt, slice_get, if◌then◌else◌}
use Rattle.std.proofs.lemmas.Bool.{le-leb, lt-ltb}
use Rattle.std.proofs.lemmas.List.{length-map}
use Rattle.jparts.specs.declared.jcode.names.ArrayType.{ArrayType as ArrayKind}
use Rattle.jparts.specs.declared.jcode.op_form.ArrayForm.TheVariants as forms
use Rattle.jmemory.specs.declared.jheap.cell.Kind.TheVariants as kinds
use Rattle.jmemory.specs.declared.jheap.cell.CellType.TheVariants as cells
use Rattle.jmemory.specs.jheap.Heaps.{Heaped, made}
use Rattle.jmemory.specs.jheap.RawValues.{of_raw}
use Rattle.jlib.specs.declared.classes.LibClass.{LibClass}
use Rattle.jlib.specs.declared.classes.LibClass.TheVariants as lib
use Rattle.jlib.specs.declared.classes.Thrown.TheVariants as thrown
use Rattle.jvalues.specs.declared.jops.value.Value.TheVariants.{Ref}
use Rattle.jresolution.specs.jprogram.ProgramClasses.{Program}
use Rattle.jtyping.specs.jrule.ArrayRule.{component}
use Rattle.jtypes.specs.declared.vtype.ArrayType.{ArrayType}
use Rattle.jtypes.specs.DescriptorElements.{in_brackets}
use Rattle.jresolution.specs.declared.juses.types.ArrayRef.{ArrayRef}
use Rattle.jresolution.specs.declared.juses.types.ElementRef.{ElementRef}
use Rattle.jresolution.specs.declared.juses.types.ElementRef.TheVariants as elements
use Rattle.jresolution.specs.juses.IndexedInstructions as instructions
use Rattle.jresolution.specs.juses.InternedTypes.{array_named, element_named}
use Rattle.jsemantics.specs.jmachine.MachineStates.{FrameOf}
use Rattle.jsemantics.specs.jmachine.ArrayInstructions as rows
use Rattle.jsemantics.specs.jmachine.InstructionActions.{doing}
use Rattle.jsemantics.specs.jmachine.FrameOperations.{standing}
use Rattle.jsemantics.specs.jmachine.Narrowing.{default, place}
use Rattle.jsemantics.specs.jmachine.HeapObjects.{Object, Array}
use Rattle.jsemantics.specs.jmachine.Store.{Store, next_number, paid, with_made}
use Rattle.jruntime.specs.declared.jstate.shapes.Shapes.{Shapes}
use Rattle.jruntime.specs.jstate.ObjectCells.{MadeStaysCelled, StayCelled}
use Rattle.jruntime.specs.jstate.FrameLists.{Framed}
use Rattle.jruntime.specs.jstate.HeapMeanings.{AreBuilt, Things, array_at, element_type, item_type, object_by, store_by}
use Rattle.jruntime.specs.jstate.HeapMeaningLaws.{MadeStaysBuilt, Makes}
use Rattle.jrows.specs.jacts.ArrayOperands.{HasMade, row_of}
use Rattle.jrows.specs.jacts.RowOutcomes.{Acts, int_in, leaves}
use Rattle.jrows.specs.declared.jacts.way.Way.{Way}
use Rattle.jrows.specs.declared.jacts.way.Way.TheVariants as ways
use Rattle.jrows.proofs.JactsProofs.JumpRows.{no_int, one_int}

pub counts : (n : ℤ) → (k : ℕ) → n ≡ pos k → Some k ≡ place n
counts n k e = rw e refl

pub negative : (k : ℕ) → None ≡ place (negsuc k)
negative k = refl

-- ---- items that were not written

map_same : {A B : Type 0} (f : A → B) (n : ℕ) (x : A) → map f (replicate n x) ≡ replicate n (f x)
map_same f zero x = refl
map_same f (suc n) x = ap (λ xs. f x ∷ xs) (map_same f n x)

module _ (p : Program) where
  alone : (e : ElementRef) → of_raw (element_type e) 0 ≡ default (in_brackets 0 (element_named p e))
  alone elements.Boolean = refl
  alone elements.Char = refl
  alone elements.Byte = refl
  alone elements.Short = refl
  alone elements.Int = refl
  alone elements.Long = refl
  alone (elements.Class c) = refl

  zero_by : (d : ℕ) (e : ElementRef) → of_raw (if nat_lt 1 d then cells.Ref else element_type e) 0 ≡ default (in_brackets (d - 1) (element_named p e))
  zero_by zero e = alone e
  zero_by (suc zero) e = alone e
  zero_by (suc (suc d)) e =
      let more : nat_lt 1 (suc (suc d)) ≡ true = lt-ltb 1 (suc (suc d)) (omega arith) in
      let less : suc (suc d) - 1 ≡ suc d = omega arith in
      rw (more, less) refl

  items_zero : (a : ArrayRef) (n : ℕ) → map (of_raw (item_type a)) (replicate n 0) ≡ replicate n (default (component (array_named p a)))
  items_zero a n = map_same (of_raw (item_type a)) n 0 ∙ ap (replicate n) (zero_by a.depth a.element)

-- ---- the row

abbrev pub negative_size : LibClass
negative_size = lib.Thrown thrown.NegativeArraySizeException

module _ {E : Type 0} (f : FrameOf ℕ E) (kind : ArrayKind) where
  pub new_stuck : (s : Store ℕ) (g : FrameOf ℕ E) → int_in (slice_get f.operands 0) ≡ None → Acts (instructions.Array (forms.New kind)) f s (leaves ways.Stuck [] g s)
  unfolding doing
  new_stuck s g h r at own entries inherited = rw (no_int at.world s [] f.operands h) refl

  pub new_negative : (s : Store ℕ) (z : ℤ) → Some z ≡ int_in (slice_get f.operands 0) → None ≡ place z → Acts (instructions.Array (forms.New kind)) f s (leaves (ways.Raises negative_size) [] f s)
  unfolding doing rows.array rows.make
  new_negative s z h none r at own entries inherited = rw (one_int at.world s f.operands z h, ← none) (refl, refl, refl, refl, refl, refl)

  pub new_done : (s t : Store ℕ) (n : ℕ) → Some (pos n) ≡ int_in (slice_get f.operands 0) → 2 + n ≤ s.left → t ≡ paid (2 + n) (with_made s (rows.made_of (row_of kind) n))
      → Acts (instructions.Array (forms.New kind)) f s (leaves ways.Went [] (standing f (f.place + 1) (Ref (next_number s) ∷ drop 1 f.operands)) t)
  unfolding doing rows.array rows.make
  new_done s t n h few is r at own entries inherited = rw (one_int at.world s f.operands (pos n) h, le-leb (2 + n) s.left few, is) refl

  pub new_full : (s : Store ℕ) (n : ℕ) → Some (pos n) ≡ int_in (slice_get f.operands 0) → s.left < 2 + n → Acts (instructions.Array (forms.New kind)) f s (leaves ways.Full [] f s)
  unfolding doing rows.array rows.make
  new_full s n h few r at own entries inherited =
      let short : nat_le (2 + n) s.left ≡ false = search rules in
      rw (one_int at.world s f.operands (pos n) h, short) refl

-- what was made, where the cells were there
pub made_row : Makes → {E : Type 0} (p : Program) (shapes : Shapes) (things : Things) (constants : List (List ℕ × ℕ)) (kind : ArrayKind) (number count : ℕ) (s t : Framed E) (h g : Heaped) (way : Way)
    → AreBuilt h.objects → array_named p (array_at shapes number) ≡ row_of kind → Some (pos count) ≡ int_in (slice_get s.newest.operands 0) → HasMade (kinds.Array number) count s h way t g
    → Acts (instructions.Array (forms.New kind)) s.newest (store_by p shapes things constants h) (leaves way [] t.newest (store_by p shapes things constants g))
made_row law p shapes things constants kind number count s t h g way built type n (inl (few, is, same, kept)) =
    rw (is, same, kept) (new_full s.newest kind (store_by p shapes things constants h) count n few)
made_row law p shapes things constants kind number count s t h g way built type n (inr (few, is, heap, frames)) =
    let all = store_by p shapes things constants h in
    let array = ap (λ items. Array (array_named p (array_at shapes number)) items) (items_zero p (array_at shapes number) count) ∙ ap (λ (a : ArrayType). rows.made_of {K = ℕ} a count) type in
    let store = law p shapes things constants h (kinds.Array number) count built ∙ ap (λ (x : Object ℕ). paid (2 + count) (with_made all x)) array in
    let next : length h.objects + 1 ≡ next_number all = ap (λ k. k + 1) (sym (length-map h.objects (object_by p shapes h.objects things))) in
    rw (is, frames, heap, next) (new_done s.newest kind all (store_by p shapes things constants (made h (kinds.Array number) count)) count n (omega (arith, few)) store)

pub made_all : Makes → {E F : Type 0} (r : Result Way F) (number count : ℕ) (s t : Framed E) (h g : Heaped) → IfOk r (λ way. HasMade (kinds.Array number) count s h way t g)
    → AreBuilt h.objects → Some (pos count) ≡ int_in (slice_get s.newest.operands 0)
    → IfOk r (λ way. (p : Program) (shapes : Shapes) (things : Things) (constants : List (List ℕ × ℕ)) (kind : ArrayKind) → array_named p (array_at shapes number) ≡ row_of kind
    → Acts (instructions.Array (forms.New kind)) s.newest (store_by p shapes things constants h) (leaves way [] t.newest (store_by p shapes things constants g)))
made_all law (Ok way) number count s t h g made built n = λ p shapes things constants kind type. made_row law p shapes things constants kind number count s t h g way built type n made
made_all law (Err e) number count s t h g made built n = tt

pub of_place : (z : ℤ) (k : ℕ) → Some k ≡ place z → z ≡ pos k
of_place (pos n) k e = let same : k ≡ n = cc in ap pos (sym same)
of_place (negsuc n) k e = cc

-- what holds of the heap as it was, and of the heap with one more array, holds of what is left
pub made_keeps : (Holds : Heaped → Type 0) → {E F : Type 0} (r : Result Way F) (number count : ℕ) (s t : Framed E) (h g : Heaped) → IfOk r (λ way. HasMade (kinds.Array number) count s h way t g)
    → Holds h → Holds (made h (kinds.Array number) count) → OnOk r (Holds g)
made_keeps Holds (Ok way) number count s t h g (inl (few, is, same, kept)) old more = rw kept old
made_keeps Holds (Ok way) number count s t h g (inr (few, is, heap, frames)) old more = rw heap more
made_keeps Holds (Err e) number count s t h g made old more = tt

-- so what holds of the pieces,
pub made_stays : MadeStaysBuilt → {E F : Type 0} (r : Result Way F) (number count : ℕ) (s t : Framed E) (h g : Heaped) → IfOk r (λ way. HasMade (kinds.Array number) count s h way t g)
    → AreBuilt h.objects → OnOk r (AreBuilt g.objects)
made_stays law r number count s t h g made built =
    made_keeps (λ k. AreBuilt k.objects) r number count s t h g made built (law h (kinds.Array number) count built)

-- and of the cells
pub made_celled : MadeStaysCelled → {E F : Type 0} (r : Result Way F) (number count : ℕ) (s t : Framed E) (h g : Heaped) → IfOk r (λ way. HasMade (kinds.Array number) count s h way t g)
    → OnOk r (StayCelled h.objects g.objects)
made_celled law r number count s t h g made =
    made_keeps (λ k. StayCelled h.objects k.objects) r number count s t h g made (λ shapes all. all) (λ shapes all. law shapes h (kinds.Array number) count (λ n wants. cc) all)
