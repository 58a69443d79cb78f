-- New arrays by an entry of the pool.
use Rattle.std.proofs.Common.{◌≡◌, ◌∙◌, ℕ, zero, suc, ℤ, pos, ◌+◌, ◌-◌, ◌<◌, ◌≤◌, true, false, List, [], ◌∷◌, length, drop, map, replicate, Some, None, inl, inr, refl, sym, ap, arith, rules}
use Rattle.std.specs.Prelude.{IfOk, Result, Ok, Err, nat_le, nat_lt, slice_get, if◌then◌else◌}
use Rattle.std.proofs.lemmas.Bool.{le-leb, lt-ltb}
use Rattle.std.proofs.lemmas.List.{length-map}
use Rattle.jmemory.specs.declared.jheap.cell.Kind.TheVariants as kinds
use Rattle.jmemory.specs.declared.jheap.cell.CellType.TheVariants as cells
use Rattle.jmemory.specs.jheap.Heaps.{Heaped, made}
use Rattle.jmemory.specs.jheap.RawValues.{of_raw}
use Rattle.jlib.specs.declared.classes.LibClass.TheVariants as lib
use Rattle.jlib.specs.declared.classes.Thrown.TheVariants as thrown
use Rattle.jvalues.specs.declared.jops.value.Value.TheVariants.{Ref}
use Rattle.jresolution.specs.jprogram.ProgramClasses.{Program}
use Rattle.jtyping.specs.jrule.ArrayRule.{component}
use Rattle.jtyping.specs.jrule.PoolEffects.{exchange}
use Rattle.jtypes.specs.declared.vtype.ArrayType.{ArrayType}
use Rattle.jtypes.specs.declared.vtype.VType.TheVariants as types
use Rattle.jtypes.specs.DescriptorElements.{in_brackets}
use Rattle.jresolution.specs.declared.juses.types.ArrayRef.{ArrayRef}
use Rattle.jresolution.specs.declared.juses.types.ElementRef.{ElementRef}
use Rattle.jresolution.specs.declared.juses.types.ElementRef.TheVariants as elements
use Rattle.jresolution.specs.juses.IndexedInstructions as instructions
use Rattle.jresolution.specs.juses.InstructionMeanings as meanings
use Rattle.jresolution.specs.juses.InternedTypes.{array_named, element_named}
use Rattle.jsemantics.specs.jmachine.MachineStates.{FrameOf}
use Rattle.jsemantics.specs.jmachine.ArrayInstructions as rows
use Rattle.jsemantics.specs.jmachine.InstructionActions.{doing, used}
use Rattle.jsemantics.specs.jmachine.FrameOperations.{standing}
use Rattle.jsemantics.specs.jmachine.Narrowing.{default, place}
use Rattle.jsemantics.specs.jmachine.HeapObjects.{Object, Array}
use Rattle.jsemantics.specs.jmachine.Store.{Store, next_number, paid, with_made}
use Rattle.jruntime.specs.declared.jstate.shapes.Shapes.{Shapes}
use Rattle.jruntime.specs.jstate.FrameLists.{Framed}
use Rattle.jruntime.specs.jstate.HeapMeanings.{AreBuilt, Things, array_at, element_type, item_type, object_by, store_by}
use Rattle.jruntime.specs.jstate.HeapMeaningLaws.{Makes}
use Rattle.jrows.specs.jacts.ArrayOperands.{HasMade}
use Rattle.jrows.specs.jacts.RowOutcomes.{Acts, int_in, leaves}
use Rattle.jrows.specs.declared.jacts.way.Way.{Way}
use Rattle.jrows.specs.declared.jacts.way.Way.TheVariants as ways
use Rattle.jrows.proofs.JactsProofs.JumpRows.{no_int, one_int}

-- ---- items that were not written

same_each : {A B : Type 0} (f : A → B) (n : ℕ) (x : A) → map f (replicate n x) ≡ replicate n (f x)
same_each f zero x = refl
same_each f (suc n) x = ap (λ xs. f x ∷ xs) (same_each f n x)

module _ (p : Program) where
  one_row : (e : ElementRef) → of_raw (element_type e) 0 ≡ default (in_brackets 0 (element_named p e))
  one_row elements.Boolean = refl
  one_row elements.Char = refl
  one_row elements.Byte = refl
  one_row elements.Short = refl
  one_row elements.Int = refl
  one_row elements.Long = refl
  one_row (elements.Class c) = refl

  rows_of : (d : ℕ) (e : ElementRef) → of_raw (if nat_lt 1 d then cells.Ref else element_type e) 0 ≡ default (in_brackets (d - 1) (element_named p e))
  rows_of zero e = one_row e
  rows_of (suc zero) e = one_row e
  rows_of (suc (suc d)) e =
      let more : nat_lt 1 (suc (suc d)) ≡ true = lt-ltb 1 (suc (suc d)) (omega arith) in
      let less : suc (suc d) - 1 ≡ suc d = omega arith in
      rw (more, less) refl

  unwritten : (a : ArrayRef) (n : ℕ) → map (of_raw (item_type a)) (replicate n 0) ≡ replicate n (default (component (array_named p a)))
  unwritten a n = same_each (of_raw (item_type a)) n 0 ∙ ap (replicate n) (rows_of a.depth a.element)

-- ---- the row

module _ {E : Type 0} (f : FrameOf ℕ E) (t : ArrayType) (s : Store ℕ) where
  pub refs_stuck : (g : FrameOf ℕ E) → int_in (slice_get f.operands 0) ≡ None → Acts (instructions.Used (meanings.MakeArray (types.Array t))) f s (leaves ways.Stuck [] g s)
  unfolding doing used exchange
  refs_stuck g h r at own entries inherited = rw (no_int at.world s [] f.operands h) refl

  pub refs_negative : (z : ℤ) → Some z ≡ int_in (slice_get f.operands 0) → None ≡ place z
      → Acts (instructions.Used (meanings.MakeArray (types.Array t))) f s (leaves (ways.Raises (lib.Thrown thrown.NegativeArraySizeException)) [] f s)
  unfolding doing used exchange rows.make
  refs_negative z h none r at own entries inherited = rw (one_int at.world s f.operands z h, ← none) (refl, refl, refl, refl, refl, refl)

  refs_done : (u : Store ℕ) (n : ℕ) → Some (pos n) ≡ int_in (slice_get f.operands 0) → 2 + n ≤ s.left → u ≡ paid (2 + n) (with_made s (rows.made_of t n))
      → Acts (instructions.Used (meanings.MakeArray (types.Array t))) f s (leaves ways.Went [] (standing f (f.place + 1) (Ref (next_number s) ∷ drop 1 f.operands)) u)
  unfolding doing used exchange rows.make
  refs_done u n h few is r at own entries inherited = rw (one_int at.world s f.operands (pos n) h, le-leb (2 + n) s.left few, is) refl

  refs_full : (n : ℕ) → Some (pos n) ≡ int_in (slice_get f.operands 0) → s.left < 2 + n → Acts (instructions.Used (meanings.MakeArray (types.Array t))) f s (leaves ways.Full [] f s)
  unfolding doing used exchange rows.make
  refs_full n h few r at own entries inherited =
      let short : nat_le (2 + n) s.left ≡ false = search rules in
      rw (one_int at.world s f.operands (pos n) h, short) refl

-- what was made, where the cells were there
refs_row : Makes → {E : Type 0} (p : Program) (shapes : Shapes) (things : Things) (constants : List (List ℕ × ℕ)) (number count : ℕ) (s t : Framed E) (h g : Heaped) (way : Way)
    → AreBuilt h.objects → Some (pos count) ≡ int_in (slice_get s.newest.operands 0) → HasMade (kinds.Array number) count s h way t g
    → Acts (instructions.Used (meanings.MakeArray (types.Array (array_named p (array_at shapes number))))) s.newest (store_by p shapes things constants h) (leaves way [] t.newest (store_by p shapes things constants g))
refs_row law p shapes things constants number count s t h g way built n (inl (few, is, same, kept)) =
    rw (is, same, kept) (refs_full s.newest (array_named p (array_at shapes number)) (store_by p shapes things constants h) count n few)
refs_row law p shapes things constants number count s t h g way built n (inr (few, is, heap, frames)) =
    let all = store_by p shapes things constants h in
    let type = array_named p (array_at shapes number) in
    let array = ap (λ items. Array type items) (unwritten p (array_at shapes number) count) in
    let store = law p shapes things constants h (kinds.Array number) count built ∙ ap (λ (x : Object ℕ). paid (2 + count) (with_made all x)) array in
    let next : length h.objects + 1 ≡ next_number all = ap (λ k. k + 1) (sym (length-map h.objects (object_by p shapes h.objects things))) in
    rw (is, frames, heap, next) (refs_done s.newest type all (store_by p shapes things constants (made h (kinds.Array number) count)) count n (omega (arith, few)) store)

pub all_refs : Makes → {E F : Type 0} (r : Result Way F) (number count : ℕ) (s t : Framed E) (h g : Heaped) → IfOk r (λ way. HasMade (kinds.Array number) count s h way t g)
    → AreBuilt h.objects → Some (pos count) ≡ int_in (slice_get s.newest.operands 0)
    → IfOk r (λ way. (p : Program) (shapes : Shapes) (things : Things) (constants : List (List ℕ × ℕ))
    → Acts (instructions.Used (meanings.MakeArray (types.Array (array_named p (array_at shapes number))))) s.newest (store_by p shapes things constants h) (leaves way [] t.newest (store_by p shapes things constants g)))
all_refs law (Ok way) number count s t h g made built n = λ p shapes things constants. refs_row law p shapes things constants number count s t h g way built n made
all_refs law (Err e) number count s t h g made built n = tt
