-- Instructions with arrays.
use Rattle.std.proofs.Common.{◌≡◌, ◌∙◌, ℕ, zero, suc, ◌+◌, pos, true, false, List, [], ◌∷◌, length, drop, map, Option, Some, None, refl, sym, ap}
use Rattle.std.specs.Prelude.{is_some, slice_get, option_map, unwrap_or}
use Rattle.std.proofs.lemmas.List.{length-map}
use Rattle.jvalues.specs.declared.jnames.kinds.Kind.TheVariants as wanted
use Rattle.jvalues.specs.declared.jops.value.Value.{Value}
use Rattle.jvalues.specs.declared.jops.value.Value.TheVariants.{Int, Long, Ref, Ctx}
use Rattle.jmemory.specs.declared.jheap.cell.Kind.{Kind}
use Rattle.jmemory.specs.declared.jheap.cell.Kind.TheVariants as kinds
use Rattle.jmemory.specs.jheap.Heaps as heaps
use Rattle.jmemory.specs.jheap.Heaps.{Heaped, cells_at, kind_at}
use Rattle.jmemory.specs.jheap.RawValues.{of_raw}
use Rattle.jlib.specs.declared.classes.LibClass.{LibClass}
use Rattle.jlib.specs.declared.classes.LibClass.TheVariants as lib
use Rattle.jlib.specs.declared.classes.Thrown.TheVariants as thrown
use Rattle.jparts.specs.declared.jcode.op_form.ArrayForm.TheVariants as forms
use Rattle.jresolution.specs.declared.jprogram.part.ClassRef.{ClassRef}
use Rattle.jresolution.specs.declared.jprogram.part.ClassRef.TheVariants as refs
use Rattle.jresolution.specs.jprogram.ProgramClasses.{Program}
use Rattle.jtyping.specs.jrule.StackEffects.{Of, Want}
use Rattle.jtyping.specs.jrule.StackEffects as types
use Rattle.jresolution.specs.juses.IndexedInstructions as instructions
use Rattle.jresolution.specs.juses.InternedTypes.{array_named}
use Rattle.jtypes.specs.declared.vtype.Name.{Name}
use Rattle.jtypes.specs.declared.vtype.ArrayType.{ArrayType}
use Rattle.jsemantics.specs.jmachine.MachineStates.{FrameOf}
use Rattle.jsemantics.specs.jmachine.ArrayInstructions as rows
use Rattle.jsemantics.specs.jmachine.InstructionActions.{doing}
use Rattle.jsemantics.specs.jmachine.FrameOperations.{standing}
use Rattle.jsemantics.specs.jmachine.HeapObjects.{Object, Array, class_of, is_ready}
use Rattle.jsemantics.specs.jmachine.TakenOperands.{serves, taken, serves_as, found_type}
use Rattle.jsemantics.specs.jmachine.Store.{Store, object_at}
use Rattle.jsemantics.specs.jmachine.World.{World}
use Rattle.jruntime.specs.declared.jstate.shapes.Shape.{Shape}
use Rattle.jruntime.specs.declared.jstate.shapes.Shapes.{Shapes}
use Rattle.jruntime.specs.jstate.ClassNumbers.{class_numbered}
use Rattle.jruntime.specs.jstate.HeapMeanings.{Things, array_at, class_by, item_type, kind_by, object_by, store_by, user_by}
use Rattle.jrows.specs.declared.jacts.arrays.ArrayOperand.TheVariants as found
use Rattle.jrows.specs.jacts.ArrayOperands.{array_found, array_seen}
use Rattle.jrows.specs.jacts.RowOutcomes.{Acts, leaves}
use Rattle.jrows.specs.declared.jacts.way.Way.TheVariants as ways
use Rattle.jrows.proofs.JactsProofs.Costs.{at_no_cost}
use Rattle.jrows.proofs.JactsProofs.NumberOperands.{if_ready, one_taken}
use Rattle.jrows.proofs.JactsProofs.ObjectLookup.{seen_at}

-- ---- what a reference names

module _ (p : Program) (shapes : Shapes) (things : Things) (named : ℕ → Name) (objects : List heaps.Object) where
  user_no_array : (i : ℕ) (o : Option Shape) (cells : List ℕ) → types.is_array (class_of named (user_by i o cells)) ≡ false
  user_no_array i None cells = refl
  user_no_array i (Some shape) cells = refl

  -- an object of a class is no array
  class_no_array : (c : ClassRef) (cells : List ℕ) → types.is_array (class_of named (class_by shapes objects things c cells)) ≡ false
  class_no_array (refs.User i) cells = user_no_array i (slice_get shapes.users i) cells
  class_no_array (refs.Lib (lib.Thrown c)) cells = refl
  class_no_array (refs.Lib lib.AccessControlException) cells = refl
  class_no_array (refs.Lib lib.String) cells = refl
  class_no_array (refs.Lib lib.StringBuilder) cells = refl
  class_no_array (refs.Lib (lib.Permission c)) cells = refl
  class_no_array (refs.Lib lib.AccessControlContext) cells = refl
  class_no_array (refs.Lib lib.Thread) cells = refl
  class_no_array (refs.Lib lib.Object) cells = refl
  class_no_array (refs.Lib lib.System) cells = refl
  class_no_array (refs.Lib lib.PrintStream) cells = refl
  class_no_array (refs.Lib lib.Void) cells = refl
  class_no_array (refs.Lib lib.Cloneable) cells = refl
  class_no_array (refs.Lib lib.Serializable) cells = refl
  class_no_array (refs.Lib lib.Runnable) cells = refl
  class_no_array (refs.Lib lib.PrivilegedAction) cells = refl
  class_no_array (refs.Lib lib.AccessController) cells = refl
  class_no_array (refs.Lib lib.Rt) cells = refl
  class_no_array (refs.Lib lib.Ctx) cells = refl

module _ (p : Program) (shapes : Shapes) (things : Things) (constants : List (List ℕ × ℕ)) (w : World) where
  kind_no_array : (objects : List heaps.Object) (o : ℕ) (kind : Kind) (cells : List ℕ) → found.Other ≡ array_found o (Some kind)
      → serves_as w (Of wanted.Array) (found_type w (Some (kind_by p shapes objects things kind cells))) ≡ false
  kind_no_array objects o (kinds.Object n) cells h =
      if_ready w wanted.Array (is_ready (class_by shapes objects things (class_numbered n) cells)) (class_of w.named (class_by shapes objects things (class_numbered n) cells))
      (class_no_array p shapes things w.named objects (class_numbered n) cells)
  kind_no_array objects o (kinds.Array a) cells h = cc
  kind_no_array objects o kinds.Text cells h = refl
  kind_no_array objects o kinds.Piece cells h = refl

  object_no_array : (objects : List heaps.Object) (o : ℕ) (x : Option heaps.Object) → found.Other ≡ array_found o (option_map (λ (y : heaps.Object). y.kind) x)
      → serves_as w (Of wanted.Array) (found_type w (option_map (object_by p shapes objects things) x)) ≡ false
  object_no_array objects o None h = refl
  object_no_array objects o (Some x) h = kind_no_array objects o x.kind x.cells h

  abbrev store : Heaped → Store ℕ
  store h = store_by p shapes things constants h

  pub no_array : (h : Heaped) (v : Value ℕ) → found.Other ≡ array_seen h (Some v) → serves w (store h) (Of wanted.Array) v ≡ false
  no_array h (Int x) e = refl
  no_array h (Long x) e = refl
  no_array h (Ctx k) e = refl
  no_array h (Ref zero) e = cc
  no_array h (Ref (suc o)) e = ap (λ x. serves_as w (Of wanted.Array) (found_type w x)) (seen_at p shapes things constants h (suc o)) ∙ object_no_array h.objects (suc o) (heaps.object_at h (suc o)) e

  pub none_taken : (h : Heaped) (wants : List Want) (operands : List (Value ℕ)) → found.Other ≡ array_seen h (slice_get operands 0) → taken w (store h) (Of wanted.Array ∷ wants) operands ≡ None
  unfolding taken
  none_taken h wants [] e = refl
  none_taken h wants (v ∷ rest) e = rw (no_array h v e) refl

-- ---- an array that is there

module _ (p : Program) (shapes : Shapes) (things : Things) where
  -- the array of a number, which has these cells
  abbrev pub array_of : ℕ → List ℕ → Object ℕ
  array_of a cells = Array (array_named p (array_at shapes a)) (map (of_raw (item_type (array_at shapes a))) cells)

  kind_array : (objects : List heaps.Object) (o n a : ℕ) (kind : Kind) (cells : List ℕ) → found.Array n a ≡ array_found o (Some kind)
      → (n ≡ o) × (kind_by p shapes objects things kind cells ≡ array_of a cells)
  kind_array objects o n a (kinds.Object m) cells h = cc
  kind_array objects o n a (kinds.Array b) cells h = let same : n ≡ o = cc in let type : b ≡ a = cc in (same, ap (λ k. array_of k cells) type)
  kind_array objects o n a kinds.Text cells h = cc
  kind_array objects o n a kinds.Piece cells h = cc

  object_array : (objects : List heaps.Object) (o n a : ℕ) (x : Option heaps.Object) → found.Array n a ≡ array_found o (option_map (λ (y : heaps.Object). y.kind) x)
      → (n ≡ o) × (option_map (object_by p shapes objects things) x ≡ Some (array_of a (unwrap_or (option_map (λ (y : heaps.Object). y.cells) x) []))) × (is_some x ≡ true)
  object_array objects o n a None h = cc
  object_array objects o n a (Some x) h = let both = kind_array objects o n a x.kind x.cells h in (both.0, ap (λ y. Some y) both.1, refl)

  pub record IsHere (constants : List (List ℕ × ℕ)) (h : Heaped) (operands : List (Value ℕ)) (n a : ℕ) : Type 0 where
    pub before : ℕ
    pub number : n ≡ suc before
    pub front : operands ≡ Ref (suc before) ∷ drop 1 operands
    pub object : object_at (store_by p shapes things constants h) (suc before) ≡ Some (array_of a (cells_at h n))
    pub there : is_some (heaps.object_at h n) ≡ true

  pub is_here : (constants : List (List ℕ × ℕ)) (h : Heaped) (operands : List (Value ℕ)) (n a : ℕ) → found.Array n a ≡ array_seen h (slice_get operands 0) → IsHere constants h operands n a
  is_here constants h [] n a e = cc
  is_here constants h (Int x ∷ rest) n a e = cc
  is_here constants h (Long x ∷ rest) n a e = cc
  is_here constants h (Ctx k ∷ rest) n a e = cc
  is_here constants h (Ref zero ∷ rest) n a e = cc
  is_here constants h (Ref (suc o) ∷ rest) n a e =
      let all = object_array h.objects (suc o) n a (heaps.object_at h (suc o)) e in
      record {
        before = o;
        number = all.0;
        front = refl;
        object = seen_at p shapes things constants h (suc o) ∙ all.1 ∙ ap (λ k. Some (array_of a (cells_at h k))) (sym all.0);
        there = ap (λ k. is_some (heaps.object_at h k)) all.0 ∙ all.2;
      }

-- ---- the length

abbrev pub null : LibClass
null = lib.Thrown thrown.NullPointerException

module _ {E : Type 0} (f : FrameOf ℕ E) (s : Store ℕ) where
  pub front_null : (h : Heaped) (operands : List (Value ℕ)) → found.Null ≡ array_seen h (slice_get operands 0) → operands ≡ Ref zero ∷ drop 1 operands
  front_null h [] e = cc
  front_null h (Int x ∷ rest) e = cc
  front_null h (Long x ∷ rest) e = cc
  front_null h (Ctx k ∷ rest) e = cc
  front_null h (Ref zero ∷ rest) e = refl
  front_null h (Ref (suc o) ∷ rest) e = other (kind_at h (suc o)) e
    where
      other : (k : Option Kind) → found.Null ≡ array_found (suc o) k → Ref (suc o) ∷ rest ≡ Ref zero ∷ rest
      other None e = cc
      other (Some (kinds.Object n)) e = cc
      other (Some (kinds.Array n)) e = cc
      other (Some kinds.Text) e = cc
      other (Some kinds.Piece) e = cc

  pub length_null : (h : Heaped) → found.Null ≡ array_seen h (slice_get f.operands 0) → Acts (instructions.Array forms.Length) f s (leaves (ways.Raises null) [] f s)
  unfolding doing taken rows.array
  length_null h e r at own entries inherited = rw (front_null h f.operands e) (refl, refl, refl, refl, refl, refl)

  one_array : (o : ℕ) (t : ArrayType) (items : List (Value ℕ)) (w : World) (rest : List (Value ℕ)) → object_at s (suc o) ≡ Some (Array t items)
      → taken w s (Of wanted.Array ∷ []) (Ref (suc o) ∷ rest) ≡ Some (one_taken (Ref (suc o)) rest)
  unfolding taken
  one_array o t items w rest there = rw there refl

  pub length_at : (o : ℕ) (t : ArrayType) (items rest : List (Value ℕ)) → f.operands ≡ Ref (suc o) ∷ rest → object_at s (suc o) ≡ Some (Array t items)
      → Acts (instructions.Array forms.Length) f s (leaves ways.Went [] (standing f (f.place + 1) (Int (pos (length items)) ∷ rest)) s)
  unfolding doing rows.array
  length_at o t items rest is there r at own entries inherited =
      let one = ap (taken at.world s (Of wanted.Array ∷ [])) is ∙ one_array o t items at.world rest there in
      rw (one, there) (at_no_cost f s [] (standing f (f.place + 1) (Int (pos (length items)) ∷ rest)))

module _ {E : Type 0} (f : FrameOf ℕ E) (p : Program) (shapes : Shapes) (things : Things) (constants : List (List ℕ × ℕ)) (h : Heaped) where
  abbrev known : Store ℕ
  known = store_by p shapes things constants h

  pub length_other : (g : FrameOf ℕ E) → found.Other ≡ array_seen h (slice_get f.operands 0) → Acts (instructions.Array forms.Length) f known (leaves ways.Stuck [] g known)
  unfolding doing
  length_other g e r at own entries inherited = rw (none_taken p shapes things constants at.world h [] f.operands e) refl

  pub length_here : (n a : ℕ) → found.Array n a ≡ array_seen h (slice_get f.operands 0)
      → Acts (instructions.Array forms.Length) f known (leaves ways.Went [] (standing f (f.place + 1) (Int (pos (length (cells_at h n))) ∷ drop 1 f.operands)) known)
  length_here n a e =
      let here = is_here p shapes things constants h f.operands n a e in
      let type = item_type (array_at shapes a) in
      rw (sym (length-map (cells_at h n) (of_raw type)))
      (length_at f known here.before (array_named p (array_at shapes a)) (map (of_raw type) (cells_at h n)) (drop 1 f.operands) here.front here.object)
