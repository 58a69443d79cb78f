-- What a served operand's object is, and what values of a type are held by.
use Rattle.std.proofs.Common.{◌≡◌, ◌∙◌, ℕ, zero, suc, ◌||◌, Bool, true, false, List, [], ◌∷◌, drop, Option, Some, None, refl, sym, ap}
use Rattle.std.specs.Prelude.{is_some, option_map, slice_get, if◌then◌else◌}
use Rattle.jparts.specs.declared.jcode.names.FieldOp.TheVariants as ops
use Rattle.jmemory.specs.declared.jheap.cell.CellType.{CellType}
use Rattle.jmemory.specs.declared.jheap.cell.Kind.TheVariants as kinds
use Rattle.jmemory.specs.jheap.Heaps.{Heaped}
use Rattle.jvalues.specs.declared.jops.value.Value.{Value}
use Rattle.jvalues.specs.declared.jops.value.Value.TheVariants.{Int, Long, Ref, Ctx}
use Rattle.jresolution.specs.declared.jprogram.member.Member.{Member}
use Rattle.jresolution.specs.declared.jprogram.part.ClassRef.{ClassRef}
use Rattle.jresolution.specs.jprogram.ProgramClasses.{Program, extends, find, holds, is_interface, name_at}
use Rattle.jtyping.specs.jrule.StackEffects.{Fits, OrThis, Want}
use Rattle.jtyping.specs.jrule.PoolEffects.{exchange, written}
use Rattle.jtypes.specs.declared.vtype.Name.{Name}
use Rattle.jtypes.specs.declared.vtype.VType.{VType}
use Rattle.jtypes.specs.declared.vtype.VType.TheVariants as types
use Rattle.jresolution.specs.juses.InstructionMeanings as meanings
use Rattle.jresolution.specs.juses.InstructionMeanings.{FieldMeaning}
use Rattle.jresolution.specs.juses.InternedTypes.{class_named}
use Rattle.jlinking.specs.jlink.NamedFields.{is_plain}
use Rattle.jsemantics.specs.jmachine.HeapObjects as objects
use Rattle.jsemantics.specs.jmachine.HeapObjects.{Object, class_of}
use Rattle.jsemantics.specs.jmachine.TakenOperands.{meets, reference_type, serves, taken, type_of, with_value, serves_as, found_type}
use Rattle.jsemantics.specs.jmachine.InstructionSites.{Site}
use Rattle.jsemantics.specs.jmachine.Store.{Store, object_at}
use Rattle.jsemantics.specs.jmachine.World.{World, fits, world}
use Rattle.jready.specs.InlineOperands as exact
use Rattle.jruntime.specs.declared.jstate.shapes.Shapes.{Shapes}
use Rattle.jruntime.specs.jstate.ClassNumbers.{class_numbered}
use Rattle.jruntime.specs.jstate.HeapMeanings.{Things, kind_by, store_by}
use Rattle.jruntime.specs.jstate.HeapMeaningLaws.{SeesEach}
use Rattle.jrows.specs.jobjs.FieldCells.{HoldsOnly}
use Rattle.jrows.specs.jobjs.EntryOperands.{Serve, target_seen}
use Rattle.jrows.specs.declared.jobjs.target.Target.TheVariants as targets
use Rattle.jrows.proofs.JobjsProofs.ServedOperands.{IsTarget, is_target, serves_one, target_is}
use Rattle.jserving.proofs.JserveProofs.ValueTypes.{kind_named}

-- ---- what values of a type are held by

module _ (w : World) where
  class_no_int : (y : Object ℕ) → fits w (class_of w.named y) types.Int ≡ false
  class_no_int (objects.Instance class message values) = refl
  class_no_int (objects.Thrown c message) = refl
  class_no_int (objects.Text units) = refl
  class_no_int (objects.Builder units) = refl
  class_no_int (objects.Piece units) = refl
  class_no_int (objects.Permission c held) = refl
  class_no_int (objects.Context kept) = refl
  class_no_int (objects.Thread number) = refl
  class_no_int (objects.Bare c) = refl
  class_no_int (objects.Array a items) = refl

  class_no_long : (y : Object ℕ) → fits w (class_of w.named y) types.Long ≡ false
  class_no_long (objects.Instance class message values) = refl
  class_no_long (objects.Thrown c message) = refl
  class_no_long (objects.Text units) = refl
  class_no_long (objects.Builder units) = refl
  class_no_long (objects.Piece units) = refl
  class_no_long (objects.Permission c held) = refl
  class_no_long (objects.Context kept) = refl
  class_no_long (objects.Thread number) = refl
  class_no_long (objects.Bare c) = refl
  class_no_long (objects.Array a items) = refl

  -- an object serves by its class
  ready_meets : (want : Want) (b : Bool) (t : VType) → serves_as w want (if b then Some t else None) ≡ true → meets w want t ≡ true
  ready_meets want true t e = e
  ready_meets want false t e = cc

  never_found : (want : Want) → ((y : Object ℕ) → meets w want (class_of w.named y) ≡ false) → (o : Option (Object ℕ)) → serves_as w want (found_type w o) ≡ true → ⊥
  never_found want not-so None e = cc
  never_found want not-so (Some y) e = let both : true ≡ false = sym (ready_meets want (objects.is_ready y) (class_of w.named y) e) ∙ not-so y in cc

  module _ (s : Store ℕ) where
    ref_no_int : (n : ℕ) → serves_as w (Fits types.Int) (reference_type w s n) ≡ true → ⊥
    ref_no_int zero e = cc
    ref_no_int (suc n) e = never_found (Fits types.Int) class_no_int (object_at s (suc n)) e

    ref_no_long : (n : ℕ) → serves_as w (Fits types.Long) (reference_type w s n) ≡ true → ⊥
    ref_no_long zero e = cc
    ref_no_long (suc n) e = never_found (Fits types.Long) class_no_long (object_at s (suc n)) e

    -- what a field holds is of its cell's type
    pub holds_only : (t : VType) (cell : CellType) → is_plain t ≡ true → exact.cell_of t ≡ cell → HoldsOnly w s t cell
    holds_only types.Int cell plain is (Int x) e = is
    holds_only types.Int cell plain is (Long x) e = cc
    holds_only types.Int cell plain is (Ref n) e = absurd (ref_no_int n e)
    holds_only types.Int cell plain is (Ctx k) e = cc
    holds_only types.Long cell plain is (Int x) e = cc
    holds_only types.Long cell plain is (Long x) e = is
    holds_only types.Long cell plain is (Ref n) e = absurd (ref_no_long n e)
    holds_only types.Long cell plain is (Ctx k) e = cc
    holds_only (types.Object c) cell plain is (Int x) e = cc
    holds_only (types.Object c) cell plain is (Long x) e = cc
    holds_only (types.Object c) cell plain is (Ref n) e = is
    holds_only (types.Object c) cell plain is (Ctx k) e = cc
    holds_only (types.Array a) cell plain is (Int x) e = cc
    holds_only (types.Array a) cell plain is (Long x) e = cc
    holds_only (types.Array a) cell plain is (Ref n) e = is
    holds_only (types.Array a) cell plain is (Ctx k) e = cc
    holds_only types.Top cell plain is v e = cc
    holds_only types.Null cell plain is v e = cc
    holds_only types.UninitThis cell plain is v e = cc
    holds_only (types.Uninit o) cell plain is v e = cc
    holds_only types.Ctx cell plain is v e = cc

    -- the second of two operands serves
    both_serve : (a b : Want) (v u : Value ℕ) (rest : List (Value ℕ)) → is_some (taken w s (a ∷ b ∷ []) (v ∷ u ∷ rest)) ≡ true → serves w s b u ≡ true
    unfolding taken
    both_serve a b v u rest h = by (serves w s a v) (serves w s b u) refl h
      where
        by : (q r : Bool) → serves w s b u ≡ r
            → is_some (if q then option_map (with_value v) (if r then Some (with_value u (record { values = []; below = rest })) else None) else None) ≡ true → serves w s b u ≡ true
        by true true is h = is
        by true false is h = cc
        by false r is h = cc

    pub second_serves : (a b : Want) (operands : List (Value ℕ)) (u : Value ℕ) (rest : List (Value ℕ)) → drop 1 operands ≡ u ∷ rest
        → is_some (taken w s (a ∷ b ∷ []) operands) ≡ true → serves w s b u ≡ true
    second_serves a b [] u rest e h = cc
    second_serves a b (v ∷ operands) u rest e h =
        both_serve a b v u rest (ap (λ (xs : List (Value ℕ)). is_some (taken w s (a ∷ b ∷ []) (v ∷ xs))) (sym e) ∙ h)

    -- the object of a class serves by it
    pub object_meets : (want : Want) (n : ℕ) (y : Object ℕ) → object_at s (suc n) ≡ Some y → serves w s want (Ref (suc n)) ≡ true → meets w want (class_of w.named y) ≡ true
    object_meets want n y at e =
        ready_meets want (objects.is_ready y) (class_of w.named y) (ap (λ (o : Option (Object ℕ)). serves_as w want (found_type w o)) (sym at) ∙ e)

-- ---- which classes serve

second_or : (a b : Bool) → (a || b) ≡ true → a ≡ false → b ≡ true
second_or true b e h = cc
second_or false b e h = e

module _ (p : Program) (r : ClassRef) where
  -- one that fits a class extends it
  pub class_extends : (d : Name) → fits (world p) (types.Object (class_named p r)) (types.Object d) ≡ true → holds is_interface (find p d.0) ≡ false → extends p (name_at p r) d.0 ≡ true
  unfolding world
  class_extends d e face = second_or (holds is_interface (find p d.0)) (extends p (name_at p r) d.0) e face

  -- the object of a field that is written
  pub written_either : {A : Type 0} (own : Bool) (this owner : Name) → meets (world p) (written own this owner) (types.Object (class_named p r)) ≡ true
      → (fits (world p) (types.Object (class_named p r)) (types.Object owner) ≡ true → A)
      → (own ≡ true → fits (world p) (types.Object (class_named p r)) (types.Object this) ≡ true → A) → A
  written_either false this owner e one two = one e
  written_either {A = A} true this owner e one two =
      by (fits (world p) (types.Object (class_named p r)) (types.Object owner)) refl
    where
      by : (b : Bool) → fits (world p) (types.Object (class_named p r)) (types.Object owner) ≡ b → A
      by true is = one is
      by false is = two refl (second_or (fits (world p) (types.Object (class_named p r)) (types.Object owner)) (fits (world p) (types.Object (class_named p r)) (types.Object this)) e is)

module _ (each : SeesEach) (p : Program) (shapes : Shapes) (things : Things) (constants : List (List ℕ × ℕ)) (h : Heaped) where
  abbrev s : Store ℕ
  s = store_by p shapes things constants h

  target_meets : (want : Want) (operands : List (Value ℕ)) (o n : ℕ) (t : IsTarget h operands o n) → serves (world p) s want (Ref (suc t.before)) ≡ true
      → meets (world p) want (types.Object (class_named p (class_numbered n))) ≡ true
  target_meets want operands o n t e =
      ap (meets (world p) want) (sym (kind_named p shapes h.objects things t.object.cells (kinds.Object n)))
      ∙ object_meets (world p) s want t.before (kind_by p shapes h.objects things (kinds.Object n) t.object.cells) (target_is each p shapes things constants h operands o n t) e

  -- the newest operand, which serves alone
  pub newest_meets : (want : Want) (operands : List (Value ℕ)) (o n : ℕ) → targets.Object o n ≡ target_seen h (slice_get operands 0)
      → is_some (taken (world p) s (want ∷ []) operands) ≡ true → meets (world p) want (types.Object (class_named p (class_numbered n))) ≡ true
  newest_meets want operands o n e served =
      let t = is_target h operands o n e in
      target_meets want operands o n t (serves_one (world p) s want (Ref (suc t.before)) (drop 1 operands)
      (ap (λ (xs : List (Value ℕ)). is_some (taken (world p) s (want ∷ []) xs)) (sym t.front) ∙ served))

  -- the one below, where both serve
  pub second_meets : (a want : Want) (operands : List (Value ℕ)) (o n : ℕ) → targets.Object o n ≡ target_seen h (slice_get (drop 1 operands) 0)
      → is_some (taken (world p) s (a ∷ want ∷ []) operands) ≡ true → meets (world p) want (types.Object (class_named p (class_numbered n))) ≡ true
  second_meets a want operands o n e served =
      let t = is_target h (drop 1 operands) o n e in
      target_meets want (drop 1 operands) o n t (second_serves (world p) s a want operands (Ref (suc t.before)) (drop 1 (drop 1 operands)) t.front served)

-- ---- fields that an `<init>` may write

-- what serves without that serves with it
pub serves_either : (w : World) (s : Store ℕ) (a : Want) (b : Bool) (this owner : Name) (operands : List (Value ℕ)) → is_some (taken w s (a ∷ written false this owner ∷ []) operands) ≡ true
    → is_some (taken w s (a ∷ written b this owner ∷ []) operands) ≡ true
unfolding taken
serves_either w s a false this owner operands e = e
serves_either w s a true this owner operands e = by operands e
  where
    or_left : (t : Option VType) → serves_as w (Fits (types.Object owner)) t ≡ true → serves_as w (OrThis owner this) t ≡ true
    or_left None h = cc
    or_left (Some t) h = ap (λ (c : Bool). c || fits w t (types.Object this)) h

    by : (operands : List (Value ℕ)) → is_some (taken w s (a ∷ Fits (types.Object owner) ∷ []) operands) ≡ true → is_some (taken w s (a ∷ OrThis owner this ∷ []) operands) ≡ true
    by [] h = cc
    by (v ∷ []) h = h
    by (v ∷ u ∷ rest) h = both (serves w s a v) (serves w s (Fits (types.Object owner)) u) refl h
      where
        both : (q r : Bool) → serves w s (Fits (types.Object owner)) u ≡ r
            → is_some (if q then option_map (with_value v) (if r then Some (with_value u (record { values = []; below = rest })) else None) else None) ≡ true
            → is_some (if q then option_map (with_value v) (if serves w s (OrThis owner this) u then Some (with_value u (record { values = []; below = rest })) else None) else None) ≡ true
        both true true is h = let also = or_left (type_of w s u) is in rw also refl
        both true false is h = cc
        both false r is h = cc

pub write_either : (at : Site) (own : Member → Bool) (s : Store ℕ) (f : FieldMeaning) (operands : List (Value ℕ)) → Serve at (λ m. false) s (meanings.Field ops.PutField f) operands true
    → Serve at own s (meanings.Field ops.PutField f) operands true
unfolding exchange
write_either at own s f operands e = serves_either at.world s (Fits f.held) (own f.member) (at.world.named at.class) f.owner operands e
