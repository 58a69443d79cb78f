-- Fields that are read.
use Rattle.std.proofs.Common.{◌≡◌, ◌∙◌, ℕ, zero, suc, ◌+◌, ◌-◌, Bool, true, false, List, [], ◌∷◌, drop, Option, Some, None, inr, refl, sym, ap}
use Rattle.std.specs.Prelude.{is_some, nat_lt, option_and_then, option_map, slice_get, if◌then◌else◌}
use Rattle.jparts.specs.declared.jcode.names.FieldOp.TheVariants as ops
use Rattle.jmemory.specs.declared.jheap.cell.CellType.{CellType}
use Rattle.jmemory.specs.declared.jheap.cell.Kind.{Kind}
use Rattle.jmemory.specs.declared.jheap.cell.Kind.TheVariants as kinds
use Rattle.jmemory.specs.jheap.Heaps as heaps
use Rattle.jmemory.specs.jheap.Heaps.{Heaped, cells_at}
use Rattle.jmemory.specs.jheap.RawValues.{of_raw}
use Rattle.jlib.specs.declared.classes.LibClass.TheVariants as lib
use Rattle.jlib.specs.declared.classes.Thrown.TheVariants as thrown
use Rattle.jvalues.specs.declared.jops.value.Value.{Value}
use Rattle.jvalues.specs.declared.jops.value.Value.TheVariants.{Int, Long, Ref, Ctx}
use Rattle.jresolution.specs.jprogram.ProgramClasses.{Program}
use Rattle.jresolution.specs.declared.jprogram.member.Member.{Member}
use Rattle.jtyping.specs.jrule.StackEffects.{Fits}
use Rattle.jtyping.specs.jrule.PoolEffects.{exchange}
use Rattle.jtypes.specs.declared.vtype.VType.TheVariants as types
use Rattle.jresolution.specs.juses.IndexedInstructions as instructions
use Rattle.jresolution.specs.juses.InstructionMeanings as meanings
use Rattle.jresolution.specs.juses.InstructionMeanings.{FieldMeaning}
use Rattle.jsemantics.specs.jmachine.MachineStates.{FrameOf}
use Rattle.jsemantics.specs.jmachine.InstructionActions.{doing, used}
use Rattle.jsemantics.specs.jmachine.FieldInstructions.{field, get_from}
use Rattle.jsemantics.specs.jmachine.FrameOperations.{standing}
use Rattle.jsemantics.specs.jmachine.TakenOperands.{taken}
use Rattle.jsemantics.specs.jmachine.InstructionSites.{Site}
use Rattle.jsemantics.specs.jmachine.Store.{Store, object_at}
use Rattle.jsemantics.specs.jmachine.World.{World}
use Rattle.jruntime.specs.declared.jstate.shapes.Shape.{Shape}
use Rattle.jruntime.specs.declared.jstate.shapes.Shapes.{Shapes}
use Rattle.jruntime.specs.jstate.ClassNumbers.{library_count}
use Rattle.jruntime.specs.jstate.HeapMeanings.{Things, kind_by, object_by, store_by, user_by, values_of}
use Rattle.jruntime.specs.jstate.HeapMeaningLaws.{Reads, ReadsNone, SeesEach}
use Rattle.jrows.specs.jacts.RowOutcomes.{ActsWhere, GoesFree, leaves}
use Rattle.jrows.specs.declared.jacts.way.Way.TheVariants as ways
use Rattle.jrows.specs.declared.jobjs.target.Target.TheVariants as targets
use Rattle.jrows.specs.jobjs.FieldCells.{StandsAt, cell_type, shape_at}
use Rattle.jrows.specs.jobjs.EntryOperands.{Serve, target_found, target_seen}
use Rattle.jrows.proofs.JobjsProofs.ServedOperands.{IsTarget, front_null, has_front, is_target, not_served, one_served, taken_front, target_is}

-- ---- slots

pub record IsSlot (shapes : Shapes) (n slot : ℕ) (of : CellType) : Type 0 where
  pub shape : Shape
  pub at : shape_at shapes n ≡ Some shape
  pub type : slice_get shape.cells slot ≡ Some of

pub is_slot : (shapes : Shapes) (n slot : ℕ) (of : CellType) → cell_type shapes n slot ≡ Some of → IsSlot shapes n slot of
is_slot shapes n slot of h = by (shape_at shapes n) refl h
  where
    by : (x : Option Shape) → shape_at shapes n ≡ x → option_and_then (λ shape. slice_get shape.cells slot) x ≡ Some of → IsSlot shapes n slot of
    by None is h = cc
    by (Some shape) is h = record { shape = shape; at = is; type = h }

module _ (p : Program) (shapes : Shapes) (things : Things) where
  -- an object of a user's class
  pub instance_is : (objects : List heaps.Object) (n : ℕ) (shape : Shape) (cells : List ℕ) → shape_at shapes n ≡ Some shape
      → kind_by p shapes objects things (kinds.Object n) cells ≡ user_by (n - library_count) (Some shape) cells
  instance_is objects n shape cells h = by (nat_lt n library_count) refl h
    where
      by : (b : Bool) → nat_lt n library_count ≡ b → (if b then None else slice_get shapes.users (n - library_count)) ≡ Some shape
          → kind_by p shapes objects things (kinds.Object n) cells ≡ user_by (n - library_count) (Some shape) cells
      by true is h = cc
      by false is h = rw (is, h) refl

  module _ (constants : List (List ℕ × ℕ)) (h : Heaped) where
    abbrev known : Store ℕ
    known = store_by p shapes things constants h

    -- what is no object of a class has no fields
    no_fields : SeesEach → (w : World) (m : Member) (b : ℕ) → targets.Other ≡ target_seen h (Some (Ref (suc b))) → get_from w m (object_at known (suc b)) ≡ None
    no_fields law w m b e = ap (get_from w m) (law p shapes things constants h (suc b)) ∙ look (heaps.object_at h (suc b)) e
      where
        look : (x : Option heaps.Object) → targets.Other ≡ target_found (suc b) (option_map (λ (y : heaps.Object). y.kind) x) → get_from w m (option_map (object_by p shapes h.objects things) x) ≡ None
        look None e = refl
        look (Some x) e = by x.kind e
          where
            by : (k : Kind) → targets.Other ≡ target_found (suc b) (Some k) → get_from w m (Some (kind_by p shapes h.objects things k x.cells)) ≡ None
            by (kinds.Object n) e = cc
            by (kinds.Array n) e = refl
            by kinds.Text e = refl
            by kinds.Piece e = refl

    -- what a slot of an object holds
    pub field_is : SeesEach → (w : World) (m : Member) (operands : List (Value ℕ)) (o n slot : ℕ) (of : CellType) → (t : IsTarget h operands o n) → w.slot m ≡ Some slot → (s : IsSlot shapes n slot of)
        → get_from w m (object_at known (suc t.before)) ≡ slice_get (values_of s.shape.cells (cells_at h o)) slot
    field_is law w m operands o n slot of t at s =
        let cells : t.object.cells ≡ cells_at h o = rw t.at refl in
        rw (target_is law p shapes things constants h operands o n t, instance_is h.objects n s.shape t.object.cells s.at, at, cells) refl

    pub slot_held : Reads → (types : List CellType) (cells : List ℕ) (slot : ℕ) (of : CellType) (v : Value ℕ) → slice_get types slot ≡ Some of → Some v ≡ option_map (of_raw of) (slice_get cells slot)
        → slice_get (values_of types cells) slot ≡ Some v
    slot_held law types cells slot of v type held = by (slice_get cells slot) refl held
      where
        by : (x : Option ℕ) → slice_get cells slot ≡ x → Some v ≡ option_map (of_raw of) x → slice_get (values_of types cells) slot ≡ Some v
        by None is held = cc
        by (Some c) is held = law types cells slot c of type is ∙ sym held

    pub slot_none : ReadsNone → (types : List CellType) (cells : List ℕ) (slot : ℕ) (of : CellType) → None ≡ option_map (of_raw of) (slice_get cells slot) → slice_get (values_of types cells) slot ≡ None
    slot_none law types cells slot of none = by (slice_get cells slot) refl none
      where
        by : (x : Option ℕ) → slice_get cells slot ≡ x → None ≡ option_map (of_raw of) x → slice_get (values_of types cells) slot ≡ None
        by None is none = law types cells slot (inr is)
        by (Some c) is none = cc

    -- ---- rows of getfield

    module _ {E : Type 0} (f : FrameOf ℕ E) (m : FieldMeaning) (slot : ℕ) (of : CellType) where
      abbrev Told : Bool → Site → (Member → Bool) → Type 0
      Told serve at own = Serve at own known (meanings.Field ops.GetField m) f.operands serve × StandsAt at.world shapes h m.member (slice_get f.operands 0) slot of

      pub get_not : (g : FrameOf ℕ E) → ActsWhere (Told false) (instructions.Used (meanings.Field ops.GetField m)) f known (leaves ways.Stuck [] g known)
      unfolding doing used exchange
      get_not g r at own entries inherited told = rw (not_served (taken at.world known (Fits (types.Object m.owner) ∷ []) f.operands) told.0) refl

      no_field : SeesEach → (w : World) (v : Value ℕ) → targets.Other ≡ target_seen h (Some v) → field {E = E} w known ops.GetField m.member (v ∷ []) ≡ None
      unfolding field
      no_field law w (Int x) e = refl
      no_field law w (Long x) e = refl
      no_field law w (Ctx k) e = refl
      no_field law w (Ref zero) e = cc
      no_field law w (Ref (suc b)) e = rw (no_fields law w m.member b e) refl

      pub get_other : SeesEach → targets.Other ≡ target_seen h (slice_get f.operands 0) → (g : FrameOf ℕ E)
          → ActsWhere (Told true) (instructions.Used (meanings.Field ops.GetField m)) f known (leaves ways.Stuck [] g known)
      unfolding doing used exchange
      get_other law e g r at own entries inherited told =
          let front = has_front at.world known (Fits (types.Object m.owner)) f.operands told.0 in
          rw (taken_front at.world known (Fits (types.Object m.owner)) f.operands front.value front.newest told.0, no_field law at.world front.value (e ∙ ap (target_seen h) (sym front.newest))) refl

      taken_one : (w : World) (v : Value ℕ) → f.operands ≡ v ∷ drop 1 f.operands → is_some (taken w known (Fits (types.Object m.owner) ∷ []) f.operands) ≡ true
          → taken w known (Fits (types.Object m.owner) ∷ []) f.operands ≡ Some (record { values = v ∷ []; below = drop 1 f.operands })
      taken_one w v front told =
          ap (taken w known (Fits (types.Object m.owner) ∷ [])) front
          ∙ one_served w known (Fits (types.Object m.owner)) v (drop 1 f.operands) (ap (λ xs. is_some (taken w known (Fits (types.Object m.owner) ∷ []) xs)) (sym front) ∙ told)

      pub get_null : targets.Null ≡ target_seen h (slice_get f.operands 0)
          → ActsWhere (Told true) (instructions.Used (meanings.Field ops.GetField m)) f known (leaves (ways.Raises (lib.Thrown thrown.NullPointerException)) [] f known)
      unfolding doing used exchange field
      get_null e r at own entries inherited told = rw (taken_one at.world (Ref zero) (front_null h f.operands e) told.0) (refl, refl, refl, refl, refl, refl)

      module _ (law : SeesEach) (o n : ℕ) (e : targets.Object o n ≡ target_seen h (slice_get f.operands 0)) where
        abbrev target : IsTarget h f.operands o n
        target = is_target h f.operands o n e

        value_of : (w : World) (s : IsSlot shapes n slot of) → w.slot m.member ≡ Some slot
            → get_from w m.member (object_at known (suc target.before)) ≡ slice_get (values_of s.shape.cells (cells_at h o)) slot
        value_of w s at = field_is law w m.member f.operands o n slot of target at s

        pub get_some : Reads → GoesFree E → (v : Value ℕ) → Some v ≡ option_map (of_raw of) (slice_get (cells_at h o) slot)
            → ActsWhere (Told true) (instructions.Used (meanings.Field ops.GetField m)) f known (leaves ways.Went [] (standing f (f.place + 1) (v ∷ drop 1 f.operands)) known)
        unfolding doing used exchange field
        get_some reads free v held r at own entries inherited told =
            let s = is_slot shapes n slot of (told.1.cell o n (sym e)) in
            let value = value_of at.world s told.1.stands ∙ slot_held reads s.shape.cells (cells_at h o) slot of v s.type held in
            rw (taken_one at.world (Ref (suc target.before)) target.front told.0, value) (free f known known [] (standing f (f.place + 1) (v ∷ drop 1 f.operands)))

        pub get_none : ReadsNone → None ≡ option_map (of_raw of) (slice_get (cells_at h o) slot) → (g : FrameOf ℕ E)
            → ActsWhere (Told true) (instructions.Used (meanings.Field ops.GetField m)) f known (leaves ways.Stuck [] g known)
        unfolding doing used exchange field
        get_none none held g r at own entries inherited told =
            let s = is_slot shapes n slot of (told.1.cell o n (sym e)) in
            let value = value_of at.world s told.1.stands ∙ slot_none none s.shape.cells (cells_at h o) slot of held in
            rw (taken_one at.world (Ref (suc target.before)) target.front told.0, value) refl
