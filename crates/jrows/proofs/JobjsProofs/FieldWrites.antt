-- Fields that are written.
use Rattle.std.proofs.Common.{◌≡◌, ◌∙◌, ℕ, zero, suc, ◌+◌, ◌-◌, ◌<◌, ◌≤◌, Bool, true, false, List, [], ◌∷◌, length, drop, Option, Some, None, inr, refl, sym, ap, ap₂, arith, rules, subst}
use Rattle.std.specs.Prelude.{get_or, is_some, nat_lt, option_and_then, option_map, slice_get, slice_set, if◌then◌else◌}
use Rattle.std.proofs.lemmas.Bool.{lt-ltb}
use Rattle.std.proofs.lemmas.Option.{slice_get-get_or, slice_get_within}
use Rattle.jparts.specs.declared.jcode.names.FieldOp.TheVariants as ops
use Rattle.jmemory.specs.declared.jheap.cell.CellType.{CellType}
use Rattle.jmemory.specs.declared.jheap.cell.Kind.{Kind}
use Rattle.jmemory.specs.declared.jheap.cell.Kind.TheVariants as kinds
use Rattle.jmemory.specs.jheap.Heaps as heaps
use Rattle.jmemory.specs.jheap.Heaps.{Heaped, cells_at}
use Rattle.jmemory.specs.jheap.RawValues.{of_raw, raw}
use Rattle.jmemory.specs.jheap.RawValues as numbers
use Rattle.jlib.specs.declared.classes.LibClass.TheVariants as lib
use Rattle.jlib.specs.declared.classes.Thrown.TheVariants as thrown
use Rattle.jvalues.specs.declared.jops.value.Value.{Value}
use Rattle.jvalues.specs.declared.jops.value.Value.TheVariants.{Int, Long, Ref, Ctx}
use Rattle.jresolution.specs.jprogram.ProgramClasses.{Program}
use Rattle.jresolution.specs.declared.jprogram.member.Member.{Member}
use Rattle.jtyping.specs.jrule.StackEffects.{Want, Fits}
use Rattle.jtyping.specs.jrule.PoolEffects.{exchange, written}
use Rattle.jresolution.specs.declared.juses.types.ElementRef.{ElementRef}
use Rattle.jresolution.specs.juses.InternedTypes.{element_named}
use Rattle.jresolution.specs.juses.IndexedInstructions as instructions
use Rattle.jresolution.specs.juses.InstructionMeanings as meanings
use Rattle.jresolution.specs.juses.InstructionMeanings.{FieldMeaning}
use Rattle.jsemantics.specs.jmachine.MachineStates.{FrameOf, gives, null}
use Rattle.jsemantics.specs.jmachine.InstructionActions.{doing, used}
use Rattle.jsemantics.specs.jmachine.FieldInstructions.{field, put_into}
use Rattle.jsemantics.specs.jmachine.FrameOperations.{standing}
use Rattle.jsemantics.specs.jmachine.Narrowing.{narrowed}
use Rattle.jsemantics.specs.jmachine.HeapObjects.{Instance}
use Rattle.jsemantics.specs.jmachine.TakenOperands.{Taken, serves, taken, with_value}
use Rattle.jsemantics.specs.jmachine.InstructionSites.{Site}
use Rattle.jsemantics.specs.jmachine.Store.{Store, object_at, with_object}
use Rattle.jsemantics.specs.jmachine.World.{World}
use Rattle.jruntime.specs.declared.jstate.shapes.Shapes.{Shapes}
use Rattle.jruntime.specs.jstate.ClassNumbers.{library_count}
use Rattle.jruntime.specs.jstate.HeapMeanings.{AreBuilt, Things, kind_by, message_by, object_by, store_by, user_by, values_of}
use Rattle.jruntime.specs.jstate.HeapMeaningLaws.{IsNoPiece, NamesNone, Reads, ReadsNone, SeesEach, Writes, WritesField, WrittenStaysBuilt}
use Rattle.jrows.specs.jacts.RowOutcomes.{ActsWhere, GoesFree, leaves}
use Rattle.jrows.specs.declared.jacts.way.Way.TheVariants as ways
use Rattle.jrows.specs.declared.jobjs.target.Target.TheVariants as targets
use Rattle.jrows.specs.jobjs.FieldCells.{HoldsOnly, KeepsAs, StandsAt, cell_type}
use Rattle.jrows.specs.jobjs.EntryOperands.{Serve, target_found, target_seen}
use Rattle.jrows.proofs.JobjsProofs.FieldReads.{IsSlot, instance_is, is_slot}
use Rattle.jrows.proofs.JobjsProofs.ServedOperands.{IsTarget, front_null, front_one, is_target, not_served, target_is, target_there}
use Rattle.jrows.proofs.JobjsProofs.Statics.{kept_type}

-- ---- two operands that serve

pub record AreServed (w : World) (s : Store ℕ) (a b : Want) (operands : List (Value ℕ)) : Type 0 where
  pub value : Value ℕ
  pub object : Value ℕ
  pub front : operands ≡ value ∷ drop 1 operands
  pub second : drop 1 operands ≡ object ∷ drop 2 operands
  pub serve : serves w s a value ≡ true
  pub all : taken w s (a ∷ b ∷ []) operands ≡ Some (record { values = value ∷ object ∷ []; below = drop 2 operands })

module _ (w : World) (s : Store ℕ) (a b : Want) where
  abbrev rest_of : List (Value ℕ) → Taken ℕ
  rest_of rest = record { values = []; below = rest }

  pub are_served : (operands : List (Value ℕ)) → is_some (taken w s (a ∷ b ∷ []) operands) ≡ true → AreServed w s a b operands
  unfolding taken
  are_served [] h = cc
  are_served (v ∷ []) h = lone (serves w s a v) h
    where
      lone : {A : Type 0} (t : Bool) → is_some (if t then (let n : Option (Taken ℕ) = None in n) else None) ≡ true → A
      lone true h = cc
      lone false h = cc
  are_served (v ∷ u ∷ rest) h = both (serves w s a v) (serves w s b u) refl refl h
    where
      both : (t r : Bool) → serves w s a v ≡ t → serves w s b u ≡ r
          → is_some (if t then option_map (with_value v) (if r then Some (with_value u (rest_of rest)) else None) else None) ≡ true → AreServed w s a b (v ∷ u ∷ rest)
      both true true first second h = record { value = v; object = u; front = refl; second = refl; serve = first; all = rw (first, second) refl }
      both true false first second h = cc
      both false r first second h = cc

-- ---- the object that is written

past : {A : Type 0} (xs : List A) (i : ℕ) → slice_get xs i ≡ None → length xs ≤ i
past [] i none = omega arith
past (x ∷ xs) zero none = cc
past (x ∷ xs) (suc i) none = let rest = past xs i none in omega (arith, rest)

none_lt : {A : Type 0} (xs : List A) (i : ℕ) → slice_get xs i ≡ None → nat_lt i (length xs) ≡ false
none_lt xs i none = let high = past xs i none in search rules

pub next : {A : Type 0} (xs : List A) → slice_get xs 1 ≡ slice_get (drop 1 xs) 0
next [] = refl
next (x ∷ xs) = refl

same_front : {A : Type 0} {xs rest other : List A} {x y : A} → xs ≡ x ∷ rest → xs ≡ y ∷ other → x ≡ y
same_front first second = let both = sym first ∙ second in cc

-- a class of the library has no slots
no_slot : {A : Type 0} (shapes : Shapes) (n slot : ℕ) (of : CellType) → n < library_count → cell_type shapes n slot ≡ Some of → A
no_slot shapes n slot of low h =
    let library : nat_lt n library_count ≡ true = lt-ltb n library_count low in
    let none : None ≡ Some of = ap (λ b. option_and_then (λ shape. slice_get shape.cells slot) (if b then None else slice_get shapes.users (n - library_count))) (sym library) ∙ h in
    cc

module _ (p : Program) (shapes : Shapes) (things : Things) (constants : List (List ℕ × ℕ)) (h : Heaped) where
  abbrev known : Store ℕ
  known = store_by p shapes things constants h

  module _ {E : Type 0} (f : FrameOf ℕ E) (m : FieldMeaning) (slot : ℕ) (of : CellType) (narrow : ElementRef) where
    abbrev Told : Bool → Site → (Member → Bool) → Type 0
    Told serve at own =
        Serve at own known (meanings.Field ops.PutField m) f.operands serve × StandsAt at.world shapes h m.member (slice_get f.operands 1) slot of
        × KeepsAs p at.world m.member narrow × HoldsOnly at.world known m.held of

    pub put_not : (g : FrameOf ℕ E) → ActsWhere (Told false) (instructions.Used (meanings.Field ops.PutField m)) f known (leaves ways.Stuck [] g known)
    unfolding doing used exchange
    put_not g r at own entries inherited told =
        rw (not_served (taken at.world known (Fits m.held ∷ written (own m.member) (at.world.named at.class) m.owner ∷ []) f.operands) told.0) refl

    put_at : (t : Bool) (w : World) (s : Store ℕ) (b i message : ℕ) (values : List (Value ℕ)) (v kept : Value ℕ) → object_at s (suc b) ≡ Some (Instance i message values) → w.slot m.member ≡ Some slot
        → nat_lt slot (length values) ≡ t → narrowed (w.element m.member) v ≡ kept
        → field {E = E} w s ops.PutField m.member (v ∷ Ref (suc b) ∷ []) ≡ (if t then Some (gives (with_object s (suc b) (Instance i message (slice_set values slot kept))) []) else None)
    unfolding field
    put_at true w s b i message values v kept there stands inside is = rw (there, stands, inside, is) refl
    put_at false w s b i message values v kept there stands inside is = rw (there, stands, inside) refl

    is_null : (w : World) (v : Value ℕ) → field {E = E} w known ops.PutField m.member (v ∷ Ref zero ∷ []) ≡ Some null
    unfolding field
    is_null w v = refl

    -- null
    pub put_null : targets.Null ≡ target_seen h (slice_get f.operands 1)
        → ActsWhere (Told true) (instructions.Used (meanings.Field ops.PutField m)) f known (leaves (ways.Raises (lib.Thrown thrown.NullPointerException)) [] f known)
    unfolding doing used exchange
    put_null e r at own entries inherited told =
        let two = are_served at.world known (Fits m.held) (written (own m.member) (at.world.named at.class) m.owner) f.operands told.0 in
        let object : two.object ≡ Ref zero = same_front two.second (front_null h (drop 1 f.operands) (e ∙ ap (target_seen h) (next f.operands))) in
        rw (two.all, ap (λ x. field {E = E} at.world known ops.PutField m.member (two.value ∷ x ∷ [])) object ∙ is_null at.world two.value) (refl, refl, refl, refl, refl, refl)

    -- what is no object of a class has no fields
    no_put : SeesEach → (w : World) (v u : Value ℕ) → targets.Other ≡ target_seen h (Some u) → field {E = E} w known ops.PutField m.member (v ∷ u ∷ []) ≡ None
    unfolding field
    no_put law w v (Int x) e = refl
    no_put law w v (Long x) e = refl
    no_put law w v (Ctx k) e = refl
    no_put law w v (Ref zero) e = cc
    no_put law w v (Ref (suc b)) e = rw (law p shapes things constants h (suc b)) (look (heaps.object_at h (suc b)) e)
      where
        look : (x : Option heaps.Object) → targets.Other ≡ target_found (suc b) (option_map (λ (y : heaps.Object). y.kind) x)
            → option_map (λ y. gives {E = E} (with_object known (suc b) y) []) (put_into w m.member v (option_map (object_by p shapes h.objects things) x)) ≡ None
        look None e = refl
        look (Some x) e = by x.kind e
          where
            by : (k : Kind) → targets.Other ≡ target_found (suc b) (Some k)
                → option_map (λ y. gives {E = E} (with_object known (suc b) y) []) (put_into w m.member v (Some (kind_by p shapes h.objects things k x.cells))) ≡ None
            by (kinds.Object n) e = cc
            by (kinds.Array n) e = refl
            by kinds.Text e = refl
            by kinds.Piece e = refl

    pub put_other : SeesEach → targets.Other ≡ target_seen h (slice_get f.operands 1) → (g : FrameOf ℕ E)
        → ActsWhere (Told true) (instructions.Used (meanings.Field ops.PutField m)) f known (leaves ways.Stuck [] g known)
    unfolding doing used exchange
    put_other law e g r at own entries inherited told =
        let two = are_served at.world known (Fits m.held) (written (own m.member) (at.world.named at.class) m.owner) f.operands told.0 in
        let object : targets.Other ≡ target_seen h (Some two.object) = e ∙ ap (target_seen h) (next f.operands ∙ ap (λ xs. slice_get xs 0) two.second) in
        rw (two.all, no_put law at.world two.value two.object object) refl

    module _ (law : SeesEach) (o n : ℕ) (e : targets.Object o n ≡ target_seen h (slice_get f.operands 1)) where
      abbrev target : IsTarget h (drop 1 f.operands) o n
      target = is_target h (drop 1 f.operands) o n (e ∙ ap (target_seen h) (next f.operands))

      abbrev cells : List ℕ
      cells = target.object.cells

      -- the object as it was
      instance_there : (s : IsSlot shapes n slot of) → object_at known (suc target.before) ≡ Some (user_by (n - library_count) (Some s.shape) cells)
      instance_there s =
          target_is law p shapes things constants h (drop 1 f.operands) o n target ∙ ap (λ x. Some x) (instance_is p shapes things h.objects n s.shape cells s.at)

      row_is : (t : Bool) (w : World) (s : IsSlot shapes n slot of) (v u kept : Value ℕ) → u ≡ Ref (suc target.before) → w.slot m.member ≡ Some slot
          → nat_lt slot (length (values_of s.shape.cells cells)) ≡ t → narrowed (w.element m.member) v ≡ kept
          → field {E = E} w known ops.PutField m.member (v ∷ u ∷ [])
          ≡ (if t then Some (gives (with_object known (suc target.before) (Instance (n - library_count) (message_by s.shape.message (drop (length s.shape.cells) cells)) (slice_set (values_of s.shape.cells cells) slot kept))) []) else None)
      row_is t w s v u kept is stands inside narrow =
          ap (λ x. field {E = E} w known ops.PutField m.member (v ∷ x ∷ [])) is
          ∙ put_at t w known target.before (n - library_count) (message_by s.shape.message (drop (length s.shape.cells) cells)) (values_of s.shape.cells cells) v kept (instance_there s) stands inside narrow

      -- it is no object of a user's class
      pub put_low : n < library_count → (g : FrameOf ℕ E) → ActsWhere (Told true) (instructions.Used (meanings.Field ops.PutField m)) f known (leaves ways.Stuck [] g known)
      put_low low g r at own entries inherited told = no_slot shapes n slot of low (told.1.cell o n (sym e))

      -- the object has no such cell
      pub put_outside : ReadsNone → slice_get (cells_at h o) slot ≡ None → (g : FrameOf ℕ E)
          → ActsWhere (Told true) (instructions.Used (meanings.Field ops.PutField m)) f known (leaves ways.Stuck [] g known)
      unfolding doing used exchange
      put_outside none outside g r at own entries inherited told =
          let two = are_served at.world known (Fits m.held) (written (own m.member) (at.world.named at.class) m.owner) f.operands told.0 in
          let s = is_slot shapes n slot of (told.1.cell o n (sym e)) in
          let object : two.object ≡ Ref (suc target.before) = same_front two.second target.front in
          let here : slice_get cells slot ≡ None = ap (λ cs. slice_get cs slot) (cells_are) ∙ outside in
          let short = none_lt (values_of s.shape.cells cells) slot (none s.shape.cells cells slot (inr here)) in
          rw (two.all, row_is false at.world s two.value two.object (narrowed (at.world.element m.member) two.value) object told.1.stands short refl) refl
        where
          cells_are : cells ≡ cells_at h o
          cells_are = rw target.at refl

      written_is : Writes → WritesField → (s : IsSlot shapes n slot of) (kept : Value ℕ) → of_raw of (raw kept) ≡ kept
          → store_by p shapes things constants (heaps.with_cell h o slot (raw kept))
          ≡ with_object known (suc target.before) (Instance (n - library_count) (message_by s.shape.message (drop (length s.shape.cells) cells)) (slice_set (values_of s.shape.cells cells) slot kept))
      written_is writes item s kept gives =
          let none : IsNoPiece target.object.kind = rw target.kind tt in
          let object = ap (λ k. kind_by p shapes h.objects things k (slice_set cells slot (raw kept))) target.kind
          ∙ instance_is p shapes things h.objects n s.shape (slice_set cells slot (raw kept)) s.at
          ∙ item (n - library_count) slot (raw kept) of s.shape cells s.type
          ∙ ap (λ x. Instance (n - library_count) (message_by s.shape.message (drop (length s.shape.cells) cells)) (slice_set (values_of s.shape.cells cells) slot x)) gives in
          writes p shapes things constants h o slot (raw kept) target.object target.at none ∙ ap₂ (λ k x. with_object known k x) target.number object

      pub put_inside : Reads → Writes → WritesField → GoesFree E → slot < length (cells_at h o) → (v kept : Value ℕ) → Some v ≡ slice_get f.operands 0
          → kept ≡ narrowed (Some (element_named p narrow)) v → of_raw (numbers.type_of kept) (raw kept) ≡ kept
          → ActsWhere (Told true) (instructions.Used (meanings.Field ops.PutField m)) f known
          (leaves ways.Went [] (standing f (f.place + 1) (drop 2 f.operands)) (store_by p shapes things constants (heaps.with_cell h o slot (raw kept))))
      unfolding doing used exchange
      put_inside reads writes item free inside v kept newest narrow_is back r at own entries inherited (served, stands, keeps, only) =
          let two = are_served at.world known (Fits m.held) (written (own m.member) (at.world.named at.class) m.owner) f.operands served in
          let s = is_slot shapes n slot of (stands.cell o n (sym e)) in
          let object : two.object ≡ Ref (suc target.before) = same_front two.second target.front in
          let value : two.value ≡ v = same_front two.front (front_one f.operands v newest) in
          let few : slot < length cells = rw (ap length cells_are) inside in
          let held = reads s.shape.cells cells slot (get_or cells slot 0) of s.type (slice_get-get_or cells slot 0 few) in
          let there = lt-ltb slot (length (values_of s.shape.cells cells)) (slice_get_within (values_of s.shape.cells cells) slot _ held) in
          let is : narrowed (at.world.element m.member) two.value ≡ kept = ap (narrowed (at.world.element m.member)) value ∙ keeps v ∙ sym narrow_is in
          let serve : serves at.world known (Fits m.held) v ≡ true = ap (serves at.world known (Fits m.held)) (sym value) ∙ two.serve in
          let same : of ≡ numbers.type_of kept = sym (only v serve) ∙ ap numbers.type_of (sym value) ∙ sym (kept_type (at.world.element m.member) two.value) ∙ ap numbers.type_of is in
          let store = written_is writes item s kept (ap (λ c. of_raw c (raw kept)) same ∙ back) in
          rw (two.all, row_is true at.world s two.value two.object kept object stands.stands there is, store)
          (free f known (with_object known (suc target.before) (Instance (n - library_count) (message_by s.shape.message (drop (length s.shape.cells) cells)) (slice_set (values_of s.shape.cells cells) slot kept))) []
          (standing f (f.place + 1) (drop 2 f.operands)))
        where
          cells_are : cells ≡ cells_at h o
          cells_are = rw target.at refl

-- what holds of the pieces stays, since an object of a user's class names none
pub put_stays : WrittenStaysBuilt → (h : Heaped) (operands : List (Value ℕ)) (o n i k : ℕ) → targets.Object o n ≡ target_seen h (slice_get operands 1) → library_count ≤ n → AreBuilt h.objects
    → AreBuilt (heaps.with_cell h o i k).objects
put_stays law h operands o n i k e high built =
    let t = is_target h (drop 1 operands) o n (e ∙ ap (target_seen h) (next operands)) in
    law h o i k t.object t.at (subst NamesNone (sym t.kind) (users_name_none n high)) built
  where
    users_name_none : (n : ℕ) → library_count ≤ n → NamesNone (kinds.Object n)
    users_name_none n high cells =
        let user : nat_lt n library_count ≡ false = search rules in
        rw user refl

pub two_there : (h : Heaped) (operands : List (Value ℕ)) (o n : ℕ) → targets.Object o n ≡ target_seen h (slice_get operands 1) → 2 ≤ length operands
two_there h [] o n e = cc
two_there h (v ∷ []) o n e = cc
two_there h (v ∷ u ∷ rest) o n e = omega arith

pub second_there : (h : Heaped) (operands : List (Value ℕ)) (o n : ℕ) → targets.Object o n ≡ target_seen h (slice_get operands 1) → is_some (heaps.object_at h o) ≡ true
second_there h operands o n e = target_there h (drop 1 operands) o n (e ∙ ap (target_seen h) (next operands))
