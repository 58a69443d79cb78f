-- Statics.
use Rattle.std.proofs.Common.{◌≡◌, ◌∙◌, ℕ, ◌+◌, ◌<◌, Bool, true, false, List, [], ◌∷◌, length, drop, Option, Some, None, refl, sym, ap, arith}
use Rattle.std.specs.Prelude.{Result, Ok, Err, IfOk, OnOk, get_or, is_some, option_and_then, option_map, slice_get, slice_set}
use Rattle.std.proofs.lemmas.Bool.{lt-ltb}
use Rattle.std.proofs.lemmas.Option.{slice_get-get_or, slice_get_within}
use Rattle.jparts.specs.declared.jcode.names.FieldOp.TheVariants as ops
use Rattle.jmemory.specs.declared.jheap.cell.CellType.{CellType}
use Rattle.jmemory.specs.jheap.Heaps as heaps
use Rattle.jmemory.specs.jheap.Heaps.{Heaped}
use Rattle.jmemory.specs.jheap.RawValues.{of_raw, raw}
use Rattle.jmemory.specs.jheap.RawValues as numbers
use Rattle.jvalues.specs.declared.jops.value.Value.{Value}
use Rattle.jvalues.specs.declared.jops.value.Value.TheVariants.{Int, Long, Ref, Ctx}
use Rattle.jresolution.specs.jprogram.ProgramClasses.{Program}
use Rattle.jresolution.specs.declared.jprogram.member.Member.{Member}
use Rattle.jresolution.specs.declared.jprogram.member.Member.TheVariants as members
use Rattle.jtyping.specs.jrule.StackEffects.{Fits}
use Rattle.jtyping.specs.jrule.PoolEffects.{exchange}
use Rattle.jtypes.specs.declared.vtype.Element.{Element}
use Rattle.jresolution.specs.declared.juses.types.ElementRef.{ElementRef}
use Rattle.jresolution.specs.juses.InternedTypes.{element_named}
use Rattle.jresolution.specs.juses.IndexedInstructions as instructions
use Rattle.jresolution.specs.juses.InstructionMeanings as meanings
use Rattle.jresolution.specs.juses.InstructionMeanings.{FieldMeaning}
use Rattle.jsemantics.specs.jmachine.MachineStates.{FrameOf}
use Rattle.jsemantics.specs.jmachine.InstructionActions.{doing, used}
use Rattle.jsemantics.specs.jmachine.FieldInstructions.{field, get_static}
use Rattle.jsemantics.specs.jmachine.FrameOperations.{onward, standing, with_operands}
use Rattle.jsemantics.specs.jmachine.Narrowing.{narrowed}
use Rattle.jsemantics.specs.jmachine.TakenOperands.{taken}
use Rattle.jsemantics.specs.jmachine.InstructionSites.{Site}
use Rattle.jsemantics.specs.jmachine.Store.{Store, with_statics}
use Rattle.jsemantics.specs.jmachine.World.{World}
use Rattle.jruntime.specs.declared.jstate.shapes.Shapes.{Shapes}
use Rattle.jruntime.specs.jstate.FrameLists.{Framed, with_newest}
use Rattle.jruntime.specs.jstate.HeapMeanings.{Things, store_by, values_of}
use Rattle.jruntime.specs.jstate.HeapMeaningLaws.{Reads, WritesStatic}
use Rattle.jrows.specs.jacts.RowOutcomes.{Acts, ActsWhere, Comes, GoesFree, leaves}
use Rattle.jrows.specs.declared.jacts.way.Way.{Way}
use Rattle.jrows.specs.declared.jacts.way.Way.TheVariants as ways
use Rattle.jrows.specs.jobjs.FieldCells.{HoldsOnly, KeepsAs, StandsStatic, is_users}
use Rattle.jrows.specs.jobjs.EntryOperands.{Serve}
use Rattle.jrows.proofs.JobjsProofs.ServedOperands.{front_one, not_served, one_served, serves_one}

users_static : (w : World) (s : Store ℕ) (m : Member) → is_users m ≡ true → get_static w s m ≡ option_and_then (slice_get s.statics) (w.slot m)
users_static w s (members.Field class field) h = refl
users_static w s (members.Method m) h = refl
users_static w s members.LibField h = cc
users_static w s (members.LibMethod call) h = cc

pub kept_type : (held : Option Element) (v : Value ℕ) → numbers.type_of (narrowed held v) ≡ numbers.type_of v
kept_type None (Int x) = refl
kept_type None (Long x) = refl
kept_type None (Ref n) = refl
kept_type None (Ctx k) = refl
kept_type (Some e) (Int x) = refl
kept_type (Some e) (Long x) = refl
kept_type (Some e) (Ref n) = refl
kept_type (Some e) (Ctx k) = refl

module _ {E : Type 0} (f : FrameOf ℕ E) (h : Heaped) (slot : ℕ) (of : CellType) (p : Program) (shapes : Shapes) (things : Things) (constants : List (List ℕ × ℕ)) (m : FieldMeaning) where
  abbrev known : Store ℕ
  known = store_by p shapes things constants h

  pub static_got : Reads → GoesFree E → slot < length h.statics
      → ActsWhere (λ (at : Site) (own : Member → Bool). StandsStatic at.world shapes m.member slot of) (instructions.Used (meanings.Field ops.GetStatic m)) f known
      (leaves ways.Went [] (onward f (of_raw of (get_or h.statics slot 0) ∷ [])) known)
  unfolding doing used exchange taken field
  static_got reads free there r at own entries inherited (users, stands, type) =
      let held = reads shapes.statics h.statics slot (get_or h.statics slot 0) of type (slice_get-get_or h.statics slot 0 there) in
      rw (users_static at.world known m.member users, stands, held) (free f known known [] (onward f (of_raw of (get_or h.statics slot 0) ∷ [])))

  -- ---- writes

  abbrev Told : ElementRef → Bool → Site → (Member → Bool) → Type 0
  Told narrow serve at own =
      Serve at own known (meanings.Field ops.PutStatic m) f.operands serve × StandsStatic at.world shapes m.member slot of × KeepsAs p at.world m.member narrow × HoldsOnly at.world known m.held of

  pub put_not : (narrow : ElementRef) (g : FrameOf ℕ E) → ActsWhere (Told narrow false) (instructions.Used (meanings.Field ops.PutStatic m)) f known (leaves ways.Stuck [] g known)
  unfolding doing used exchange
  put_not narrow g r at own entries inherited told = rw (not_served (taken at.world known (Fits m.held ∷ []) f.operands) told.0) refl

  pub put_none : (narrow : ElementRef) (g : FrameOf ℕ E) → length f.operands < 1 → ActsWhere (Told narrow true) (instructions.Used (meanings.Field ops.PutStatic m)) f known (leaves ways.Stuck [] g known)
  unfolding doing used exchange taken
  put_none narrow g few r at own entries inherited told = by f.operands few told.0
    where
      by : (xs : List (Value ℕ)) → length xs < 1 → is_some (taken at.world known (Fits m.held ∷ []) xs) ≡ true
          → Comes f known (option_and_then (λ t. option_map (λ row. record { frame = with_operands f t.below; row = row }) (field at.world known ops.PutStatic m.member t.values)) (taken at.world known (Fits m.held ∷ []) xs)) (leaves ways.Stuck [] g known)
      by [] few told = cc
      by (x ∷ xs) few told = absurd (omega (arith, few))

  pub static_put : Reads → WritesStatic → GoesFree E → slot < length h.statics → (narrow : ElementRef) (v kept : Value ℕ) → Some v ≡ slice_get f.operands 0
      → kept ≡ narrowed (Some (element_named p narrow)) v → of_raw (numbers.type_of kept) (raw kept) ≡ kept
      → ActsWhere (Told narrow true) (instructions.Used (meanings.Field ops.PutStatic m)) f known
      (leaves ways.Went [] (standing f (f.place + 1) (drop 1 f.operands)) (store_by p shapes things constants (heaps.with_statics h (slice_set h.statics slot (raw kept)))))
  unfolding doing used exchange field
  static_put reads law free there narrow v kept newest narrow_is back r at own entries inherited (serve, (users, stands, type), keeps, only) =
      let front = front_one f.operands v newest in
      let here = ap (λ xs. is_some (taken at.world known (Fits m.held ∷ []) xs)) (sym front) ∙ serve in
      let one = ap (taken at.world known (Fits m.held ∷ [])) front ∙ one_served at.world known (Fits m.held) v (drop 1 f.operands) here in
      let held = reads shapes.statics h.statics slot (get_or h.statics slot 0) of type (slice_get-get_or h.statics slot 0 there) in
      let inside = lt-ltb slot (length (values_of shapes.statics h.statics)) (slice_get_within (values_of shapes.statics h.statics) slot _ held) in
      let served = serves_one at.world known (Fits m.held) v (drop 1 f.operands) here in
      let is : narrowed (at.world.element m.member) v ≡ kept = keeps v ∙ sym narrow_is in
      let same : of ≡ numbers.type_of kept = sym (only v served) ∙ sym (kept_type (at.world.element m.member) v) ∙ ap numbers.type_of is in
      let gives : of_raw of (raw kept) ≡ kept = ap (λ c. of_raw c (raw kept)) same ∙ back in
      let store = law p shapes things constants h slot (raw kept) of type ∙ ap (λ x. with_statics known (slice_set (values_of shapes.statics h.statics) slot x)) gives in
      rw (one, stands, inside, is, store)
      (free f known (with_statics known (slice_set (values_of shapes.statics h.statics) slot kept)) [] (standing f (f.place + 1) (drop 1 f.operands)))

-- what was read, where memory was there
pub all_got : Reads → {E F : Type 0} → GoesFree E → (result : Result Way F) (s t : Framed E) (h : Heaped) (slot : ℕ) (of : CellType) → slot < length h.statics → IfOk result (λ way. way ≡ ways.Went)
    → OnOk result (t ≡ with_newest (onward s.newest (of_raw of (get_or h.statics slot 0) ∷ [])) s)
    → IfOk result (λ way. (p : Program) (shapes : Shapes) (things : Things) (constants : List (List ℕ × ℕ)) (m : FieldMeaning)
    → ActsWhere (λ (at : Site) (own : Member → Bool). StandsStatic at.world shapes m.member slot of) (instructions.Used (meanings.Field ops.GetStatic m)) s.newest
    (store_by p shapes things constants h) (leaves way [] t.newest (store_by p shapes things constants h)))
all_got reads free (Ok way) s t h slot of there went is = λ p shapes things constants m. rw (went, is) (static_got s.newest h slot of p shapes things constants m reads free there)
all_got reads free (Err e) s t h slot of there went is = tt

-- ---- the library's

out_got : {E : Type 0} → GoesFree E → (f : FrameOf ℕ E) (m : FieldMeaning) (s : Store ℕ) → m.member ≡ members.LibField
    → Acts (instructions.Used (meanings.Field ops.GetStatic m)) f s (leaves ways.Went [] (onward f (Ref 1 ∷ [])) s)
unfolding doing used exchange taken field
out_got free f m s is r at own entries inherited = rw is (free f s s [] (onward f (Ref 1 ∷ [])))

pub all_out : {E F : Type 0} → GoesFree E → (result : Result Way F) (s t : Framed E) → IfOk result (λ way. way ≡ ways.Went) → OnOk result (t ≡ with_newest (onward s.newest (Ref 1 ∷ [])) s)
    → IfOk result (λ way. (m : FieldMeaning) (st : Store ℕ) → m.member ≡ members.LibField
    → Acts (instructions.Used (meanings.Field ops.GetStatic m)) s.newest st (leaves way [] t.newest st))
all_out free (Ok way) s t went is = λ m st field. rw (went, is) (out_got free s.newest m st field)
all_out free (Err e) s t went is = tt
