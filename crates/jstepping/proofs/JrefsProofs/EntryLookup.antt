-- What was found of an entry is what an instruction names.
use Rattle.std.proofs.Common.{◌≡◌, ◌∙◌, ℕ, ◌<◌, Bool, List, length, Option, Some, None, refl, sym, ap}
use Rattle.jparts.specs.declared.jcode.op_form.PoolForm.TheVariants as forms
use Rattle.jparts.specs.declared.jcode.names.CastOp.{CastOp}
use Rattle.jmemory.specs.declared.jheap.cell.CellType.{CellType}
use Rattle.jmemory.specs.declared.jheap.cell.CellType.TheVariants as cells
use Rattle.jvalues.specs.declared.jops.value.Value.{Value}
use Rattle.jvalues.specs.declared.jops.value.Value.TheVariants.{Int, Long, Ref, Ctx}
use Rattle.jparts.specs.declared.jpool.entry.Entry.{Entry}
use Rattle.jresolution.specs.declared.jprogram.member.MethodId.{MethodId}
use Rattle.jresolution.specs.declared.jprogram.part.ClassRef.TheVariants as refs
use Rattle.jresolution.specs.jprogram.ProgramClasses.{Program}
use Rattle.jtypes.specs.declared.vtype.Element.TheVariants as elements
use Rattle.jtypes.specs.declared.vtype.VType.{VType}
use Rattle.jtypes.specs.declared.vtype.VType.TheVariants as types
use Rattle.jresolution.specs.declared.juses.meaning.FieldUse.{FieldUse}
use Rattle.jresolution.specs.declared.juses.types.TypeRef.{TypeRef}
use Rattle.jresolution.specs.juses.InstructionMeanings as meanings
use Rattle.jresolution.specs.juses.InstructionMeanings.{FieldMeaning, field_named, meant}
use Rattle.jresolution.specs.juses.PoolTables.{pool_at}
use Rattle.jresolution.specs.juses.InternedTypes.{class_named, named}
use Rattle.jsemantics.specs.jmachine.Narrowing.{narrowed}
use Rattle.jsemantics.specs.jmachine.MachineSteps.{own_fields}
use Rattle.jready.specs.InlineOperands as exact
use Rattle.jready.specs.MeaningParts.{only_cast, only_field}
use Rattle.jstepping.specs.declared.jrefs.looking.FieldAt.{FieldAt}
use Rattle.jstepping.specs.jrefs.NamedEntries.{NamesField}

-- nothing is narrower than an int that is kept whole
pub whole : (v : Value ℕ) → v ≡ narrowed (Some elements.Int) v
whole (Int x) = refl
whole (Long x) = refl
whole (Ref n) = refl
whole (Ctx k) = refl

module _ (p : Program) (class : ℕ) (a : FieldAt) where
  abbrev Found : Option FieldMeaning → Type 0
  Found o = o ≡ only_field (meant p (pool_at p class) (forms.Field a.op a.pool))

  used_is : (g f : FieldMeaning) → Found (Some g) → NamesField p class a f → g ≡ f
  used_is g f e n = let both : Some g ≡ Some f = e ∙ ap only_field n.means in cc

  pub never_none : {A : Type 0} (f : FieldMeaning) → Found None → NamesField p class a f → A
  never_none f e n = let both : None ≡ Some f = e ∙ ap only_field n.means in absurd cc

  pub owner_used : (u : FieldUse) → Found (Some (field_named p u)) → (f : FieldMeaning) → NamesField p class a f → Some (class_named p u.owner) ≡ Some f.owner
  owner_used u e f n = ap (λ (g : FieldMeaning). Some g.owner) (used_is (field_named p u) f e n)

  pub held_used : (u : FieldUse) → Found (Some (field_named p u)) → (f : FieldMeaning) → NamesField p class a f → Some (named p u.held) ≡ Some f.held
  held_used u e f n = ap (λ (g : FieldMeaning). Some g.held) (used_is (field_named p u) f e n)

  pub own_used : (m : MethodId) (u : FieldUse) (b : Bool) → Found (Some (field_named p u)) → b ≡ own_fields p m u.member → (f : FieldMeaning) → NamesField p class a f
      → b ≡ own_fields p m f.member
  own_used m u b e is f n = is ∙ ap (λ (g : FieldMeaning). own_fields p m g.member) (used_is (field_named p u) f e n)

  pub owner_place : a.owner < length p.parts → (f : FieldMeaning) → NamesField p class a f → Some (class_named p (refs.User a.owner)) ≡ Some f.owner
  owner_place inside f n = ap (λ d. Some d) (sym (n.holds.owned inside))

  -- ---- numbers, by their cells

  int_held : (t : VType) (cell : CellType) → cell ≡ cells.Int → exact.cell_of t ≡ cell → t ≡ types.Int
  int_held types.Int cell is e = refl
  int_held types.Long cell is e = let both : cells.Long ≡ cells.Int = e ∙ is in absurd cc
  int_held types.Ctx cell is e = let both : cells.Ctx ≡ cells.Int = e ∙ is in absurd cc
  int_held types.Top cell is e = let both : cells.Ref ≡ cells.Int = e ∙ is in absurd cc
  int_held types.Null cell is e = let both : cells.Ref ≡ cells.Int = e ∙ is in absurd cc
  int_held types.UninitThis cell is e = let both : cells.Ref ≡ cells.Int = e ∙ is in absurd cc
  int_held (types.Uninit o) cell is e = let both : cells.Ref ≡ cells.Int = e ∙ is in absurd cc
  int_held (types.Object c) cell is e = let both : cells.Ref ≡ cells.Int = e ∙ is in absurd cc
  int_held (types.Array b) cell is e = let both : cells.Ref ≡ cells.Int = e ∙ is in absurd cc

  long_held : (t : VType) (cell : CellType) → cell ≡ cells.Long → exact.cell_of t ≡ cell → t ≡ types.Long
  long_held types.Long cell is e = refl
  long_held types.Int cell is e = let both : cells.Int ≡ cells.Long = e ∙ is in absurd cc
  long_held types.Ctx cell is e = let both : cells.Ctx ≡ cells.Long = e ∙ is in absurd cc
  long_held types.Top cell is e = let both : cells.Ref ≡ cells.Long = e ∙ is in absurd cc
  long_held types.Null cell is e = let both : cells.Ref ≡ cells.Long = e ∙ is in absurd cc
  long_held types.UninitThis cell is e = let both : cells.Ref ≡ cells.Long = e ∙ is in absurd cc
  long_held (types.Uninit o) cell is e = let both : cells.Ref ≡ cells.Long = e ∙ is in absurd cc
  long_held (types.Object c) cell is e = let both : cells.Ref ≡ cells.Long = e ∙ is in absurd cc
  long_held (types.Array b) cell is e = let both : cells.Ref ≡ cells.Long = e ∙ is in absurd cc

  pub held_int : a.cell ≡ cells.Int → (f : FieldMeaning) → NamesField p class a f → Some types.Int ≡ Some f.held
  held_int is f n = ap (λ (t : VType). Some t) (sym (int_held f.held a.cell is n.holds.celled))

  pub held_long : a.cell ≡ cells.Long → (f : FieldMeaning) → NamesField p class a f → Some types.Long ≡ Some f.held
  held_long is f n = ap (λ (t : VType). Some t) (sym (long_held f.held a.cell is n.holds.celled))

-- ---- casts

pub cast_is : (p : Program) (es : List Entry) (op : CastOp) (i : ℕ) (t : TypeRef) (v : VType) → Some (named p t) ≡ only_cast (meant p es (forms.Cast op i))
    → meant p es (forms.Cast op i) ≡ Some (meanings.Cast op v) → named p t ≡ v
cast_is p es op i t v e m = let both : Some (named p t) ≡ Some v = e ∙ ap only_cast m in cc

pub never_cast : {A : Type 0} (p : Program) (es : List Entry) (op : CastOp) (i : ℕ) (v : VType) → None ≡ only_cast (meant p es (forms.Cast op i))
    → meant p es (forms.Cast op i) ≡ Some (meanings.Cast op v) → A
never_cast p es op i v e m = let both : None ≡ Some v = e ∙ ap only_cast m in absurd cc
