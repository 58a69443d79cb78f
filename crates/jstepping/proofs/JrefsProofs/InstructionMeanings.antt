-- What instructions by number stand for that are here.
use Rattle.std.proofs.Common.{◌≡◌, ◌∙◌, ℕ, Bool, true, false, List, Option, Some, None, refl, sym, ap, subst}
use Rattle.std.specs.Prelude.{Err, IfOk, Ok, OnOk, Result, option_map, if◌then◌else◌}
use Rattle.jparts.specs.declared.jcode.op_form.PoolForm.TheVariants as forms
use Rattle.jparts.specs.declared.jcode.names.CastOp.{CastOp}
use Rattle.jparts.specs.declared.jcode.names.FieldOp.{FieldOp}
use Rattle.jmemory.specs.jheap.Heaps.{Heaped}
use Rattle.jlib.specs.declared.classes.LibClass.{LibClass}
use Rattle.jparts.specs.declared.jpool.entry.Entry.{Entry}
use Rattle.jresolution.specs.declared.jprogram.member.MethodId.{MethodId}
use Rattle.jresolution.specs.jprogram.ProgramClasses.{Program}
use Rattle.jtypes.specs.declared.vtype.VType.{VType}
use Rattle.jresolution.specs.juses.IndexedInstructions.{Instruction, Used, instruction_at}
use Rattle.jresolution.specs.juses.InstructionMeanings as meanings
use Rattle.jresolution.specs.juses.InstructionMeanings.{FieldMeaning, Meaning, array_meant}
use Rattle.jresolution.specs.juses.PoolTables.{pool_at}
use Rattle.jlinking.specs.jlink.NamedFields.{IsNamedField}
use Rattle.jlinking.specs.jlink.LinkedPrograms.{Links}
use Rattle.jlinking.proofs.JlinkProofs.PresentValues.{map_is, then_is}
use Rattle.jsemantics.specs.jmachine.MachineStates.{FrameOf}
use Rattle.jsemantics.specs.jmachine.MachineSteps.{fetched, is_followed, unless_last}
use Rattle.jready.specs.declared.instr.Instr.{Instr}
use Rattle.jready.specs.declared.instr.Instr.TheVariants as instrs
use Rattle.jready.specs.declared.instr.ObjectInstr.TheVariants as object
use Rattle.jready.specs.DecodedInstructions.{meant}
use Rattle.jrows.specs.declared.jacts.way.Way.{Way}
use Rattle.jrows.specs.declared.jacts.way.Way.TheVariants as ways
use Rattle.jrows.specs.declared.jcalls.ready.Counts.{Counts}
use Rattle.jstepping.specs.declared.jrefs.lasting.Lasting.{Lasting}
use Rattle.jstepping.specs.declared.jrefs.looking.FieldAt.{FieldAt}
use Rattle.jstepping.specs.jrefs.ReferenceRows.{IsFetched, IsLasting, StaysStuck}
use Rattle.jstepping.specs.jrefs.RowInvariance.{SeenActs, SeenRuns}
use Rattle.jstepping.proofs.JrefsProofs.NewInstructions.{cast_meaning}

-- ---- answers, if there was memory

pub map_ok : {A F : Type 0} {P Q : A → Type 0} (r : Result A F) → ((a : A) → P a → Q a) → IfOk r P → IfOk r Q
map_ok (Ok a) f h = f a h
map_ok (Err e) f h = tt

pub all_ok : {A F : Type 0} {Q : A → Type 0} (r : Result A F) → ((a : A) → Q a) → IfOk r Q
all_ok (Ok a) f = f a
all_ok (Err e) f = tt

pub on_ok : {A F P Q : Type 0} (r : Result A F) → (P → Q) → OnOk r P → OnOk r Q
on_ok (Ok a) f h = f h
on_ok (Err e) f h = tt

-- ---- one instruction

same_one : {A : Type 0} (o : Option A) (a b : A) → o ≡ Some a → o ≡ Some b → a ≡ b
same_one o a b e h = let both : Some a ≡ Some b = sym e ∙ h in cc

never_both : {A B : Type 0} (o : Option A) (a : A) → o ≡ Some a → o ≡ None → B
never_both o a e h = let both : Some a ≡ None = sym e ∙ h in absurd cc

module _ (x : Lasting) (counts : Counts) (one : Instr) {E : Type 0} (fr g : FrameOf ℕ E) (h k : Heaped) where
  abbrev Means : Instruction → Type 0
  Means j = meant x.ancestors.now x.ready.now.methods.tables fr.method.class one ≡ Some j

  pub runs_by : (j : Instruction) → Means j → (way : Way) → SeenActs x counts j fr h way g k → SeenRuns x counts one fr h way g k
  runs_by j means way did i is =
      subst (λ (m : Instruction). SeenActs x counts m fr h way g k)
      (same_one (meant x.ancestors.now x.ready.now.methods.tables fr.method.class one) j i means is) did

  pub not_missing : (j : Instruction) → Means j → (way : Way) → StaysStuck x one fr way
  not_missing j means way none = never_both (meant x.ancestors.now x.ready.now.methods.tables fr.method.class one) j means none

-- ---- what is looked at where it is executed

followed_is : (b : Bool) (i j : Instruction) → (if b then Some i else None) ≡ Some j → i ≡ j
followed_is true i j e = cc
followed_is false i j e = absurd cc

abbrev pub FieldLaw : Type 0
FieldLaw = (p : Program) (m : MethodId) (i : ℕ) (op : FieldOp) (f : FieldMeaning) → Links p → instruction_at p m i ≡ Some (Used (meanings.Field op f)) → IsNamedField p op f

fetched_is : (p : Program) (m : MethodId) (i : ℕ) (j : Instruction) → fetched p m i ≡ Some j → instruction_at p m i ≡ Some j
unfolding fetched
fetched_is p m i j e =
    let r = then_is (unless_last p m i) (instruction_at p m i) j e in
    r.1 ∙ ap (λ (it : Instruction). Some it) (followed_is (is_followed p m i r.0) r.0 j r.2)

module _ (law : FieldLaw) (x : Lasting) (l : IsLasting x) {E : Type 0} (fr : FrameOf ℕ E) (one : Instr) (here : IsFetched x one fr) where
  pub field_named : (op : FieldOp) (f : FieldMeaning)
      → meant x.ancestors.now x.ready.now.methods.tables fr.method.class one ≡ Some (Used (meanings.Field op f)) → IsNamedField x.ancestors.now op f
  field_named op f means =
      law x.ancestors.now fr.method fr.place op f l.links (fetched_is x.ancestors.now fr.method fr.place (Used (meanings.Field op f)) (sym here ∙ means))

-- ---- each of them

module _ (x : Lasting) (class : ℕ) where
  abbrev p : Program
  p = x.ancestors.now

  abbrev es : List Entry
  es = pool_at p class

  abbrev stands_for : Instr → Option Instruction
  stands_for one = meant p x.ready.now.methods.tables class one

  pub new_means : (i c : ℕ) (m : Meaning) → meanings.meant p es (forms.New i) ≡ Some m → stands_for (instrs.Object (object.New i c)) ≡ Some (Used m)
  unfolding meant
  new_means i c m e = ap (option_map Used) e

  pub library_means : (i : ℕ) (c : LibClass) (m : Meaning) → meanings.meant p es (forms.New i) ≡ Some m → stands_for (instrs.Object (object.NewLibrary i c)) ≡ Some (Used m)
  unfolding meant
  library_means i c m e = ap (option_map Used) e

  pub array_means : (i k : ℕ) (m : Meaning) → array_meant p es i ≡ Some m → stands_for (instrs.Object (object.NewArray i k)) ≡ Some (Used m)
  unfolding meant
  array_means i k m e = ap (option_map Used) e

  pub class_means : (op : CastOp) (i c : ℕ) (m : Meaning) → meanings.meant p es (forms.Cast op i) ≡ Some m → stands_for (instrs.Object (object.CastClass op i c)) ≡ Some (Used m)
  unfolding meant
  class_means op i c m e = ap (option_map Used) e

  pub out_means : (op : FieldOp) (i : ℕ) (m : Meaning) → meanings.meant p es (forms.Field op i) ≡ Some m → stands_for (instrs.Object (object.Out op i)) ≡ Some (Used m)
  unfolding meant
  out_means op i m e = ap (option_map Used) e

  pub field_means : (a : FieldAt) (m : Meaning) → meanings.meant p es (forms.Field a.op a.pool) ≡ Some m
      → stands_for (instrs.Field a.op a.cell a.narrow a.pool a.slot a.owner) ≡ Some (Used m)
  unfolding meant
  field_means a m e = ap (option_map Used) e

  pub cast_means : (op : CastOp) (i : ℕ) → stands_for (instrs.Object (object.Cast op i)) ≡ option_map Used (meanings.meant p es (forms.Cast op i))
  unfolding meant
  cast_means op i = refl

-- ---- casts

module _ (x : Lasting) (counts : Counts) {E : Type 0} (fr g : FrameOf ℕ E) (h k : Heaped) (op : CastOp) (i : ℕ) where
  pub cast_runs : (way : Way)
      → ((t : VType) → meanings.meant x.ancestors.now (pool_at x.ancestors.now fr.method.class) (forms.Cast op i) ≡ Some (meanings.Cast op t)
      → SeenActs x counts (Used (meanings.Cast op t)) fr h way g k)
      → SeenRuns x counts (instrs.Object (object.Cast op i)) fr h way g k
  cast_runs way did j is =
      let es = pool_at x.ancestors.now fr.method.class in
      let m = map_is Used (meanings.meant x.ancestors.now es (forms.Cast op i)) j (sym (cast_means x fr.method.class op i) ∙ is) in
      let v = cast_meaning x.ancestors.now es op i m.0 m.1 in
      subst (λ (j : Instruction). SeenActs x counts j fr h way g k) (ap Used (sym v.1) ∙ m.2)
      (did v.0 (m.1 ∙ ap (λ (m : Meaning). Some m) v.1))

  none_of_map : {A B : Type 0} (f : A → B) (o : Option A) → option_map f o ≡ None → o ≡ None
  none_of_map f None e = refl
  none_of_map f (Some a) e = absurd cc

  pub cast_missing : (way : Way) → (meanings.meant x.ancestors.now (pool_at x.ancestors.now fr.method.class) (forms.Cast op i) ≡ None → way ≡ ways.Stuck)
      → StaysStuck x (instrs.Object (object.Cast op i)) fr way
  cast_missing way stuck none =
      stuck (none_of_map Used (meanings.meant x.ancestors.now (pool_at x.ancestors.now fr.method.class) (forms.Cast op i)) (sym (cast_means x fr.method.class op i) ∙ none))
