-- What each instruction with a class did is what it stands for.
use Rattle.std.proofs.Common.{◌≡◌, ℕ, Some, refl, sym, subst}
use Rattle.std.specs.Prelude.{IfOk, Result}
use Rattle.jparts.specs.declared.jcode.names.FieldOp.{FieldOp}
use Rattle.jmemory.specs.jheap.Heaps.{Heaped}
use Rattle.jresolution.specs.declared.jprogram.member.Member.TheVariants as members
use Rattle.jtypes.specs.declared.vtype.VType.{VType}
use Rattle.jresolution.specs.juses.IndexedInstructions.{Instruction, Used}
use Rattle.jresolution.specs.juses.InstructionMeanings as meanings
use Rattle.jresolution.specs.juses.InstructionMeanings.{FieldMeaning}
use Rattle.jlinking.specs.jlink.NamedFields.{IsNamedField}
use Rattle.jsemantics.specs.jmachine.MachineStates.{FrameOf}
use Rattle.jready.specs.declared.instr.ArrayInstr.{ArrayInstr}
use Rattle.jready.specs.declared.instr.FlowInstr.{FlowInstr}
use Rattle.jready.specs.declared.instr.Instr.{Instr}
use Rattle.jready.specs.declared.instr.Instr.TheVariants as instrs
use Rattle.jready.specs.declared.instr.ObjectInstr.{ObjectInstr}
use Rattle.jready.specs.declared.instr.ObjectInstr.TheVariants as object
use Rattle.jready.specs.InlineOperands.{MakesArray}
use Rattle.jready.specs.DecodedInstructions.{array_instr, flow_meant, meant}
use Rattle.jrows.specs.declared.jacts.way.Way.{Way}
use Rattle.jrows.specs.declared.jcalls.ready.Counts.{Counts}
use Rattle.jstepping.specs.declared.jrefs.lasting.Lasting.{Lasting}
use Rattle.jstepping.specs.declared.jrefs.looking.FieldAt.{FieldAt}
use Rattle.jstepping.specs.jrefs.NamedEntries.{NamesField}
use Rattle.jstepping.specs.jrefs.ReferenceRows.{IsExact, IsFetched, IsLasting, StaysStuck}
use Rattle.jstepping.specs.jrefs.RowInvariance.{SeenActs, SeenRuns}
use Rattle.jstepping.proofs.JrefsProofs.InstructionMeanings.{FieldLaw, all_ok, array_means, field_means, field_named, map_ok, not_missing, out_means, runs_by}

module _ (x : Lasting) (counts : Counts) {E : Type 0} (fr g : FrameOf ℕ E) (h k : Heaped) where
  -- where an instruction is this one
  pub as_it : (f one : ObjectInstr) → f ≡ one → {F : Type 0} (result : Result Way F)
      → IfOk result (λ way. SeenRuns x counts (instrs.Object one) fr h way g k) → IfOk result (λ way. SeenRuns x counts (instrs.Object f) fr h way g k)
  as_it f one is result did = subst (λ (o : ObjectInstr). IfOk result (λ way. SeenRuns x counts (instrs.Object o) fr h way g k)) (sym is) did

  pub missing_as : (f one : ObjectInstr) → f ≡ one → {F : Type 0} (result : Result Way F)
      → IfOk result (λ way. StaysStuck x (instrs.Object one) fr way) → IfOk result (λ way. StaysStuck x (instrs.Object f) fr way)
  missing_as f one is result did = subst (λ (o : ObjectInstr). IfOk result (λ way. StaysStuck x (instrs.Object o) fr way)) (sym is) did

  pub as_one : (f one : Instr) → f ≡ one → (way : Way) → SeenRuns x counts one fr h way g k → SeenRuns x counts f fr h way g k
  as_one f one is way did = subst (λ (o : Instr). SeenRuns x counts o fr h way g k) (sym is) did

  pub missing_one : (f one : Instr) → f ≡ one → (way : Way) → StaysStuck x one fr way → StaysStuck x f fr way
  missing_one f one is way did = subst (λ (o : Instr). StaysStuck x o fr way) (sym is) did

  module _ {F : Type 0} (result : Result Way F) where
    pub runs_all : (one : Instr) (j : Instruction) → meant x.ancestors.now x.ready.now.methods.tables fr.method.class one ≡ Some j
        → IfOk result (λ way. (counts : Counts) → SeenActs x counts j fr h way g k) → IfOk result (λ way. SeenRuns x counts one fr h way g k)
    runs_all one j means did = map_ok result (λ way acts. runs_by x counts one fr g h k j means way (acts counts)) did

    pub runs_one : (one : Instr) (j : Instruction) → meant x.ancestors.now x.ready.now.methods.tables fr.method.class one ≡ Some j
        → IfOk result (λ way. SeenActs x counts j fr h way g k) → IfOk result (λ way. SeenRuns x counts one fr h way g k)
    runs_one one j means did = map_ok result (λ way acts. runs_by x counts one fr g h k j means way acts) did

    pub array_runs : (i n : ℕ) (made : IsExact x (instrs.Object (object.NewArray i n)) fr)
        → IfOk result (λ way. (counts : Counts) (t : VType) → MakesArray x.ancestors.now x.ready.now.methods.tables t n
        → SeenActs x counts (Used (meanings.MakeArray t)) fr h way g k)
        → IfOk result (λ way. SeenRuns x counts (instrs.Object (object.NewArray i n)) fr h way g k)
    array_runs i n made did =
        map_ok result (λ way acts. runs_by x counts (instrs.Object (object.NewArray i n)) fr g h k (Used (meanings.MakeArray made.type))
        (array_means x fr.method.class i n (meanings.MakeArray made.type) made.means) way (acts counts made.type made.makes)) did

    pub out_runs : FieldLaw → IsLasting x → (op : FieldOp) (i : ℕ) (held : IsExact x (instrs.Object (object.Out op i)) fr) → IsFetched x (instrs.Object (object.Out op i)) fr
        → IfOk result (λ way. (counts : Counts) (f : FieldMeaning) → f.member ≡ members.LibField → IsNamedField x.ancestors.now op f
        → SeenActs x counts (Used (meanings.Field op f)) fr h way g k)
        → IfOk result (λ way. SeenRuns x counts (instrs.Object (object.Out op i)) fr h way g k)
    out_runs law l op i held here did =
        let means = out_means x fr.method.class op i (meanings.Field op held.field) held.means in
        map_ok result (λ way acts. runs_by x counts (instrs.Object (object.Out op i)) fr g h k (Used (meanings.Field op held.field)) means way
        (acts counts held.field held.member (field_named law x l fr (instrs.Object (object.Out op i)) here op held.field means))) did

    pub never_missing : (one : Instr) (j : Instruction) → meant x.ancestors.now x.ready.now.methods.tables fr.method.class one ≡ Some j
        → IfOk result (λ way. StaysStuck x one fr way)
    never_missing one j means = all_ok result (not_missing x counts one fr g h k j means)

    abbrev field_of : FieldAt → Instr
    field_of a = instrs.Field a.op a.cell a.narrow a.pool a.slot a.owner

    pub field_runs : FieldLaw → IsLasting x → (a : FieldAt) → IsExact x (field_of a) fr → IsFetched x (field_of a) fr
        → IfOk result (λ way. (f : FieldMeaning) → NamesField x.ancestors.now fr.method.class a f → SeenActs x counts (Used (meanings.Field a.op f)) fr h way g k)
        → IfOk result (λ way. SeenRuns x counts (field_of a) fr h way g k)
    field_runs law l a held here did =
        let means = field_means x fr.method.class a (meanings.Field a.op held.field) held.means in
        map_ok result (λ way acts. runs_by x counts (field_of a) fr g h k (Used (meanings.Field a.op held.field)) means way
        (acts held.field (record { means = held.means; holds = held.holds; named = field_named law x l fr (field_of a) here a.op held.field means }))) did

    pub field_missing : (a : FieldAt) → IsExact x (field_of a) fr → IfOk result (λ way. StaysStuck x (field_of a) fr way)
    field_missing a held =
        never_missing (field_of a) (Used (meanings.Field a.op held.field)) (field_means x fr.method.class a (meanings.Field a.op held.field) held.means)

    -- ---- where an instruction is this one

    pub row_as : (one other : Instr) → one ≡ other → IfOk result (λ way. SeenRuns x counts other fr h way g k) → IfOk result (λ way. SeenRuns x counts one fr h way g k)
    row_as one other is did = subst (λ (o : Instr). IfOk result (λ way. SeenRuns x counts o fr h way g k)) (sym is) did

    pub missing_is : (one other : Instr) → one ≡ other → IfOk result (λ way. StaysStuck x other fr way) → IfOk result (λ way. StaysStuck x one fr way)
    missing_is one other is did = subst (λ (o : Instr). IfOk result (λ way. StaysStuck x o fr way)) (sym is) did

-- ---- branches and stores

module _ (x : Lasting) (class : ℕ) where
  pub flow_means : (f : FlowInstr) → meant x.ancestors.now x.ready.now.methods.tables class (instrs.Flow f) ≡ Some (flow_meant f)
  unfolding meant
  flow_means f = refl

  pub row_means : (f : ArrayInstr) → meant x.ancestors.now x.ready.now.methods.tables class (instrs.Array f) ≡ Some (array_instr f)
  unfolding meant
  row_means f = refl
