-- The rule doesn't look at locals behind those that an instruction names.
use Rattle.std.proofs.Common.{◌≡◌, ℕ, ◌≤◌, Bool, true, false, List, [], ◌∷◌, Option, Some, None, map}
use Rattle.std.specs.Prelude.{◌&&◌, if◌then◌else◌}
use Rattle.std.specs.List.{list_any}
use Rattle.std.specs.Option.{option_to_list}
use Rattle.jvalues.specs.declared.jnames.kinds.Kind.TheVariants as kinds
use Rattle.jparts.specs.declared.jcode.names.Access.TheVariants.{Load, Store}
use Rattle.jparts.specs.declared.jcode.names.Returned.{Returned}
use Rattle.jparts.specs.declared.jcode.op_form.OpForm.TheVariants as forms
use Rattle.jparts.specs.declared.jcode.op_form.ArrayForm.{ArrayForm}
use Rattle.jparts.specs.declared.jcode.op_form.ArrayForm.TheVariants as arrays
use Rattle.jparts.specs.declared.jcode.op_form.Flow.{Flow}
use Rattle.jparts.specs.declared.jcode.op_form.Flow.TheVariants as flows
use Rattle.jparts.specs.declared.jcode.op_form.LocalForm.{LocalForm}
use Rattle.jparts.specs.declared.jcode.op_form.LocalForm.TheVariants.{Move, Increment}
use Rattle.jparts.specs.jcode.InstructionForms as codes
use Rattle.jparts.specs.jcode.InstructionForms.{array_effect, compared, simple_effect}
use Rattle.jtypes.specs.declared.vtype.VType.{VType}
use Rattle.jtypes.specs.ClassTrees.{Tree}
use Rattle.jresolution.specs.jprogram.ProgramClasses.{Program, tree}
use Rattle.jresolution.specs.declared.juses.meaning.InvokeKind.TheVariants as how
use Rattle.jresolution.specs.juses.InstructionMeanings as meanings
use Rattle.jresolution.specs.juses.InstructionMeanings.{Meaning, array_meant, meant}
use Rattle.jtyping.specs.jrule.ArrayRule as array
use Rattle.jtyping.specs.jrule.ArrayRule.{loaded_on, operands}
use Rattle.jtyping.specs.jrule.StackEffects.{Fits, Of, by_effect, gives, of_kinds}
use Rattle.jtyping.specs.jrule.FormRules.{by_form, by_meaning}
use Rattle.jtyping.specs.jrule.FrameExtension.{LooksNoFurther, is_unready, roomy, with_more}
use Rattle.jtyping.specs.jrule.InstructionContext.{Here}
use Rattle.jtyping.specs.jrule.LocalRule.{local}
use Rattle.jtyping.specs.jrule.StackOperands.{pushed, taken}
use Rattle.jtyping.specs.jrule.TypingRule.{by_table, is_own}
use Rattle.jtyping.specs.jrule.BasicRule as straight
use Rattle.jtyping.specs.jrule.PoolEffects.{exchange, throwable}
use Rattle.jtyping.proofs.JruleProofs.FrameExtension.{Carries, exchanged_carried, given_carried, increment_carried, init_carried, load_carried, make_carried, move_carried, store_carried, taken_carried, then_carried}

-- ---- each group

local_carried : (more : List VType) (few most : ℕ) (form : LocalForm) → few ≤ most → Carries more (local few form) (local most form)
local_carried more few most (Move Load kind n) le = load_carried more few most (codes.local kind) n le
local_carried more few most (Move Store kind n) le = store_carried more (codes.local kind) n
local_carried more few most (Increment n by) le = increment_carried more n

leave_carried : (more : List VType) (t : Tree) (is_init : Bool) (ret : Option VType) (kind : Returned) → Carries more (straight.leave t is_init ret kind) (straight.leave t is_init ret kind)
leave_carried more t is_init ret kind f g e = go (straight.returns kind ret && straight.may_leave is_init kind f.flag) e
  where
    go : (b : Bool) → (if b then taken t (map Fits (option_to_list ret)) f else None) ≡ Some g → (if b then taken t (map Fits (option_to_list ret)) (with_more more f) else None) ≡ Some (with_more more g)
    go true h = taken_carried more t (map Fits (option_to_list ret)) f g h
    go false h = absurd (cc)

flow_carried : {S : Type 0} (more : List VType) (t : Tree) (is_init : Bool) (ret : Option VType) (form : Flow S) → Carries more (straight.flow t is_init ret form) (straight.flow t is_init ret form)
flow_carried more t is_init ret (flows.If test by) = taken_carried more t (Of kinds.Int ∷ [])
flow_carried more t is_init ret (flows.IfInt test by) = taken_carried more t (Of kinds.Int ∷ Of kinds.Int ∷ [])
flow_carried more t is_init ret (flows.IfRef test by) = taken_carried more t (of_kinds (compared test))
flow_carried more t is_init ret (flows.Goto by) = taken_carried more t []
flow_carried more t is_init ret (flows.Switch s) = taken_carried more t (Of kinds.Int ∷ [])
flow_carried more t is_init ret (flows.Return kind) = leave_carried more t is_init ret kind
flow_carried more t is_init ret flows.Throw = taken_carried more t (Fits throwable ∷ [])

array_carried : (more : List VType) (t : Tree) (few most : ℕ) (form : ArrayForm) → few ≤ most → Carries more (array.array t few form) (array.array t most form)
array_carried more t few most (arrays.New kind) le f g e = exchanged_carried more t few most (gives (Of kinds.Int ∷ []) (array.row (array.of_numbers kind))) le f g e
array_carried more t few most (arrays.NewRef n) le f g e = absurd (cc)
array_carried more t few most (arrays.Load items) le f g e =
    let a = loaded_on items f.stack in
    let ws = operands items (arrays.Load items) in
    then_carried more (taken t ws) (taken t ws) (pushed few a) (pushed most a) (taken_carried more t ws) (given_carried more few most (Some a) le) f g e
array_carried more t few most (arrays.Store items) le f g e = taken_carried more t (operands items (arrays.Store items)) f g e
array_carried more t few most arrays.Length le f g e = exchanged_carried more t few most (by_effect (array_effect arrays.Length)) le f g e

-- ---- by what the pool means

module _ (p : Program) (here : Here) (most : ℕ) (more : List VType) (le : here.max_stack ≤ most) (none : list_any is_unready more ≡ false) where
  table_carried : (m : Meaning) → Carries more (by_table p here m) (by_table p (roomy most here) m)
  table_carried m = exchanged_carried more (tree p) here.max_stack most (exchange (is_own p here.is_init here.class) here.class m) le

  meaning_carried : (m : Option Meaning) → Carries more (by_meaning p here m) (by_meaning p (roomy most here) m)
  meaning_carried None f g e = absurd (cc)
  meaning_carried (Some (meanings.Push c)) f g e = table_carried (meanings.Push c) f g e
  meaning_carried (Some (meanings.Field op one)) f g e = table_carried (meanings.Field op one) f g e
  meaning_carried (Some (meanings.Call how.Virtual c)) f g e = table_carried (meanings.Call how.Virtual c) f g e
  meaning_carried (Some (meanings.Call how.Special c)) f g e = table_carried (meanings.Call how.Special c) f g e
  meaning_carried (Some (meanings.Call how.Static c)) f g e = table_carried (meanings.Call how.Static c) f g e
  meaning_carried (Some (meanings.Call how.Interface c)) f g e = table_carried (meanings.Call how.Interface c) f g e
  meaning_carried (Some (meanings.Call how.Init c)) f g e = init_carried more (tree p) here most c le none f g e
  meaning_carried (Some (meanings.Make c)) f g e = make_carried more here.max_stack most here.at le none f g e
  meaning_carried (Some (meanings.MakeArray t)) f g e = table_carried (meanings.MakeArray t) f g e
  meaning_carried (Some (meanings.Cast op t)) f g e = table_carried (meanings.Cast op t) f g e

-- ---- all

pub looks_no_further : (S : Type 0) (p : Program) → LooksNoFurther S p
unfolding by_form
looks_no_further S p here most pool (forms.Simple form) f g more le none e = exchanged_carried more (tree p) here.max_stack most (by_effect (simple_effect form)) le f g e
looks_no_further S p here most pool (forms.Local form) f g more le none e = local_carried more here.max_stack most form le f g e
looks_no_further S p here most pool (forms.Stack form) f g more le none e = move_carried more here.max_stack most form le f g e
looks_no_further S p here most pool (forms.Flow form) f g more le none e = flow_carried more (tree p) here.is_init here.returns form f g e
looks_no_further S p here most pool (forms.Array (arrays.New kind)) f g more le none e = array_carried more (tree p) here.max_stack most (arrays.New kind) le f g e
looks_no_further S p here most pool (forms.Array (arrays.NewRef i)) f g more le none e = meaning_carried p here most more le none (array_meant p pool i) f g e
looks_no_further S p here most pool (forms.Array (arrays.Load items)) f g more le none e = array_carried more (tree p) here.max_stack most (arrays.Load items) le f g e
looks_no_further S p here most pool (forms.Array (arrays.Store items)) f g more le none e = array_carried more (tree p) here.max_stack most (arrays.Store items) le f g e
looks_no_further S p here most pool (forms.Array arrays.Length) f g more le none e = array_carried more (tree p) here.max_stack most arrays.Length le f g e
looks_no_further S p here most pool (forms.Pool form) f g more le none e = meaning_carried p here most more le none (meant p pool form) f g e
