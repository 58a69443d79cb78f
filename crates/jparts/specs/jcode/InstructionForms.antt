-- What instructions do, whichever of their spellings they have, and the kinds of their operands (JVMS 6.5).
use Rattle.std.specs.Prelude.{ℤ, pos, ◌-ℤ◌, Bool, true, false, map, List, [], ◌∷◌, Option, Some, None}
use Rattle.std.specs.Borrow.{Bor}
use Rattle.jparts.specs.declared.jcode.names.LocalKind.{LocalKind}
use Rattle.jparts.specs.declared.jcode.names.LocalKind.TheVariants as locals
use Rattle.jparts.specs.declared.jcode.names.Access.TheVariants.{Load, Store}
use Rattle.jparts.specs.declared.jcode.names.Element.{Element}
use Rattle.jparts.specs.declared.jcode.names.Element.TheVariants as elements
use Rattle.jparts.specs.declared.jcode.names.RefTest.{RefTest}
use Rattle.jparts.specs.declared.jcode.names.RefTest.TheVariants.{Null, NonNull}
use Rattle.jparts.specs.declared.jcode.names.Returned.{Returned}
use Rattle.jparts.specs.declared.jcode.names.Returned.TheVariants as results
use Rattle.jparts.specs.declared.jcode.names.ObjectOp.TheVariants.{ArrayLength, Throw}
use Rattle.jparts.specs.declared.jcode.op.Op.{Op}
use Rattle.jparts.specs.declared.jcode.op.Op.TheVariants as ops
use Rattle.jparts.specs.declared.jcode.op.IntConst.{IntConst}
use Rattle.jparts.specs.declared.jcode.op.IntConst.TheVariants as consts
use Rattle.jparts.specs.declared.jcode.op.Ldc.TheVariants as ldcs
use Rattle.jparts.specs.declared.jcode.op.LocalOp.{LocalOp}
use Rattle.jparts.specs.declared.jcode.op.LocalOp.TheVariants as moves
use Rattle.jparts.specs.declared.jcode.op.Goto.TheVariants as gotos
use Rattle.jparts.specs.declared.jcode.op.NewOp.{NewOp}
use Rattle.jparts.specs.declared.jcode.op.NewOp.TheVariants as news
use Rattle.jparts.specs.declared.jcode.op.Switch.{Switch}
use Rattle.jparts.specs.declared.jcode.op.Switch.TheVariants as switches
use Rattle.jparts.specs.declared.jcode.op.Wide.TheVariants as wides
use Rattle.jparts.specs.declared.jcode.op_form.OpForm.{OpForm}
use Rattle.jparts.specs.declared.jcode.op_form.OpForm.TheVariants as forms
use Rattle.jparts.specs.declared.jcode.op_form.Simple.{Simple}
use Rattle.jparts.specs.declared.jcode.op_form.Simple.TheVariants as simple
use Rattle.jparts.specs.declared.jcode.op_form.LocalForm.{LocalForm}
use Rattle.jparts.specs.declared.jcode.op_form.LocalForm.TheVariants.{Move, Increment}
use Rattle.jparts.specs.declared.jcode.op_form.Flow.{Flow}
use Rattle.jparts.specs.declared.jcode.op_form.Flow.TheVariants as flows
use Rattle.jparts.specs.declared.jcode.op_form.ArrayForm.{ArrayForm}
use Rattle.jparts.specs.declared.jcode.op_form.ArrayForm.TheVariants as arrays
use Rattle.jparts.specs.declared.jcode.op_form.PoolForm.TheVariants as pool
use Rattle.jparts.specs.jcode.Opcodes.{int_step, slot_step, long_step}
use Rattle.jvalues.specs.jnames.Effects.{gives, takes, two_effect, division_effect, one_effect}
use Rattle.jvalues.specs.declared.jnames.kinds.Kind.{Kind}
use Rattle.jvalues.specs.declared.jnames.kinds.Kind.TheVariants as kinds
use Rattle.jvalues.specs.declared.jnames.kinds.Kinds.{Kinds}
use Rattle.jvalues.specs.declared.jnames.kinds.Kinds.TheVariants as taken
use Rattle.jvalues.specs.declared.jnames.kinds.Effect.{Effect}

-- ---- values that opcodes name

-- the first of iconst_m1, iconst_0 .. iconst_5 puts -1
abbrev pub const_value : IntConst → ℤ
const_value = elim [ consts.Small n ↦ pos (int_step n) -ℤ pos 1 | consts.Byte n ↦ n | consts.Short n ↦ n ]

-- ---- forms

abbrev pub local_form : LocalKind → LocalOp → LocalForm
local_form kind = elim [ moves.At access n ↦ Move access kind n | moves.Slot access slot ↦ Move access kind (slot_step slot) ]

abbrev pub new_form : NewOp → OpForm Switch
new_form (news.Object n) = forms.Pool (pool.New n)
new_form (news.Array element) = forms.Array (arrays.New element)
new_form (news.RefArray n) = forms.Array (arrays.NewRef n)

-- The form of an instruction. Its spellings are one form: iload_1, iload 1 and wide iload 1; iconst_3, bipush 3 and sipush 3; goto
-- and goto_w; ldc and ldc_w.
unfoldable pub form : Op → OpForm Switch
form ops.Nop = forms.Simple simple.Nothing
form ops.AconstNull = forms.Simple simple.Null
form (ops.IntConst n) = forms.Simple (simple.Int (const_value n))
form (ops.LongConst n) = forms.Simple (simple.Long (pos (long_step n)))
form (ops.Ldc op) = forms.Pool (pool.Constant (elim op [ ldcs.Narrow n ↦ n | ldcs.Wide n ↦ n ]))
form (ops.Ldc2 n) = forms.Pool (pool.LongConstant n)
form (ops.IntLocal op) = forms.Local (local_form locals.Int op)
form (ops.LongLocal op) = forms.Local (local_form locals.Long op)
form (ops.RefLocal op) = forms.Local (local_form locals.Ref op)
form (ops.ArrayLoad element) = forms.Array (arrays.Load element)
form (ops.ArrayStore element) = forms.Array (arrays.Store element)
form (ops.Stack op) = forms.Stack op
form (ops.Two op) = forms.Simple (simple.Two op)
form (ops.Divide op) = forms.Simple (simple.Divide op)
form (ops.One op) = forms.Simple (simple.One op)
form (ops.Iinc n by) = forms.Local (Increment n by)
form (ops.If test by) = forms.Flow (flows.If test by)
form (ops.IfInt test by) = forms.Flow (flows.IfInt test by)
form (ops.IfRef test by) = forms.Flow (flows.IfRef test by)
form (ops.Goto op) = forms.Flow (flows.Goto (elim op [ gotos.Narrow by ↦ by | gotos.Wide by ↦ by ]))
form (ops.Switch switch) = forms.Flow (flows.Switch switch)
form (ops.Return kind) = forms.Flow (flows.Return kind)
form (ops.Field op n) = forms.Pool (pool.Field op n)
form (ops.Call op n) = forms.Pool (pool.Call op n)
form (ops.CallInterface n slots) = forms.Pool (pool.CallInterface n slots)
form (ops.New op) = new_form op
form (ops.Object op) = elim op [ ArrayLength ↦ forms.Array arrays.Length | Throw ↦ forms.Flow flows.Throw ]
form (ops.Cast op n) = forms.Pool (pool.Cast op n)
form (ops.Wide op) = forms.Local (elim op [ wides.Local kind access n ↦ Move access kind n | wides.Iinc n by ↦ Increment n by ])

abbrev pub seen_flow : Flow (Bor Switch) → Flow Switch
seen_flow (flows.If test by) = flows.If test by
seen_flow (flows.IfInt test by) = flows.IfInt test by
seen_flow (flows.IfRef test by) = flows.IfRef test by
seen_flow (flows.Goto by) = flows.Goto by
seen_flow (flows.Switch switch) = flows.Switch switch.now
seen_flow (flows.Return kind) = flows.Return kind
seen_flow flows.Throw = flows.Throw

-- a form with the switch that it points to
abbrev pub seen : OpForm (Bor Switch) → OpForm Switch
seen (forms.Simple f) = forms.Simple f
seen (forms.Local f) = forms.Local f
seen (forms.Stack f) = forms.Stack f
seen (forms.Flow f) = forms.Flow (seen_flow f)
seen (forms.Array f) = forms.Array f
seen (forms.Pool f) = forms.Pool f

-- ---- the kinds of operands

-- kinds as a list, the newest first
abbrev pub listed : Kinds → List Kind
listed = elim [ taken.None ↦ [] | taken.One a ↦ a ∷ [] | taken.Two a b ↦ a ∷ b ∷ [] | taken.Three a b c ↦ a ∷ b ∷ c ∷ [] ]

abbrev pub simple_effect : Simple → Effect
simple_effect simple.Nothing = takes taken.None
simple_effect simple.Null = gives taken.None kinds.Null
simple_effect (simple.Int n) = gives taken.None kinds.Int
simple_effect (simple.Long n) = gives taken.None kinds.Long
simple_effect (simple.Two op) = two_effect op
simple_effect (simple.Divide op) = division_effect op
simple_effect (simple.One op) = one_effect op

-- what a local holds
abbrev pub local : LocalKind → Kind
local = elim [ locals.Int ↦ kinds.Int | locals.Long ↦ kinds.Long | locals.Ref ↦ kinds.Held ]

abbrev pub local_effect : LocalForm → Effect
local_effect (Move Load kind n) = gives taken.None (local kind)
local_effect (Move Store kind n) = takes (taken.One (local kind))
local_effect (Increment n by) = takes taken.None

abbrev pub compared : RefTest → Kinds
compared = elim [ Null ↦ taken.One kinds.Ref | NonNull ↦ taken.One kinds.Ref | _ ↦ taken.Two kinds.Ref kinds.Ref ]

abbrev pub returned : Returned → Kinds
returned = elim [ results.Int ↦ taken.One kinds.Int | results.Long ↦ taken.One kinds.Long | results.Ref ↦ taken.One kinds.Ref | _ ↦ taken.None ]

abbrev pub flow_effect : {S : Type 0} → Flow S → Effect
flow_effect (flows.If test by) = takes (taken.One kinds.Int)
flow_effect (flows.IfInt test by) = takes (taken.Two kinds.Int kinds.Int)
flow_effect (flows.IfRef test by) = takes (compared test)
flow_effect (flows.Goto by) = takes taken.None
flow_effect (flows.Switch switch) = takes (taken.One kinds.Int)
flow_effect (flows.Return kind) = takes (returned kind)
flow_effect flows.Throw = takes (taken.One kinds.Ref)

-- what is loaded from an array and stored into it
abbrev pub element : Element → Kind
element = elim [ elements.Long ↦ kinds.Long | elements.Ref ↦ kinds.Ref | _ ↦ kinds.Int ]

abbrev pub array_effect : ArrayForm → Effect
array_effect (arrays.New kind) = gives (taken.One kinds.Int) kinds.Array
array_effect (arrays.NewRef n) = gives (taken.One kinds.Int) kinds.Array
array_effect (arrays.Load kind) = gives (taken.Two kinds.Int kinds.Array) (element kind)
array_effect (arrays.Store kind) = takes (taken.Three (element kind) kinds.Int kinds.Array)
array_effect arrays.Length = gives (taken.One kinds.Array) kinds.Int

-- The kinds that a form takes and gives, where the form itself says them: a move of the stack takes and gives items of any kinds,
-- and what a form by the pool takes and gives is said by its entry.
unfoldable pub effect : {S : Type 0} → OpForm S → Option Effect
effect (forms.Simple f) = Some (simple_effect f)
effect (forms.Local f) = Some (local_effect f)
effect (forms.Stack f) = None
effect (forms.Flow f) = Some (flow_effect f)
effect (forms.Array f) = Some (array_effect f)
effect (forms.Pool f) = None

-- ---- where the method goes on

abbrev pub switch_branches : Switch → List ℤ
switch_branches = elim [ switches.Table s ↦ s.default ∷ s.branches | switches.Lookup s ↦ s.default ∷ map (λ c. c.branch) s.cases ]

abbrev pub flow_branches : Flow Switch → List ℤ
flow_branches (flows.If test by) = by ∷ []
flow_branches (flows.IfInt test by) = by ∷ []
flow_branches (flows.IfRef test by) = by ∷ []
flow_branches (flows.Goto by) = by ∷ []
flow_branches (flows.Switch switch) = switch_branches switch
flow_branches _ = []

-- The distances to which a form may lead, from its instruction's own place; of a switch, the default first.
unfoldable pub branches : OpForm Switch → List ℤ
branches = elim [ forms.Flow f ↦ flow_branches f | _ ↦ [] ]

abbrev pub flow_goes_on : {S : Type 0} → Flow S → Bool
flow_goes_on x = elim x [ flows.If test by ↦ true | flows.IfInt test by ↦ true | flows.IfRef test by ↦ true | _ ↦ false ]

-- the instruction behind a form's own may follow it
unfoldable pub goes_on : {S : Type 0} → OpForm S → Bool
goes_on x = elim x [ forms.Flow f ↦ flow_goes_on f | _ ↦ true ]
