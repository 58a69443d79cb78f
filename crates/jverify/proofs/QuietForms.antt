-- A quiet form leaves the locals and the flag as they are.
use Rattle.std.proofs.Common.{◌≡◌, ℕ, Bool, true, false, List, [], ◌∷◌, Option, Some, None, refl, ◌∙◌}
use Rattle.std.specs.Borrow.{Bor}
use Rattle.std.specs.Prelude.{slice_get, option_and_then, option_map, ◌&&◌, if◌then◌else◌}
use Rattle.jvalues.specs.declared.jnames.names.Shuffle.{Shuffle}
use Rattle.jvalues.specs.declared.jnames.kinds.Kind.{Kind}
use Rattle.jvalues.specs.declared.jnames.kinds.Kind.TheVariants as kinds
use Rattle.jparts.specs.declared.jpool.entry.Entry.{Entry}
use Rattle.jparts.specs.declared.jcode.names.Access.TheVariants.{Load, Store}
use Rattle.jparts.specs.declared.jcode.names.CallOp.TheVariants as calls
use Rattle.jparts.specs.declared.jcode.names.CastOp.{CastOp}
use Rattle.jparts.specs.declared.jcode.names.FieldOp.{FieldOp}
use Rattle.jparts.specs.declared.jcode.op_form.ArrayForm.{ArrayForm}
use Rattle.jparts.specs.declared.jcode.op_form.ArrayForm.TheVariants as arrays
use Rattle.jparts.specs.declared.jcode.op_form.Flow.{Flow}
use Rattle.jparts.specs.declared.jcode.op_form.Flow.TheVariants as flows
use Rattle.jparts.specs.declared.jcode.op_form.OpForm.{OpForm}
use Rattle.jparts.specs.declared.jcode.op_form.OpForm.TheVariants as forms
use Rattle.jparts.specs.declared.jcode.op_form.LocalForm.{LocalForm}
use Rattle.jparts.specs.declared.jcode.op_form.LocalForm.TheVariants.{Increment, Move as MoveLocal}
use Rattle.jparts.specs.declared.jcode.op_form.PoolForm.{PoolForm}
use Rattle.jparts.specs.declared.jcode.op_form.PoolForm.TheVariants as pool
use Rattle.jparts.specs.declared.jcode.op.Switch.{Switch}
use Rattle.jparts.specs.jcode.InstructionForms.{array_effect, seen as seen_form}
use Rattle.jtypes.specs.declared.vtype.VType.{VType}
use Rattle.jtypes.specs.TypeFrames.{Frame, within}
use Rattle.jtypes.specs.ClassTrees.{Tree}
use Rattle.jresolution.specs.jprogram.ProgramClasses.{Program, tree}
use Rattle.jresolution.specs.juses.InstructionMeanings as meanings
use Rattle.jresolution.specs.juses.InstructionMeanings.{EntryMeaning, Meaning, array_meant, entry_meant, meant}
use Rattle.jresolution.specs.ProofNames.{long_constant, short_constant, array_made, called_by, called_by_interface, cast_by, field_used}
use Rattle.jtyping.specs.ProofNames.{shuffled}
use Rattle.jresolution.specs.juses.DescriptorTypes.{array_over}
use Rattle.jtyping.specs.jrule.ArrayRule.{array, of_numbers, row}
use Rattle.jtyping.specs.jrule.StackEffects.{Exchange, Of, Want, by_effect, gives, is_int, is_of}
use Rattle.jtyping.specs.jrule.FormRules.{by_array, by_form, by_meaning}
use Rattle.jtyping.specs.jrule.InstructionContext.{Here}
use Rattle.jtyping.specs.jrule.LocalRule.{is_whole, load_from, local, passes}
use Rattle.jtyping.specs.jrule.StackMoveRule.{move}
use Rattle.jtyping.specs.jrule.StackOperands.{below, exchanged, given, pushed, taken, with_room, with_stack}
use Rattle.jtyping.specs.jrule.BasicRule.{flow}
use Rattle.jverify.specs.FrameFacts.{Rests, is_quiet}

pub if_rests : (f : Frame) (b : Bool) (x : Option Frame) → Rests f x → Rests f (if b then x else None)
if_rests f true x h = h
if_rests f false x h = tt

first_rests : (f g : Frame) (x : Option Frame) → Rests f (Some g) → Rests g x → Rests f x
first_rests f g None same h = tt
first_rests f g (Some x) same h = (h.0 ∙ same.0, h.1 ∙ same.1)

and_then : (f : Frame) (k : Frame → Option Frame) (x : Option Frame) → Rests f x → ((g : Frame) → Rests g (k g)) → Rests f (option_and_then k x)
and_then f k None h each = tt
and_then f k (Some g) h each = first_rests f g (k g) h (each g)

-- ---- operands

stacked : (f : Frame) (o : Option (List VType)) → Rests f (option_map (with_stack f) o)
stacked f None = tt
stacked f (Some stack) = (refl, refl)

pub taken_rests : (t : Tree) (ws : List Want) (f : Frame) → Rests f (taken t ws f)
unfolding taken
taken_rests t ws f = stacked f (below t ws f.stack)

pub pushed_rests : (most : ℕ) (a : VType) (f : Frame) → Rests f (pushed most a f)
pushed_rests most a f = if_rests f (within most (a ∷ f.stack)) (Some (with_stack f (a ∷ f.stack))) (refl, refl)

pub given_rests : (most : ℕ) (o : Option VType) (f : Frame) → Rests f (given most o f)
given_rests most None f = (refl, refl)
given_rests most (Some a) f = pushed_rests most a f

pub exchanged_rests : (t : Tree) (most : ℕ) (e : Exchange) (f : Frame) → Rests f (exchanged t most e f)
exchanged_rests t most e f = and_then f (given most e.gives) (taken t e.takes f) (taken_rests t e.takes f) (given_rests most e.gives)

-- ---- moves, arrays, jumps

moved_rests : (most : ℕ) (f : Frame) (o : Option (List VType)) → Rests f (option_and_then (with_room most f) o)
moved_rests most f None = tt
moved_rests most f (Some stack) = if_rests f (within most stack) (Some (with_stack f stack)) (refl, refl)

pub move_rests : (most : ℕ) (s : Shuffle) (f : Frame) → Rests f (move most s f)
move_rests most s f = moved_rests most f (shuffled s f.stack)

array_rests : (t : Tree) (most : ℕ) (form : ArrayForm) (f : Frame) → Rests f (array t most form f)
array_rests t most (arrays.New kind) f = exchanged_rests t most (gives (Of kinds.Int ∷ []) (row (of_numbers kind))) f
array_rests t most (arrays.NewRef n) f = tt
array_rests t most (arrays.Load e) f = and_then f (pushed most _) (taken t _ f) (taken_rests t _ f) (pushed_rests most _)
array_rests t most (arrays.Store e) f = taken_rests t _ f
array_rests t most arrays.Length f = exchanged_rests t most (by_effect (array_effect arrays.Length)) f

pub flow_rests : {S : Type 0} (t : Tree) (is_init : Bool) (ret : Option VType) (form : Flow S) (f : Frame) → Rests f (flow t is_init ret form f)
flow_rests t is_init ret (flows.If test by) f = taken_rests t _ f
flow_rests t is_init ret (flows.IfInt test by) f = taken_rests t _ f
flow_rests t is_init ret (flows.IfRef test by) f = taken_rests t _ f
flow_rests t is_init ret (flows.Goto by) f = taken_rests t _ f
flow_rests t is_init ret (flows.Switch s) f = taken_rests t _ f
flow_rests t is_init ret (flows.Return kind) f = if_rests f _ (taken t _ f) (taken_rests t _ f)
flow_rests t is_init ret flows.Throw f = taken_rests t _ f

-- ---- locals

pub load_rests : (most : ℕ) (k : Kind) (n : ℕ) (f : Frame) (o : Option VType) → Rests f (load_from most k n f o)
load_rests most k n f None = tt
load_rests most k n f (Some a) = if_rests f (is_of k a && is_whole f.locals n a) (pushed most a f) (pushed_rests most a f)

pub increment_rests : (f : Frame) (b : Bool) → Rests f (if b then Some f else None)
increment_rests f b = if_rests f b (Some f) (refl, refl)

local_rests : (most : ℕ) (form : LocalForm) (f : Frame) → is_quiet {S = Switch} (forms.Local form) ≡ true → Rests f (local most form f)
local_rests most (MoveLocal Load kind n) f e = load_rests most _ n f (slice_get f.locals n)
local_rests most (MoveLocal Store kind n) f e = absurd cc
local_rests most (Increment n by) f e = increment_rests f (passes is_int (slice_get f.locals n))

-- ---- by the pool

pushing : (p : Program) (here : Here) (e : EntryMeaning) (f : Frame) → Rests f (by_meaning p here (short_constant e) f)
pushing p here (meanings.AConstant (meanings.Int n)) f = exchanged_rests (tree p) here.max_stack _ f
pushing p here (meanings.AConstant (meanings.Long n)) f = tt
pushing p here (meanings.AConstant (meanings.Text s)) f = exchanged_rests (tree p) here.max_stack _ f
pushing p here (meanings.AClass t) f = tt
pushing p here (meanings.AField x) f = tt
pushing p here (meanings.AMethod b c) f = tt

pushing_long : (p : Program) (here : Here) (e : EntryMeaning) (f : Frame) → Rests f (by_meaning p here (long_constant e) f)
pushing_long p here (meanings.AConstant (meanings.Int n)) f = tt
pushing_long p here (meanings.AConstant (meanings.Long n)) f = exchanged_rests (tree p) here.max_stack _ f
pushing_long p here (meanings.AConstant (meanings.Text s)) f = tt
pushing_long p here (meanings.AClass t) f = tt
pushing_long p here (meanings.AField x) f = tt
pushing_long p here (meanings.AMethod b c) f = tt

field : (p : Program) (here : Here) (op : FieldOp) (e : EntryMeaning) (f : Frame) → Rests f (by_meaning p here (field_used op e) f)
field p here op (meanings.AConstant c) f = tt
field p here op (meanings.AClass t) f = tt
field p here op (meanings.AField x) f = exchanged_rests (tree p) here.max_stack _ f
field p here op (meanings.AMethod b c) f = tt

virtual : (p : Program) (here : Here) (e : EntryMeaning) (f : Frame) → Rests f (by_meaning p here (called_by calls.Virtual e) f)
virtual p here (meanings.AConstant c) f = tt
virtual p here (meanings.AClass t) f = tt
virtual p here (meanings.AField x) f = tt
virtual p here (meanings.AMethod b c) f = exchanged_rests (tree p) here.max_stack _ f

static_ : (p : Program) (here : Here) (e : EntryMeaning) (f : Frame) → Rests f (by_meaning p here (called_by calls.Static e) f)
static_ p here (meanings.AConstant c) f = tt
static_ p here (meanings.AClass t) f = tt
static_ p here (meanings.AField x) f = tt
static_ p here (meanings.AMethod b c) f = exchanged_rests (tree p) here.max_stack _ f

interface : (p : Program) (here : Here) (e : EntryMeaning) (f : Frame) → Rests f (by_meaning p here (called_by_interface e) f)
interface p here (meanings.AConstant c) f = tt
interface p here (meanings.AClass t) f = tt
interface p here (meanings.AField x) f = tt
interface p here (meanings.AMethod b c) f = exchanged_rests (tree p) here.max_stack _ f

casting : (p : Program) (here : Here) (op : CastOp) (e : EntryMeaning) (f : Frame) → Rests f (by_meaning p here (cast_by op e) f)
casting p here op (meanings.AConstant c) f = tt
casting p here op (meanings.AClass t) f = exchanged_rests (tree p) here.max_stack _ f
casting p here op (meanings.AField x) f = tt
casting p here op (meanings.AMethod b c) f = tt

array_of : (p : Program) (here : Here) (o : Option VType) (f : Frame) → Rests f (by_meaning p here (option_map meanings.MakeArray o) f)
array_of p here None f = tt
array_of p here (Some t) f = exchanged_rests (tree p) here.max_stack _ f

making_array : (p : Program) (here : Here) (e : EntryMeaning) (f : Frame) → Rests f (by_meaning p here (array_made e) f)
making_array p here (meanings.AConstant c) f = tt
making_array p here (meanings.AClass t) f = array_of p here (array_over t) f
making_array p here (meanings.AField x) f = tt
making_array p here (meanings.AMethod b c) f = tt

-- by what an entry stands for, if it does
by_entry : (p : Program) (here : Here) (k : EntryMeaning → Option Meaning) (o : Option EntryMeaning) (f : Frame) → ((e : EntryMeaning) → Rests f (by_meaning p here (k e) f)) → Rests f (by_meaning p here (option_and_then k o) f)
by_entry p here k None f each = tt
by_entry p here k (Some e) f each = each e

pool_rests : (p : Program) (here : Here) (entries : List Entry) (form : PoolForm) (f : Frame) → is_quiet {S = Switch} (forms.Pool form) ≡ true → Rests f (by_meaning p here (meant p entries form) f)
unfolding meant
pool_rests p here entries (pool.Constant i) f e = by_entry p here short_constant (entry_meant p entries (slice_get entries i)) f (λ x. pushing p here x f)
pool_rests p here entries (pool.LongConstant i) f e = by_entry p here long_constant (entry_meant p entries (slice_get entries i)) f (λ x. pushing_long p here x f)
pool_rests p here entries (pool.Field op i) f e = by_entry p here (field_used op) (entry_meant p entries (slice_get entries i)) f (λ x. field p here op x f)
pool_rests p here entries (pool.Call calls.Virtual i) f e = by_entry p here (called_by calls.Virtual) (entry_meant p entries (slice_get entries i)) f (λ x. virtual p here x f)
pool_rests p here entries (pool.Call calls.Special i) f e = absurd cc
pool_rests p here entries (pool.Call calls.Static i) f e = by_entry p here (called_by calls.Static) (entry_meant p entries (slice_get entries i)) f (λ x. static_ p here x f)
pool_rests p here entries (pool.CallInterface i slots) f e = by_entry p here called_by_interface (entry_meant p entries (slice_get entries i)) f (λ x. interface p here x f)
pool_rests p here entries (pool.New i) f e = absurd cc
pool_rests p here entries (pool.Cast op i) f e = by_entry p here (cast_by op) (entry_meant p entries (slice_get entries i)) f (λ x. casting p here op x f)

new_array : (p : Program) (here : Here) (entries : List Entry) (i : ℕ) (f : Frame) → Rests f (by_meaning p here (array_meant p entries i) f)
unfolding array_meant
new_array p here entries i f = by_entry p here array_made (entry_meant p entries (slice_get entries i)) f (λ x. making_array p here x f)

pub by_array_rests : (p : Program) (here : Here) (entries : List Entry) (form : ArrayForm) (f : Frame) → Rests f (by_array p here entries form f)
by_array_rests p here entries (arrays.New kind) f = array_rests (tree p) here.max_stack (arrays.New kind) f
by_array_rests p here entries (arrays.NewRef i) f = new_array p here entries i f
by_array_rests p here entries (arrays.Load e) f = array_rests (tree p) here.max_stack (arrays.Load e) f
by_array_rests p here entries (arrays.Store e) f = array_rests (tree p) here.max_stack (arrays.Store e) f
by_array_rests p here entries arrays.Length f = array_rests (tree p) here.max_stack arrays.Length f

-- ---- all

pub form_rests : (p : Program) (here : Here) (entries : List Entry) (form : OpForm Switch) (f : Frame) → is_quiet form ≡ true → Rests f (by_form p here entries form f)
unfolding by_form
form_rests p here entries (forms.Simple form) f e = exchanged_rests (tree p) here.max_stack _ f
form_rests p here entries (forms.Local form) f e = local_rests here.max_stack form f e
form_rests p here entries (forms.Stack form) f e = move_rests here.max_stack form f
form_rests p here entries (forms.Flow form) f e = flow_rests (tree p) here.is_init here.returns form f
form_rests p here entries (forms.Array form) f e = by_array_rests p here entries form f
form_rests p here entries (forms.Pool form) f e = pool_rests p here entries form f e

-- ---- how a switch is lent doesn't count

pub quiet_lent : (form : OpForm (Bor Switch)) → is_quiet (seen_form form) ≡ is_quiet form
quiet_lent (forms.Simple form) = refl
quiet_lent (forms.Local (MoveLocal Load kind n)) = refl
quiet_lent (forms.Local (MoveLocal Store kind n)) = refl
quiet_lent (forms.Local (Increment n by)) = refl
quiet_lent (forms.Stack form) = refl
quiet_lent (forms.Flow form) = refl
quiet_lent (forms.Array form) = refl
quiet_lent (forms.Pool (pool.Constant i)) = refl
quiet_lent (forms.Pool (pool.LongConstant i)) = refl
quiet_lent (forms.Pool (pool.Field op i)) = refl
quiet_lent (forms.Pool (pool.Call calls.Virtual i)) = refl
quiet_lent (forms.Pool (pool.Call calls.Special i)) = refl
quiet_lent (forms.Pool (pool.Call calls.Static i)) = refl
quiet_lent (forms.Pool (pool.CallInterface i slots)) = refl
quiet_lent (forms.Pool (pool.New i)) = refl
quiet_lent (forms.Pool (pool.Cast op i)) = refl
