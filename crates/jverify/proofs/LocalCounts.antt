-- The rule keeps the number of locals.
use Rattle.std.proofs.Common.{◌≡◌, ℕ, zero, suc, ◌+◌, Bool, true, false, List, [], ◌∷◌, length, Option, Some, None, refl, ap, ◌∙◌}
use Rattle.std.specs.Prelude.{slice_get, slice_set, nat_le, option_and_then, ◌&&◌, if◌then◌else◌}
use Rattle.std.specs.List.{list_any}
use Rattle.std.proofs.lemmas.List.{length-map, length-set}
use Rattle.jvalues.specs.declared.jnames.kinds.Kind.{Kind}
use Rattle.jparts.specs.declared.jpool.entry.Entry.{Entry}
use Rattle.jparts.specs.declared.jcode.names.Access.TheVariants.{Load, Store}
use Rattle.jparts.specs.declared.jcode.op_form.OpForm.{OpForm}
use Rattle.jparts.specs.declared.jcode.op_form.OpForm.TheVariants as forms
use Rattle.jparts.specs.declared.jcode.op_form.LocalForm.{LocalForm}
use Rattle.jparts.specs.declared.jcode.op_form.LocalForm.TheVariants.{Increment, Move as MoveLocal}
use Rattle.jparts.specs.jcode.InstructionForms.{local as local_kind}
use Rattle.jtypes.specs.declared.vtype.Name.{Name}
use Rattle.jtypes.specs.declared.vtype.VType.{VType}
use Rattle.jtypes.specs.declared.vtype.VType.TheVariants.{Top, Int, Long, Null, UninitThis, Uninit, Object, Array, Ctx}
use Rattle.jtypes.specs.TypeFrames.{Frame, is_long, places}
use Rattle.jtypes.specs.ClassTrees.{Tree}
use Rattle.jresolution.specs.jprogram.ProgramClasses.{Program, tree}
use Rattle.jresolution.specs.declared.juses.meaning.InvokeKind.{InvokeKind}
use Rattle.jresolution.specs.declared.juses.meaning.InvokeKind.TheVariants as how
use Rattle.jresolution.specs.juses.InstructionMeanings as meanings
use Rattle.jresolution.specs.juses.InstructionMeanings.{CallMeaning, Meaning, meant}
use Rattle.jtyping.specs.declared.jrule.unready.Unready.TheVariants as unready
use Rattle.jtyping.specs.jrule.StackEffects.{Exchange, Want, is_int, is_of}
use Rattle.jtyping.specs.jrule.FormRules.{by_array, by_form, by_meaning}
use Rattle.jtyping.specs.jrule.InstructionContext.{Here}
use Rattle.jtyping.specs.jrule.LocalRule.{broken, load_from, local, passes, store_on, with_local}
use Rattle.jtyping.specs.jrule.StackMoveRule.{move}
use Rattle.jtyping.specs.jrule.ObjectRule.{all_replaced, init, init_on, is_it, is_named, make, may_ready_this}
use Rattle.jtyping.specs.ProofNames.{init_of, replaced}
use Rattle.jtyping.specs.jrule.StackOperands.{exchanged, given, pushed, taken}
use Rattle.jtyping.specs.jrule.TypingRule.{called, used}
use Rattle.jtyping.specs.jrule.BasicRule.{flow}
use Rattle.jverify.specs.FrameFacts.{Rests}
use Rattle.jverify.proofs.QuietForms.{by_array_rests, exchanged_rests, flow_rests, given_rests, increment_rests, load_rests, move_rests, pushed_rests, taken_rests}

-- a frame of as many locals, if there is one
abbrev pub Keeps : Frame → Option Frame → Type 0
Keeps f None = Unit {0}
Keeps f (Some g) = length g.locals ≡ length f.locals

rests_keeps : (f : Frame) (o : Option Frame) → Rests f o → Keeps f o
rests_keeps f None h = tt
rests_keeps f (Some g) h = ap length h.0

keeps_if : (f g : Frame) (b : Bool) → length g.locals ≡ length f.locals → Keeps f (if b then Some g else None)
keeps_if f g true h = h
keeps_if f g false h = tt

first_keeps : (f g : Frame) (x : Option Frame) → length g.locals ≡ length f.locals → Keeps g x → Keeps f x
first_keeps f g None same h = tt
first_keeps f g (Some x) same h = h ∙ same

and_then : (f : Frame) (k : Frame → Option Frame) (x : Option Frame) → Keeps f x → ((g : Frame) → Keeps g (k g)) → Keeps f (option_and_then k x)
and_then f k None h each = tt
and_then f k (Some g) h each = first_keeps f g (k g) h (each g)

-- ---- where the locals rest

taken_keeps : (t : Tree) (ws : List Want) (f : Frame) → Keeps f (taken t ws f)
taken_keeps t ws f = rests_keeps f (taken t ws f) (taken_rests t ws f)

pushed_keeps : (most : ℕ) (a : VType) (f : Frame) → Keeps f (pushed most a f)
pushed_keeps most a f = rests_keeps f (pushed most a f) (pushed_rests most a f)

given_keeps : (most : ℕ) (o : Option VType) (f : Frame) → Keeps f (given most o f)
given_keeps most o f = rests_keeps f (given most o f) (given_rests most o f)

exchanged_keeps : (t : Tree) (most : ℕ) (e : Exchange) (f : Frame) → Keeps f (exchanged t most e f)
exchanged_keeps t most e f = rests_keeps f (exchanged t most e f) (exchanged_rests t most e f)

-- ---- locals

set_if : (b : Bool) (locals : List VType) (n : ℕ) (a : VType) → length (if b then slice_set locals n a else locals) ≡ length locals
set_if true locals n a = length-set locals n a
set_if false locals n a = refl

broken_keeps : (locals : List VType) (n : ℕ) → length (broken locals n) ≡ length locals
broken_keeps locals zero = refl
broken_keeps locals (suc n) = set_if (passes is_long (slice_get locals n)) locals n Top

with_keeps : (locals : List VType) (n : ℕ) (a : VType) → length (with_local locals n a) ≡ length locals
unfolding with_local
with_keeps locals n a =
    set_if (is_long a) (slice_set (broken locals n) n a) (n + 1) Top
    ∙ length-set (broken locals n) n a
    ∙ broken_keeps locals n

store_keeps : (k : Kind) (n : ℕ) (f : Frame) (stack : List VType) → Keeps f (store_on k n f stack)
store_keeps k n f [] = tt
store_keeps k n f (a ∷ stack) =
    keeps_if f (record { locals = with_local f.locals n a; stack = stack; flag = f.flag }) (is_of k a && nat_le (n + length (places a)) (length f.locals)) (with_keeps f.locals n a)

local_keeps : (most : ℕ) (form : LocalForm) (f : Frame) → Keeps f (local most form f)
local_keeps most (MoveLocal Load kind n) f = rests_keeps f (load_from most (local_kind kind) n f (slice_get f.locals n)) (load_rests most (local_kind kind) n f (slice_get f.locals n))
local_keeps most (MoveLocal Store kind n) f = store_keeps _ n f f.stack
local_keeps most (Increment n by) f = rests_keeps f (if passes is_int (slice_get f.locals n) then Some f else None) (increment_rests f (passes is_int (slice_get f.locals n)))

-- ---- objects

make_if : (most at : ℕ) (f g : Frame) (b : Bool) → length g.locals ≡ length f.locals → Keeps f (if b then None else pushed most (Uninit at) g)
make_if most at f g true same = tt
make_if most at f g false same = first_keeps f g (pushed most (Uninit at) g) same (pushed_keeps most (Uninit at) g)

make_keeps : (most at : ℕ) (f : Frame) → Keeps f (make most at f)
make_keeps most at f = make_if most at f (record { locals = all_replaced (unready.New at) Top f.locals; stack = f.stack; flag = f.flag }) (list_any (is_it (unready.New at)) f.stack) (length-map f.locals (replaced (unready.New at) Top))

init_on_keeps : (here : Here) (owner : Name) (f : Frame) (stack : List VType) → Keeps f (init_on here owner f stack)
init_on_keeps here owner f [] = tt
init_on_keeps here owner f (Uninit o ∷ stack) = keeps_if f _ (is_named owner (here.makes o)) (length-map f.locals _)
init_on_keeps here owner f (UninitThis ∷ stack) = keeps_if f _ (may_ready_this here owner) (length-map f.locals _)
init_on_keeps here owner f (Top ∷ stack) = tt
init_on_keeps here owner f (Int ∷ stack) = tt
init_on_keeps here owner f (Long ∷ stack) = tt
init_on_keeps here owner f (Null ∷ stack) = tt
init_on_keeps here owner f (Object c ∷ stack) = tt
init_on_keeps here owner f (Array a ∷ stack) = tt
init_on_keeps here owner f (Ctx ∷ stack) = tt

init_keeps : (t : Tree) (here : Here) (c : CallMeaning) (f : Frame) → Keeps f (init t here c f)
init_keeps t here c f =
    and_then f (given here.max_stack c.ret) (option_and_then (init_of here c.owner) (taken t _ f))
    (and_then f (init_of here c.owner) (taken t _ f) (taken_keeps t _ f) (λ g. init_on_keeps here c.owner g g.stack))
    (given_keeps here.max_stack c.ret)

-- ---- all

called_keeps : (p : Program) (here : Here) (by : InvokeKind) (c : CallMeaning) (f : Frame) → Keeps f (called p here by c f)
called_keeps p here how.Virtual c f = exchanged_keeps (tree p) here.max_stack _ f
called_keeps p here how.Special c f = exchanged_keeps (tree p) here.max_stack _ f
called_keeps p here how.Static c f = exchanged_keeps (tree p) here.max_stack _ f
called_keeps p here how.Interface c f = exchanged_keeps (tree p) here.max_stack _ f
called_keeps p here how.Init c f = init_keeps (tree p) here c f

used_keeps : (p : Program) (here : Here) (m : Meaning) (f : Frame) → Keeps f (used p here m f)
used_keeps p here (meanings.Push c) f = exchanged_keeps (tree p) here.max_stack _ f
used_keeps p here (meanings.Field op x) f = exchanged_keeps (tree p) here.max_stack _ f
used_keeps p here (meanings.Call by c) f = called_keeps p here by c f
used_keeps p here (meanings.Make c) f = make_keeps here.max_stack here.at f
used_keeps p here (meanings.MakeArray t) f = exchanged_keeps (tree p) here.max_stack _ f
used_keeps p here (meanings.Cast op t) f = exchanged_keeps (tree p) here.max_stack _ f

meaning_keeps : (p : Program) (here : Here) (o : Option Meaning) (f : Frame) → Keeps f (by_meaning p here o f)
meaning_keeps p here None f = tt
meaning_keeps p here (Some m) f = used_keeps p here m f

pub form_keeps : {S : Type 0} (p : Program) (here : Here) (pool : List Entry) (form : OpForm S) (f : Frame) → Keeps f (by_form p here pool form f)
unfolding by_form
form_keeps p here pool (forms.Simple form) f = exchanged_keeps (tree p) here.max_stack _ f
form_keeps p here pool (forms.Local form) f = local_keeps here.max_stack form f
form_keeps p here pool (forms.Stack form) f = rests_keeps f (move here.max_stack form f) (move_rests here.max_stack form f)
form_keeps p here pool (forms.Flow form) f = rests_keeps f (flow (tree p) here.is_init here.returns form f) (flow_rests (tree p) here.is_init here.returns form f)
form_keeps p here pool (forms.Array form) f = rests_keeps f (by_array p here pool form f) (by_array_rests p here pool form f)
form_keeps p here pool (forms.Pool form) f = meaning_keeps p here (meant p pool form) f
