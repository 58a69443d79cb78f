-- The rule of an instruction is that of its form.
use Rattle.std.proofs.Common.{◌≡◌, ℕ, List, Option, Some, None, refl, sym, ap, subst}
use Rattle.std.specs.Prelude.{option_and_then, option_map}
use Rattle.jparts.specs.declared.jpool.entry.Entry.{Entry}
use Rattle.jparts.specs.declared.jcode.op.Placed.{Placed}
use Rattle.jparts.specs.declared.jcode.op.Switch.{Switch}
use Rattle.jparts.specs.declared.jcode.op_form.OpForm.{OpForm}
use Rattle.jparts.specs.declared.jcode.op_form.OpForm.TheVariants as forms
use Rattle.jparts.specs.declared.jcode.op_form.Flow.{Flow}
use Rattle.jparts.specs.declared.jcode.op_form.Flow.TheVariants as flows
use Rattle.jparts.specs.declared.jcode.op_form.ArrayForm.{ArrayForm}
use Rattle.jparts.specs.declared.jcode.op_form.ArrayForm.TheVariants as arrays
use Rattle.jtypes.specs.TypeFrames.{Frame}
use Rattle.jresolution.specs.jprogram.ProgramClasses.{Program, tree}
use Rattle.jresolution.specs.juses.IndexedInstructions as instructions
use Rattle.jtyping.specs.ProofNames
use Rattle.jresolution.specs.ProofNames as ResolutionNames
use Rattle.jresolution.specs.juses.IndexedInstructions.{Instruction, Test}
use Rattle.jresolution.specs.juses.InstructionMeanings.{Meaning, array_meant, meant}
use Rattle.jtyping.specs.jrule.FormRules.{IsByForm, by_form, by_meaning}
use Rattle.jtyping.specs.jrule.InstructionContext.{Here}
use Rattle.jtyping.specs.jrule.TypingRule.{rule}
use Rattle.jtyping.specs.jrule.BasicRule as straight

abbrev either : {A : Type 0} → A → Option A → A
either d None = d
either d (Some x) = x

-- what holds of an instruction that is found
of_one : (i j : Instruction) (P : Instruction → Type 0) → Some i ≡ Some j → P i → P j
of_one i j P e h = subst P (ap (either i) e) h

of_found : {A : Type 0} (o : Option A) (g : A → Instruction) (j : Instruction) (P : Instruction → Type 0) → option_map g o ≡ Some j → ((a : A) → o ≡ Some a → P (g a)) → P j
of_found None g j P e h = absurd cc
of_found (Some a) g j P e h = of_one (g a) j P e (h a refl)

of_both : {A : Type 0} (o : Option A) (g : A → Option Instruction) (j : Instruction) (P : Instruction → Type 0) → option_and_then g o ≡ Some j → ((a : A) → g a ≡ Some j → P j) → P j
of_both None g j P e h = absurd cc
of_both (Some a) g j P e h = h a e

abbrev Agrees : Program → Here → List Entry → OpForm Switch → Frame → Instruction → Type 0
Agrees p here pool form f i = rule p here i f ≡ by_form p here pool form f

jump_agrees : (p : Program) (here : Here) (f : Frame) (test : Test) (to : Option ℕ) (i : Instruction) → option_map (instructions.Jump test) to ≡ Some i → rule p here i f ≡ straight.jump (tree p) test f
unfolding rule
jump_agrees p here f test to i e = of_found to (instructions.Jump test) i (λ i. rule p here i f ≡ straight.jump (tree p) test f) e (λ a is. refl)

switch_agrees : (p : Program) (here : Here) (ops : List Placed) (at : ℕ) (s : Switch) (f : Frame) (i : Instruction) → instructions.switch ops at s ≡ Some i → rule p here i f ≡ ProofNames.switch (tree p) f
unfolding rule
switch_agrees p here ops at s f i e =
    of_both (instructions.cases ops at s) (λ found. option_map (instructions.Switch found) (instructions.target ops at (instructions.default s))) i
    (λ i. rule p here i f ≡ ProofNames.switch (tree p) f) e
    (λ found h. of_found (instructions.target ops at (instructions.default s)) (instructions.Switch found) i (λ i. rule p here i f ≡ ProofNames.switch (tree p) f) h (λ a is. refl))

flow_agrees : (p : Program) (here : Here) (ops : List Placed) (at : ℕ) (form : Flow Switch) (i : Instruction) (f : Frame) → instructions.flow ops at form ≡ Some i → rule p here i f ≡ straight.flow (tree p) here.is_init here.returns form f
unfolding rule
flow_agrees p here ops at (flows.If test by) i f e = jump_agrees p here f (instructions.If test) (instructions.target ops at by) i e
flow_agrees p here ops at (flows.IfInt test by) i f e = jump_agrees p here f (instructions.IfInt test) (instructions.target ops at by) i e
flow_agrees p here ops at (flows.IfRef test by) i f e = jump_agrees p here f (instructions.IfRef test) (instructions.target ops at by) i e
flow_agrees p here ops at (flows.Goto by) i f e = jump_agrees p here f instructions.Always (instructions.target ops at by) i e
flow_agrees p here ops at (flows.Switch s) i f e = switch_agrees p here ops at s f i e
flow_agrees p here ops at (flows.Return kind) i f e = of_one (instructions.Return kind) i (λ i. rule p here i f ≡ straight.leave (tree p) here.is_init here.returns kind f) e refl
flow_agrees p here ops at flows.Throw i f e = of_one instructions.Throw i (λ i. rule p here i f ≡ ProofNames.throw (tree p) f) e refl

used_agrees : (p : Program) (here : Here) (f : Frame) (m : Option Meaning) (i : Instruction) → option_map instructions.Used m ≡ Some i → rule p here i f ≡ by_meaning p here m f
unfolding rule
used_agrees p here f m i e = of_found m instructions.Used i (λ i. rule p here i f ≡ by_meaning p here m f) e (λ a is. sym (ap (λ o. by_meaning p here o f) is))

array_agrees : (p : Program) (here : Here) (pool : List Entry) (form : ArrayForm) (i : Instruction) (f : Frame) → ResolutionNames.array p pool form ≡ Some i → Agrees p here pool (forms.Array form) f i
unfolding rule by_form
array_agrees p here pool (arrays.NewRef n) i f e = used_agrees p here f (array_meant p pool n) i e
array_agrees p here pool (arrays.New kind) i f e = of_one (instructions.Array (arrays.New kind)) i (Agrees p here pool (forms.Array (arrays.New kind)) f) e refl
array_agrees p here pool (arrays.Load items) i f e = of_one (instructions.Array (arrays.Load items)) i (Agrees p here pool (forms.Array (arrays.Load items)) f) e refl
array_agrees p here pool (arrays.Store items) i f e = of_one (instructions.Array (arrays.Store items)) i (Agrees p here pool (forms.Array (arrays.Store items)) f) e refl
array_agrees p here pool arrays.Length i f e = of_one (instructions.Array arrays.Length) i (Agrees p here pool (forms.Array arrays.Length) f) e refl

pub form_agrees : (p : Program) → IsByForm p
unfolding rule by_form
form_agrees p here pool ops at (forms.Simple form) i f e = of_one (instructions.Simple form) i (Agrees p here pool (forms.Simple form) f) e refl
form_agrees p here pool ops at (forms.Local form) i f e = of_one (instructions.Local form) i (Agrees p here pool (forms.Local form) f) e refl
form_agrees p here pool ops at (forms.Stack form) i f e = of_one (instructions.Stack form) i (Agrees p here pool (forms.Stack form) f) e refl
form_agrees p here pool ops at (forms.Flow form) i f e = flow_agrees p here ops at form i f e
form_agrees p here pool ops at (forms.Array form) i f e = array_agrees p here pool form i f e
form_agrees p here pool ops at (forms.Pool form) i f e = used_agrees p here f (meant p pool form) i e
