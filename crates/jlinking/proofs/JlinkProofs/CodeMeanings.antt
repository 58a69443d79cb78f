-- In a program that links each instruction of a method's code has a meaning, and leads to instructions of its method.
use Rattle.std.proofs.Common.{◌≡◌, ℕ, ◌<◌, Bool, true, false, ◌||◌, List, [], ◌∷◌, length, get_or, Option, Some, None, refl, sym, ap, subst, ◌∙◌, arith}
use Rattle.std.specs.Prelude.{IsTrue, is_some, option_and_then, option_map, slice_get}
use Rattle.std.specs.List.{AllByRecursion, list_all}
use Rattle.std.specs.Option.{IsSome}
use Rattle.std.proofs.lemmas.Option.{slice_get-get_or}
use Rattle.jparts.specs.declared.jpool.entry.Entry.{Entry}
use Rattle.jparts.specs.jpool.ConstantPools.{is_class}
use Rattle.jparts.specs.declared.jcode.op_form.ArrayForm.{ArrayForm}
use Rattle.jparts.specs.declared.jcode.op_form.ArrayForm.TheVariants as arrays
use Rattle.jparts.specs.declared.jcode.op_form.OpForm.{OpForm}
use Rattle.jparts.specs.declared.jcode.op_form.OpForm.TheVariants as forms
use Rattle.jparts.specs.declared.jcode.op_form.Flow.TheVariants as flows
use Rattle.jparts.specs.declared.jcode.op_form.PoolForm.TheVariants as pool
use Rattle.jparts.specs.declared.jcode.names.CallOp.{CallOp}
use Rattle.jparts.specs.declared.jcode.names.CallOp.TheVariants as calls
use Rattle.jparts.specs.declared.jcode.names.ObjectOp.TheVariants as objects
use Rattle.jparts.specs.declared.jcode.op.NewOp.TheVariants as news
use Rattle.jparts.specs.declared.jcode.op.Op.{Op}
use Rattle.jparts.specs.declared.jcode.op.Op.TheVariants as ops
use Rattle.jparts.specs.declared.jcode.op.Placed.{Placed}
use Rattle.jparts.specs.declared.jcode.op.Switch.{Switch as SwitchOp}
use Rattle.jparts.specs.jcode.InstructionForms.{branches, form}
use Rattle.jparts.specs.ProofNames.{distance, ldc_index}
use Rattle.jparts.specs.jcode.Instructions.{lands, leads}
use Rattle.jclass.specs.declared.class.ClassParts.{ClassParts}
use Rattle.jclass.specs.declared.class.CodeBody.{CodeBody}
use Rattle.jclass.specs.declared.class.MemberInfo.{MemberInfo}
use Rattle.jclass.specs.Class.{class_file}
use Rattle.jclass.specs.PoolOperands.{is_called, is_interface_method, is_method, names_well}
use Rattle.jresolution.specs.declared.jprogram.member.MethodId.{MethodId}
use Rattle.jresolution.specs.declared.jprogram.part.CodePart.{CodePart}
use Rattle.jresolution.specs.jprogram.ClassFileParts.{code_of, this_name}
use Rattle.jresolution.specs.jprogram.ProgramClasses.{Program}
use Rattle.jresolution.specs.juses.IndexedInstructions.{Array, Instruction, Local, Simple, Stack, Used, body_in, by_form, code_at, instruction, instruction_at, instruction_in, targets}
use Rattle.jresolution.specs.ProofNames.{array}
use Rattle.jresolution.specs.juses.InstructionMeanings.{array_meant, meant}
use Rattle.jlinking.specs.jreferring.PoolEntryMeanings.{judge_pool}
use Rattle.jlinking.specs.jreferring.CodeUnits.{form_test}
use Rattle.jlinking.specs.jlink.ProgramFiles.{AreFiles, LeadsWithin}
use Rattle.jlinking.specs.jlink.LinkedPrograms.{Links}
use Rattle.jlinking.proofs.JlinkProofs.BranchTargets.{flow_there, flow_within}
use Rattle.jlinking.proofs.JlinkProofs.FittingClassFiles.{class_named, has_code, leads_well, named_well, text_short}
use Rattle.jlinking.proofs.JlinkProofs.PresentValues.{map_has, map_is, then_is}
use Rattle.jlinking.proofs.JlinkProofs.InstructionMeanings.{array_there, call_there, cast_there, constant_there, field_there, interface_there, long_there, new_there}
use Rattle.jlinking.proofs.JlinkProofs.ResolvedReferences.{class_none, code_none, op_form_none, op_none}

-- ---- an instruction

either_method : (a b : Bool) → a ≡ true → (a || b) ≡ true
either_method a b e = rw e refl

other_method : (a b : Bool) → b ≡ true → (a || b) ≡ true
other_method true b e = refl
other_method false b e = e

called_kind : (op : CallOp) (e : Option Entry) → is_called op e ≡ true → (is_method e || is_interface_method e) ≡ true
called_kind calls.Virtual e kind = either_method (is_method e) (is_interface_method e) kind
called_kind calls.Special e kind = kind
called_kind calls.Static e kind = kind

op_means : (p : Program) → Links p → AreFiles p → (c : ClassParts) → IsTrue (class_file.fits c) → (body : List Placed) (at : ℕ) (op : Op) → IsTrue (names_well c.pool op) → form_test (judge_pool p c) (form op) ≡ None
    → list_all (lands body at) (branches (form op)) ≡ true → IsSome (by_form p c.pool body at (form op))
unfolding form names_well branches is_class
op_means p links files c fit body at ops.Nop well none lead = refl
op_means p links files c fit body at ops.AconstNull well none lead = refl
op_means p links files c fit body at (ops.IntConst n) well none lead = refl
op_means p links files c fit body at (ops.LongConst n) well none lead = refl
op_means p links files c fit body at (ops.Ldc op) well none lead = map_has Used (meant p c.pool (pool.Constant (ldc_index op))) (constant_there p (this_name c) c.pool (ldc_index op) none)
op_means p links files c fit body at (ops.Ldc2 n) well none lead = map_has Used (meant p c.pool (pool.LongConstant n)) (long_there p (this_name c) c.pool n none)
op_means p links files c fit body at (ops.IntLocal op) well none lead = refl
op_means p links files c fit body at (ops.LongLocal op) well none lead = refl
op_means p links files c fit body at (ops.RefLocal op) well none lead = refl
op_means p links files c fit body at (ops.ArrayLoad element) well none lead = refl
op_means p links files c fit body at (ops.ArrayStore element) well none lead = refl
op_means p links files c fit body at (ops.Stack op) well none lead = refl
op_means p links files c fit body at (ops.Two op) well none lead = refl
op_means p links files c fit body at (ops.Divide op) well none lead = refl
op_means p links files c fit body at (ops.One op) well none lead = refl
op_means p links files c fit body at (ops.Iinc n by) well none lead = refl
op_means p links files c fit body at (ops.If test by) well none lead = flow_there body at (flows.If test by) lead
op_means p links files c fit body at (ops.IfInt test by) well none lead = flow_there body at (flows.IfInt test by) lead
op_means p links files c fit body at (ops.IfRef test by) well none lead = flow_there body at (flows.IfRef test by) lead
op_means p links files c fit body at (ops.Goto op) well none lead = flow_there body at (flows.Goto (distance op)) lead
op_means p links files c fit body at (ops.Switch switch) well none lead = flow_there body at (flows.Switch switch) lead
op_means p links files c fit body at (ops.Return kind) well none lead = refl
op_means p links files c fit body at (ops.Field op n) well none lead = map_has Used (meant p c.pool (pool.Field op n)) (field_there p links files (this_name c) c.pool op n well none)
op_means p links files c fit body at (ops.Call op n) well none lead = map_has Used (meant p c.pool (pool.Call op n)) (call_there p links files (this_name c) c.pool op n (called_kind op (slice_get c.pool n) well) none)
op_means p links files c fit body at (ops.CallInterface n slots) well none lead =
    map_has Used (meant p c.pool (pool.CallInterface n slots))
    (interface_there p links files (this_name c) c.pool n slots (other_method (is_method (slice_get c.pool n)) (is_interface_method (slice_get c.pool n)) well) none)
op_means p links files c fit body at (ops.New (news.Object n)) well none lead = map_has Used (meant p c.pool (pool.New n)) (new_there p (this_name c) c.pool (λ k i e. class_named c k i fit e) n well none)
op_means p links files c fit body at (ops.New (news.Array element)) well none lead = refl
op_means p links files c fit body at (ops.New (news.RefArray n)) well none lead = map_has Used (array_meant p c.pool n) (array_there p (this_name c) c.pool (λ k i e. class_named c k i fit e) (λ i t e. text_short c i t fit e) n well none)
op_means p links files c fit body at (ops.Object objects.ArrayLength) well none lead = refl
op_means p links files c fit body at (ops.Object objects.Throw) well none lead = refl
op_means p links files c fit body at (ops.Cast op n) well none lead = map_has Used (meant p c.pool (pool.Cast op n)) (cast_there p (this_name c) c.pool (λ k i e. class_named c k i fit e) op n well none)
op_means p links files c fit body at (ops.Wide op) well none lead = refl

placed_means : (p : Program) → Links p → AreFiles p → (c : ClassParts) → IsTrue (class_file.fits c) → (body : List Placed) (one : Placed) → IsTrue (names_well c.pool one.op) → form_test (judge_pool p c) (form one.op) ≡ None → IsTrue (leads body one)
    → IsSome (instruction p c.pool body one)
unfolding instruction
placed_means p links files c fit body one well none lead = op_means p links files c fit body one.at one.op well none lead

-- ---- a method's code

-- where the code of a method stands
pub record IsCoded (p : Program) (m : MethodId) (body : CodeBody) : Type 0 where
  pub part : CodePart
  pub stands : slice_get p.parts m.class ≡ Some part
  pub method : MemberInfo
  pub declared : slice_get part.class.methods m.method ≡ Some method
  pub coded : code_of method ≡ Some body

coded_in : (p : Program) (m : MethodId) (body : CodeBody) (part : CodePart) (c : ClassParts) → slice_get p.parts m.class ≡ Some part → part.class ≡ c → body_in c m.method ≡ Some body → IsCoded p m body
coded_in p m body part c stands same is =
    let b = then_is code_of (slice_get c.methods m.method) body is in
    record { part = part; stands = stands; method = b.0; declared = ap (λ (d : ClassParts). slice_get d.methods m.method) same ∙ b.1; coded = b.2 }

pub coded : (p : Program) (m : MethodId) (body : CodeBody) → code_at p m ≡ Some body → IsCoded p m body
coded p m body is =
    let c = then_is (λ c. body_in c m.method) (option_map (λ part. part.class) (slice_get p.parts m.class)) body is in
    let part = map_is (λ part. part.class) (slice_get p.parts m.class) c.0 c.1 in
    coded_in p m body part.0 c.0 part.1 part.2 c.2

pub at_code : (p : Program) (m : MethodId) (body : CodeBody) (i : ℕ) (r : IsCoded p m body) → instruction_at p m i ≡ option_and_then (instruction p r.part.class.pool body.ops) (slice_get body.ops i)
unfolding instruction_at
at_code p m body i r =
    ap (λ (o : Option CodePart). option_and_then (λ c. option_and_then (instruction_in p c i) (body_in c m.method)) (option_map (λ part. part.class) o)) r.stands
    ∙ ap (λ (o : Option MemberInfo). option_and_then (instruction_in p r.part.class i) (option_and_then code_of o)) r.declared
    ∙ ap (option_and_then (instruction_in p r.part.class i)) r.coded

in_range : {A : Type 0} (xs : List A) (i : ℕ) → i < length xs → (x : A) × (slice_get xs i ≡ Some x)
in_range [] i lt = absurd (omega arith)
in_range (x ∷ xs) i lt = (get_or (x ∷ xs) i x, slice_get-get_or (x ∷ xs) i x lt)

code_means : (p : Program) → Links p → AreFiles p → (m : MethodId) (body : CodeBody) (i : ℕ) → IsCoded p m body → i < length body.ops → IsSome (instruction_at p m i)
code_means p links files m body i r lt =
    let one = in_range body.ops i lt in
    let c = r.part.class in
    let fit = files m.class r.part r.stands in
    let has = has_code c r.method body fit (m.method, r.declared) r.coded in
    let fault = class_none p m.class r.part (code_none p links.rules) r.stands in
    let test = op_form_none (judge_pool p c) one.0 (op_none p m.class c m.method r.method body i one.0 fault r.declared r.coded one.1) in
    let means = placed_means p links files c fit body.ops one.0 (named_well c body one.0 has (i, one.1)) test (leads_well c body one.0 has (i, one.1)) in
    ap is_some (at_code p m body i r ∙ ap (option_and_then (instruction p c.pool body.ops)) one.1) ∙ means

-- each instruction has a meaning
pub means : (p : Program) (m : MethodId) (body : CodeBody) (i : ℕ) → Links p → AreFiles p → code_at p m ≡ Some body → i < length body.ops → IsSome (instruction_at p m i)
means p m body i links files is lt = code_means p links files m body i (coded p m body is) lt

-- ---- where it leads

abbrev Within : List Placed → Instruction → Type 0
Within body one = AllByRecursion (λ to. to < length body) (targets one)

used_within : {A : Type 0} (f : A → Instruction) (body : List Placed) (o : Option A) (one : Instruction) → ((x : A) → Within body (f x)) → option_map f o ≡ Some one → Within body one
used_within f body o one all e =
    let r = map_is f o one e in
    subst (Within body) r.2 (all r.0)

one_within : (body : List Placed) (made one : Instruction) → Within body made → Some made ≡ Some one → Within body one
one_within body made one within e =
    let same : made ≡ one = cc in
    subst (Within body) same within

array_within : (p : Program) (es : List Entry) (body : List Placed) (f : ArrayForm) (one : Instruction) → array p es f ≡ Some one → Within body one
array_within p es body (arrays.NewRef i) one e = used_within Used body (array_meant p es i) one (λ x. tt) e
array_within p es body (arrays.New kind) one e = one_within body (Array (arrays.New kind)) one tt e
array_within p es body (arrays.Load kind) one e = one_within body (Array (arrays.Load kind)) one tt e
array_within p es body (arrays.Store kind) one e = one_within body (Array (arrays.Store kind)) one tt e
array_within p es body arrays.Length one e = one_within body (Array arrays.Length) one tt e

form_within : (p : Program) (es : List Entry) (body : List Placed) (at : ℕ) (f : OpForm SwitchOp) (one : Instruction) → by_form p es body at f ≡ Some one → Within body one
form_within p es body at (forms.Simple f) one e = one_within body (Simple f) one tt e
form_within p es body at (forms.Local f) one e = one_within body (Local f) one tt e
form_within p es body at (forms.Stack f) one e = one_within body (Stack f) one tt e
form_within p es body at (forms.Flow f) one e = flow_within body at f one e
form_within p es body at (forms.Array f) one e = array_within p es body f one e
form_within p es body at (forms.Pool f) one e = used_within Used body (meant p es f) one (λ x. tt) e

placed_within : (p : Program) (es : List Entry) (body : List Placed) (placed : Placed) (one : Instruction) → instruction p es body placed ≡ Some one → Within body one
unfolding instruction
placed_within p es body placed one e = form_within p es body placed.at (form placed.op) one e

code_within : (p : Program) (m : MethodId) (body : CodeBody) (i : ℕ) (one : Instruction) → IsCoded p m body → instruction_at p m i ≡ Some one → LeadsWithin body one
code_within p m body i one r e =
    let x = then_is (instruction p r.part.class.pool body.ops) (slice_get body.ops i) one (sym (at_code p m body i r) ∙ e) in
    placed_within p r.part.class.pool body.ops x.0 one x.2

-- the numbers to which an instruction leads are those of instructions
pub leads_within : (p : Program) (m : MethodId) (body : CodeBody) (i : ℕ) (one : Instruction) → code_at p m ≡ Some body → instruction_at p m i ≡ Some one → LeadsWithin body one
leads_within p m body i one is e = code_within p m body i one (coded p m body is) e
