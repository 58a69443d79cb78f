-- The pool of a moved class meets the demands on pools.
use Rattle.std.proofs.Common.{◌≡◌, ℕ, suc, ◌≤◌, Bool, true, false, List, [], ◌∷◌, length, Option, Some, None, refl, ap, sym, ◌∙◌, subst, arith, inl, inr}
use Rattle.std.specs.Prelude.{IsTrue, is_some, slice_get, nat_lt, ◌||◌}
use Rattle.std.specs.List.{list_all}
use Rattle.std.proofs.lemmas.Bool.{cases_Bool, ltb-false}
use Rattle.jground.specs.jbase.FirstFaults.{first_along}
use Rattle.jground.proofs.JbaseProofs.Firsts.{none_of}
use Rattle.jground.specs.jformat.BodyFormats.{block}
use Rattle.jground.specs.jformat.Format.{is_good}
use Rattle.jground.proofs.JformatProofs.ReadingSteps.{both, first_true, second_true}
use Rattle.jparts.specs.declared.jpool.descriptor.Descriptor.TheVariants as descriptors
use Rattle.jparts.specs.declared.jpool.entry.Entry.{Entry}
use Rattle.jparts.specs.declared.jpool.entry.Entry.TheVariants.{Unused, Utf8, Integer, Float, Long, Double, Class, Str, Field, Method, InterfaceMethod, NameAndType, MethodHandle, MethodType, InvokeDynamic}
use Rattle.jparts.specs.jpool.PoolEntries.{shape}
use Rattle.jparts.specs.jpool.ConstantPools as pools
use Rattle.jparts.specs.jpool.ConstantPools.{is_utf8, utf8_at}
use Rattle.jparts.proofs.JpoolProofs.PoolLaws.{at_index}
use Rattle.jparts.specs.declared.jcode.names.CallOp.{CallOp}
use Rattle.jparts.specs.declared.jcode.names.CallOp.TheVariants as callops
use Rattle.jparts.specs.declared.jcode.op.Op.{Op}
use Rattle.jparts.specs.declared.jcode.op.Op.TheVariants as ops
use Rattle.jparts.specs.declared.jcode.op.Placed.{Placed}
use Rattle.jparts.specs.jcode.Instructions
use Rattle.jclass.specs.declared.class.Attribute.{Attribute}
use Rattle.jclass.specs.declared.class.Attribute.TheVariants as attributes
use Rattle.jclass.specs.declared.class.ClassParts.{ClassParts}
use Rattle.jclass.specs.declared.class.CodeBody.{CodeBody}
use Rattle.jclass.specs.declared.class.MemberInfo.{MemberInfo}
use Rattle.jclass.specs.declared.fault.ClassFault.TheVariants as kinds
use Rattle.jclass.specs.IndexFormats.{u2}
use Rattle.jclass.specs.Class.{class_file, class_parts, strict, tail}
use Rattle.jclass.specs.CodeFormat.{code_content, code_length, frames_in}
use Rattle.jclass.specs.CodeFormat as codes
use Rattle.jclass.specs.PoolChecks as judging
use Rattle.jclass.specs.PoolChecks.{entry_fault, no_fault, text_fault}
use Rattle.jclass.specs.MemberFormat.{body_of}
use Rattle.jclass.specs.PoolOperands.{is_called, is_interface_method, is_method, names_well}
use Rattle.jclass.specs.ClassFileShape as shapes
use Rattle.jclass.specs.ProofNames
use Rattle.jclass.specs.FileContents.{HasCode, IsIn}
use Rattle.jclass.proofs.FittingClasses.{code_fits}
use Rattle.jlib.specs.declared.calls.ControllerCall.{ControllerCall}
use Rattle.jlib.specs.declared.calls.ControllerCall.TheVariants as controller
use Rattle.jlib.specs.declared.calls.LibCall.{LibCall}
use Rattle.jlib.specs.declared.calls.LibCall.TheVariants as calls
use Rattle.jlib.specs.declared.calls.ThreadCall.TheVariants as thread
use Rattle.jmove.specs.declared.method.Expand.{Expand}
use Rattle.jmove.specs.declared.method.Expand.TheVariants.{Same, Call, Check, Snapshot, Privileged, PrivilegedWith, PrivilegedLimited}
use Rattle.jmove.specs.PoolAdditions.{IsFront, with_body, with_text, ◌>>◌}
use Rattle.jmove.proofs.PoolGrowth.{body_grows, front_on, front_self}
use Rattle.jresolution.specs.declared.jprogram.member.Member.{Member}
use Rattle.jresolution.specs.declared.jprogram.member.Member.TheVariants as members
use Rattle.jresolution.specs.jprogram.ProgramClasses.{Program}
use Rattle.jresolution.specs.jprogram.MemberResolution.{referred}
use Rattle.jresolution.specs.jprogram.ClassFileParts.{member_desc, or_empty}
use Rattle.jmoveclass.specs.declared.limit.Limit.{Limit}
use Rattle.jmoveclass.specs.declared.limit.RewriteKind.TheVariants.{PoolFull}
use Rattle.jmoveclass.specs.CallExpansion.{calling, expand_by, expands}
use Rattle.jmoveclass.specs.ClassLimits.{at_method, class_limit, method_limit, pool_limit}
use Rattle.jmoveclass.specs.MovedMembers.{frames_of, method_in, new_desc, with_attribute, with_code, with_first, with_method}
use Rattle.jmoveclass.specs.MovedClasses.{moved_class}
use Rattle.jmoveclass.specs.PoolPuts.{with_each}
use Rattle.jmoveclass.proofs.Growth.{attribute_grows, first_grows, method_grows}
use Rattle.jmoveclass.proofs.TextLengths.{moved_short}
use Rattle.jmoveclass.proofs.MethodContents.{begun, is_method_of}
use Rattle.jmoveclass.proofs.ItemAdditions.{each_grows}
use Rattle.jrewriting.proofs.JmoveclassLawsProofs.PrologueClasses.{AreItems, Begins, begins_of, desc_text, put_first}
use Rattle.jrewriting.proofs.JmoveclassLawsProofs.CallReferences.{AreCalls, IsBody, IsCall, kind_in, put_body}
use Rattle.jrewriting.specs.jmoveclass_laws.MovedFiles.{CanBeFile, HasRoom, HaveRoom}
use Rattle.jrewriting.proofs.JmoveclassLawsProofs.SoundPools.{IsSound, IsText, entry_front, front_length, map_good, name_text, or_good, put_text}
use Rattle.jrewriting.proofs.JmoveclassLawsProofs.Texts.{longer, longer_text, moved_is, or_second}

-- ---- the pool of a class file

head_fits : (c : ClassParts) → IsTrue (class_file.fits c) → IsTrue (judging.head.fits (class_parts c).0)
unfolding class_file strict
head_fits c fit = first_true (judging.head.fits (class_parts c).0) ((tail c.pool).fits (class_parts c).1) fit

head_parts : (c : ClassParts) → IsTrue (judging.head.fits (class_parts c).0) → IsTrue (shapes.head.fits (class_parts c).0) × IsTrue (no_fault c.pool)
unfolding judging.head
head_parts c h = (first_true (shapes.head.fits (class_parts c).0) (no_fault c.pool) h, second_true (shapes.head.fits (class_parts c).0) (no_fault c.pool) h)

shape_of : (c : ClassParts) → IsTrue (shapes.head.fits (class_parts c).0) → IsTrue (shape.fits c.pool)
unfolding shapes.head shapes.entries
shape_of c h =
    let a = second_true (ProofNames.magic.fits tt) _ h in
    let b = second_true (u2.fits c.minor) _ a in
    second_true (shapes.major.fits c.major) (shape.fits c.pool) b

class_good : (pool : List Entry) (n : ℕ) → IsTrue (is_good (pools.entry_fault pool (Class n))) → IsTrue (is_some (utf8_at pool n))
unfolding pools.entry_fault
class_good pool n h = name_text (utf8_at pool n) h

utf8_some : (pool : List Entry) (n : ℕ) → IsTrue (is_some (utf8_at pool n)) → IsTrue (is_utf8 pool n)
unfolding is_utf8 utf8_at
utf8_some pool n h = h

names_text : (pool : List Entry) (i n : ℕ) → IsTrue (no_fault pool) → slice_get pool i ≡ Some (Class n) → IsTrue (is_utf8 pool n)
unfolding no_fault entry_fault
names_text pool i n good at =
    let g = at_index (λ one. is_good (entry_fault pool one)) pool i (Class n) good at in
    utf8_some pool n (class_good pool n (map_good (pools.entry_fault pool (Class n)) (or_good (text_fault (Class n)) _ g).1))

pub sound_of : (c : ClassParts) → IsTrue (class_file.fits c) → IsSound c.pool
sound_of c fit =
    let h = head_parts c (head_fits c fit) in
    record {
      is_pool = record { laid = shape_of c h.0; named = λ i n at. names_text c.pool i n h.1 at };
      begun = begun c fit;
      good = h.1;
    }

-- ---- calls that change

-- of what calls become only the same call is handed a context
abbrev pub CallsOnly : ℕ → Expand → Type 0
CallsOnly n (Call i) = i ≡ n
CallsOnly n k = Unit {0}

asking_only : (n : ℕ) (one : ControllerCall) → CallsOnly n (calling n (Some (members.LibMethod (calls.Controller one))))
asking_only n controller.Check = tt
asking_only n controller.Snapshot = tt
asking_only n controller.Privileged = tt
asking_only n controller.PrivilegedWith = tt
asking_only n controller.PrivilegedLimited = tt

library_only : (n : ℕ) (one : LibCall) → CallsOnly n (calling n (Some (members.LibMethod one)))
library_only n (calls.Run side) = refl
library_only n (calls.RunAction side) = refl
library_only n (calls.Thread (thread.Init side)) = refl
library_only n (calls.Thread thread.Start) = tt
library_only n (calls.Thread thread.Join) = tt
library_only n (calls.Thread thread.Yield) = tt
library_only n (calls.Controller one) = asking_only n one
library_only n calls.ObjectInit = tt
library_only n (calls.ThrownInit t i) = tt
library_only n calls.AccessControlInit = tt
library_only n calls.GetMessage = tt
library_only n (calls.String one) = tt
library_only n (calls.Builder one) = tt
library_only n calls.Out = tt
library_only n calls.PrintEnd = tt
library_only n (calls.Print piece) = tt
library_only n calls.ContextCheck = tt
library_only n (calls.PermissionInit one) = tt
library_only n (calls.Rt one) = tt

pub calling_only : (n : ℕ) (o : Option Member) → CallsOnly n (calling n o)
calling_only n None = tt
calling_only n (Some (members.Field i j)) = tt
calling_only n (Some (members.Method m)) = refl
calling_only n (Some members.LibField) = tt
calling_only n (Some (members.LibMethod one)) = library_only n one

-- the reference of a call
pub record IsKind (e : Option Entry) : Type 0 where
  pub kind : Bool
  pub is : kind_in e ≡ Some kind

pub kind_by : (e : Option Entry) → IsTrue (is_method e || is_interface_method e) → IsKind e
kind_by (Some (Method c d)) h = record { kind = false; is = refl }
kind_by (Some (InterfaceMethod c d)) h = record { kind = true; is = refl }
kind_by None h = absurd cc
kind_by (Some Unused) h = absurd cc
kind_by (Some (Utf8 t)) h = absurd cc
kind_by (Some (Integer n)) h = absurd cc
kind_by (Some (Float n)) h = absurd cc
kind_by (Some (Long n)) h = absurd cc
kind_by (Some (Double n)) h = absurd cc
kind_by (Some (Class n)) h = absurd cc
kind_by (Some (Str n)) h = absurd cc
kind_by (Some (Field c d)) h = absurd cc
kind_by (Some (NameAndType n d)) h = absurd cc
kind_by (Some (MethodHandle k m)) h = absurd cc
kind_by (Some (MethodType d)) h = absurd cc
kind_by (Some (InvokeDynamic k d)) h = absurd cc

pub or_first : (a b : Bool) → IsTrue a → IsTrue (a || b)
or_first true b h = refl
or_first false b h = absurd cc

called_kind : (o : CallOp) (e : Option Entry) → IsTrue (is_called o e) → IsKind e
called_kind callops.Virtual e h = kind_by e (or_first (is_method e) (is_interface_method e) h)
called_kind callops.Special e h = kind_by e h
called_kind callops.Static e h = kind_by e h

is_call_by : (base : List Entry) (k : Expand) (n : ℕ) → CallsOnly n k → IsKind (slice_get base n) → (k ≡ Call n → HasRoom base n) → IsCall base k
is_call_by base Same n only kind room = tt
is_call_by base (Call i) n only kind room =
    let there : IsCall base (Call n) = (kind.kind, (kind.is, room (ap (λ (j : ℕ). Call j) only))) in
    subst (λ (j : ℕ). IsCall base (Call j)) (sym only) there
is_call_by base (Check i) n only kind room = tt
is_call_by base (Snapshot i) n only kind room = tt
is_call_by base (Privileged i) n only kind room = tt
is_call_by base (PrivilegedWith i) n only kind room = tt
is_call_by base (PrivilegedLimited i) n only kind room = tt

call_of : (p : Program) (c : ClassParts) (n : ℕ) → HaveRoom p c → IsKind (slice_get c.pool n) → IsCall c.pool (calling n (referred p c.pool (slice_get c.pool n)))
call_of p c n room kind = is_call_by c.pool (calling n (referred p c.pool (slice_get c.pool n))) n (calling_only n (referred p c.pool (slice_get c.pool n))) kind (room n)

op_call : (p : Program) (c : ClassParts) (op : Op) → HaveRoom p c → IsTrue (names_well c.pool op) → IsCall c.pool (expand_by (λ n. referred p c.pool (slice_get c.pool n)) op)
unfolding names_well
op_call p c (ops.Call o n) room h = call_of p c n room (called_kind o (slice_get c.pool n) h)
op_call p c (ops.CallInterface n slots) room h = call_of p c n room (kind_by (slice_get c.pool n) (or_second (is_method (slice_get c.pool n)) (is_interface_method (slice_get c.pool n)) h))
op_call p c ops.Nop room h = tt
op_call p c ops.AconstNull room h = tt
op_call p c (ops.IntConst n) room h = tt
op_call p c (ops.LongConst n) room h = tt
op_call p c (ops.Ldc op) room h = tt
op_call p c (ops.Ldc2 m) room h = tt
op_call p c (ops.IntLocal op) room h = tt
op_call p c (ops.LongLocal op) room h = tt
op_call p c (ops.RefLocal op) room h = tt
op_call p c (ops.ArrayLoad element) room h = tt
op_call p c (ops.ArrayStore element) room h = tt
op_call p c (ops.Stack op) room h = tt
op_call p c (ops.Two op) room h = tt
op_call p c (ops.Divide op) room h = tt
op_call p c (ops.One op) room h = tt
op_call p c (ops.Iinc m by) room h = tt
op_call p c (ops.If test by) room h = tt
op_call p c (ops.IfInt test by) room h = tt
op_call p c (ops.IfRef test by) room h = tt
op_call p c (ops.Goto op) room h = tt
op_call p c (ops.Switch s) room h = tt
op_call p c (ops.Return kind) room h = tt
op_call p c (ops.Field op m) room h = tt
op_call p c (ops.New op) room h = tt
op_call p c (ops.Object op) room h = tt
op_call p c (ops.Cast op m) room h = tt
op_call p c (ops.Wide op) room h = tt

ops_calls : (p : Program) (c : ClassParts) (is : List Placed) → HaveRoom p c → IsTrue (list_all (λ i. names_well c.pool i.op) is) → AreCalls c.pool (expands p c.pool is)
unfolding expands
ops_calls p c [] room h = tt
ops_calls p c (i ∷ is) room h =
    (op_call p c i.op room (first_true (names_well c.pool i.op) (list_all (λ x. names_well c.pool x.op) is) h), ops_calls p c is room (second_true (names_well c.pool i.op) (list_all (λ x. names_well c.pool x.op) is) h))

pub ops_named : (pool : List Entry) (b : CodeBody) → IsTrue ((code_content pool).fits b) → IsTrue (list_all (λ i. names_well pool i.op) b.ops)
unfolding code_content codes.ops
ops_named pool b fit =
    let a = second_true (u2.fits b.max_stack) _ fit in
    let c = second_true (u2.fits b.max_locals) _ a in
    let d = first_true ((block code_length kinds.Truncated (codes.ops pool)).fits b.ops) ((codes.behind_ops pool b.ops).fits (b.handlers, b.attributes)) c in
    let e = first_true ((codes.ops pool).fits b.ops) (code_length.fits (length (Instructions.code.spell b.ops))) d in
    second_true (Instructions.code.fits b.ops) (list_all (λ i. names_well pool i.op) b.ops) e

pub code_calls : (p : Program) (c : ClassParts) (b : CodeBody) → HasCode c b → HaveRoom p c → AreCalls c.pool (expands p c.pool b.ops)
code_calls p c b has room = ops_calls p c b.ops room (ops_named c.pool b (code_fits c b has))

-- ---- what is put, method by method

-- the pool has grown from the class's
pub record Grown (base pool : List Entry) : Type 0 where
  pub front : IsFront base pool
  pub before : IsSound base
  pub sound : IsSound pool

-- what was put for a code: the classes that its frames begin with, and what it calls and names
pub record IsCodePut (p : Program) (c : ClassParts) (m : MemberInfo) (b : CodeBody) (pool : List Entry) : Type 0 where
  pub items : AreItems (with_first c m (frames_in b) pool).1 (with_first c m (frames_in b) pool).0
  pub body : IsBody c.pool (expands p c.pool b.ops) (frames_of (with_first c m (frames_in b) pool).0 b)
      (with_body (expands p c.pool b.ops) (frames_of (with_first c m (frames_in b) pool).0 b) (with_first c m (frames_in b) pool).1)

pub code_put : (p : Program) (c : ClassParts) (domain : ℕ) (m : MemberInfo) (name : ℕ) (b : CodeBody) (pool : List Entry) → Grown c.pool pool → Begins c m → AreCalls c.pool (expands p c.pool b.ops)
    → length (with_code p c domain m name b pool).1 ≤ 65535 → IsCodePut p c m b pool
unfolding with_code ◌>>◌
code_put p c domain m name b pool g begins calls few =
    let x = with_first c m (frames_in b) pool in
    let ks = expands p c.pool b.ops in
    let fs = (method_in c m b x.0).frames in
    let y = with_body ks fs x.1 in
    let le : length x.1 ≤ length y.1 = front_length x.1 y.1 ((body_grows ks fs).on x.1) in
    let q = put_first c m (frames_in b) pool g.sound begins (omega arith) in
    record {
      items = q.1;
      body = put_body c.pool ks fs x.1 (front_on c.pool pool x.1 g.front ((first_grows c m (frames_in b)).on pool)) g.before q.0 calls few;
    }

put_code : (p : Program) (c : ClassParts) (domain : ℕ) (m : MemberInfo) (name : ℕ) (b : CodeBody) (pool : List Entry) → Grown c.pool pool → Begins c m → AreCalls c.pool (expands p c.pool b.ops)
    → length (with_code p c domain m name b pool).1 ≤ 65535 → IsSound (with_code p c domain m name b pool).1
unfolding with_code ◌>>◌
put_code p c domain m name b pool g begins calls few = (code_put p c domain m name b pool g begins calls few).body.sound

pub put_attribute : (p : Program) (c : ClassParts) (domain : ℕ) (m : MemberInfo) (a : Attribute) (pool : List Entry) → Grown c.pool pool → Begins c m
    → ((b : CodeBody) → body_of a ≡ Some b → AreCalls c.pool (expands p c.pool b.ops)) → length (with_attribute p c domain m a pool).1 ≤ 65535 → IsSound (with_attribute p c domain m a pool).1
unfolding ◌>>◌
put_attribute p c domain m (attributes.Code name stack locals is handlers others) pool g begins calls few =
    let b : CodeBody = record { max_stack = stack; max_locals = locals; ops = is; handlers = handlers; attributes = others } in
    put_code p c domain m name b pool g begins (calls b refl) few
put_attribute p c domain m (attributes.ConstantValue name value) pool g begins calls few = g.sound
put_attribute p c domain m (attributes.Raw name bytes) pool g begins calls few = g.sound

put_attributes : (p : Program) (c : ClassParts) (domain : ℕ) (m : MemberInfo) (xs : List Attribute) (pool : List Entry) → Grown c.pool pool → Begins c m
    → ((i : ℕ) (a : Attribute) (b : CodeBody) → slice_get xs i ≡ Some a → body_of a ≡ Some b → AreCalls c.pool (expands p c.pool b.ops))
    → length (with_each (with_attribute p c domain m) xs pool).1 ≤ 65535 → IsSound (with_each (with_attribute p c domain m) xs pool).1
unfolding with_each ◌>>◌
put_attributes p c domain m [] pool g begins calls few = g.sound
put_attributes p c domain m (a ∷ xs) pool g begins calls few =
    let x = with_attribute p c domain m a pool in
    let y = with_each (with_attribute p c domain m) xs x.1 in
    let le : length x.1 ≤ length y.1 = front_length x.1 y.1 ((each_grows (with_attribute p c domain m) (attribute_grows p c domain m) xs).on x.1) in
    let q = put_attribute p c domain m a pool g begins (λ b e. calls 0 a b refl e) (omega arith) in
    put_attributes p c domain m xs x.1 (record { front = front_on c.pool pool x.1 g.front ((attribute_grows p c domain m a).on pool); before = g.before; sound = q }) begins (λ i d b at e. calls (suc i) d b at e) few

-- the new descriptor of a method
pub new_text : (c : ClassParts) (m : MemberInfo) → IsTrue (class_file.fits c) → IsSound c.pool → IsIn m c.methods → length (member_desc c m) ≤ 65526 → IsText (new_desc c m)
new_text c m fit s there short =
    let d = is_method_of c m fit there in
    let is : new_desc c m ≡ longer d.params d.ret = ap or_empty (moved_is (member_desc c m) d.params d.ret d.is) in
    let few : length (new_desc c m) ≤ 65535 = moved_short (member_desc c m) short in
    let text = desc_text c m (descriptors.Method d.params d.ret) s d.is in
    subst IsText (sym is) (longer_text (member_desc c m) d.params d.ret text d.is (subst (λ (l : List ℕ). length l ≤ 65535) is few))

-- what is known of a class that is to be moved
pub record Movable (p : Program) (c : ClassParts) : Type 0 where
  pub good : IsTrue (class_file.fits c)
  pub sound : IsSound c.pool
  pub short : (m : MemberInfo) → IsIn m c.methods → length (member_desc c m) ≤ 65526
  pub room : HaveRoom p c

pub put_method : (p : Program) (c : ClassParts) (domain : ℕ) (m : MemberInfo) (pool : List Entry) → Movable p c → IsIn m c.methods → Grown c.pool pool → length (with_method p c domain m pool).1 ≤ 65535 → IsSound (with_method p c domain m pool).1
unfolding with_method ◌>>◌
put_method p c domain m pool k there g few =
    let text = new_desc c m in
    let x = with_text text pool in
    let y = with_each (with_attribute p c domain m) m.attributes x.1 in
    let le : length x.1 ≤ length y.1 = front_length x.1 y.1 ((each_grows (with_attribute p c domain m) (attribute_grows p c domain m) m.attributes).on x.1) in
    let q = put_text text pool g.sound (new_text c m k.good k.sound there (k.short m there)) (omega arith) in
    put_attributes p c domain m m.attributes x.1 (record { front = front_on c.pool pool x.1 g.front (entry_front (Utf8 text) pool); before = g.before; sound = q.sound }) (begins_of c m k.good k.sound there)
    (λ i a b at e. code_calls p c b (record { good = k.good; method = m; attribute = a; in_class = there; in_method = (i, at); is_body = e }) k.room) few

put_methods : (p : Program) (c : ClassParts) (domain : ℕ) (ms : List MemberInfo) (pool : List Entry) → Movable p c → ((i : ℕ) (m : MemberInfo) → slice_get ms i ≡ Some m → IsIn m c.methods) → Grown c.pool pool
    → length (with_each (with_method p c domain) ms pool).1 ≤ 65535 → IsSound (with_each (with_method p c domain) ms pool).1
unfolding with_each ◌>>◌
put_methods p c domain [] pool k there g few = g.sound
put_methods p c domain (m ∷ ms) pool k there g few =
    let x = with_method p c domain m pool in
    let y = with_each (with_method p c domain) ms x.1 in
    let le : length x.1 ≤ length y.1 = front_length x.1 y.1 ((each_grows (with_method p c domain) (method_grows p c domain) ms).on x.1) in
    let q = put_method p c domain m pool k (there 0 m refl) g (omega arith) in
    put_methods p c domain ms x.1 k (λ i d at. there (suc i) d at) (record { front = front_on c.pool pool x.1 g.front ((method_grows p c domain m).on pool); before = g.before; sound = q }) few

-- ---- the class

abbrev full : Limit
full = record { method = None; kind = PoolFull }

full_is : (n : ℕ) → nat_lt 0xffff n ≡ true → pool_limit n ≡ Some full
full_is n h = rw h refl

few_entries : (n : ℕ) → pool_limit n ≡ None → n ≤ 65535
few_entries n h = elim (cases_Bool (nat_lt 0xffff n)) [
  | inl more ↦ let no : Some full ≡ None = sym (full_is n more) ∙ h in absurd cc
  | inr less ↦ ltb-false 0xffff n less
]

pub few_in : (p : Program) (domain : ℕ) (c : ClassParts) → class_limit p domain c ≡ None → length (moved_class p domain c).pool ≤ 65535
unfolding class_limit
few_in p domain c h =
    let n = length (moved_class p domain c).pool in
    few_entries n (none_of (first_along (λ j m. at_method j (method_limit p c m)) 0 c.methods) (pool_limit n) h).1

pub moved_sound : (p : Program) (domain : ℕ) (c : ClassParts) → CanBeFile p domain c → IsSound (moved_class p domain c).pool
unfolding moved_class
moved_sound p domain c k =
    let s = sound_of c k.good in
    put_methods p c domain c.methods c.pool (record { good = k.good; sound = s; short = k.short; room = k.room }) (λ i m at. (i, at)) (record { front = front_self c.pool; before = s; sound = s }) (few_in p domain c k.none)

head_with : (c : ClassParts) (pool : List Entry) → IsTrue (shapes.head.fits (class_parts c).0) → IsTrue (shape.fits pool) → IsTrue (shapes.head.fits (tt, (c.minor, (c.major, pool))))
unfolding shapes.head shapes.entries
head_with c pool h good =
    let a = second_true (ProofNames.magic.fits tt) _ h in
    let b = second_true (u2.fits c.minor) _ a in
    both _ _ (first_true (ProofNames.magic.fits tt) _ h) (both _ _ (first_true (u2.fits c.minor) _ a) (both _ _ (first_true (shapes.major.fits c.major) (shape.fits c.pool) b) good))

pub head_stays : (p : Program) (domain : ℕ) (c : ClassParts) → CanBeFile p domain c → IsTrue (judging.head.fits (class_parts (moved_class p domain c)).0)
unfolding judging.head moved_class
head_stays p domain c k =
    let s = moved_sound p domain c k in
    let h = head_parts c (head_fits c k.good) in
    both (shapes.head.fits (class_parts (moved_class p domain c)).0) (no_fault (moved_class p domain c).pool) (head_with c (moved_class p domain c).pool h.0 s.is_pool.laid) s.good
