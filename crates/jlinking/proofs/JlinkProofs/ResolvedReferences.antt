-- In a program that links each reference that an instruction names has a member.
use Rattle.std.proofs.Common.{◌≡◌, ℕ, zero, suc, true, List, [], ◌∷◌, map, Option, Some, None, refl, sym, ap, subst, ◌∙◌}
use Rattle.std.specs.Prelude.{is_some, option_and_then, option_map, slice_get}
use Rattle.std.proofs.lemmas.Option.{slice_get-map}
use Rattle.jground.specs.jbase.FirstFaults.{fault_if, first_some, or_else}
use Rattle.jground.proofs.JbaseProofs.Firsts.{none_fails, none_of}
use Rattle.jparts.specs.declared.jpool.entry.Entry.{Entry}
use Rattle.jparts.specs.declared.jpool.entry.Entry.TheVariants as entries
use Rattle.jparts.specs.declared.jcode.op_form.OpForm.{OpForm}
use Rattle.jparts.specs.declared.jcode.op_form.OpForm.TheVariants as forms
use Rattle.jparts.specs.declared.jcode.op_form.PoolForm.TheVariants as pool
use Rattle.jparts.specs.declared.jcode.names.CallOp.{CallOp}
use Rattle.jparts.specs.declared.jcode.names.FieldOp.{FieldOp}
use Rattle.jparts.specs.declared.jcode.op.Placed.{Placed}
use Rattle.jparts.specs.jcode.InstructionForms.{form}
use Rattle.jclass.specs.declared.class.ClassParts.{ClassParts}
use Rattle.jclass.specs.declared.class.CodeBody.{CodeBody}
use Rattle.jclass.specs.declared.class.MemberInfo.{MemberInfo}
use Rattle.jresolution.specs.declared.jprogram.fault.LinkKind.{LinkKind}
use Rattle.jresolution.specs.declared.jprogram.fault.LinkKind.TheVariants.{LeftOut}
use Rattle.jresolution.specs.declared.jprogram.member.Member.{Member}
use Rattle.jresolution.specs.declared.jprogram.part.CodePart.{CodePart}
use Rattle.jresolution.specs.jprogram.ClassFileParts.{code_of, member_desc, text, this_name}
use Rattle.jresolution.specs.jprogram.ProgramClasses.{Program}
use Rattle.jresolution.specs.jprogram.MemberResolution.{referred, resolved}
use Rattle.jresolution.specs.jprogram.NameChecks.{naming_fault}
use Rattle.jresolution.specs.jprogram.SuperChecks.{supers_fault}
use Rattle.jlinking.specs.jmembers.MemberDeclarations.{members_fault, at_member as in_method}
use Rattle.jlinking.specs.declared.jreferring.judged.Judged.{Judged}
use Rattle.jlinking.specs.declared.jreferring.judged.MemberFacts.{MemberFacts}
use Rattle.jlinking.specs.declared.jreferring.judged.MemberUse.{MemberUse}
use Rattle.jlinking.specs.declared.jreferring.judged.Sort.{Sort}
use Rattle.jlinking.specs.declared.jreferring.judged.Sort.TheVariants as sort
use Rattle.jlinking.specs.jreferring.ReferenceUses.{call_left_out_test, called_by_interface_test, call_test, called_test, facts_of, field_member_test, field_test, interface_test}
use Rattle.jlinking.specs.jreferring.PoolEntryMeanings.{entry_of, judge, judge_pool, reference}
use Rattle.jlinking.specs.jreferring.CodeUnits.{form_test, member_at, op_test, or_no_member}
use Rattle.jlinking.specs.ProofNames.{member_in}
use Rattle.jlinking.specs.jreferring.CodeChecks.{body_test, class_fault, code_fault, method_test}
use Rattle.jlinking.specs.jlink.LinkedPrograms.{Links, link_fault}
use Rattle.jlinking.specs.jlink.CodeReferences.{IsReferred, reference_of}

-- ---- the entry

-- an entry stands for a member
abbrev Stands : Program → List Entry → Option Entry → Type 0
Stands p pool e = is_some (referred p pool e) ≡ true

pub mapped_some : {A B : Type 0} (f : A → B) (o : Option A) → is_some (option_map f o) ≡ true → is_some o ≡ true
mapped_some f None e = cc
mapped_some f (Some a) e = refl

of_reference : (p : Program) (from : List ℕ) (pool : List Entry) (kind : Sort) (class both : ℕ) (u : MemberUse) → Some (reference p from pool kind class both) ≡ Some u → is_some u.member ≡ true → Stands p pool (Some (entry_of kind class both))
unfolding reference
of_reference p from pool kind class both u is has =
    let same : reference p from pool kind class both ≡ u = cc in
    let one : is_some (reference p from pool kind class both).member ≡ true = ap (λ (x : MemberUse). is_some x.member) same ∙ has in
    mapped_some (facts_of p from) (referred p pool (Some (entry_of kind class both))) one

-- what is judged a reference with a member stands for one
of_entry : (p : Program) (from : List ℕ) (pool : List Entry) (e : Option Entry) (u : MemberUse) → member_in (option_map (judge p from pool) e) ≡ Some u → is_some u.member ≡ true → Stands p pool e
unfolding judge
of_entry p from pool None u is has = absurd cc
of_entry p from pool (Some (entries.Field class both)) u is has = of_reference p from pool sort.Field class both u is has
of_entry p from pool (Some (entries.Method class both)) u is has = of_reference p from pool sort.Method class both u is has
of_entry p from pool (Some (entries.InterfaceMethod class both)) u is has = of_reference p from pool sort.InterfaceMethod class both u is has
of_entry p from pool (Some entries.Unused) u is has = absurd cc
of_entry p from pool (Some (entries.Utf8 a)) u is has = absurd cc
of_entry p from pool (Some (entries.Integer a)) u is has = absurd cc
of_entry p from pool (Some (entries.Float a)) u is has = absurd cc
of_entry p from pool (Some (entries.Long a)) u is has = absurd cc
of_entry p from pool (Some (entries.Double a)) u is has = absurd cc
of_entry p from pool (Some (entries.Class a)) u is has = absurd cc
of_entry p from pool (Some (entries.Str a)) u is has = absurd cc
of_entry p from pool (Some (entries.NameAndType a b)) u is has = absurd cc
of_entry p from pool (Some (entries.MethodHandle a b)) u is has = absurd cc
of_entry p from pool (Some (entries.MethodType a)) u is has = absurd cc
of_entry p from pool (Some (entries.InvokeDynamic a b)) u is has = absurd cc

-- ---- its uses

pub field_has : (op : FieldOp) (m : Option MemberFacts) → field_member_test op m ≡ None → is_some m ≡ true
field_has op None e = absurd cc
field_has op (Some m) e = refl

pub called_has : (op : CallOp) (u : MemberUse) (m : Option MemberFacts) → called_test op u m ≡ None → is_some m ≡ true
called_has op u None e = absurd cc
called_has op u (Some m) e = refl

pub interface_has : (count : ℕ) (u : MemberUse) (m : Option MemberFacts) → called_by_interface_test count u m ≡ None → is_some m ≡ true
interface_has count u None e = absurd cc
interface_has count u (Some m) e = refl

-- the last of three tests
pub third_none : {F : Type 0} (a b c : Option F) → or_else a (or_else b c) ≡ None → c ≡ None
third_none a b c e = (none_of b c ((none_of a (or_else b c) e).1)).1

has_member : (test : MemberUse → Option LinkKind) → ((u : MemberUse) → test u ≡ None → is_some u.member ≡ true) → (p : Program) (from : List ℕ) (pool : List Entry) (e : Option Entry) (o : Option MemberUse)
    → member_in (option_map (judge p from pool) e) ≡ o → or_no_member test o ≡ None → Stands p pool e
has_member test h p from pool e None is none = absurd cc
has_member test h p from pool e (Some u) is none = of_entry p from pool e u is (h u none)

-- at an index of a pool
at_index : (test : MemberUse → Option LinkKind) → ((u : MemberUse) → test u ≡ None → is_some u.member ≡ true) → (p : Program) (from : List ℕ) (pool : List Entry) (n : ℕ)
    → or_no_member test (member_at (map (judge p from pool) pool) n) ≡ None → Stands p pool (slice_get pool n)
at_index test h p from pool n none =
    let same : member_in (option_map (judge p from pool) (slice_get pool n)) ≡ member_at (map (judge p from pool) pool) n = sym (ap member_in (slice_get-map (judge p from pool) pool n)) in
    has_member test h p from pool (slice_get pool n) (member_at (map (judge p from pool) pool) n) same none

-- ---- an instruction

form_has : {S : Type 0} (p : Program) (from : List ℕ) (entries_ : List Entry) (f : OpForm S) (i : ℕ) → form_test (map (judge p from entries_) entries_) f ≡ None → reference_of f ≡ Some i → Stands p entries_ (slice_get entries_ i)
form_has p from es (forms.Pool (pool.Field op n)) i none is =
    let same : n ≡ i = cc in
    subst (λ (k : ℕ). Stands p es (slice_get es k)) same
    (at_index (field_test op) (λ u e. field_has op u.member (third_none u.names (fault_if u.barred LeftOut) (field_member_test op u.member) e)) p from es n none)
form_has p from es (forms.Pool (pool.Call op n)) i none is =
    let same : n ≡ i = cc in
    subst (λ (k : ℕ). Stands p es (slice_get es k)) same
    (at_index (call_test op) (λ u e. called_has op u u.member (third_none u.names (call_left_out_test op u) (called_test op u u.member) e)) p from es n none)
form_has p from es (forms.Pool (pool.CallInterface n count)) i none is =
    let same : n ≡ i = cc in
    subst (λ (k : ℕ). Stands p es (slice_get es k)) same
    (at_index (interface_test count) (λ u e. interface_has count u u.member (third_none u.names (fault_if u.barred LeftOut) (called_by_interface_test count u u.member) e)) p from es n none)
form_has p from es (forms.Pool (pool.Constant n)) i none is = absurd cc
form_has p from es (forms.Pool (pool.LongConstant n)) i none is = absurd cc
form_has p from es (forms.Pool (pool.New n)) i none is = absurd cc
form_has p from es (forms.Pool (pool.Cast op n)) i none is = absurd cc
form_has p from es (forms.Simple f) i none is = absurd cc
form_has p from es (forms.Local f) i none is = absurd cc
form_has p from es (forms.Stack f) i none is = absurd cc
form_has p from es (forms.Flow f) i none is = absurd cc
form_has p from es (forms.Array f) i none is = absurd cc

-- ---- down to it

some_none : {A F : Type 0} (test : A → Option F) (xs : List A) (k : ℕ) (x : A) → first_some test xs ≡ None → slice_get xs k ≡ Some x → test x ≡ None
unfolding first_some
some_none {A = A} test [] k x e at = absurd cc
some_none {A = A} test (y ∷ ys) zero x e at =
    let same : y ≡ x = cc in
    subst (λ (z : A). test z ≡ None) same ((none_of (test y) (first_some test ys) e).0)
some_none {A = A} test (y ∷ ys) (suc k) x e at = some_none test ys k x ((none_of (test y) (first_some test ys) e).1) at

in_method_none : (i j : ℕ) (o : Option LinkKind) → in_method i j o ≡ None → o ≡ None
in_method_none i j None e = refl
in_method_none i j (Some kind) e = absurd cc

body_none : (p : Program) (from : List ℕ) (pool : List Entry) (table : List Judged) (m : MemberInfo) (b : CodeBody) → method_test p from pool table m ≡ None → code_of m ≡ Some b → body_test p from (text pool m.desc) table b ≡ None
unfolding method_test
body_none p from pool table m b none is = sym (ap (option_and_then (body_test p from (text pool m.desc) table)) is) ∙ none

-- nothing of a code of a class without a fault is at fault
pub code_good : (p : Program) (i : ℕ) (c : ClassParts) (j : ℕ) (m : MemberInfo) (b : CodeBody) → class_fault p i c ≡ None → slice_get c.methods j ≡ Some m → code_of m ≡ Some b → body_test p (this_name c) (member_desc c m) (judge_pool p c) b ≡ None
unfolding class_fault
code_good p i c j m b none at coded =
    let test : MemberInfo → Option LinkKind = method_test p (this_name c) c.pool (judge_pool p c) in
    let method = none_fails (λ (j : ℕ) (m : MemberInfo). in_method i j (test m)) c.methods j m none at in
    body_none p (this_name c) c.pool (judge_pool p c) m b (in_method_none i j (test m) method) coded

-- no instruction of a class without a fault is at fault
pub op_none : (p : Program) (i : ℕ) (c : ClassParts) (j : ℕ) (m : MemberInfo) (b : CodeBody) (k : ℕ) (one : Placed) → class_fault p i c ≡ None → slice_get c.methods j ≡ Some m → code_of m ≡ Some b → slice_get b.ops k ≡ Some one → op_test (judge_pool p c) one ≡ None
op_none p i c j m b k one none at coded placed =
    let body = code_good p i c j m b none at coded in
    some_none (op_test (judge_pool p c)) b.ops k one ((none_of _ _ (none_of _ _ body).0).0) placed

pub class_none : (p : Program) (i : ℕ) (part : CodePart) → code_fault p ≡ None → slice_get p.parts i ≡ Some part → class_fault p i part.class ≡ None
unfolding code_fault
class_none p i part none at = none_fails (λ (i : ℕ) (part : CodePart). class_fault p i part.class) p.parts i part none at

pub code_none : (p : Program) → link_fault p ≡ None → code_fault p ≡ None
unfolding link_fault
code_none p e = (none_of (members_fault p) (code_fault p) (third_none (naming_fault p) (supers_fault p) (or_else (members_fault p) (code_fault p)) e)).1

resolved_at : (p : Program) (i k : ℕ) (part : CodePart) → slice_get p.parts i ≡ Some part → Stands p part.class.pool (slice_get part.class.pool k) → is_some (resolved p i k) ≡ true
unfolding resolved
resolved_at p i k part at has = ap (λ (o : Option CodePart). is_some (option_and_then (λ x. referred p x.class.pool (slice_get x.class.pool k)) o)) at ∙ has

pub op_form_none : (table : List Judged) (one : Placed) → op_test table one ≡ None → form_test table (form one.op) ≡ None
unfolding op_test
op_form_none table one e = e

pub there : (p : Program) (class i : ℕ) → Links p → IsReferred p class i → is_some (resolved p class i) ≡ true
there p class i links r =
    let fault = class_none p class r.part (code_none p links.rules) r.stands in
    let op = op_none p class r.part.class r.number r.method r.body r.place r.op fault r.declared r.coded r.placed in
    resolved_at p class i r.part r.stands
    (form_has p (this_name r.part.class) r.part.class.pool (form r.op.op) i (op_form_none (judge_pool p r.part.class) r.op op) r.named)

no_none : (o : Option Member) → is_some o ≡ true → o ≡ None → ⊥
no_none None has none = absurd cc
no_none (Some m) has none = absurd cc

-- there is one
pub there_is : (p : Program) (class i : ℕ) → Links p → IsReferred p class i → resolved p class i ≡ None → ⊥
there_is p class i links r none = no_none (resolved p class i) (there p class i links r) none
