-- The instructions of moved code: each names what it may name.
use Rattle.std.proofs.Common.{◌≡◌, ℕ, ◌+◌, ℤ, Bool, true, false, cond, List, [], ◌∷◌, ◌++◌, map, Option, Some, None, refl, sym, ap, subst, ◌∙◌, nat_lt}
use Rattle.std.specs.Prelude.{IsTrue, is_some, option_and_then, slice_get, codes}
use Rattle.std.specs.List.{list_all}
use Rattle.jground.specs.jbase.FirstFaults.{first_some}
use Rattle.jground.proofs.JbaseProofs.Firsts.{none_of}
use Rattle.jground.proofs.JformatProofs.ReadingSteps.{first_true, second_true}
use Rattle.jparts.specs.declared.jpool.entry.Entry.{Entry}
use Rattle.jparts.specs.declared.jpool.entry.Entry.TheVariants.{Unused, Utf8, Integer, Float, Long, Double, Class, Str, Field, Method, InterfaceMethod, NameAndType, MethodHandle, MethodType, InvokeDynamic}
use Rattle.jparts.specs.jpool.ConstantPools.{is_class}
use Rattle.jclass.specs.declared.class.ClassParts.{ClassParts}
use Rattle.jclass.specs.PoolOperands.{is_called, is_constant, is_field, is_interface_method, is_method, is_wide_constant, names_well}
use Rattle.jparts.specs.declared.jcode.names.Access.{Access}
use Rattle.jparts.specs.declared.jcode.names.Access.TheVariants.{Load, Store}
use Rattle.jparts.specs.declared.jcode.names.CallOp.{CallOp}
use Rattle.jparts.specs.declared.jcode.names.CallOp.TheVariants as callops
use Rattle.jparts.specs.declared.jcode.names.LocalKind.TheVariants.{Ref}
use Rattle.jparts.specs.declared.jcode.names.ObjectOp.TheVariants as objects
use Rattle.jparts.specs.declared.jcode.op.Goto.TheVariants as gotos
use Rattle.jparts.specs.declared.jcode.op.Ldc.TheVariants as ldcs
use Rattle.jparts.specs.declared.jcode.op.LocalOp.TheVariants.{At}
use Rattle.jparts.specs.declared.jcode.op.NewOp.TheVariants as news
use Rattle.jparts.specs.declared.jcode.op.Op.{Op}
use Rattle.jparts.specs.declared.jcode.op.Op.TheVariants as ops
use Rattle.jparts.specs.declared.jcode.op.Placed.{Placed}
use Rattle.jparts.specs.declared.jcode.op.Switch.TheVariants as switches
use Rattle.jparts.specs.declared.jcode.op.Wide.TheVariants.{Local}
use Rattle.jparts.specs.jcode.InstructionForms.{form}
use Rattle.jparts.specs.jcode.Instructions.{size}
use Rattle.jmove.specs.declared.method.Expand.{Expand}
use Rattle.jmove.specs.declared.method.Expand.TheVariants.{Same, Call, Check, Snapshot, Privileged, PrivilegedWith, PrivilegedLimited}
use Rattle.jmove.specs.declared.method.Setting.{Setting}
use Rattle.jmove.specs.declared.naming.Security.{Security}
use Rattle.jmove.specs.declared.naming.Security.TheVariants as security
use Rattle.jmove.specs.PoolAdditions.{numbered, security_name}
use Rattle.jmove.specs.AssemblyLines.{Line, Label, Do, led, placed, with_branches}
use Rattle.jmove.specs.ProofNames.{distance}
use Rattle.jmove.specs.MethodExpansion as moves
use Rattle.jmove.specs.MethodExpansion.{call_static, expansion, expansions, lines, move_ref, prologue, push_int}
use Rattle.jresolution.specs.declared.jprogram.member.Member.{Member}
use Rattle.jresolution.specs.jprogram.ProgramClasses.{Program}
use Rattle.jresolution.specs.jprogram.MemberResolution.{referred}
use Rattle.jresolution.specs.jprogram.ClassFileParts.{this_name}
use Rattle.jmoveclass.specs.CallExpansion.{calling, expand_by}
use Rattle.jrewriting.proofs.JmoveclassLawsProofs.PoolFormat.{CallsOnly, IsKind, calling_only, kind_by, or_first}
use Rattle.jlinking.specs.declared.jreferring.judged.Judged.{Judged}
use Rattle.jlinking.specs.jreferring.PoolEntryMeanings.{judge_pool}
use Rattle.jlinking.specs.jreferring.MemberLookUp.{named_use}
use Rattle.jlinking.specs.jreferring.ClassEntryUses.{new_test, operand_test}
use Rattle.jlinking.specs.jreferring.ReferenceUses.{call_test, field_test, interface_test}
use Rattle.jlinking.specs.jreferring.CodeUnits.{constant_test, form_test, long_test, op_test, or_no_member}
use Rattle.jlinking.specs.ProofNames.{class_in, member_in, call_at, interface_call_at}
use Rattle.jrewriting.specs.jrewrite.RewrittenPrograms.{moved}
use Rattle.jrewriting.proofs.JrewriteProofs.Calls.{Known, Takes, call_good, interface_good, kept_member}
use Rattle.jrewriting.proofs.JrewriteProofs.PoolEntries.{stays, table_same}
use Rattle.jrewriting.proofs.JrewriteProofs.MemberPhase.{none_or}
use Rattle.jrewriting.proofs.JrewriteProofs.PoolReferences.{AreNumbered, IsNumber, IsSecurity}
use Rattle.jrewriting.proofs.JrewriteProofs.Security.{security_call}
use Rattle.jrewriting.proofs.JrewriteProofs.Targets.{Target, call_use, target_of, target_use}
use Rattle.jparts.specs.jpool.PoolEntries.{class_parts}
use Rattle.std.specs.Option.{option_map_or}
use Rattle.jrewriting.proofs.JmoveclassLawsProofs.Texts.{or_second}

-- ---- lines

-- what an instruction names breaks no rule
abbrev pub IsGood : List Judged → Op → Type 0
IsGood table op = form_test table (form op) ≡ None

led_same : (table : List Judged) (g : ℤ → ℤ) (op : Op) → form_test table (form (with_branches g op)) ≡ form_test table (form op)
unfolding form
led_same table g ops.Nop = refl
led_same table g ops.AconstNull = refl
led_same table g (ops.IntConst c) = refl
led_same table g (ops.LongConst c) = refl
led_same table g (ops.Ldc op) = refl
led_same table g (ops.Ldc2 m) = refl
led_same table g (ops.IntLocal op) = refl
led_same table g (ops.LongLocal op) = refl
led_same table g (ops.RefLocal op) = refl
led_same table g (ops.ArrayLoad element) = refl
led_same table g (ops.ArrayStore element) = refl
led_same table g (ops.Stack op) = refl
led_same table g (ops.Two op) = refl
led_same table g (ops.Divide op) = refl
led_same table g (ops.One op) = refl
led_same table g (ops.Iinc m by) = refl
led_same table g (ops.If test by) = refl
led_same table g (ops.IfInt test by) = refl
led_same table g (ops.IfRef test by) = refl
led_same table g (ops.Goto (gotos.Narrow by)) = refl
led_same table g (ops.Goto (gotos.Wide by)) = refl
led_same table g (ops.Switch (switches.Table s)) = refl
led_same table g (ops.Switch (switches.Lookup s)) = refl
led_same table g (ops.Return kind) = refl
led_same table g (ops.Field op m) = refl
led_same table g (ops.Call op m) = refl
led_same table g (ops.CallInterface m slots) = refl
led_same table g (ops.New op) = refl
led_same table g (ops.Object op) = refl
led_same table g (ops.Cast op m) = refl
led_same table g (ops.Wide op) = refl

abbrev pub AreGood : List Judged → List Line → Type 0
AreGood table [] = Unit {0}
AreGood table (Label q ∷ rest) = AreGood table rest
AreGood table (Do q op ∷ rest) = IsGood table op × AreGood table rest

pub placed_good : (table : List Judged) (f : ℕ → ℕ) (at : ℕ) (ls : List Line) → AreGood table ls → first_some (op_test table) (placed f at ls) ≡ None
unfolding first_some op_test
placed_good table f at [] h = refl
placed_good table f at (Label q ∷ rest) h = placed_good table f at rest h
placed_good table f at (Do q op ∷ rest) h =
    none_or (form_test table (form (led f q at op))) (first_some (op_test table) (placed f (at + size at op) rest)) (led_same table (distance f q at) op ∙ h.0) (placed_good table f (at + size at op) rest h.1)

-- ---- what is put in front of calls

move_by : (table : List Judged) (access : Access) (n : ℕ) (b : Bool) → IsGood table (cond b (ops.RefLocal (At access n)) (ops.Wide (Local Ref access n)))
unfolding form
move_by table access n true = refl
move_by table access n false = refl

move_good : (table : List Judged) (access : Access) (n : ℕ) → IsGood table (move_ref access n)
move_good table access n = move_by table access n (nat_lt n 256)

push_good : (table : List Judged) (n : ℕ) → IsGood table (push_int n)
unfolding form
push_good table n = refl

static_good : (p : Program) (c d : ClassParts) → Known p c d → (m : Security) (j : ℕ) → IsSecurity m d.pool j → IsGood (judge_pool (moved p) d) (call_static j)
unfolding form named_use
static_good p c d k m j s =
    ap (or_no_member (call_test callops.Static)) (target_use (moved p) (this_name d) d.pool j s.target
    ∙ ap (λ (b : Bool). Some (call_use (moved p) (this_name d) b s.target.says.owner s.target.says.name s.target.says.desc)) s.interface
    ∙ ap (λ (o : List ℕ). Some (call_use (moved p) (this_name d) false o s.target.says.name s.target.says.desc)) s.owner
    ∙ ap (λ (o : List ℕ). Some (call_use (moved p) (this_name d) false (codes "sps/Rt") o s.target.says.desc)) s.name
    ∙ ap (λ (o : List ℕ). Some (call_use (moved p) (this_name d) false (codes "sps/Rt") (security_name m) o)) s.desc)
    ∙ security_call (moved p) k.passing (this_name d) m

-- ---- entries by what names them

pub record Stays (o : Option Entry) : Type 0 where
  pub e : Entry
  pub at : o ≡ Some e
  pub kept : stays e ≡ true

never : {P : Type 0} (b : Bool) → b ≡ false → b ≡ true → P
never true h k = absurd cc
never false h k = absurd cc

-- what passes a test that no reference to a method passes
pub stays_by : (test : Option Entry → Bool) → ((c b : ℕ) → test (Some (Method c b)) ≡ false) → ((c b : ℕ) → test (Some (InterfaceMethod c b)) ≡ false) → test None ≡ false → (o : Option Entry) → test o ≡ true → Stays o
stays_by test m i n None h = never (test None) n h
stays_by test m i n (Some (Method c b)) h = never (test (Some (Method c b))) (m c b) h
stays_by test m i n (Some (InterfaceMethod c b)) h = never (test (Some (InterfaceMethod c b))) (i c b) h
stays_by test m i n (Some Unused) h = record { e = Unused; at = refl; kept = refl }
stays_by test m i n (Some (Utf8 t)) h = record { e = Utf8 t; at = refl; kept = refl }
stays_by test m i n (Some (Integer x)) h = record { e = Integer x; at = refl; kept = refl }
stays_by test m i n (Some (Float x)) h = record { e = Float x; at = refl; kept = refl }
stays_by test m i n (Some (Long x)) h = record { e = Long x; at = refl; kept = refl }
stays_by test m i n (Some (Double x)) h = record { e = Double x; at = refl; kept = refl }
stays_by test m i n (Some (Class x)) h = record { e = Class x; at = refl; kept = refl }
stays_by test m i n (Some (Str x)) h = record { e = Str x; at = refl; kept = refl }
stays_by test m i n (Some (Field c b)) h = record { e = Field c b; at = refl; kept = refl }
stays_by test m i n (Some (NameAndType x y)) h = record { e = NameAndType x y; at = refl; kept = refl }
stays_by test m i n (Some (MethodHandle x y)) h = record { e = MethodHandle x y; at = refl; kept = refl }
stays_by test m i n (Some (MethodType x)) h = record { e = MethodType x; at = refl; kept = refl }
stays_by test m i n (Some (InvokeDynamic x y)) h = record { e = InvokeDynamic x y; at = refl; kept = refl }

same_table : (p : Program) (c d : ClassParts) → Known p c d → (n : ℕ) → Stays (slice_get c.pool n) → slice_get (judge_pool (moved p) d) n ≡ slice_get (judge_pool p c) n
same_table p c d k n s = table_same p k.linked c d k.pair n s.e s.at s.kept

-- at a Class entry
pub class_stays : (p : Program) (c d : ClassParts) → Known p c d → (n : ℕ) → IsTrue (is_class c.pool n) → slice_get (judge_pool (moved p) d) n ≡ slice_get (judge_pool p c) n
unfolding is_class
class_stays p c d k n h = same_table p c d k n (stays_by (λ o. is_some (option_and_then class_parts o)) (λ a b. refl) (λ a b. refl) refl (slice_get c.pool n) h)

called_kind : (o : CallOp) (e : Option Entry) → IsTrue (is_called o e) → IsKind e
called_kind callops.Virtual e h = kind_by e (or_first (is_method e) (is_interface_method e) h)
called_kind callops.Special e h = kind_by e h
called_kind callops.Static e h = kind_by e h

pub called_target : (c : ClassParts) (p : Program) (d : ClassParts) → Known p c d → (o : CallOp) (n : ℕ) → IsTrue (is_called o (slice_get c.pool n)) → Target c.pool n
called_target c p d k o n h = let e = called_kind o (slice_get c.pool n) h in target_of c.pool n e.kind k.pair.sound e.is

pub interface_target : (c : ClassParts) (p : Program) (d : ClassParts) → Known p c d → (n : ℕ) → IsTrue (is_interface_method (slice_get c.pool n)) → Target c.pool n
interface_target c p d k n h =
    let e = kind_by (slice_get c.pool n) (or_second (is_method (slice_get c.pool n)) (is_interface_method (slice_get c.pool n)) h) in
    target_of c.pool n e.kind k.pair.sound e.is

-- ---- expansions

-- what the instructions of a class become, by what their references stand for
abbrev pub stands_for : Program → ClassParts → ℕ → Option Member
stands_for p c n = referred p c.pool (slice_get c.pool n)

same_good : (p : Program) (c d : ClassParts) → Known p c d → (op : Op) → expand_by (stands_for p c) op ≡ Same → IsTrue (names_well c.pool op) → IsGood (judge_pool p c) op → IsGood (judge_pool (moved p) d) op
unfolding form names_well
same_good p c d k (ops.Ldc (ldcs.Narrow n)) e h g = ap constant_test (same_table p c d k n (stays_by (λ o. option_map_or is_constant o false) (λ a b. refl) (λ a b. refl) refl (slice_get c.pool n) h)) ∙ g
same_good p c d k (ops.Ldc (ldcs.Wide n)) e h g = ap constant_test (same_table p c d k n (stays_by (λ o. option_map_or is_constant o false) (λ a b. refl) (λ a b. refl) refl (slice_get c.pool n) h)) ∙ g
same_good p c d k (ops.Ldc2 n) e h g = ap long_test (same_table p c d k n (stays_by (λ o. option_map_or is_wide_constant o false) (λ a b. refl) (λ a b. refl) refl (slice_get c.pool n) h)) ∙ g
same_good p c d k (ops.Field op n) e h g = ap (λ (j : Option Judged). or_no_member (field_test op) (member_in j)) (same_table p c d k n (stays_by (λ o. option_map_or is_field o false) (λ a b. refl) (λ a b. refl) refl (slice_get c.pool n) h)) ∙ g
same_good p c d k (ops.Call op n) e h g = ap (or_no_member (call_test op)) (kept_member p c d k n (called_target c p d k op n h) e) ∙ g
same_good p c d k (ops.CallInterface n slots) e h g = ap (or_no_member (interface_test slots)) (kept_member p c d k n (interface_target c p d k n h) e) ∙ g
same_good p c d k (ops.New (news.Object n)) e h g = ap (λ (j : Option Judged). option_and_then new_test (class_in j)) (class_stays p c d k n h) ∙ g
same_good p c d k (ops.New (news.RefArray n)) e h g = ap (λ (j : Option Judged). option_and_then operand_test (class_in j)) (class_stays p c d k n h) ∙ g
same_good p c d k (ops.New (news.Array element)) e h g = refl
same_good p c d k (ops.Cast op n) e h g = ap (λ (j : Option Judged). option_and_then operand_test (class_in j)) (class_stays p c d k n h) ∙ g
same_good p c d k ops.Nop e h g = refl
same_good p c d k ops.AconstNull e h g = refl
same_good p c d k (ops.IntConst n) e h g = refl
same_good p c d k (ops.LongConst n) e h g = refl
same_good p c d k (ops.IntLocal op) e h g = refl
same_good p c d k (ops.LongLocal op) e h g = refl
same_good p c d k (ops.RefLocal op) e h g = refl
same_good p c d k (ops.ArrayLoad element) e h g = refl
same_good p c d k (ops.ArrayStore element) e h g = refl
same_good p c d k (ops.Stack op) e h g = refl
same_good p c d k (ops.Two op) e h g = refl
same_good p c d k (ops.Divide op) e h g = refl
same_good p c d k (ops.One op) e h g = refl
same_good p c d k (ops.Iinc m by) e h g = refl
same_good p c d k (ops.If test by) e h g = refl
same_good p c d k (ops.IfInt test by) e h g = refl
same_good p c d k (ops.IfRef test by) e h g = refl
same_good p c d k (ops.Goto op) e h g = refl
same_good p c d k (ops.Switch s) e h g = refl
same_good p c d k (ops.Return kind) e h g = refl
same_good p c d k (ops.Object objects.ArrayLength) e h g = refl
same_good p c d k (ops.Object objects.Throw) e h g = refl
same_good p c d k (ops.Wide op) e h g = refl

no_call : {A : Type 0} (i : ℕ) → Same ≡ Call i → A
no_call i h = absurd cc

-- a changed call names the index that the instruction named
pub index_is : (p : Program) (c : ClassParts) (n i : ℕ) → calling n (stands_for p c n) ≡ Call i → i ≡ n
index_is p c n i e = subst (CallsOnly n) e (calling_only n (stands_for p c n))

calling_good : (p : Program) (c d : ClassParts) → Known p c d → (op : Op) (i j : ℕ) → expand_by (stands_for p c) op ≡ Call i → Takes p c d.pool i j → IsGood (judge_pool p c) op → IsGood (judge_pool (moved p) d) (moves.calling j op)
unfolding form
calling_good p c d k (ops.Call o n) i j e t g = call_good p c d k o i j t (subst (λ (m : ℕ). call_at (judge_pool p c) o m ≡ None) (sym (index_is p c n i e)) g)
calling_good p c d k (ops.CallInterface n slots) i j e t g = interface_good p c d k slots i j t (subst (λ (m : ℕ). interface_call_at (judge_pool p c) m slots ≡ None) (sym (index_is p c n i e)) g)
calling_good p c d k ops.Nop i j e t g = no_call i e
calling_good p c d k ops.AconstNull i j e t g = no_call i e
calling_good p c d k (ops.IntConst n) i j e t g = no_call i e
calling_good p c d k (ops.LongConst n) i j e t g = no_call i e
calling_good p c d k (ops.Ldc op) i j e t g = no_call i e
calling_good p c d k (ops.Ldc2 m) i j e t g = no_call i e
calling_good p c d k (ops.IntLocal op) i j e t g = no_call i e
calling_good p c d k (ops.LongLocal op) i j e t g = no_call i e
calling_good p c d k (ops.RefLocal op) i j e t g = no_call i e
calling_good p c d k (ops.ArrayLoad element) i j e t g = no_call i e
calling_good p c d k (ops.ArrayStore element) i j e t g = no_call i e
calling_good p c d k (ops.Stack op) i j e t g = no_call i e
calling_good p c d k (ops.Two op) i j e t g = no_call i e
calling_good p c d k (ops.Divide op) i j e t g = no_call i e
calling_good p c d k (ops.One op) i j e t g = no_call i e
calling_good p c d k (ops.Iinc m by) i j e t g = no_call i e
calling_good p c d k (ops.If test by) i j e t g = no_call i e
calling_good p c d k (ops.IfInt test by) i j e t g = no_call i e
calling_good p c d k (ops.IfRef test by) i j e t g = no_call i e
calling_good p c d k (ops.Goto op) i j e t g = no_call i e
calling_good p c d k (ops.Switch s) i j e t g = no_call i e
calling_good p c d k (ops.Return kind) i j e t g = no_call i e
calling_good p c d k (ops.Field op m) i j e t g = no_call i e
calling_good p c d k (ops.New op) i j e t g = no_call i e
calling_good p c d k (ops.Object op) i j e t g = no_call i e
calling_good p c d k (ops.Cast op m) i j e t g = no_call i e
calling_good p c d k (ops.Wide op) i j e t g = no_call i e

row : (p : Program) (c d : ClassParts) → Known p c d → (s : Setting) (q : ℕ) (op : Op) (x : Expand) (j : ℕ) (rest : List Line) → expand_by (stands_for p c) op ≡ x → IsNumber p c d.pool x j → IsTrue (names_well c.pool op) → IsGood (judge_pool p c) op
    → AreGood (judge_pool (moved p) d) rest → AreGood (judge_pool (moved p) d) (map (Do q) (expansion s (numbered x j) op) ++ rest)
row p c d k s q op Same j rest e n h g w = (same_good p c d k op e h g, w)
row p c d k s q op (Call i) j rest e n h g w = (move_good (judge_pool (moved p) d) Load s.local, (calling_good p c d k op i j e n g, w))
row p c d k s q op (Check i) j rest e n h g w = (move_good (judge_pool (moved p) d) Load s.local, (static_good p c d k security.Check j n, w))
row p c d k s q op (Snapshot i) j rest e n h g w = (move_good (judge_pool (moved p) d) Load s.local, (static_good p c d k security.Snapshot j n, w))
row p c d k s q op (Privileged i) j rest e n h g w = (push_good (judge_pool (moved p) d) s.domain, (static_good p c d k security.Privileged j n, w))
row p c d k s q op (PrivilegedWith i) j rest e n h g w = (push_good (judge_pool (moved p) d) s.domain, (static_good p c d k security.PrivilegedWith j n, w))
row p c d k s q op (PrivilegedLimited i) j rest e n h g w =
    (move_good (judge_pool (moved p) d) Load s.local, (push_good (judge_pool (moved p) d) s.domain, (static_good p c d k security.PrivilegedLimited j n, w)))

rows : (p : Program) (c d : ClassParts) → Known p c d → (s : Setting) (is : List Placed) (ms : List Expand) → AreNumbered p c d.pool (map (λ i. expand_by (stands_for p c) i.op) is) ms → IsTrue (list_all (λ i. names_well c.pool i.op) is)
    → first_some (op_test (judge_pool p c)) is ≡ None → AreGood (judge_pool (moved p) d) (expansions s ms is)
unfolding first_some op_test
rows p c d k s [] [] n h g = tt
rows p c d k s [] (m ∷ ms) n h g = absurd n
rows p c d k s (i ∷ is) [] n h g = absurd n
rows p c d k s (i ∷ is) (m ∷ ms) n h g =
    let x = expand_by (stands_for p c) i.op in
    let both = none_of (form_test (judge_pool p c) (form i.op)) (first_some (op_test (judge_pool p c)) is) g in
    let later = rows p c d k s is ms n.1 (second_true (names_well c.pool i.op) (list_all (λ y. names_well c.pool y.op) is) h) both.1 in
    subst (λ (y : Expand). AreGood (judge_pool (moved p) d) (map (Do i.at) (expansion s y i.op) ++ expansions s ms is)) (sym n.0.1.0)
    (row p c d k s i.at i.op x n.0.0 (expansions s ms is) refl n.0.1.1 (first_true (names_well c.pool i.op) (list_all (λ y. names_well c.pool y.op) is) h) both.0 later)

-- ---- the whole

pub moved_good : (p : Program) (c d : ClassParts) → Known p c d → (slots enter : ℕ) (s : Setting) (is : List Placed) (ms : List Expand) → IsSecurity security.Enter d.pool enter → AreNumbered p c d.pool (map (λ i. expand_by (stands_for p c) i.op) is) ms
    → IsTrue (list_all (λ i. names_well c.pool i.op) is) → first_some (op_test (judge_pool p c)) is ≡ None → (f : ℕ → ℕ) → first_some (op_test (judge_pool (moved p) d)) (placed f 0 (lines (prologue slots s enter) s ms is)) ≡ None
moved_good p c d k slots enter s is ms rt n h g f =
    let table = judge_pool (moved p) d in
    placed_good table f 0 (lines (prologue slots s enter) s ms is)
    (move_good table Load slots, (push_good table s.domain, (static_good p c d k security.Enter enter rt, (move_good table Store s.local, rows p c d k s is ms n h g))))
