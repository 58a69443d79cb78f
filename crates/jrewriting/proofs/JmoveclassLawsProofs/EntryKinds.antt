-- What moved code names: each instruction names an entry of the kind that it must name.
use Rattle.std.proofs.Common.{◌≡◌, ℕ, zero, suc, ◌+◌, ◌≤◌, ℤ, Bool, true, false, cond, List, [], ◌∷◌, ◌++◌, map, Option, Some, None, refl, sym, ap, subst, ◌∙◌, nat_lt, arith}
use Rattle.std.specs.Prelude.{IsTrue, slice_get}
use Rattle.std.specs.List.{list_all}
use Rattle.jground.proofs.JformatProofs.ReadingSteps.{both, first_true, second_true}
use Rattle.jparts.specs.declared.jpool.entry.Entry.{Entry}
use Rattle.jparts.specs.declared.jcode.names.Access.{Access}
use Rattle.jparts.specs.declared.jcode.names.Access.TheVariants.{Load, Store}
use Rattle.jparts.specs.declared.jcode.names.CallOp.{CallOp}
use Rattle.jparts.specs.declared.jcode.names.CallOp.TheVariants as callops
use Rattle.jparts.specs.declared.jcode.names.LocalKind.TheVariants.{Ref}
use Rattle.jparts.specs.declared.jcode.op.Goto.TheVariants as gotos
use Rattle.jparts.specs.declared.jcode.op.Ldc.TheVariants as ldcs
use Rattle.jparts.specs.declared.jcode.op.LocalOp.TheVariants.{At}
use Rattle.jparts.specs.declared.jcode.op.NewOp.TheVariants as news
use Rattle.jparts.specs.declared.jcode.op.Op.{Op}
use Rattle.jparts.specs.declared.jcode.op.Op.TheVariants as ops
use Rattle.jparts.specs.declared.jcode.op.Placed.{Placed}
use Rattle.jparts.specs.declared.jcode.op.Switch.TheVariants as switches
use Rattle.jparts.specs.declared.jcode.op.Wide.TheVariants.{Local}
use Rattle.jparts.specs.jcode.Instructions.{size}
use Rattle.jclass.specs.PoolOperands.{is_called, is_constant, is_field, is_interface_method, is_wide_constant, names_well}
use Rattle.jmove.specs.declared.method.Expand.{Expand}
use Rattle.jmove.specs.declared.method.Expand.TheVariants.{Same, Call, Check, Snapshot, Privileged, PrivilegedWith, PrivilegedLimited}
use Rattle.jmove.specs.declared.method.Setting.{Setting}
use Rattle.jmove.specs.PoolAdditions.{IsFront, numbered}
use Rattle.jmove.specs.AssemblyLines.{Line, Label, Do, led, placed, with_branches}
use Rattle.jmove.specs.ProofNames.{distance}
use Rattle.jmove.specs.MethodExpansion.{call_static, calling, expansion, expansions, lines, move_ref, prologue, push_int}
use Rattle.jresolution.specs.declared.jprogram.member.Member.{Member}
use Rattle.jmoveclass.specs.CallExpansion.{expand_by}
use Rattle.jmoveclass.proofs.PoolStability.{class_stays, test_stays}
use Rattle.jrewriting.specs.jmove_laws.SpelledCode.{named}
use Rattle.jrewriting.proofs.JmoveclassLawsProofs.CallReferences.{AreNumbered, IsKept, IsNumber, IsRt, kind_in, reference_of}
use Rattle.jrewriting.proofs.JmoveclassLawsProofs.PoolFormat.{CallsOnly, calling_only}
use Rattle.jrewriting.proofs.JmoveclassLawsProofs.AddedReferences.{reference}
use Rattle.std.specs.Option.{option_map_or}

-- ---- one instruction

pub led_well : (pool : List Entry) (g : ℤ → ℤ) (op : Op) → names_well pool (with_branches g op) ≡ names_well pool op
unfolding names_well
led_well pool g ops.Nop = refl
led_well pool g ops.AconstNull = refl
led_well pool g (ops.IntConst c) = refl
led_well pool g (ops.LongConst c) = refl
led_well pool g (ops.Ldc op) = refl
led_well pool g (ops.Ldc2 m) = refl
led_well pool g (ops.IntLocal op) = refl
led_well pool g (ops.LongLocal op) = refl
led_well pool g (ops.RefLocal op) = refl
led_well pool g (ops.ArrayLoad element) = refl
led_well pool g (ops.ArrayStore element) = refl
led_well pool g (ops.Stack op) = refl
led_well pool g (ops.Two op) = refl
led_well pool g (ops.Divide op) = refl
led_well pool g (ops.One op) = refl
led_well pool g (ops.Iinc m by) = refl
led_well pool g (ops.If test by) = refl
led_well pool g (ops.IfInt test by) = refl
led_well pool g (ops.IfRef test by) = refl
led_well pool g (ops.Goto (gotos.Narrow by)) = refl
led_well pool g (ops.Goto (gotos.Wide by)) = refl
led_well pool g (ops.Switch (switches.Table s)) = refl
led_well pool g (ops.Switch (switches.Lookup s)) = refl
led_well pool g (ops.Return kind) = refl
led_well pool g (ops.Field op m) = refl
led_well pool g (ops.Call op m) = refl
led_well pool g (ops.CallInterface m slots) = refl
led_well pool g (ops.New op) = refl
led_well pool g (ops.Object op) = refl
led_well pool g (ops.Cast op m) = refl
led_well pool g (ops.Wide op) = refl

called_none : (o : CallOp) → is_called o None ≡ false
called_none callops.Virtual = refl
called_none callops.Special = refl
called_none callops.Static = refl

-- where a pool grows, instructions name what they named
pub well_on : (base whole : List Entry) → IsFront base whole → (op : Op) → IsTrue (names_well base op) → IsTrue (names_well whole op)
unfolding names_well
well_on base whole f (ops.Ldc (ldcs.Narrow n)) h = test_stays base whole f (λ o. option_map_or is_constant o false) refl n h
well_on base whole f (ops.Ldc (ldcs.Wide n)) h = test_stays base whole f (λ o. option_map_or is_constant o false) refl n h
well_on base whole f (ops.Ldc2 n) h = test_stays base whole f (λ o. option_map_or is_wide_constant o false) refl n h
well_on base whole f (ops.Field op n) h = test_stays base whole f (λ o. option_map_or is_field o false) refl n h
well_on base whole f (ops.Call op n) h = test_stays base whole f (is_called op) (called_none op) n h
well_on base whole f (ops.CallInterface n slots) h = test_stays base whole f is_interface_method refl n h
well_on base whole f (ops.New (news.Object n)) h = class_stays base whole f n h
well_on base whole f (ops.New (news.RefArray n)) h = class_stays base whole f n h
well_on base whole f (ops.New (news.Array element)) h = refl
well_on base whole f (ops.Cast op n) h = class_stays base whole f n h
well_on base whole f ops.Nop h = refl
well_on base whole f ops.AconstNull h = refl
well_on base whole f (ops.IntConst c) h = refl
well_on base whole f (ops.LongConst c) h = refl
well_on base whole f (ops.IntLocal op) h = refl
well_on base whole f (ops.LongLocal op) h = refl
well_on base whole f (ops.RefLocal op) h = refl
well_on base whole f (ops.ArrayLoad element) h = refl
well_on base whole f (ops.ArrayStore element) h = refl
well_on base whole f (ops.Stack op) h = refl
well_on base whole f (ops.Two op) h = refl
well_on base whole f (ops.Divide op) h = refl
well_on base whole f (ops.One op) h = refl
well_on base whole f (ops.Iinc m by) h = refl
well_on base whole f (ops.If test by) h = refl
well_on base whole f (ops.IfInt test by) h = refl
well_on base whole f (ops.IfRef test by) h = refl
well_on base whole f (ops.Goto op) h = refl
well_on base whole f (ops.Switch s) h = refl
well_on base whole f (ops.Return kind) h = refl
well_on base whole f (ops.Object op) h = refl
well_on base whole f (ops.Wide op) h = refl

-- ---- lines

abbrev pub Wells : List Entry → List Line → Type 0
Wells pool [] = Unit {0}
Wells pool (Label q ∷ rest) = Wells pool rest
Wells pool (Do q op ∷ rest) = IsTrue (names_well pool op) × Wells pool rest

pub placed_well : (pool : List Entry) (f : ℕ → ℕ) (at : ℕ) (ls : List Line) → Wells pool ls → IsTrue (list_all (λ i. names_well pool i.op) (placed f at ls))
placed_well pool f at [] h = refl
placed_well pool f at (Label q ∷ rest) h = placed_well pool f at rest h
placed_well pool f at (Do q op ∷ rest) h =
    both (names_well pool (led f q at op)) (list_all (λ i. names_well pool i.op) (placed f (at + size at op) rest)) (led_well pool (distance f q at) op ∙ h.0) (placed_well pool f (at + size at op) rest h.1)

-- ---- what is put in front of calls

move_by : (pool : List Entry) (access : Access) (n : ℕ) (b : Bool) → IsTrue (names_well pool (cond b (ops.RefLocal (At access n)) (ops.Wide (Local Ref access n))))
unfolding names_well
move_by pool access n true = refl
move_by pool access n false = refl

move_well : (pool : List Entry) (access : Access) (n : ℕ) → IsTrue (names_well pool (move_ref access n))
move_well pool access n = move_by pool access n (nat_lt n 256)

kept_called : (o : CallOp) (b : Bool) (c d x y : ℕ) → IsTrue (is_called o (Some (reference b c d))) → IsTrue (is_called o (Some (reference b x y)))
kept_called callops.Virtual true c d x y h = absurd cc
kept_called callops.Virtual false c d x y h = refl
kept_called callops.Special true c d x y h = refl
kept_called callops.Special false c d x y h = refl
kept_called callops.Static true c d x y h = refl
kept_called callops.Static false c d x y h = refl

kept_interface : (b : Bool) (c d x y : ℕ) → IsTrue (is_interface_method (Some (reference b c d))) → IsTrue (is_interface_method (Some (reference b x y)))
kept_interface true c d x y h = refl
kept_interface false c d x y h = absurd cc

called_on : (o : CallOp) (one other : Option Entry) (b : Bool) → kind_in one ≡ Some b → kind_in other ≡ Some b → IsTrue (is_called o one) → IsTrue (is_called o other)
called_on o one other b k l h =
    let x = reference_of one b k in
    let y = reference_of other b l in
    ap (is_called o) y.is ∙ kept_called o b x.class x.two y.class y.two (ap (is_called o) (sym x.is) ∙ h)

interface_on : (one other : Option Entry) (b : Bool) → kind_in one ≡ Some b → kind_in other ≡ Some b → IsTrue (is_interface_method one) → IsTrue (is_interface_method other)
interface_on one other b k l h =
    let x = reference_of one b k in
    let y = reference_of other b l in
    ap is_interface_method y.is ∙ kept_interface b x.class x.two y.class y.two (ap is_interface_method (sym x.is) ∙ h)

static_well : (whole : List Entry) (n : ℕ) → IsRt whole n → IsTrue (names_well whole (call_static n))
unfolding names_well
static_well whole n h =
    let x = reference_of (slice_get whole n) false h.1 in
    ap (is_called callops.Static) x.is

-- ---- expansions

-- what an instruction becomes calls what the instruction called
abbrev pub Tied : Op → Expand → Type 0
Tied (ops.Call o n) k = CallsOnly n k
Tied (ops.CallInterface n slots) k = CallsOnly n k
Tied op k = k ≡ Same

pub expand_tied : (g : ℕ → Option Member) (op : Op) → Tied op (expand_by g op)
expand_tied g (ops.Call o n) = calling_only n (g n)
expand_tied g (ops.CallInterface n slots) = calling_only n (g n)
expand_tied g ops.Nop = refl
expand_tied g ops.AconstNull = refl
expand_tied g (ops.IntConst c) = refl
expand_tied g (ops.LongConst c) = refl
expand_tied g (ops.Ldc op) = refl
expand_tied g (ops.Ldc2 m) = refl
expand_tied g (ops.IntLocal op) = refl
expand_tied g (ops.LongLocal op) = refl
expand_tied g (ops.RefLocal op) = refl
expand_tied g (ops.ArrayLoad element) = refl
expand_tied g (ops.ArrayStore element) = refl
expand_tied g (ops.Stack op) = refl
expand_tied g (ops.Two op) = refl
expand_tied g (ops.Divide op) = refl
expand_tied g (ops.One op) = refl
expand_tied g (ops.Iinc m by) = refl
expand_tied g (ops.If test by) = refl
expand_tied g (ops.IfInt test by) = refl
expand_tied g (ops.IfRef test by) = refl
expand_tied g (ops.Goto op) = refl
expand_tied g (ops.Switch s) = refl
expand_tied g (ops.Return kind) = refl
expand_tied g (ops.Field op m) = refl
expand_tied g (ops.New op) = refl
expand_tied g (ops.Object op) = refl
expand_tied g (ops.Cast op m) = refl
expand_tied g (ops.Wide op) = refl

no_call : {A : Type 0} (i : ℕ) → Call i ≡ Same → A
no_call i h = absurd cc

-- a call by another reference of the same kind
calling_well : (base whole : List Entry) (op : Op) (i j : ℕ) → Tied op (Call i) → IsKept base whole i j → IsTrue (names_well base op) → IsTrue (names_well whole (calling j op))
unfolding names_well
calling_well base whole (ops.Call o n) i j tied kept h =
    called_on o (slice_get base i) (slice_get whole j) kept.1.0 kept.1.1.0 kept.1.1.1 (subst (λ (m : ℕ). IsTrue (is_called o (slice_get base m))) (sym tied) h)
calling_well base whole (ops.CallInterface n slots) i j tied kept h =
    interface_on (slice_get base i) (slice_get whole j) kept.1.0 kept.1.1.0 kept.1.1.1 (subst (λ (m : ℕ). IsTrue (is_interface_method (slice_get base m))) (sym tied) h)
calling_well base whole ops.Nop i j tied kept h = no_call i tied
calling_well base whole ops.AconstNull i j tied kept h = no_call i tied
calling_well base whole (ops.IntConst c) i j tied kept h = no_call i tied
calling_well base whole (ops.LongConst c) i j tied kept h = no_call i tied
calling_well base whole (ops.Ldc op) i j tied kept h = no_call i tied
calling_well base whole (ops.Ldc2 m) i j tied kept h = no_call i tied
calling_well base whole (ops.IntLocal op) i j tied kept h = no_call i tied
calling_well base whole (ops.LongLocal op) i j tied kept h = no_call i tied
calling_well base whole (ops.RefLocal op) i j tied kept h = no_call i tied
calling_well base whole (ops.ArrayLoad element) i j tied kept h = no_call i tied
calling_well base whole (ops.ArrayStore element) i j tied kept h = no_call i tied
calling_well base whole (ops.Stack op) i j tied kept h = no_call i tied
calling_well base whole (ops.Two op) i j tied kept h = no_call i tied
calling_well base whole (ops.Divide op) i j tied kept h = no_call i tied
calling_well base whole (ops.One op) i j tied kept h = no_call i tied
calling_well base whole (ops.Iinc m by) i j tied kept h = no_call i tied
calling_well base whole (ops.If test by) i j tied kept h = no_call i tied
calling_well base whole (ops.IfInt test by) i j tied kept h = no_call i tied
calling_well base whole (ops.IfRef test by) i j tied kept h = no_call i tied
calling_well base whole (ops.Goto op) i j tied kept h = no_call i tied
calling_well base whole (ops.Switch s) i j tied kept h = no_call i tied
calling_well base whole (ops.Return kind) i j tied kept h = no_call i tied
calling_well base whole (ops.Field op m) i j tied kept h = no_call i tied
calling_well base whole (ops.New op) i j tied kept h = no_call i tied
calling_well base whole (ops.Object op) i j tied kept h = no_call i tied
calling_well base whole (ops.Cast op m) i j tied kept h = no_call i tied
calling_well base whole (ops.Wide op) i j tied kept h = no_call i tied

push_well : (pool : List Entry) (n : ℕ) → IsTrue (names_well pool (push_int n))
unfolding names_well
push_well pool n = refl

row : (base whole : List Entry) → IsFront base whole → (s : Setting) (q : ℕ) (op : Op) (k : Expand) (j : ℕ) (rest : List Line) → Tied op k → IsNumber base whole k j → IsTrue (names_well base op) → Wells whole rest
    → Wells whole (map (Do q) (expansion s (numbered k j) op) ++ rest)
row base whole f s q op Same j rest tied number h w = (well_on base whole f op h, w)
row base whole f s q op (Call i) j rest tied number h w = (move_well whole Load s.local, (calling_well base whole op i j tied number h, w))
row base whole f s q op (Check i) j rest tied number h w = (move_well whole Load s.local, (static_well whole j number, w))
row base whole f s q op (Snapshot i) j rest tied number h w = (move_well whole Load s.local, (static_well whole j number, w))
row base whole f s q op (Privileged i) j rest tied number h w = (push_well whole s.domain, (static_well whole j number, w))
row base whole f s q op (PrivilegedWith i) j rest tied number h w = (push_well whole s.domain, (static_well whole j number, w))
row base whole f s q op (PrivilegedLimited i) j rest tied number h w = (move_well whole Load s.local, (push_well whole s.domain, (static_well whole j number, w)))

rows : (base whole : List Entry) → IsFront base whole → (s : Setting) (g : ℕ → Option Member) (is : List Placed) (ms : List Expand) → AreNumbered base whole (map (λ i. expand_by g i.op) is) ms
    → IsTrue (list_all (λ i. names_well base i.op) is) → Wells whole (expansions s ms is)
rows base whole f s g [] [] n h = tt
rows base whole f s g [] (m ∷ ms) n h = absurd n
rows base whole f s g (i ∷ is) [] n h = absurd n
rows base whole f s g (i ∷ is) (m ∷ ms) n h =
    let k = expand_by g i.op in
    let later = rows base whole f s g is ms n.1 (second_true (names_well base i.op) (list_all (λ x. names_well base x.op) is) h) in
    subst (λ (x : Expand). Wells whole (map (Do i.at) (expansion s x i.op) ++ expansions s ms is)) (sym n.0.1.0)
    (row base whole f s i.at i.op k n.0.0 (expansions s ms is) (expand_tied g i.op) n.0.1.1 (first_true (names_well base i.op) (list_all (λ x. names_well base x.op) is) h) later)

-- ---- the whole

pub moved_well : (base whole : List Entry) → IsFront base whole → (slots enter : ℕ) (s : Setting) (g : ℕ → Option Member) (is : List Placed) (ms : List Expand) → IsRt whole enter → AreNumbered base whole (map (λ i. expand_by g i.op) is) ms
    → IsTrue (list_all (λ i. names_well base i.op) is) → (f : ℕ → ℕ) → IsTrue (list_all (λ i. names_well whole i.op) (placed f 0 (lines (prologue slots s enter) s ms is)))
moved_well base whole front slots enter s g is ms rt n h f =
    placed_well whole f 0 (lines (prologue slots s enter) s ms is)
    (move_well whole Load slots, (push_well whole s.domain, (static_well whole enter rt, (move_well whole Store s.local, rows base whole front s g is ms n h))))

-- ---- the numbers

number_small : (base whole : List Entry) (k : Expand) (j : ℕ) → IsNumber base whole k j → named (numbered k j) ≤ 0xffff
number_small base whole Same j h = omega arith
number_small base whole (Call i) j h = h.0
number_small base whole (Check i) j h = h.0
number_small base whole (Snapshot i) j h = h.0
number_small base whole (Privileged i) j h = h.0
number_small base whole (PrivilegedWith i) j h = h.0
number_small base whole (PrivilegedLimited i) j h = h.0

pub numbers_small : (base whole : List Entry) (ks ms : List Expand) → AreNumbered base whole ks ms → (n : ℕ) (k : Expand) → slice_get ms n ≡ Some k → named k ≤ 0xffff
numbers_small base whole [] [] h n k e = absurd cc
numbers_small base whole [] (m ∷ ms) h n k e = absurd h
numbers_small base whole (x ∷ ks) [] h n k e = absurd h
numbers_small base whole (x ∷ ks) (m ∷ ms) h zero k e =
    let same : m ≡ k = cc in
    subst (λ (y : Expand). named y ≤ 0xffff) same (subst (λ (y : Expand). named y ≤ 0xffff) (sym h.0.1.0) (number_small base whole x h.0.0 h.0.1.1))
numbers_small base whole (x ∷ ks) (m ∷ ms) h (suc n) k e = numbers_small base whole ks ms h.1 n k e
