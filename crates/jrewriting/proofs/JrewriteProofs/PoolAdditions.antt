-- What is put for the methods of a class: for each code what its items, its instructions and its frames name.
use Rattle.std.proofs.Common.{◌≡◌, ℕ, suc, ◌≤◌, Bool, true, false, List, [], ◌∷◌, ◌++◌, length, Some, None, refl, ap, sym, ◌∙◌, subst, arith}
use Rattle.std.specs.Prelude.{IsTrue, slice_get, if◌then◌else◌, option_and_then}
use Rattle.std.specs.List.{AllByRecursion, list_all}
use Rattle.jground.specs.jbase.FirstFaults.{first_some}
use Rattle.jground.proofs.JbaseProofs.Firsts.{none_of}
use Rattle.jground.proofs.JformatProofs.ReadingSteps.{first_true, second_true}
use Rattle.jparts.specs.declared.jpool.entry.Entry.{Entry}
use Rattle.jparts.specs.declared.jpool.entry.Entry.TheVariants.{Utf8}
use Rattle.jparts.specs.jpool.ConstantPools.{utf8_at}
use Rattle.jparts.specs.declared.jcode.op.Op.{Op}
use Rattle.jparts.specs.declared.jcode.op.Op.TheVariants as ops
use Rattle.jparts.specs.declared.jcode.op.Placed.{Placed}
use Rattle.jclass.specs.declared.class.Attribute.{Attribute}
use Rattle.jclass.specs.declared.class.Attribute.TheVariants.{Code, ConstantValue, Raw}
use Rattle.jclass.specs.declared.class.ClassParts.{ClassParts}
use Rattle.jclass.specs.declared.class.CodeBody.{CodeBody}
use Rattle.jclass.specs.declared.class.MemberInfo.{MemberInfo}
use Rattle.jclass.specs.MemberFormat.{body_of}
use Rattle.jclass.specs.PoolOperands.{names_well}
use Rattle.jclass.specs.FileContents.{HasCode, IsIn}
use Rattle.jclass.proofs.FittingClasses.{code_fits}
use Rattle.jparts.specs.declared.jmaps.types.RawFrame.{RawFrame}
use Rattle.jmove.specs.declared.method.Expand.{Expand}
use Rattle.jmove.specs.declared.method.Expand.TheVariants.{Same, Call, Check, Snapshot, Privileged, PrivilegedWith, PrivilegedLimited}
use Rattle.jmove.specs.PoolAdditions.{IsFront, with_body, with_text, ◌>>◌}
use Rattle.jmove.proofs.PoolGrowth.{body_grows, front_on, front_self}
use Rattle.jresolution.specs.declared.jprogram.part.CodePart.{CodePart}
use Rattle.jresolution.specs.jprogram.ProgramClasses.{Program}
use Rattle.jresolution.specs.jprogram.ClassFileParts.{code_of, member_desc, or_empty, text, this_name}
use Rattle.jlinking.specs.jreferring.InitialFrames.{first_frame_test}
use Rattle.jlinking.specs.jreferring.CodeChecks.{body_test, frames_test, units_test}
use Rattle.jlinking.specs.jreferring.PoolEntryMeanings.{judge_pool}
use Rattle.jlinking.specs.jreferring.CodeUnits.{attribute_test}
use Rattle.jlinking.proofs.JlinkProofs.ResolvedReferences.{class_none, code_good, code_none}
use Rattle.jtyping.specs.jwelltyped.VerifierTests.{WellTyped}
use Rattle.jmoveclass.specs.CallExpansion.{calling, expand_by, expands}
use Rattle.jmoveclass.specs.KeptAttributes.{method_keeps}
use Rattle.jmoveclass.specs.MovedMembers.{method_in, new_desc, with_attribute, with_code, with_first, with_method}
use Rattle.jmoveclass.specs.MovedClasses.{moved_class}
use Rattle.jmoveclass.specs.PoolPuts.{with_each}
use Rattle.jmoveclass.proofs.PoolStability.{text_stays}
use Rattle.jmoveclass.proofs.Growth.{attribute_grows, first_grows, method_grows}
use Rattle.jmoveclass.proofs.MethodContents.{only_code}
use Rattle.jmoveclass.proofs.ItemAdditions.{each_grows}
use Rattle.jrewriting.specs.jmoveclass_laws.MovedFiles.{CanBeFile}
use Rattle.jrewriting.proofs.JmoveclassLawsProofs.PrologueClasses.{Begins, begins_of}
use Rattle.jrewriting.proofs.JmoveclassLawsProofs.Methods.{movable_of}
use Rattle.jrewriting.proofs.JmoveclassLawsProofs.PoolFormat.{Grown, code_calls, few_in, new_text, ops_named, put_attribute, put_method, sound_of}
use Rattle.jrewriting.proofs.JmoveclassLawsProofs.SoundPools.{IsSound, entry_front, front_length, put_text}
use Rattle.jrewriting.specs.jrewrite.LinkageLaws.{IsLinked}
use Rattle.jrewriting.specs.jrewrite.RewrittenPrograms.{limits, moved}
use Rattle.jrewriting.proofs.JrewriteProofs.Bodies.{IsCodePut}
use Rattle.jrewriting.proofs.JrewriteProofs.Calls.{Known}
use Rattle.jrewriting.proofs.JrewriteProofs.CodeNames.{called_target, index_is, interface_target, stands_for}
use Rattle.jrewriting.proofs.JrewriteProofs.ClassFileParts.{can_be_file}
use Rattle.jrewriting.proofs.JrewriteProofs.ClassLookup.{pool_front, this_same}
use Rattle.jrewriting.proofs.JrewriteProofs.ParameterAccess.{Handed, handed, may_name_type, may_take, taken_over}
use Rattle.jrewriting.proofs.JrewriteProofs.FrameItems.{HoldsFirst, put_first}
use Rattle.jrewriting.proofs.JrewriteProofs.MemberPhase.{all_moving, moving_of}
use Rattle.jrewriting.proofs.JrewriteProofs.FinalOverrides.{moved_side}
use Rattle.jrewriting.proofs.JrewriteProofs.Params.{Fits, desc_free, method_fits, this_fits}
use Rattle.jrewriting.proofs.JrewriteProofs.PlainPrograms.{is_plain}
use Rattle.jrewriting.proofs.JrewriteProofs.PoolReferences.{AreCalls, IsCall, put_body}
use Rattle.jrewriting.proofs.JrewriteProofs.ParameterSlots.{all_few}
use Rattle.jrewriting.proofs.JrewriteProofs.Security.{IsPassing}
use Rattle.jrewriting.proofs.JrewriteProofs.HierarchyPhases.{names_stay, plain_at, text_plain}
use Rattle.jrewriting.proofs.JrewriteProofs.Targets.{Target, change_of}
use Rattle.jparts.specs.jpool.PoolEntries.{utf8_parts}
use Rattle.jlinking.specs.jmembers.MemberDeclarations.{at_member as in_method}
use Rattle.jclass.specs.CodeFormat.{frames_in}

-- ---- what is known of a class

pub known_of : (p : Program) → IsLinked p → WellTyped p → limits p ≡ None → (i : ℕ) (part : CodePart) → slice_get p.parts i ≡ Some part → Known p part.class (moved_class p part.domain part.class)
known_of p is typed none i part at =
    let c = part.class in
    let plainly = is_plain p is in
    let x = plain_at p plainly i part at in
    record {
      linked = is;
      all = all_moving p is typed none;
      few = all_few p none is.files;
      passing = record { side = moved_side p; names = names_stay p plainly };
      pair = record {
        front = pool_front p part.domain c;
        sound = sound_of c (is.files i part at);
        kept = x.kept;
        this = this_same p part.domain c x.named;
        plain = text_plain c c.this_class x.kept x.named.this;
      };
    }

-- ---- calls

call_by : (p : Program) (c d : ClassParts) → Known p c d → (n : ℕ) (x : Expand) → calling n (stands_for p c n) ≡ x → Target c.pool n → IsCall p c x
call_by p c d k n Same e t = tt
call_by p c d k n (Call i) e t =
    let same = index_is p c n i e in
    let whole : calling n (stands_for p c n) ≡ Call n = e ∙ ap Call same in
    subst (λ (j : ℕ). IsCall p c (Call j)) (sym same) (t, change_of p k.linked k.few c n t whole)
call_by p c d k n (Check i) e t = tt
call_by p c d k n (Snapshot i) e t = tt
call_by p c d k n (Privileged i) e t = tt
call_by p c d k n (PrivilegedWith i) e t = tt
call_by p c d k n (PrivilegedLimited i) e t = tt

op_call : (p : Program) (c d : ClassParts) → Known p c d → (op : Op) → IsTrue (names_well c.pool op) → IsCall p c (expand_by (stands_for p c) op)
unfolding names_well
op_call p c d k (ops.Call o n) h = call_by p c d k n (calling n (stands_for p c n)) refl (called_target c p d k o n h)
op_call p c d k (ops.CallInterface n slots) h = call_by p c d k n (calling n (stands_for p c n)) refl (interface_target c p d k n h)
op_call p c d k ops.Nop h = tt
op_call p c d k ops.AconstNull h = tt
op_call p c d k (ops.IntConst n) h = tt
op_call p c d k (ops.LongConst n) h = tt
op_call p c d k (ops.Ldc op) h = tt
op_call p c d k (ops.Ldc2 m) h = tt
op_call p c d k (ops.IntLocal op) h = tt
op_call p c d k (ops.LongLocal op) h = tt
op_call p c d k (ops.RefLocal op) h = tt
op_call p c d k (ops.ArrayLoad element) h = tt
op_call p c d k (ops.ArrayStore element) h = tt
op_call p c d k (ops.Stack op) h = tt
op_call p c d k (ops.Two op) h = tt
op_call p c d k (ops.Divide op) h = tt
op_call p c d k (ops.One op) h = tt
op_call p c d k (ops.Iinc m by) h = tt
op_call p c d k (ops.If test by) h = tt
op_call p c d k (ops.IfInt test by) h = tt
op_call p c d k (ops.IfRef test by) h = tt
op_call p c d k (ops.Goto op) h = tt
op_call p c d k (ops.Switch s) h = tt
op_call p c d k (ops.Return kind) h = tt
op_call p c d k (ops.Field op m) h = tt
op_call p c d k (ops.New op) h = tt
op_call p c d k (ops.Object op) h = tt
op_call p c d k (ops.Cast op m) h = tt
op_call p c d k (ops.Wide op) h = tt

ops_calls : (p : Program) (c d : ClassParts) → Known p c d → (is : List Placed) → IsTrue (list_all (λ i. names_well c.pool i.op) is) → AreCalls p c (expands p c.pool is)
unfolding expands
ops_calls p c d k [] h = tt
ops_calls p c d k (i ∷ is) h =
    (op_call p c d k i.op (first_true (names_well c.pool i.op) (list_all (λ x. names_well c.pool x.op) is) h), ops_calls p c d k is (second_true (names_well c.pool i.op) (list_all (λ x. names_well c.pool x.op) is) h))

-- ---- what is put

-- what is known of a method's code
pub record Coded (p : Program) (c : ClassParts) (m : MemberInfo) (b : CodeBody) : Type 0 where
  pub has : HasCode c b
  pub is : code_of m ≡ Some b
  pub old : body_test p (this_name c) (member_desc c m) (judge_pool p c) b ≡ None
  pub begins : Handed (moved p) (this_name c) (new_desc c m) (frames_in b)
  pub frames : HoldsFirst (Fits (moved p) (this_name c)) c m (frames_in b)

-- of a method
pub record OfMethod (p : Program) (c : ClassParts) (m : MemberInfo) : Type 0 where
  pub begins : Begins c m
  pub this : Fits (moved p) (this_name c) (this_name c)
  pub codes : (a : Attribute) (b : CodeBody) → IsIn a m.attributes → body_of a ≡ Some b → Coded p c m b

pub code_put : (p : Program) (c d : ClassParts) → Known p c d → (domain : ℕ) (m : MemberInfo) (name : ℕ) (b : CodeBody) (pool : List Entry) → Grown c.pool pool → Begins c m → Fits (moved p) (this_name c) (this_name c) → Coded p c m b
    → length (with_code p c domain m name b pool).1 ≤ 65535 → IsCodePut p c m b pool
unfolding with_code ◌>>◌
code_put p c d k domain m name b pool g begins this coded few =
    let x = with_first c m (frames_in b) pool in
    let ks = expands p c.pool b.ops in
    let fs = (method_in c m b x.0).frames in
    let y = with_body ks fs x.1 in
    let le : length x.1 ≤ length y.1 = front_length x.1 y.1 ((body_grows ks fs).on x.1) in
    let q = put_first (Fits (moved p) (this_name c)) c m (frames_in b) pool g.sound begins this coded.frames (omega arith) in
    record {
      items = q.1;
      body = put_body p c ks fs x.1 (front_on c.pool pool x.1 g.front ((first_grows c m (frames_in b)).on pool)) g.before q.0 (ops_calls p c d k b.ops (ops_named c.pool b (code_fits c b coded.has))) few;
    }

-- ---- one by one

-- what was put for a code of a method, and an attribute that it is
pub record IsPutCode (p : Program) (c d : ClassParts) (domain : ℕ) (m : MemberInfo) (a : Attribute) : Type 0 where
  pub b : CodeBody
  pub coded : Coded p c m b
  pub name : ℕ
  pub pool : List Entry
  pub put : IsCodePut p c m b pool
  pub later : IsFront (with_code p c domain m name b pool).1 d.pool
  pub is : (with_code p c domain m name b pool).0 ≡ a

abbrev pub AttributePut : Program → ClassParts → ClassParts → ℕ → MemberInfo → Attribute → Type 0
AttributePut p c d domain m (Code name stack locals ops handlers others) = IsPutCode p c d domain m (Code name stack locals ops handlers others)
AttributePut p c d domain m (ConstantValue name value) = Unit {0}
AttributePut p c d domain m (Raw name bytes) = Unit {0}

abbrev pub AllPut : Program → ClassParts → ClassParts → ℕ → MemberInfo → List Attribute → Type 0
AllPut p c d domain m xs = AllByRecursion (λ a. AttributePut p c d domain m a) xs

raw_put : (p : Program) (c d : ClassParts) (domain : ℕ) (m : MemberInfo) (b : Bool) (name : ℕ) (bytes : List ℕ) → AllPut p c d domain m (if b then Raw name bytes ∷ [] else [])
raw_put p c d domain m true name bytes = (tt, tt)
raw_put p c d domain m false name bytes = tt

attribute_put : (p : Program) (c d : ClassParts) → Known p c d → (domain : ℕ) (m : MemberInfo) → OfMethod p c m → (a : Attribute) → IsIn a m.attributes → (pool : List Entry) → Grown c.pool pool → length (with_attribute p c domain m a pool).1 ≤ 65535
    → IsFront (with_attribute p c domain m a pool).1 d.pool → AllPut p c d domain m (with_attribute p c domain m a pool).0
unfolding with_code ◌>>◌
attribute_put p c d k domain m o (Code name stack locals is handlers others) there pool g few later =
    let b : CodeBody = record { max_stack = stack; max_locals = locals; ops = is; handlers = handlers; attributes = others } in
    let coded = o.codes (Code name stack locals is handlers others) b there refl in
    (record { b = b; coded = coded; name = name; pool = pool; put = code_put p c d k domain m name b pool g o.begins o.this coded few; later = later; is = refl }, tt)
attribute_put p c d k domain m o (ConstantValue name value) there pool g few later = tt
attribute_put p c d k domain m o (Raw name bytes) there pool g few later = raw_put p c d domain m (method_keeps c.pool (Raw name bytes)) name bytes

none_put : (p : Program) (c d : ClassParts) (domain : ℕ) (m : MemberInfo) → AllPut p c d domain m []
none_put p c d domain m = tt

join : (p : Program) (c d : ClassParts) (domain : ℕ) (m : MemberInfo) (xs ys : List Attribute) → AllPut p c d domain m xs → AllPut p c d domain m ys → AllPut p c d domain m (xs ++ ys)
join p c d domain m [] ys h k = k
join p c d domain m (x ∷ xs) ys h k = (h.0, join p c d domain m xs ys h.1 k)

attributes_put : (p : Program) (c d : ClassParts) → Known p c d → (domain : ℕ) → CanBeFile p domain c → (m : MemberInfo) → IsIn m c.methods → OfMethod p c m → (xs : List Attribute) → ((i : ℕ) (a : Attribute) → slice_get xs i ≡ Some a → IsIn a m.attributes)
    → (pool : List Entry) → Grown c.pool pool → length (with_each (with_attribute p c domain m) xs pool).1 ≤ 65535 → IsFront (with_each (with_attribute p c domain m) xs pool).1 d.pool
    → AllPut p c d domain m (with_each (with_attribute p c domain m) xs pool).0
unfolding with_each ◌>>◌
attributes_put p c d k domain can m here o [] there pool g few later = none_put p c d domain m
attributes_put p c d k domain can m here o (a ∷ xs) there pool g few later =
    let x = with_attribute p c domain m a pool in
    let y = with_each (with_attribute p c domain m) xs x.1 in
    let grown = (each_grows (with_attribute p c domain m) (attribute_grows p c domain m) xs).on x.1 in
    let le : length x.1 ≤ length y.1 = front_length x.1 y.1 grown in
    let is = there 0 a refl in
    let one = attribute_put p c d k domain m o a is pool g (omega arith) (front_on x.1 y.1 d.pool grown later) in
    let sound = put_attribute p c domain m a pool g o.begins (λ b e. code_calls p c b (record { good = can.good; method = m; attribute = a; in_class = here; in_method = is; is_body = e }) can.room) (omega arith) in
    let next : Grown c.pool x.1 = record { front = front_on c.pool pool x.1 g.front ((attribute_grows p c domain m a).on pool); before = g.before; sound = sound } in
    join p c d domain m x.0 y.0 one (attributes_put p c d k domain can m here o xs (λ i b at. there (suc i) b at) x.1 next few later)

-- a method and what was put for it
pub record MethodPut (p : Program) (c d : ClassParts) (domain : ℕ) (m n : MemberInfo) : Type 0 where
  pub desc : text d.pool n.desc ≡ new_desc c m
  pub attributes : AllPut p c d domain m n.attributes

abbrev pub MethodsPut : Program → ClassParts → ClassParts → ℕ → List MemberInfo → List MemberInfo → Type 0
MethodsPut p c d domain [] [] = Unit {0}
MethodsPut p c d domain (m ∷ ms) (n ∷ ns) = MethodPut p c d domain m n × MethodsPut p c d domain ms ns
MethodsPut p c d domain _ _ = ⊥

text_put : (pool whole : List Entry) → IsFront pool whole → (i : ℕ) (t : List ℕ) → slice_get pool i ≡ Some (Utf8 t) → text whole i ≡ t
unfolding utf8_at
text_put pool whole f i t at = ap or_empty (text_stays pool whole f i t (ap (option_and_then utf8_parts) at))

methods_put : (p : Program) (c d : ClassParts) → Known p c d → (domain : ℕ) → CanBeFile p domain c → ((m : MemberInfo) → IsIn m c.methods → OfMethod p c m) → (ms : List MemberInfo) → ((i : ℕ) (m : MemberInfo) → slice_get ms i ≡ Some m → IsIn m c.methods)
    → (pool : List Entry) → Grown c.pool pool → length (with_each (with_method p c domain) ms pool).1 ≤ 65535 → IsFront (with_each (with_method p c domain) ms pool).1 d.pool
    → MethodsPut p c d domain ms (with_each (with_method p c domain) ms pool).0
unfolding with_each ◌>>◌ with_method
methods_put p c d k domain can of [] there pool g few later = tt
methods_put p c d k domain can of (m ∷ ms) there pool g few later =
    let desc = new_desc c m in
    let w = with_text desc pool in
    let v = with_each (with_attribute p c domain m) m.attributes w.1 in
    let x = with_method p c domain m pool in
    let y = with_each (with_method p c domain) ms x.1 in
    let inner = (each_grows (with_attribute p c domain m) (attribute_grows p c domain m) m.attributes).on w.1 in
    let grown = (each_grows (with_method p c domain) (method_grows p c domain) ms).on x.1 in
    let less : length w.1 ≤ length x.1 = front_length w.1 x.1 inner in
    let le : length x.1 ≤ length y.1 = front_length x.1 y.1 grown in
    let is = there 0 m refl in
    let q = put_text desc pool g.sound (new_text c m can.good g.before is (can.short m is)) (omega arith) in
    let begun : Grown c.pool w.1 = record { front = front_on c.pool pool w.1 g.front (entry_front (Utf8 desc) pool); before = g.before; sound = q.sound } in
    let all = attributes_put p c d k domain can m is (of m is) m.attributes (λ i a at. (i, at)) w.1 begun (omega arith) (front_on x.1 y.1 d.pool grown later) in
    let sound = put_method p c domain m pool (movable_of p domain c can) is g (omega arith) in
    let next : Grown c.pool x.1 = record { front = front_on c.pool pool x.1 g.front ((method_grows p c domain m).on pool); before = g.before; sound = sound } in
    let named = text_put w.1 d.pool (front_on w.1 x.1 d.pool inner (front_on x.1 y.1 d.pool grown later)) w.0 desc q.there in
    (record { desc = named; attributes = all }, methods_put p c d k domain can of ms (λ i n at. there (suc i) n at) x.1 next few later)

whole_put : (p : Program) (c : ClassParts) (domain : ℕ) → Known p c (moved_class p domain c) → CanBeFile p domain c → ((m : MemberInfo) → IsIn m c.methods → OfMethod p c m) → IsSound c.pool
    → MethodsPut p c (moved_class p domain c) domain c.methods (moved_class p domain c).methods
unfolding moved_class
whole_put p c domain k can of s =
    let x = with_each (with_method p c domain) c.methods c.pool in
    methods_put p c (moved_class p domain c) k domain can of c.methods (λ i m at. (i, at)) c.pool (record { front = front_self c.pool; before = s; sound = s }) (few_in p domain c can.none) (front_self x.1)

-- ---- a class of a program that links

holds_first : (p : Program) → IsLinked p → (i : ℕ) (part : CodePart) (m : MemberInfo) → slice_get p.parts i ≡ Some part → IsIn m part.class.methods → (fs : List RawFrame) → IsTrue (list_all (may_name_type p (this_name part.class)) (taken_over part.class m fs))
    → HoldsFirst (Fits (moved p) (this_name part.class)) part.class m fs
holds_first p is i part m at there [] may = tt
holds_first p is i part m at there (f ∷ fs) may = method_fits p is i part m at there may

pub of_method : (p : Program) → IsLinked p → WellTyped p → limits p ≡ None → (i : ℕ) (part : CodePart) → slice_get p.parts i ≡ Some part → (m : MemberInfo) → IsIn m part.class.methods → OfMethod p part.class m
of_method p is typed none i part at m there =
    let c = part.class in
    let fit = is.files i part at in
    let plainly = is_plain p is in
    let passing : IsPassing (moved p) = record { side = moved_side p; names = names_stay p plainly } in
    let facts = (moving_of p is typed none i part at).0.facts m there in
    record {
      begins = begins_of c m fit (sound_of c fit) there;
      this = this_fits p is i part at;
      codes = λ a b inside body.
          let coded = only_code c m a b fit there inside body in
          let old = code_good p i c there.0 m b (class_none p i part (code_none p is.links.rules) at) there.1 coded in
          let table = judge_pool p c in
          let frames = (none_of (units_test table b.ops b.handlers) (frames_test p (this_name c) (member_desc c m) table b.attributes) old).1 in
          let first = (none_of (first_frame_test p (this_name c) (member_desc c m) b.attributes) (first_some (attribute_test table) b.attributes) frames).0 in
          record {
            has = record { good = fit; method = m; attribute = a; in_class = there; in_method = inside; is_body = body };
            is = coded;
            old = old;
            begins = handed p plainly passing c m b facts (desc_free p is i part m at there) first;
            frames = holds_first p is i part m at there (frames_in b) (may_take p c m b first);
          };
    }

-- all that was put for the methods of a class
pub class_put : (p : Program) → IsLinked p → WellTyped p → limits p ≡ None → (i : ℕ) (part : CodePart) → slice_get p.parts i ≡ Some part
    → MethodsPut p part.class (moved_class p part.domain part.class) part.domain part.class.methods (moved_class p part.domain part.class).methods
class_put p is typed none i part at =
    let can = can_be_file p is typed none i part at in
    whole_put p part.class part.domain (known_of p is typed none i part at) can (of_method p is typed none i part at) (sound_of part.class can.good)
