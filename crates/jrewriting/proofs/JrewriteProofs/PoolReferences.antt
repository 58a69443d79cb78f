-- What moved code calls, as it is put into a pool: each index names the reference that it must name.
use Rattle.std.proofs.Common.{◌≡◌, ℕ, ◌≤◌, Bool, false, List, [], ◌∷◌, length, Option, Some, None, refl, ap, sym, ◌∙◌, subst, arith}
use Rattle.std.specs.Prelude.{IsTrue, slice_get, option_and_then, codes, if◌then◌else◌}
use Rattle.std.proofs.lemmas.Bool.{le-leb}
use Rattle.jparts.specs.declared.jpool.entry.Entry.{Entry}
use Rattle.jparts.specs.declared.jpool.entry.Entry.TheVariants.{Utf8, NameAndType}
use Rattle.jparts.specs.jpool.Descriptors.{is_field_descriptor, is_method_descriptor}
use Rattle.jparts.specs.jpool.ConstantPools.{class_name_at, name_and_type_at}
use Rattle.jclass.specs.declared.class.ClassParts.{ClassParts}
use Rattle.jparts.specs.declared.jmaps.types.FullFrame.{FullFrame}
use Rattle.jmove.specs.declared.method.Expand.{Expand}
use Rattle.jmove.specs.declared.method.Expand.TheVariants.{Same, Call, Check, Snapshot, Privileged, PrivilegedWith, PrivilegedLimited}
use Rattle.jmove.specs.declared.naming.Named.{Named}
use Rattle.jmove.specs.declared.naming.Reference.{Reference}
use Rattle.jmove.specs.declared.naming.Security.{Security}
use Rattle.jmove.specs.declared.naming.Security.TheVariants as security
use Rattle.jmove.specs.PoolAdditions.{IsFront, changed_text, moved_descriptor, numbered, reference_at, reference_by, reference_in, security_name, security_type, short, with_body, with_call, with_changed, with_descriptor, with_entry, with_expansions, with_frames, with_number, with_reference, with_security, with_text, ◌>>◌}
use Rattle.jmove.proofs.PoolGrowth.{expansions_grow, frames_grow, front_on, number_grows, security_grows}
use Rattle.jmoveclass.proofs.PoolStability.{at_front, class_name_stays}
use Rattle.jrewriting.proofs.JmoveclassLawsProofs.Methods.{text_at}
use Rattle.jrewriting.proofs.JmoveclassLawsProofs.AddedNames.{context_name, context_text}
use Rattle.jrewriting.proofs.JmoveclassLawsProofs.AddedReferences.{IsReferencePut, put_reference, put_security, reference}
use Rattle.jrewriting.proofs.JmoveclassLawsProofs.SoundPools.{IsSound, IsText, entry_front, front_length, put_both, put_class, put_text}
use Rattle.jrewriting.proofs.JmoveclassLawsProofs.Texts.{longer_is_method, longer_text, pool_text, text_entry, or_second}
use Rattle.jresolution.specs.jprogram.ProgramClasses.{Program}
use Rattle.jrewriting.proofs.JrewriteProofs.Calls.{Takes, target_on}
use Rattle.jrewriting.proofs.JrewriteProofs.Targets.{Change, Target, changed_desc}
use Rattle.jparts.specs.jpool.PoolEntries.{name_and_type_parts}
use Rattle.jrewriting.proofs.JmoveclassLawsProofs.CallReferences.{in_by}

-- ---- a reference that was put

pub record IsPut (b : Bool) (o n d : List ℕ) (pool : List Entry) (j : ℕ) : Type 0 where
  pub target : Target pool j
  pub interface : target.interface ≡ b
  pub owner : target.says.owner ≡ o
  pub name : target.says.name ≡ n
  pub desc : target.says.desc ≡ d

both_at : (pool : List Entry) (i n d : ℕ) → slice_get pool i ≡ Some (NameAndType n d) → name_and_type_at pool i ≡ Some (n, d)
unfolding name_and_type_at
both_at pool i n d at = ap (option_and_then name_and_type_parts) at

put_is : (b : Bool) (o n d : List ℕ) (x : ℕ × List Entry) → IsReferencePut b o n d x → IsPut b o n d x.1 x.0
put_is b o n d x k = record {
  target = record {
    interface = b;
    class = k.c;
    two = k.b;
    there = k.there;
    says = record {
      n = k.n;
      d = k.d;
      owner = o;
      name = n;
      desc = d;
      owner_there = k.class_there;
      both = both_at x.1 k.b k.n k.d k.both_there;
      name_there = text_at x.1 k.n n k.name_there;
      desc_there = text_at x.1 k.d d k.desc_there;
    };
  };
  interface = refl;
  owner = refl;
  name = refl;
  desc = refl;
}

put_on : (b : Bool) (o n d : List ℕ) (pool whole : List Entry) → IsFront pool whole → (j : ℕ) → IsPut b o n d pool j → IsPut b o n d whole j
put_on b o n d pool whole f j k = record { target = target_on pool whole f j k.target; interface = k.interface; owner = k.owner; name = k.name; desc = k.desc }

-- a method of `sps/Rt`
abbrev pub IsSecurity : Security → List Entry → ℕ → Type 0
IsSecurity m pool j = IsPut false (codes "sps/Rt") (security_name m) (security_type m) pool j

pub security_on : (m : Security) (pool whole : List Entry) → IsFront pool whole → (j : ℕ) → IsSecurity m pool j → IsSecurity m whole j
security_on m pool whole f j k = put_on false (codes "sps/Rt") (security_name m) (security_type m) pool whole f j k

rt_put : (m : Security) (pool : List Entry) → IsSound pool → length (with_security m pool).1 ≤ 65535 → IsSound (with_security m pool).1 × IsSecurity m (with_security m pool).1 (with_security m pool).0
rt_put m pool s few =
    let w = put_security m pool s few in
    (w.sound, put_is false (codes "sps/Rt") (security_name m) (security_type m) (with_security m pool) w)

-- ---- a changed call

put_changed : (r : Reference) (text : List ℕ) (pool : List Entry) (owner name : List ℕ) → IsSound pool → class_name_at pool r.class ≡ Some owner → slice_get pool r.name ≡ Some (Utf8 name) → IsText text → IsTrue (is_method_descriptor text)
    → length (with_changed r text pool).1 ≤ 65535 → IsReferencePut r.interface owner name text (with_changed r text pool)
unfolding with_changed ◌>>◌
put_changed r text pool owner name s class named t good few =
    let x = with_text text pool in
    let y = with_entry (NameAndType r.name x.0) x.1 in
    let z = with_entry (reference r.interface r.class y.0) y.1 in
    let f = entry_front (Utf8 text) pool in
    let g = entry_front (NameAndType r.name x.0) x.1 in
    let last : length y.1 ≤ length z.1 = front_length y.1 z.1 (entry_front (reference r.interface r.class y.0) y.1) in
    let first : length x.1 ≤ length y.1 = front_length x.1 y.1 g in
    let p = put_text text pool s t (omega arith) in
    let q = put_both r.name x.0 name text x.1 p.sound (at_front pool x.1 f r.name (Utf8 name) named) p.there (or_second (is_field_descriptor text) (is_method_descriptor text) good) (omega arith) in
    put_reference r.interface r.class y.0 q.n q.d owner name text y.1 q.sound (class_name_stays pool y.1 (front_on pool x.1 y.1 f g) r.class owner class) q.there q.name_there q.desc_there few

-- the reference that a target is
abbrev made : (pool : List Entry) (i : ℕ) → Target pool i → Reference
made pool i t = record { interface = t.interface; class = t.class; name = t.says.n; descriptor = t.says.d }

made_is : (pool : List Entry) (i : ℕ) (t : Target pool i) → reference_at pool i ≡ Some (made pool i t)
unfolding reference_at
made_is pool i t = ap (reference_in pool) t.there ∙ in_by pool t.interface t.class t.two ∙ ap (reference_by t.interface t.class) t.says.both

short_is : (t : List ℕ) → length t ≤ 65535 → short t ≡ Some t
short_is t h = ap (λ (b : Bool). if b then Some t else None) (le-leb (length t) 65535 h)

text_is : (pool : List Entry) (i : ℕ) (t : Target pool i) (new : List ℕ) → moved_descriptor t.says.desc ≡ Some new → length new ≤ 65535 → changed_text pool (made pool i t) ≡ Some new
unfolding changed_text
text_is pool i t new h few = ap (λ (o : Option (List ℕ)). option_and_then short (option_and_then moved_descriptor o)) t.says.desc_there ∙ ap (option_and_then short) h ∙ short_is new few

call_is : (pool : List Entry) (i : ℕ) (t : Target pool i) (new : List ℕ) → moved_descriptor t.says.desc ≡ Some new → length new ≤ 65535 → with_call i pool ≡ with_changed (made pool i t) new pool
unfolding with_call
call_is pool i t new h few =
    ap (λ (o : Option Reference). with_reference i o pool) (made_is pool i t) ∙ ap (λ (o : Option (List ℕ)). with_descriptor i (made pool i t) o pool) (text_is pool i t new h few)

-- the text is one of a pool, and a method's descriptor
record NewText (t : List ℕ) : Type 0 where
  pub text : IsText t
  pub good : IsTrue (is_method_descriptor t)

new_text : (p : Program) (c : ClassParts) → IsSound c.pool → (i : ℕ) (t : Target c.pool i) → Change p c i t → NewText (changed_desc c i t)
new_text p c s i t k =
    let old = pool_text c.pool t.says.d t.says.desc s (text_entry c.pool t.says.d t.says.desc t.says.desc_there) in
    subst NewText (sym k.new) (record {
      text = longer_text t.says.desc k.ps k.ret old k.old (subst (λ (l : List ℕ). length l ≤ 65535) k.new k.short);
      good = longer_is_method t.says.desc k.ps k.ret k.old k.few;
    })

call_put : (p : Program) (c : ClassParts) (pool : List Entry) → IsFront c.pool pool → IsSound c.pool → IsSound pool → (i : ℕ) (t : Target c.pool i) → Change p c i t → length (with_call i pool).1 ≤ 65535
    → IsReferencePut t.interface t.says.owner t.says.name (changed_desc c i t) (with_call i pool)
call_put p c pool f sb s i t k few =
    let u = target_on c.pool pool f i t in
    let n = new_text p c sb i t k in
    let new = changed_desc c i t in
    let is = call_is pool i u new k.moved k.short in
    subst (λ (x : ℕ × List Entry). IsReferencePut t.interface t.says.owner t.says.name new x) (sym is)
    (put_changed (made pool i u) new pool t.says.owner t.says.name s u.says.owner_there (text_entry pool t.says.n t.says.name u.says.name_there) n.text n.good (subst (λ (x : ℕ × List Entry). length x.1 ≤ 65535) is few))

-- ---- what instructions call

-- the number of an expansion in a pool
abbrev pub IsNumber : Program → ClassParts → List Entry → Expand → ℕ → Type 0
IsNumber p c whole Same j = Unit {0}
IsNumber p c whole (Call i) j = Takes p c whole i j
IsNumber p c whole (Check i) j = IsSecurity security.Check whole j
IsNumber p c whole (Snapshot i) j = IsSecurity security.Snapshot whole j
IsNumber p c whole (Privileged i) j = IsSecurity security.Privileged whole j
IsNumber p c whole (PrivilegedWith i) j = IsSecurity security.PrivilegedWith whole j
IsNumber p c whole (PrivilegedLimited i) j = IsSecurity security.PrivilegedLimited whole j

abbrev pub AreNumbered : Program → ClassParts → List Entry → List Expand → List Expand → Type 0
AreNumbered p c whole [] [] = Unit {0}
AreNumbered p c whole (k ∷ ks) (m ∷ ms) = ((j : ℕ) × ((m ≡ numbered k j) × IsNumber p c whole k j)) × AreNumbered p c whole ks ms
AreNumbered p c whole _ _ = ⊥

takes_on : (p : Program) (c : ClassParts) (mid whole : List Entry) → IsFront mid whole → (i j : ℕ) → Takes p c mid i j → Takes p c whole i j
takes_on p c mid whole f i j t = record { old = t.old; change = t.change; new = target_on mid whole f j t.new; interface = t.interface; owner = t.owner; name = t.name; desc = t.desc }

number_on : (p : Program) (c : ClassParts) (mid whole : List Entry) → IsFront mid whole → (k : Expand) (j : ℕ) → IsNumber p c mid k j → IsNumber p c whole k j
number_on p c mid whole f Same j h = tt
number_on p c mid whole f (Call i) j h = takes_on p c mid whole f i j h
number_on p c mid whole f (Check i) j h = security_on security.Check mid whole f j h
number_on p c mid whole f (Snapshot i) j h = security_on security.Snapshot mid whole f j h
number_on p c mid whole f (Privileged i) j h = security_on security.Privileged mid whole f j h
number_on p c mid whole f (PrivilegedWith i) j h = security_on security.PrivilegedWith mid whole f j h
number_on p c mid whole f (PrivilegedLimited i) j h = security_on security.PrivilegedLimited mid whole f j h

pub numbers_on : (p : Program) (c : ClassParts) (mid whole : List Entry) → IsFront mid whole → (ks ms : List Expand) → AreNumbered p c mid ks ms → AreNumbered p c whole ks ms
numbers_on p c mid whole f [] [] h = tt
numbers_on p c mid whole f (k ∷ ks) (m ∷ ms) h = ((h.0.0, (h.0.1.0, number_on p c mid whole f k h.0.0 h.0.1.1)), numbers_on p c mid whole f ks ms h.1)
numbers_on p c mid whole f [] (m ∷ ms) h = absurd h
numbers_on p c mid whole f (k ∷ ks) [] h = absurd h

-- what is asked of the calls that change
abbrev pub IsCall : Program → ClassParts → Expand → Type 0
IsCall p c (Call i) = (t : Target c.pool i) × Change p c i t
IsCall p c Same = Unit {0}
IsCall p c (Check i) = Unit {0}
IsCall p c (Snapshot i) = Unit {0}
IsCall p c (Privileged i) = Unit {0}
IsCall p c (PrivilegedWith i) = Unit {0}
IsCall p c (PrivilegedLimited i) = Unit {0}

abbrev pub AreCalls : Program → ClassParts → List Expand → Type 0
AreCalls p c [] = Unit {0}
AreCalls p c (k ∷ ks) = IsCall p c k × AreCalls p c ks

put_call : (p : Program) (c : ClassParts) (pool : List Entry) → IsFront c.pool pool → IsSound c.pool → IsSound pool → (i : ℕ) (t : Target c.pool i) → Change p c i t → length (with_call i pool).1 ≤ 65535
    → IsSound (with_call i pool).1 × Takes p c (with_call i pool).1 i (with_call i pool).0
put_call p c pool f sb s i t k few =
    let w = call_put p c pool f sb s i t k few in
    let u = put_is t.interface t.says.owner t.says.name (changed_desc c i t) (with_call i pool) w in
    (w.sound, record { old = t; change = k; new = u.target; interface = u.interface; owner = u.owner; name = u.name; desc = u.desc })

put_number : (p : Program) (c : ClassParts) (k : Expand) (pool : List Entry) → IsFront c.pool pool → IsSound c.pool → IsSound pool → IsCall p c k → length (with_number k pool).1 ≤ 65535
    → IsSound (with_number k pool).1 × IsNumber p c (with_number k pool).1 k (with_number k pool).0
put_number p c Same pool f sb s call few = (s, tt)
put_number p c (Call i) pool f sb s call few = put_call p c pool f sb s i call.0 call.1 few
put_number p c (Check i) pool f sb s call few = rt_put security.Check pool s few
put_number p c (Snapshot i) pool f sb s call few = rt_put security.Snapshot pool s few
put_number p c (Privileged i) pool f sb s call few = rt_put security.Privileged pool s few
put_number p c (PrivilegedWith i) pool f sb s call few = rt_put security.PrivilegedWith pool s few
put_number p c (PrivilegedLimited i) pool f sb s call few = rt_put security.PrivilegedLimited pool s few

put_expansions : (p : Program) (c : ClassParts) (ks : List Expand) (pool : List Entry) → IsFront c.pool pool → IsSound c.pool → IsSound pool → AreCalls p c ks → length (with_expansions ks pool).1 ≤ 65535
    → IsSound (with_expansions ks pool).1 × AreNumbered p c (with_expansions ks pool).1 ks (with_expansions ks pool).0
unfolding with_expansions ◌>>◌
put_expansions p c [] pool f sb s calls few = (s, tt)
put_expansions p c (k ∷ ks) pool f sb s calls few =
    let x = with_number k pool in
    let y = with_expansions ks x.1 in
    let grown = (number_grows k).on pool in
    let later = (expansions_grow ks).on x.1 in
    let le : length x.1 ≤ length y.1 = front_length x.1 y.1 later in
    let one = put_number p c k pool f sb s calls.0 (omega arith) in
    let others = put_expansions p c ks x.1 (front_on c.pool pool x.1 f grown) sb one.0 calls.1 few in
    (others.0, ((x.0, (refl, number_on p c x.1 y.1 later k x.0 one.1)), others.1))

-- ---- a body

-- the class of contexts, where there are frames
abbrev pub IsContext : List Entry → List FullFrame → ℕ → Type 0
IsContext pool [] n = Unit {0}
IsContext pool (f ∷ fs) n = class_name_at pool n ≡ Some (codes "sps/Ctx")

pub context_on : (pool whole : List Entry) → IsFront pool whole → (fs : List FullFrame) (n : ℕ) → IsContext pool fs n → IsContext whole fs n
context_on pool whole f [] n h = tt
context_on pool whole f (x ∷ fs) n h = class_name_stays pool whole f n (codes "sps/Ctx") h

put_frames : (fs : List FullFrame) (pool : List Entry) → IsSound pool → length (with_frames fs pool).1 ≤ 65535 → IsSound (with_frames fs pool).1 × IsContext (with_frames fs pool).1 fs (with_frames fs pool).0
put_frames [] pool s few = (s, tt)
put_frames (f ∷ fs) pool s few = let k = put_class (codes "sps/Ctx") pool s context_text context_name few in (k.sound, k.named)

-- what a body names stands in a pool
pub record IsBody (p : Program) (c : ClassParts) (ks : List Expand) (fs : List FullFrame) (x : Named × List Entry) : Type 0 where
  pub enter : IsSecurity security.Enter x.1 x.0.enter
  pub kinds : AreNumbered p c x.1 ks x.0.kinds
  pub context : IsContext x.1 fs x.0.context

pub put_body : (p : Program) (c : ClassParts) (ks : List Expand) (fs : List FullFrame) (pool : List Entry) → IsFront c.pool pool → IsSound c.pool → IsSound pool → AreCalls p c ks → length (with_body ks fs pool).1 ≤ 65535 → IsBody p c ks fs (with_body ks fs pool)
unfolding with_body ◌>>◌
put_body p c ks fs pool f sb s calls few =
    let x = with_security security.Enter pool in
    let y = with_expansions ks x.1 in
    let z = with_frames fs y.1 in
    let g = (security_grows security.Enter).on pool in
    let h = (expansions_grow ks).on x.1 in
    let k = (frames_grow fs).on y.1 in
    let second : length y.1 ≤ length z.1 = front_length y.1 z.1 k in
    let first : length x.1 ≤ length y.1 = front_length x.1 y.1 h in
    let a = rt_put security.Enter pool s (omega arith) in
    let b = put_expansions p c ks x.1 (front_on c.pool pool x.1 f g) sb a.0 calls (omega arith) in
    let w = put_frames fs y.1 b.0 few in
    record {
      enter = security_on security.Enter x.1 z.1 (front_on x.1 y.1 z.1 h k) x.0 a.1;
      kinds = numbers_on p c y.1 z.1 k ks y.0 b.1;
      context = w.1;
    }
