-- The code of a method in the moved program: what its old code was moved to, whose references stand in the last pool of its class.
use Rattle.std.proofs.Common.{◌≡◌, ℕ, zero, suc, Bool, true, false, List, [], ◌∷◌, length, Option, Some, None, refl, ap, sym, ◌∙◌, subst}
use Rattle.std.specs.Prelude.{IsTrue, is_some, option_and_then, option_map, slice_get, nat_lt, ◌||◌, ◌==◌, if◌then◌else◌}
use Rattle.jground.specs.jformat.BodyFormats.{block}
use Rattle.jground.specs.jformat.Format.{is_good}
use Rattle.jground.proofs.JformatProofs.ReadingSteps.{first_true, second_true}
use Rattle.jparts.specs.declared.jpool.entry.Entry.{Entry}
use Rattle.jparts.specs.declared.jcode.op.Placed.{Placed}
use Rattle.jparts.specs.jcode.Instructions as jcode
use Rattle.jclass.specs.declared.class.Attribute.{Attribute}
use Rattle.jclass.specs.declared.class.Attribute.TheVariants.{Code, ConstantValue, Raw}
use Rattle.jclass.specs.declared.class.ClassParts.{ClassParts}
use Rattle.jclass.specs.declared.class.CodeBody.{CodeBody}
use Rattle.jclass.specs.declared.class.MemberInfo.{MemberInfo}
use Rattle.jclass.specs.declared.fault.ClassFault.TheVariants as kinds
use Rattle.jclass.specs.IndexFormats.{u2, u4}
use Rattle.jclass.specs.CodeFormat.{behind_ops, code_content, code_length, ops, frames_in}
use Rattle.jclass.specs.ProofNames.{length_fault}
use Rattle.jclass.specs.MemberFormat.{body_of}
use Rattle.jclass.specs.FileContents.{HasCode, IsIn}
use Rattle.jparts.specs.declared.jmaps.types.MapType.{MapType}
use Rattle.jmove.specs.declared.method.Expand.{Expand}
use Rattle.jmove.specs.declared.naming.Security.TheVariants as security
use Rattle.jmove.specs.PoolAdditions.{numbered, with_body, ◌>>◌}
use Rattle.jmove.specs.AssemblyLines.{Laid}
use Rattle.jmove.specs.MethodExpansion.{moved_by}
use Rattle.jmoveclass.specs.CallExpansion.{expand_by, expands}
use Rattle.jmoveclass.specs.MovedMembers.{frames_of, with_code, with_first}
use Rattle.jmoveclass.specs.MovedClasses.{moved_class, moved_part}
use Rattle.jrewriting.proofs.JmoveclassLawsProofs.CodeFormat.{new_body}
use Rattle.jresolution.specs.declared.jprogram.member.MethodId.{MethodId}
use Rattle.jresolution.specs.declared.jprogram.part.CodePart.{CodePart}
use Rattle.jresolution.specs.jprogram.ProgramClasses.{Program}
use Rattle.jresolution.specs.jprogram.MemberResolution.{part_of}
use Rattle.jresolution.specs.jprogram.ClassFileParts.{code_of}
use Rattle.jresolution.specs.juses.IndexedInstructions.{body_in, code_at, instruction, instruction_at, instruction_in}
use Rattle.jlinking.proofs.JlinkProofs.CodeMeanings.{IsCoded, coded}
use Rattle.jlinking.proofs.JlinkProofs.PresentValues.{first_in}
use Rattle.jtyping.specs.jwelltyped.VerifierTests.{WellTyped}
use Rattle.jrewriting.specs.jrewrite.LinkageLaws.{IsLinked}
use Rattle.jrewriting.specs.jrewrite.RewrittenPrograms.{limits, moved}
use Rattle.jrewriting.proofs.JrewriteProofs.Calls.{Known}
use Rattle.jrewriting.proofs.JrewriteProofs.CodeNames.{stands_for}
use Rattle.jrewriting.proofs.JrewriteProofs.FinalOverrides.{moved_at, pair_at}
use Rattle.jrewriting.proofs.JrewriteProofs.PoolReferences.{AreNumbered, IsNumber, IsSecurity, numbers_on, security_on}
use Rattle.jrewriting.proofs.JrewriteProofs.PoolAdditions.{AllPut, AttributePut, IsPutCode, MethodPut, MethodsPut, class_put, known_of}
use Rattle.jrewriting.proofs.JrewriteProofs.DeclarationChecks.{first_false}

-- ---- the code of a method in a class

-- a method of a program, by its class and its code
pub record IsThere (q : Program) (m : MethodId) (c : ClassParts) (b : CodeBody) : Type 0 where
  pub class : part_of q m.class ≡ Some c
  pub body : body_in c m.method ≡ Some b

pub code_there : (q : Program) (m : MethodId) (c : ClassParts) (b : CodeBody) → IsThere q m c b → code_at q m ≡ Some b
code_there q m c b t = ap (option_and_then (λ x. body_in x m.method)) t.class ∙ t.body

pub instruction_there : (q : Program) (m : MethodId) (c : ClassParts) (b : CodeBody) → IsThere q m c b → (n : ℕ) → instruction_at q m n ≡ option_and_then (instruction q c.pool b.ops) (slice_get b.ops n)
unfolding instruction_at
instruction_there q m c b t n = ap (option_and_then (λ x. option_and_then (instruction_in q x n) (body_in x m.method))) t.class ∙ ap (option_and_then (instruction_in q c n)) t.body

there_of : (p : Program) (m : MethodId) (b : CodeBody) (r : IsCoded p m b) → IsThere p m r.part.class b
there_of p m b r = record { class = ap (option_map (λ part. part.class)) r.stands; body = ap (option_and_then code_of) r.declared ∙ r.coded }

-- ---- code is not empty

no_fault_is : {F : Type 0} (bad : Bool) (kind : F) → IsTrue (is_good (if bad then Some kind else None)) → bad ≡ false
no_fault_is true kind h = absurd cc
no_fault_is false kind h = refl

pub has_bytes : (pool : List Entry) (b : CodeBody) → IsTrue ((code_content pool).fits b) → length (jcode.code.spell b.ops) == 0 ≡ false
unfolding code_content ops
has_bytes pool b fit =
    let n = length (jcode.code.spell b.ops) in
    let rest = second_true (u2.fits b.max_locals) _ (second_true (u2.fits b.max_stack) _ fit) in
    let here = first_true ((block code_length kinds.Truncated (ops pool)).fits b.ops) ((behind_ops pool b.ops).fits (b.handlers, b.attributes)) rest in
    let size = second_true ((ops pool).fits b.ops) (code_length.fits n) here in
    first_false (n == 0) (nat_lt 65535 n) (no_fault_is (n == 0 || nat_lt 65535 n) kinds.Code (second_true (u4.fits n) (is_good (length_fault n)) size))

pub first_there : (is : List Placed) (n : ℕ) → Laid 0 is n → n == 0 ≡ false → (i : Placed) × (slice_get is 0 ≡ Some i)
first_there [] n h k =
    let no : 0 == 0 ≡ false = subst (λ (x : ℕ). x == 0 ≡ false) (sym h) k in
    absurd cc
first_there (i ∷ is) n h k = (i, refl)

-- ---- what it was moved to

-- the code that a code was moved to
record IsNow (p : Program) (c d : ClassParts) (domain : ℕ) (m : MemberInfo) (b now : CodeBody) : Type 0 where
  pub first : List MapType
  pub enter : ℕ
  pub ms : List Expand
  pub context : ℕ
  pub is : new_body c m b domain first enter ms context ≡ now
  pub enters : IsSecurity security.Enter d.pool enter
  pub numbers : AreNumbered p c d.pool (expands p c.pool b.ops) ms

now_of : (p : Program) (c d : ClassParts) (domain : ℕ) (m : MemberInfo) (a : Attribute) (put : IsPutCode p c d domain m a) (now : CodeBody) → body_of a ≡ Some now → IsNow p c d domain m put.b now
unfolding with_code ◌>>◌ moved_by
now_of p c d domain m a put now h =
    let b = put.b in
    let ks = expands p c.pool b.ops in
    let x = with_first c m (frames_in b) put.pool in
    let y = with_body ks (frames_of x.0 b) x.1 in
    let e : Some (new_body c m b domain x.0 y.0.enter y.0.kinds y.0.context) ≡ Some now = ap body_of put.is ∙ h in
    record {
      first = x.0;
      enter = y.0.enter;
      ms = y.0.kinds;
      context = y.0.context;
      is = cc;
      enters = security_on security.Enter y.1 d.pool put.later y.0.enter put.put.body.enter;
      numbers = numbers_on p c y.1 d.pool put.later ks y.0.kinds put.put.body.kinds;
    }

attribute_now : (p : Program) (c d : ClassParts) (domain : ℕ) (m : MemberInfo) (a : Attribute) → AttributePut p c d domain m a → (b now : CodeBody) → code_of m ≡ Some b → body_of a ≡ Some now → IsNow p c d domain m b now
attribute_now p c d domain m (Code name stack locals is handlers others) put b now at h =
    let both : Some put.b ≡ Some b = sym put.coded.is ∙ at in
    let same : put.b ≡ b = cc in
    subst (λ (x : CodeBody). IsNow p c d domain m x now) same (now_of p c d domain m (Code name stack locals is handlers others) put now h)
attribute_now p c d domain m (ConstantValue name value) put b now at h = absurd cc
attribute_now p c d domain m (Raw name bytes) put b now at h = absurd cc

put_at : (p : Program) (c d : ClassParts) (domain : ℕ) (m : MemberInfo) (xs : List Attribute) (i : ℕ) (a : Attribute) → AllPut p c d domain m xs → slice_get xs i ≡ Some a → AttributePut p c d domain m a
put_at p c d domain m [] i a h at = absurd cc
put_at p c d domain m (x ∷ xs) zero a h at = let same : x ≡ a = cc in subst (AttributePut p c d domain m) same h.0
put_at p c d domain m (x ∷ xs) (suc i) a h at = put_at p c d domain m xs i a h.1 at

method_at : (p : Program) (c d : ClassParts) (domain : ℕ) (ms ns : List MemberInfo) (j : ℕ) (m n : MemberInfo) → MethodsPut p c d domain ms ns → slice_get ms j ≡ Some m → slice_get ns j ≡ Some n → MethodPut p c d domain m n
method_at p c d domain [] [] j m n h at there = absurd cc
method_at p c d domain (x ∷ xs) (y ∷ ys) zero m n h at there =
    let old : x ≡ m = cc in
    let new : y ≡ n = cc in
    subst (λ (z : MemberInfo). MethodPut p c d domain z n) old (subst (MethodPut p c d domain x) new h.0)
method_at p c d domain (x ∷ xs) (y ∷ ys) (suc j) m n h at there = method_at p c d domain xs ys j m n h.1 at there
method_at p c d domain [] (y ∷ ys) j m n h at there = absurd h
method_at p c d domain (x ∷ xs) [] j m n h at there = absurd h

pub some_code : (n : MemberInfo) → is_some (code_of n) ≡ true → (b : CodeBody) × (code_of n ≡ Some b)
some_code n h = there (code_of n) h
  where
    there : (o : Option CodeBody) → is_some o ≡ true → (b : CodeBody) × (o ≡ Some b)
    there None h = absurd cc
    there (Some b) h = (b, refl)

pub code_in : (n : MemberInfo) (b : CodeBody) → code_of n ≡ Some b → (a : Attribute) × IsIn a n.attributes × (body_of a ≡ Some b)
unfolding code_of
code_in n b h = first_in body_of n.attributes b h

-- ---- both codes

pub record Both (p : Program) (m : MethodId) (b : CodeBody) : Type 0 where
  pub part : CodePart
  pub stands : slice_get p.parts m.class ≡ Some part
  pub method : MemberInfo
  pub declared : slice_get part.class.methods m.method ≡ Some method
  pub has : HasCode part.class b
  pub known : Known p part.class (moved_class p part.domain part.class)
  pub old : IsThere p m part.class b
  pub first : List MapType
  pub enter : ℕ
  pub ms : List Expand
  pub context : ℕ
  pub new : IsThere (moved p) m (moved_class p part.domain part.class) (new_body part.class method b part.domain first enter ms context)
  pub enters : IsSecurity security.Enter (moved_class p part.domain part.class).pool enter
  pub numbers : AreNumbered p part.class (moved_class p part.domain part.class).pool (expands p part.class.pool b.ops) ms

new_there : (q : Program) (m : MethodId) (part : CodePart) (n : MemberInfo) (b now : CodeBody) → slice_get q.parts m.class ≡ Some part → slice_get part.class.methods m.method ≡ Some n → code_of n ≡ Some b → now ≡ b → IsThere q m part.class now
new_there q m part n b now stands there code same = record {
  class = ap (option_map (λ part. part.class)) stands;
  body = ap (option_and_then code_of) there ∙ code ∙ ap (λ (x : CodeBody). Some x) (sym same);
}

pub both_of : (p : Program) → IsLinked p → WellTyped p → limits p ≡ None → (m : MethodId) (b : CodeBody) → code_at p m ≡ Some b → Both p m b
both_of p is typed none m b at =
    let r = coded p m b at in
    let c = r.part.class in
    let d = moved_class p r.part.domain c in
    let put = class_put p is typed none m.class r.part r.stands in
    let k = known_of p is typed none m.class r.part r.stands in
    let alike = k.all m.class c d (record { part = r.part; at = r.stands; here = refl; there = refl }) in
    let n = pair_at c d c.methods d.methods m.method alike.1 r.method r.declared in
    let code = some_code n.0 (n.1.1.code ∙ ap is_some r.coded) in
    let a = code_in n.0 code.0 code.1 in
    let all = method_at p c d r.part.domain c.methods d.methods m.method r.method n.0 put r.declared n.1.0 in
    let x = put_at p c d r.part.domain r.method n.0.attributes a.1.0 a.0 all.attributes a.1.1 in
    let now = attribute_now p c d r.part.domain r.method a.0 x b code.0 r.coded a.2 in
    let old = code_in r.method b r.coded in
    record {
      part = r.part;
      stands = r.stands;
      method = r.method;
      declared = r.declared;
      has = record { good = is.files m.class r.part r.stands; method = r.method; attribute = old.0; in_class = (m.method, r.declared); in_method = old.1; is_body = old.2 };
      known = k;
      old = there_of p m b r;
      first = now.first;
      enter = now.enter;
      ms = now.ms;
      context = now.context;
      new = new_there (moved p) m (moved_part p r.part) n.0 code.0 (new_body c r.method b r.part.domain now.first now.enter now.ms now.context) (moved_at p m.class r.part r.stands) n.1.0 code.1 now.is;
      enters = now.enters;
      numbers = now.numbers;
    }

-- ---- numbers of its expansions

pub same_count : (p : Program) (c : ClassParts) (whole : List Entry) (is : List Placed) (ms : List Expand) → AreNumbered p c whole (expands p c.pool is) ms → length ms ≡ length is
unfolding expands
same_count p c whole [] [] h = refl
same_count p c whole [] (m ∷ ms) h = absurd h
same_count p c whole (i ∷ is) [] h = absurd h
same_count p c whole (i ∷ is) (m ∷ ms) h = ap suc (same_count p c whole is ms h.1)

-- the expansion of an instruction, by its number
pub record Numbered (p : Program) (c : ClassParts) (whole : List Entry) (ms : List Expand) (n : ℕ) (i : Placed) : Type 0 where
  pub j : ℕ
  pub kind : slice_get ms n ≡ Some (numbered (expand_by (stands_for p c) i.op) j)
  pub is : IsNumber p c whole (expand_by (stands_for p c) i.op) j

pub numbered_at : (p : Program) (c : ClassParts) (whole : List Entry) (is : List Placed) (ms : List Expand) → AreNumbered p c whole (expands p c.pool is) ms → (n : ℕ) (i : Placed) → slice_get is n ≡ Some i → Numbered p c whole ms n i
unfolding expands
numbered_at p c whole [] ms h n i at = absurd cc
numbered_at p c whole (x ∷ is) [] h n i at = absurd h
numbered_at p c whole (x ∷ is) (m ∷ ms) h zero i at =
    let same : x ≡ i = cc in
    let one : Numbered p c whole (m ∷ ms) 0 x = record { j = h.0.0; kind = ap (λ (y : Expand). Some y) h.0.1.0; is = h.0.1.1 } in
    subst (Numbered p c whole (m ∷ ms) 0) same one
numbered_at p c whole (x ∷ is) (m ∷ ms) h (suc n) i at =
    let r = numbered_at p c whole is ms h.1 n i at in
    record { j = r.j; kind = r.kind; is = r.is }
