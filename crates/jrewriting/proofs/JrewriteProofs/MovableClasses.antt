-- Each class of a program that is checked can be moved.
use Rattle.std.proofs.Common.{◌≡◌, ℕ, zero, suc, ◌≤◌, ◌<◌, false, ◌&&◌, List, [], ◌∷◌, length, Option, Some, None, refl, ap, sym, ◌∙◌, subst, arith}
use Rattle.std.specs.Prelude.{IsTrue, slice_get, nat_lt, nat_le, option_and_then, take, codes, ◌||◌}
use Rattle.std.specs.Str.{bytes_eq}
use Rattle.std.specs.List.{list_any}
use Rattle.std.proofs.lemmas.Bool.{ltb-false, ltb-true}
use Rattle.std.proofs.lemmas.List.{length-map}
use Rattle.std.proofs.lemmas.List.Elements.{All-from_recursion}
use Rattle.jground.specs.jbase.FirstFaults.{or_else}
use Rattle.jground.proofs.JbaseProofs.Firsts.{none_fails, none_of}
use Rattle.jground.proofs.JformatProofs.ReadingSteps.{first_true, second_true}
use Rattle.jclass.specs.declared.class.ClassParts.{ClassParts}
use Rattle.jclass.specs.declared.class.CodeBody.{CodeBody}
use Rattle.jclass.specs.declared.class.MemberInfo.{MemberInfo}
use Rattle.jclass.specs.IndexFormats.{u2}
use Rattle.jclass.specs.Class.{class_file}
use Rattle.jclass.specs.CodeFormat.{code_content}
use Rattle.jclass.specs.FileContents.{HasCode, IsIn}
use Rattle.jclass.proofs.FittingClasses.{code_fits, code_items}
use Rattle.jlib.specs.declared.side.Side.TheVariants.{Source}
use Rattle.jlinking.specs.jmembers.MemberDeclarations as members
use Rattle.jlinking.specs.ProofNames
use Rattle.jlinking.specs.jmembers.MemberDeclarations.{at_member, desc_left_out, desc_missing, is_native, is_synchronized, is_too_long, method_left_out, method_left_out_test, method_test, methods_fault, fields_fault, param_left_out, text_left_out, text_missing, type_missing, types_test}
use Rattle.jlinking.specs.ProofNames.{return_left_out, return_missing}
use Rattle.jmove.specs.MovedFrames.{widths}
use Rattle.jresolution.specs.declared.jprogram.fault.LinkKind.{LinkKind}
use Rattle.jresolution.specs.declared.jprogram.fault.LinkKind.TheVariants.{LeftOut, NoClass}
use Rattle.jresolution.specs.declared.jprogram.part.CodePart.{CodePart}
use Rattle.jresolution.specs.jprogram.ProgramClasses.{Program}
use Rattle.jresolution.specs.jprogram.NameChecks.{naming_fault}
use Rattle.jresolution.specs.jprogram.ClassFileParts.{code_of, has_code, is_interface, member_desc, member_name}
use Rattle.jresolution.specs.jprogram.SuperChecks.{supers_fault}
use Rattle.jlinking.specs.jreferring.CodeChecks.{code_fault}
use Rattle.jlinking.specs.jlink.LinkedPrograms.{Links, domains_rise, link_fault}
use Rattle.jtyping.specs.jwelltyped.MethodPremises.{method_of}
use Rattle.jtyping.specs.jwelltyped.VerifierTests as typing
use Rattle.jtyping.specs.jwelltyped.VerifierTests.{WellTyped, in_method, member_fault, method_fault, type_fault}
use Rattle.jmoveclass.specs.EntryLocals.{bare_beginning}
use Rattle.jmoveclass.specs.CallExpansion.{expands}
use Rattle.jmoveclass.specs.MovedMembers.{frames_of}
use Rattle.jmoveclass.specs.MovableClasses.{CanMoveAll}
use Rattle.jrewriting.specs.jmoveclass_laws.MovedFiles.{FramesStand}
use Rattle.jrewriting.proofs.JrewriteProofs.FrameLocals.{Keep, framed, stand_of, wide_of}
use Rattle.jrewriting.proofs.JrewriteProofs.InitialLocals.{are_there, begun_under, or_false, return_some}
use Rattle.jmoveclass.proofs.MethodContents.{IsMethod, is_method_of, only_code}
use Rattle.jrewriting.proofs.JrewriteProofs.HierarchyPhases.{if_none}

-- ---- what no test of linking finds

pub at_none : (i k : ℕ) (o : Option LinkKind) → at_member i k o ≡ None → o ≡ None
at_none i k None h = refl
at_none i k (Some kind) h = absurd cc

-- of a method of a class of a program that links
pub record Tested (p : Program) (c : ClassParts) (m : MemberInfo) : Type 0 where
  pub short : is_too_long p.side (member_desc c m) ≡ false
  pub kept : text_left_out (member_desc c m) ≡ false
  pub here : text_missing p (member_desc c m) ≡ false

tested : (p : Program) (i k : ℕ) (c : ClassParts) (before : List MemberInfo) (m : MemberInfo) → method_test p i c before k m ≡ None → Tested p c m
unfolding method_left_out_test types_test
tested p i k c before m h =
    let a = none_of (members.again_test c before m) _ h in
    let b = none_of (method_left_out_test p.side c m) _ a.1 in
    let d = none_of (types_test p c m) _ b.1 in
    let out = or_false (method_left_out p.side c m) (text_left_out (member_desc c m)) (if_none (method_left_out p.side c m || text_left_out (member_desc c m)) LeftOut b.0) in
    let long = is_too_long p.side (member_desc c m) in
    let coded = (is_interface c.flags && has_code m) || long in
    let locked = is_synchronized m.flags || coded in
    let first = or_false (bytes_eq (member_name c m) (codes "<clinit>")) (is_native m.flags || locked) out.0 in
    let second = or_false (is_native m.flags) locked first.1 in
    let third = or_false (is_synchronized m.flags) coded second.1 in
    let fourth = or_false (is_interface c.flags && has_code m) long third.1 in
    record { short = fourth.1; kept = out.1; here = if_none (text_missing p (member_desc c m)) NoClass d.0 }

pub members_none : (p : Program) → link_fault p ≡ None → members.members_fault p ≡ None
unfolding link_fault
members_none p h =
    let inner = or_else (members.members_fault p) (code_fault p) in
    let first = none_of (naming_fault p) (or_else (supers_fault p) inner) h in
    let second = none_of (supers_fault p) inner first.1 in
    (none_of (members.members_fault p) (code_fault p) second.1).0

pub tested_at : (p : Program) (i k : ℕ) (part : CodePart) (m : MemberInfo) → Links p → slice_get p.parts i ≡ Some part → slice_get part.class.methods k ≡ Some m → Tested p part.class m
unfolding members.members_fault methods_fault
tested_at p i k part m links at there =
    let class = none_fails (λ j x. ProofNames.class_fault p j x.class) p.parts i part (members_none p links.rules) at in
    let methods = none_of (methods_fault p i part.class) (fields_fault p i part.class) class in
    let test = none_fails (λ j x. at_member i j (method_test p i part.class (take j part.class.methods) j x)) part.class.methods k m methods.0 there in
    tested p i k part.class (take k part.class.methods) m (at_none i k (method_test p i part.class (take k part.class.methods) k m) test)

too_long_short : (p : Program) (text : List ℕ) → p.side ≡ Source → is_too_long p.side text ≡ false → length text ≤ 65526
too_long_short p text source h = ltb-false 65526 (length text) (rw source at h)

pub short_at : (p : Program) (i : ℕ) (part : CodePart) → Links p → p.side ≡ Source → slice_get p.parts i ≡ Some part → (m : MemberInfo) → IsIn m part.class.methods → length (member_desc part.class m) ≤ 65526
short_at p i part links source at m there = too_long_short p (member_desc part.class m) source (tested_at p i there.0 part m links at there.1).short

-- ---- what no test of typing finds

place_none : (i j : ℕ) (o : Option ℕ) → in_method i j o ≡ None → o ≡ None
place_none i j None h = refl
place_none i j (Some at) h = absurd cc

typed_at : (p : Program) (i k : ℕ) (part : CodePart) (m : MemberInfo) (b : CodeBody) → WellTyped p → slice_get p.parts i ≡ Some part → slice_get part.class.methods k ≡ Some m → code_of m ≡ Some b → method_fault p (method_of p part.class m b) ≡ None
unfolding WellTyped type_fault typing.class_fault member_fault
typed_at p i k part m b typed at there code =
    let class = none_fails (typing.class_fault p) p.parts i part typed at in
    let one = none_fails (λ j x. in_method i j (member_fault p part.class x)) part.class.methods k m class there in
    let none = place_none i k (member_fault p part.class m) one in
    sym (ap (option_and_then (λ body. method_fault p (method_of p part.class m body))) code) ∙ none

-- ---- a method

frames_keep : (p : Program) (c : ClassParts) (m : MemberInfo) (b : CodeBody) → IsMethod c m → Tested p c m → method_fault p (method_of p c m b) ≡ None → Keep b (frames_of (bare_beginning c m) b)
unfolding text_left_out text_missing
frames_keep p c m b is test typed =
    let kept = or_false (list_any param_left_out is.params) (return_left_out is.ret) (ap desc_left_out (sym is.is) ∙ test.kept) in
    let here = or_false (list_any (type_missing p) is.params) (return_missing p is.ret) (ap (desc_missing p) (sym is.is) ∙ test.here) in
    let there = are_there p is.params is.good here.0 kept.0 in
    let back = return_some p is.ret is.good_return here.1 kept.1 in
    framed p (method_of p c m b) (bare_beginning c m) (begun_under p c m b is.params is.ret is.is there back) typed

locals_fit : (c : ClassParts) (b : CodeBody) → HasCode c b → b.max_locals ≤ 0xffff
unfolding code_content
locals_fit c b has =
    let rest = second_true (u2.fits b.max_stack) _ (code_fits c b has) in
    let less : b.max_locals < 65536 = ltb-true b.max_locals 65536 (first_true (u2.fits b.max_locals) _ rest) in
    omega arith

expands_length : (p : Program) (c : ClassParts) (b : CodeBody) → length (expands p c.pool b.ops) ≡ length b.ops
unfolding expands
expands_length p c b = length-map b.ops _

pub can_move : (p : Program) (i : ℕ) (part : CodePart) → Links p → WellTyped p → IsTrue (class_file.fits part.class) → slice_get p.parts i ≡ Some part → CanMoveAll p part.class
can_move p i part links typed fit at m a b there is body =
    let c = part.class in
    let has : HasCode c b = record { good = fit; method = m; attribute = a; in_class = there; in_method = is; is_body = body } in
    let items = code_items c.pool b (code_fits c b has) in
    let method = is_method_of c m fit there in
    let code = only_code c m a b fit there is body in
    record {
      each = expands_length p c b;
      is_code = items.0;
      short = items.1;
      slots = method.few;
      locals = locals_fit c b has;
      frames = All-from_recursion (λ f. widths f.locals ≤ b.max_locals) (frames_of (bare_beginning c m) b)
          (wide_of b (frames_of (bare_beginning c m) b) (frames_keep p c m b method (tested_at p i there.0 part m links at there.1) (typed_at p i there.0 part m b typed at there.1 code)));
    }

-- its frames stand at instructions
pub frames_stand : (p : Program) (i : ℕ) (part : CodePart) → Links p → WellTyped p → IsTrue (class_file.fits part.class) → slice_get p.parts i ≡ Some part → FramesStand part.class
frames_stand p i part links typed fit at m a b there is body =
    let c = part.class in
    let code = only_code c m a b fit there is body in
    stand_of b (frames_of (bare_beginning c m) b)
    (frames_keep p c m b (is_method_of c m fit there) (tested_at p i there.0 part m links at there.1) (typed_at p i there.0 part m b typed at there.1 code))

-- ---- domains

domain_at : (least : ℕ) (parts : List CodePart) (i : ℕ) (part : CodePart) → IsTrue (domains_rise least parts) → slice_get parts i ≡ Some part → part.domain < 4096
unfolding domains_rise
domain_at least [] i part h at = absurd cc
domain_at least (x ∷ xs) zero part h at =
    let same : x ≡ part = cc in
    let less = first_true (nat_lt x.domain 4096) (domains_rise x.domain xs) (second_true (nat_le least x.domain) (nat_lt x.domain 4096 && domains_rise x.domain xs) h) in
    subst (λ (y : CodePart). y.domain < 4096) same (ltb-true x.domain 4096 less)
domain_at least (x ∷ xs) (suc i) part h at =
    domain_at x.domain xs i part (second_true (nat_lt x.domain 4096) (domains_rise x.domain xs) (second_true (nat_le least x.domain) (nat_lt x.domain 4096 && domains_rise x.domain xs) h)) at

pub domain_small : (p : Program) (i : ℕ) (part : CodePart) → Links p → slice_get p.parts i ≡ Some part → part.domain < 4096
domain_small p i part links at = domain_at 0 p.parts i part links.parts.domains at
