-- The code of a linked class file: a method that isn't abstract has it, no interface has, it has an instruction, and one alone stands at a place.
use Rattle.std.proofs.Common.{◌≡◌, ◌∙◌, inr, ℕ, zero, suc, ◌+◌, ◌<◌, ◌||◌, ◌&&◌, Bool, true, false, cond, not, List, [], ◌∷◌, length, map, take, get_or, Option, Some}
use Rattle.std.proofs.Common.{None, refl, ap, subst, arith}
use Rattle.std.specs.Prelude.{IsTrue, slice_get, nat_lt, ◌==◌, if◌then◌else◌}
use Rattle.std.specs.List.{filter, find, list_all}
use Rattle.std.specs.Option.{IsSome}
use Rattle.std.specs.Str.{bytes_eq}
use Rattle.std.proofs.lemmas.Bool.{eq-eqb, eqb-true, ne_eqb, or_parts}
use Rattle.std.proofs.lemmas.Option.{get_or_from_slice_get}
use Rattle.jground.specs.jbase.FirstFaults.{first_some, or_else}
use Rattle.jground.proofs.JbaseProofs.Firsts.{none_fails, none_of}
use Rattle.jground.specs.jformat.Format.{Format, ◌·◌, ◌▹◌, is_good, unless}
use Rattle.jground.specs.jformat.BodyFormats.{block, counted}
use Rattle.jground.specs.jformat.StatefulFormats.{spell_from}
use Rattle.jground.proofs.JformatProofs.ReadingSteps.{first_true, second_true}
use Rattle.jparts.specs.declared.jpool.entry.Entry.{Entry}
use Rattle.jparts.proofs.JpoolProofs.PoolLaws.{at_index}
use Rattle.jparts.specs.declared.jcode.op.Handler.{Handler}
use Rattle.jparts.specs.declared.jcode.op.Placed.{Placed}
use Rattle.jparts.specs.jcode.Instructions
use Rattle.jparts.specs.jcode.Instructions.{Rises}
use Rattle.jparts.proofs.JcodeProofs.Places.{fit_rises}
use Rattle.jclass.specs.declared.class.Attribute.{Attribute}
use Rattle.jclass.specs.declared.class.Attribute.TheVariants.{Code, ConstantValue, Raw}
use Rattle.jclass.specs.declared.class.ClassParts.{ClassParts}
use Rattle.jclass.specs.declared.class.CodeAttribute.{CodeAttribute}
use Rattle.jclass.specs.declared.class.CodeBody.{CodeBody}
use Rattle.jclass.specs.declared.class.MemberInfo.{MemberInfo}
use Rattle.jclass.specs.declared.fault.ClassFault.{ClassFault}
use Rattle.jclass.specs.declared.fault.ClassFault.TheVariants as kinds
use Rattle.jclass.specs.Attributes.{content, text_index}
use Rattle.jclass.specs.IndexFormats.{access, u2, u4}
use Rattle.jclass.specs.Class.{class_file, class_parts, strict, tail}
use Rattle.jclass.specs.CodeFormat.{behind_ops, code_body, code_content, code_length, ops}
use Rattle.jclass.specs.ProofNames.{length_fault, codes_wanted, names_of}
use Rattle.jclass.specs.PoolChecks as judging
use Rattle.jclass.specs.MemberFormat.{attribute_name, body_of, codes_fault, method, method_attribute, method_parts}
use Rattle.jclass.specs.FlagRules.{has_no_code, is_code, method_descriptor}
use Rattle.jclass.specs.FileContents.{IsIn}
use Rattle.jclass.proofs.ClassLaws.{tail_methods}
use Rattle.jclass.proofs.FittingClasses.{code_fits, code_items}
use Rattle.jresolution.specs.declared.jprogram.fault.LinkKind.{LinkKind}
use Rattle.jresolution.specs.declared.jprogram.fault.LinkKind.TheVariants.{LeftOut, NoClass}
use Rattle.jresolution.specs.declared.jprogram.part.CodePart.{CodePart}
use Rattle.jresolution.specs.jprogram.ProgramClasses.{Program}
use Rattle.jresolution.specs.jprogram.NameChecks.{naming_fault}
use Rattle.jresolution.specs.jprogram.ClassFileParts as parts
use Rattle.jresolution.specs.jprogram.ClassFileParts.{code_of, has_code, member_desc, member_name}
use Rattle.jresolution.specs.jprogram.SuperChecks.{supers_fault}
use Rattle.jlinking.specs.jmembers.MemberDeclarations.{again_test, at_member, field_left_out, field_left_out_test, field_test, fields_fault, is_native, is_synchronized}
use Rattle.jlinking.specs.ProofNames.{class_fault}
use Rattle.jlinking.specs.jmembers.MemberDeclarations.{is_too_long, members_fault, method_left_out, method_left_out_test, method_test, methods_fault, text_left_out, text_missing}
use Rattle.jlinking.specs.jmembers.MemberDeclarations.{types_test}
use Rattle.jlinking.specs.jreferring.CodeChecks.{code_fault}
use Rattle.jlinking.specs.jlink.ProgramFiles.{AreFiles}
use Rattle.jlinking.specs.jlink.LinkedPrograms.{Links, link_fault}
use Rattle.jlinking.proofs.JlinkProofs.FittingClassFiles.{has_code as stored}
use Rattle.jlinking.proofs.JlinkProofs.ResolvedReferences.{third_none}
use Rattle.jlinking.proofs.JlinkProofs.DescriptorTypes.{no_fault}
use Rattle.jsoundness_laws.specs.typed.TypedCalls.{AllHaveCode}

-- ---- what linking leaves out

members_none : (p : Program) → link_fault p ≡ None → members_fault p ≡ None
unfolding link_fault
members_none p e = (none_of (members_fault p) (code_fault p) (third_none (naming_fault p) (supers_fault p) (or_else (members_fault p) (code_fault p)) e)).0

class_none : (p : Program) (i : ℕ) (part : CodePart) → Links p → slice_get p.parts i ≡ Some part → class_fault p i part.class ≡ None
unfolding members_fault
class_none p i part links at = none_fails (λ (i : ℕ) (part : CodePart). class_fault p i part.class) p.parts i part (members_none p links.rules) at

at_none : (i k : ℕ) (o : Option LinkKind) → at_member i k o ≡ None → o ≡ None
at_none i k None e = refl
at_none i k (Some kind) e = absurd cc

second_none : (a b c : Option LinkKind) → or_else a (or_else b c) ≡ None → b ≡ None
second_none a b c e = (none_of b c ((none_of a (or_else b c) e).1)).0

method_out : (p : Program) (i : ℕ) (c : ClassParts) (k : ℕ) (m : MemberInfo) → class_fault p i c ≡ None → slice_get c.methods k ≡ Some m
    → (method_left_out p.side c m || text_left_out (member_desc c m)) ≡ false
unfolding methods_fault method_left_out_test
method_out p i c k m none at =
    let all = (none_of (methods_fault p i c) (fields_fault p i c) none).0 in
    let one = at_none i k (method_test p i c (take k c.methods) k m)
    (none_fails (λ (k : ℕ) (m : MemberInfo). at_member i k (method_test p i c (take k c.methods) k m)) c.methods k m all at) in
    let left = second_none (again_test c (take k c.methods) m) (method_left_out_test p.side c m) _ one in
    no_fault (method_left_out p.side c m || text_left_out (member_desc c m)) LeftOut left

field_out : (p : Program) (i : ℕ) (c : ClassParts) (k : ℕ) (m : MemberInfo) → class_fault p i c ≡ None → slice_get c.fields k ≡ Some m
    → (field_left_out c m || text_left_out (member_desc c m)) ≡ false
unfolding fields_fault field_left_out_test
field_out p i c k m none at =
    let all = (none_of (methods_fault p i c) (fields_fault p i c) none).1 in
    let one = at_none i (length c.methods + k) (field_test p c (take k c.fields) m)
    (none_fails (λ (k : ℕ) (m : MemberInfo). at_member i (length c.methods + k) (field_test p c (take k c.fields) m)) c.fields k m all at) in
    let left = second_none (again_test c (take k c.fields) m) (field_left_out_test c m) (types_test p c m) one in
    no_fault (field_left_out c m || text_left_out (member_desc c m)) LeftOut left

-- the type of a field is none that is left out
pub field_kept : (p : Program) → Links p → (i : ℕ) (part : CodePart) (k : ℕ) (m : MemberInfo) → slice_get p.parts i ≡ Some part → slice_get part.class.fields k ≡ Some m
    → text_left_out (member_desc part.class m) ≡ false
field_kept p links i part k m stands at =
    (or_parts (field_left_out part.class m) (text_left_out (member_desc part.class m)) (field_out p i part.class k m (class_none p i part links stands) at)).1

-- and the class that it names is there
pub field_known : (p : Program) → Links p → (i : ℕ) (part : CodePart) (k : ℕ) (m : MemberInfo) → slice_get p.parts i ≡ Some part → slice_get part.class.fields k ≡ Some m
    → text_missing p (member_desc part.class m) ≡ false
unfolding fields_fault types_test
field_known p links i part k m stands at =
    let c = part.class in
    let all = (none_of (methods_fault p i c) (fields_fault p i c) (class_none p i part links stands)).1 in
    let one = at_none i (length c.methods + k) (field_test p c (take k c.fields) m)
    (none_fails (λ (k : ℕ) (m : MemberInfo). at_member i (length c.methods + k) (field_test p c (take k c.fields) m)) c.fields k m all at) in
    no_fault (text_missing p (member_desc c m)) NoClass (third_none (again_test c (take k c.fields) m) (field_left_out_test c m) (types_test p c m) one)

-- a method that linking takes
record IsKept (p : Program) (c : ClassParts) (m : MemberInfo) : Type 0 where
  native : is_native m.flags ≡ false
  face : (parts.is_interface c.flags && has_code m) ≡ false

method_kept : (p : Program) → Links p → (i : ℕ) (part : CodePart) (k : ℕ) (m : MemberInfo) → slice_get p.parts i ≡ Some part → slice_get part.class.methods k ≡ Some m
    → IsKept p part.class m
method_kept p links i part k m stands at =
    let c = part.class in
    let face = parts.is_interface c.flags && has_code m in
    let long = is_too_long p.side (member_desc c m) in
    let out = (or_parts (method_left_out p.side c m) (text_left_out (member_desc c m)) (method_out p i c k m (class_none p i part links stands) at)).0 in
    let one = (or_parts (bytes_eq (member_name c m) _) (is_native m.flags || (is_synchronized m.flags || (face || long))) out).1 in
    let two = or_parts (is_native m.flags) (is_synchronized m.flags || (face || long)) one in
    let three = (or_parts (is_synchronized m.flags) (face || long) two.1).1 in
    record { native = two.0; face = (or_parts face long three).0 }

-- ---- a code among the attributes

is_right : {K : Type 0} (b : Bool) (kind : K) → is_good (unless b kind) ≡ true → b ≡ true
is_right true kind h = refl
is_right false kind h = absurd cc

both_ways : {P : Type 0} (b : Bool) → b ≡ true → not b ≡ true → P
both_ways true is isnt = absurd cc
both_ways false is isnt = absurd cc

-- an attribute that is called Code is one
attribute_code : (pool : List Entry) (a : Attribute) → IsTrue ((method_attribute pool).fits a) → is_code pool (attribute_name a) ≡ true → IsSome (body_of a)
unfolding method_attribute
attribute_code pool (Code name stack locals items handlers attributes) fit is = refl
attribute_code pool (ConstantValue name value) fit is = absurd cc
attribute_code pool (Raw name bytes) fit is =
    let inside = second_true ((text_index pool).fits name) ((content (is_code pool name) (code_body pool)).fits (inr bytes)) fit in
    both_ways (is_code pool name) is (first_true (not (is_code pool name)) _ inside)

left_some : {A : Type 0} (a b : Option A) → IsSome a → IsSome (or_else a b)
left_some None b h = absurd cc
left_some (Some x) b h = refl

right_some : {A : Type 0} (a b : Option A) → IsSome b → IsSome (or_else a b)
right_some None b h = h
right_some (Some x) b h = refl

code_in : (pool : List Entry) (xs : List Attribute) → IsTrue (list_all (method_attribute pool).fits xs) → (n : ℕ)
    → length (filter (is_code pool) (map attribute_name xs)) ≡ suc n → IsSome (first_some body_of xs)
unfolding first_some
code_in pool [] fit n e = absurd cc
code_in pool (x ∷ xs) fit n e =
    by (λ h. code_in pool xs (second_true ((method_attribute pool).fits x) (list_all (method_attribute pool).fits xs) fit) n h) (is_code pool (attribute_name x)) refl e
  where
    by : (length (filter (is_code pool) (map attribute_name xs)) ≡ suc n → IsSome (first_some body_of xs))
        → (b : Bool) → is_code pool (attribute_name x) ≡ b
        → length (if b then attribute_name x ∷ filter (is_code pool) (map attribute_name xs) else filter (is_code pool) (map attribute_name xs)) ≡ suc n
        → IsSome (or_else (body_of x) (first_some body_of xs))
    by more true is h =
        let own = first_true ((method_attribute pool).fits x) (list_all (method_attribute pool).fits xs) fit in
        left_some (body_of x) (first_some body_of xs) (attribute_code pool x own is)
    by more false is h = right_some (body_of x) (first_some body_of xs) (more h)

class_tail : (c : ClassParts) → IsTrue (class_file.fits c) → IsTrue ((tail c.pool).fits (class_parts c).1)
unfolding class_file strict
class_tail c fit = second_true (judging.head.fits (class_parts c).0) ((tail c.pool).fits (class_parts c).1) fit

method_fits : (c : ClassParts) (m : MemberInfo) → IsTrue (class_file.fits c) → IsIn m c.methods → IsTrue ((method c.pool).fits m)
method_fits c m fit is =
    let all = first_true (list_all (method c.pool).fits c.methods) (u2.fits (length c.methods)) (tail_methods c.pool (class_parts c).1 (class_tail c fit)) in
    at_index (method c.pool).fits c.methods is.0 m all is.1

method_code : (pool : List Entry) (m : MemberInfo) → IsTrue ((method pool).fits m) → has_no_code m.flags ≡ false → IsSome (code_of m)
unfolding method method_parts code_of
method_code pool m fit coded =
    let a = first_true ((method_parts pool).fits m) (is_good (codes_fault pool (names_of m))) fit in
    let b = second_true (access.fits m.flags) ((text_index pool · method_descriptor pool m.flags · counted u2 (method_attribute pool)).fits (m.name, (m.desc, m.attributes))) a in
    let c = second_true ((text_index pool).fits m.name) ((method_descriptor pool m.flags · counted u2 (method_attribute pool)).fits (m.desc, m.attributes)) b in
    let d = second_true ((method_descriptor pool m.flags).fits m.desc) ((counted u2 (method_attribute pool)).fits m.attributes) c in
    let all = first_true (list_all (method_attribute pool).fits m.attributes) (u2.fits (length m.attributes)) d in
    let codes = length (filter (is_code pool) (map attribute_name m.attributes)) in
    let count = eqb-true codes (codes_wanted m.flags)
    (is_right (codes == codes_wanted m.flags) kinds.Code (second_true ((method_parts pool).fits m) (is_good (codes_fault pool (names_of m))) fit)) in
    code_in pool m.attributes all 0 (count ∙ ap (λ (b : Bool). if b then 0 else 1) coded)

neither : (a b : Bool) → a ≡ false → b ≡ false → (a || b) ≡ false
neither true b one two = absurd cc
neither false b one two = two

pub code_there : (p : Program) → Links p → AreFiles p → (i : ℕ) (part : CodePart) (k : ℕ) (m : MemberInfo) → slice_get p.parts i ≡ Some part
    → slice_get part.class.methods k ≡ Some m
    → parts.is_abstract m.flags ≡ false → IsSome (code_of m)
unfolding has_no_code
code_there p links files i part k m stands at concrete =
    let kept = method_kept p links i part k m stands at in
    method_code part.class.pool m (method_fits part.class m (files i part stands) (k, at)) (neither (parts.is_abstract m.flags) (is_native m.flags) concrete kept.native)

-- each method that isn't abstract has code
pub have_code : (p : Program) → Links p → AreFiles p → AllHaveCode p
have_code p links files m part info stands at concrete = code_there p links files m.class part m.method info stands at concrete

clash : {P : Type 0} (b c : Bool) → (b && c) ≡ false → b ≡ true → c ≡ true → P
clash true true e one two = absurd cc
clash true false e one two = absurd cc
clash false c e one two = absurd cc

-- those of an interface are abstract
pub face_abstract : (p : Program) → Links p → AreFiles p → (i : ℕ) (part : CodePart) (k : ℕ) (m : MemberInfo) → slice_get p.parts i ≡ Some part
    → slice_get part.class.methods k ≡ Some m
    → parts.is_interface part.class.flags ≡ true → parts.is_abstract m.flags ≡ true
face_abstract p links files i part k m stands at face = by (parts.is_abstract m.flags) refl
  where
    by : (b : Bool) → parts.is_abstract m.flags ≡ b → b ≡ true
    by true e = refl
    by false e = clash (parts.is_interface part.class.flags) (has_code m) (method_kept p links i part k m stands at).face face (code_there p links files i part k m stands at e)

-- ---- its instructions

length_right : (n : ℕ) → is_good (length_fault n) ≡ true → (n == 0) ≡ false
length_right n h = by (n == 0) (nat_lt 0xffff n) h
  where
    by : (a b : Bool) → is_good (if a || b then Some kinds.Code else None) ≡ true → a ≡ false
    by true b e = absurd cc
    by false b e = refl

spelled_size : (pool : List Entry) (b : CodeBody) → IsTrue ((block code_length kinds.Truncated (ops pool)).fits b.ops)
    → IsTrue (code_length.fits (length (Instructions.code.spell b.ops)))
unfolding ops
spelled_size pool b here = second_true ((ops pool).fits b.ops) (code_length.fits (length (Instructions.code.spell b.ops))) here

content_length : (pool : List Entry) (b : CodeBody) → IsTrue ((code_content pool).fits b) → (length (Instructions.code.spell b.ops) == 0) ≡ false
unfolding code_content
content_length pool b fit =
    let inside : Format ClassFault (List Placed × (List Handler × List CodeAttribute)) = block code_length kinds.Truncated (ops pool) ▹ behind_ops pool in
    let a = second_true (u2.fits b.max_stack) ((u2 · inside).fits (b.max_locals, (b.ops, (b.handlers, b.attributes)))) fit in
    let all = second_true (u2.fits b.max_locals) (inside.fits (b.ops, (b.handlers, b.attributes))) a in
    let here = first_true ((block code_length kinds.Truncated (ops pool)).fits b.ops) ((behind_ops pool b.ops).fits (b.handlers, b.attributes)) all in
    let size = spelled_size pool b here in
    let bytes = length (Instructions.code.spell b.ops) in
    length_right bytes (second_true (u4.fits bytes) (is_good (length_fault bytes)) size)

some_first : (xs : List Placed) → (length (Instructions.code.spell xs) == 0) ≡ false → IsSome (slice_get xs 0)
unfolding Instructions.code Instructions.instructions spell_from
some_first [] e = absurd cc
some_first (x ∷ xs) e = refl

-- it has one
pub begun : (c : ClassParts) (m : MemberInfo) (body : CodeBody) → IsTrue (class_file.fits c) → IsIn m c.methods → code_of m ≡ Some body → IsSome (slice_get body.ops 0)
begun c m body fit is coded = some_first body.ops (content_length c.pool body (code_fits c body (stored c m body fit is coded)))

pub below : {A : Type 0} (xs : List A) (n : ℕ) (x : A) → slice_get xs n ≡ Some x → n < length xs
below [] n x e = absurd cc
below (y ∷ xs) zero x e = omega arith
below (y ∷ xs) (suc n) x e = let less : n < length xs = below xs n x e in omega (arith, less)

found_from : (ps : List Placed) (n : ℕ) (o : Placed) → Rises ps → slice_get ps n ≡ Some o → find (λ one. one.at == o.at) ps ≡ Some o
found_from [] n o rises at = absurd cc
found_from (x ∷ ps) zero o rises at =
    let same : x ≡ o = cc in
    let hit : (x.at == o.at) ≡ true = eq-eqb x.at o.at (ap (λ (y : Placed). y.at) same) in
    ap (λ (b : Bool). cond b (Some x) (find (λ one. one.at == o.at) ps)) hit ∙ ap (λ (y : Placed). Some y) same
found_from (x ∷ ps) (suc n) o rises at =
    let less : n < length ps = below ps n o at in
    let at_o : get_or ps n o ≡ o = get_or_from_slice_get ps n o o at in
    let up : x.at < (get_or ps n o).at = rises 0 (suc n) o (omega arith) (omega (arith, less)) in
    let up_o : x.at < o.at = subst (λ (y : Placed). x.at < y.at) at_o up in
    let miss : (x.at == o.at) ≡ false = ne_eqb x.at o.at (λ e. omega (arith, e, up_o)) in
    let rest : Rises ps = λ i j d lt under. rises (suc i) (suc j) d (omega (arith, lt)) (omega (arith, under)) in
    ap (λ (b : Bool). cond b (Some x) (find (λ one. one.at == o.at) ps)) miss ∙ found_from ps n o rest at

-- the one at its place is found there
pub found_at : (c : ClassParts) (m : MemberInfo) (body : CodeBody) (n : ℕ) (o : Placed) → IsTrue (class_file.fits c) → IsIn m c.methods → code_of m ≡ Some body
    → slice_get body.ops n ≡ Some o
    → find (λ one. one.at == o.at) body.ops ≡ Some o
found_at c m body n o fit is coded at =
    found_from body.ops n o (fit_rises body.ops (code_items c.pool body (code_fits c body (stored c m body fit is coded))).0) at
