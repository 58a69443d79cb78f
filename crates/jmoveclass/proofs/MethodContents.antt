-- What a class file holds of a method: its descriptor, and one code at most.
use Rattle.std.proofs.Common.{◌≡◌, ℕ, zero, suc, ◌+◌, ◌≤◌, ◌<◌, Bool, true, false, ◌&&◌, List, [], ◌∷◌, length, map, Option, Some, None, refl, ap, sym, ◌∙◌, subst, arith, inl, inr}
use Rattle.std.specs.Prelude.{IsTrue, is_some, option_and_then, option_map, slice_get, nat_le, ◌==◌, if◌then◌else◌}
use Rattle.std.specs.List.{filter, list_all}
use Rattle.std.proofs.lemmas.Bool.{cases_Bool, eqb-true, leb-true}
use Rattle.jground.specs.jbase.FirstFaults.{first_some, or_else}
use Rattle.jground.specs.jformat.Format.{◌·◌, is_good}
use Rattle.jground.specs.jformat.BodyFormats.{counted}
use Rattle.jground.proofs.JformatProofs.ReadingSteps.{first_true, second_true}
use Rattle.jparts.specs.declared.jpool.descriptor.Descriptor.{Descriptor}
use Rattle.jparts.specs.declared.jpool.descriptor.Descriptor.TheVariants as descriptors
use Rattle.jparts.specs.declared.jpool.descriptor.FieldType.{FieldType}
use Rattle.jparts.specs.declared.jpool.entry.Entry.{Entry}
use Rattle.jparts.specs.jpool.Descriptors.{descriptor_of, is_method, is_opening, is_return, is_type, is_well_formed, method, method_of, method_slots, slots_of}
use Rattle.jparts.specs.jpool.ConstantPools.{class_name_at, utf8_at}
use Rattle.jparts.proofs.JpoolProofs.PoolLaws.{at_index}
use Rattle.jparts.proofs.JpoolProofs.DescriptorTexts.{descriptor_take}
use Rattle.jclass.specs.declared.class.Attribute.{Attribute}
use Rattle.jclass.specs.declared.class.Attribute.TheVariants.{Code, ConstantValue, Raw}
use Rattle.jclass.specs.declared.class.ClassParts.{ClassParts}
use Rattle.jclass.specs.declared.class.CodeBody.{CodeBody}
use Rattle.jclass.specs.declared.class.MemberInfo.{MemberInfo}
use Rattle.jclass.specs.declared.fault.ClassFault.{ClassFault}
use Rattle.jclass.specs.declared.fault.ClassFault.TheVariants as kinds
use Rattle.jclass.specs.Attributes.{content, text_index}
use Rattle.jclass.specs.IndexFormats.{access, index, u2}
use Rattle.jclass.specs.Class.{class_file, class_parts, strict, tail}
use Rattle.jclass.specs.CodeFormat.{code_body, maps_of, frames_in}
use Rattle.jclass.specs.PoolChecks as judging
use Rattle.jclass.specs.MemberFormat as members
use Rattle.jclass.specs.MemberFormat.{attribute_name, body_of, codes_fault, method_attribute, method_parts}
use Rattle.jclass.specs.ProofNames.{codes_wanted, names_of}
use Rattle.jclass.specs.FlagRules.{descriptor_fault, has_no_code, is_code, is_static, method_descriptor, most_slots, names_class, within, is_plain_class}
use Rattle.jclass.specs.FileContents.{HasCode, IsIn}
use Rattle.jclass.proofs.FittingClasses.{code_fits, code_frames}
use Rattle.jclass.specs.declared.class.CodeAttribute.{CodeAttribute}
use Rattle.jclass.specs.declared.class.CodeAttribute.TheVariants as code
use Rattle.jclass.specs.declared.class.CodeAttribute.TheVariants.{Maps}
use Rattle.jparts.specs.jmaps.StackMapFormat as frames
use Rattle.jparts.specs.jmaps.StackMapFormat.{maps}
use Rattle.jclass.proofs.ClassLaws.{tail_methods}
use Rattle.jresolution.specs.declared.jprogram.part.CodePart.{CodePart}
use Rattle.jresolution.specs.jprogram.ProgramClasses.{Program}
use Rattle.jresolution.specs.jprogram.MemberResolution.{part_of, referred, resolved}
use Rattle.jresolution.specs.jprogram.ClassFileParts as parts
use Rattle.jresolution.specs.jprogram.ClassFileParts.{code_of, member_desc, or_empty}
use Rattle.jmoveclass.specs.EntryLocals.{params_in, slots}
use Rattle.jmoveclass.specs.ProofNames.{this_slots, or_no_frames}
use Rattle.jmoveclass.specs.MovableClasses.{IsCode}
use Rattle.jmoveclass.proofs.DemandPreservation.{good_is}
use Rattle.jparts.specs.jpool.PoolEntries.{class_parts as entry_class}

-- ---- the parts of a method

pub class_tail : (c : ClassParts) → IsTrue (class_file.fits c) → IsTrue ((tail c.pool).fits (class_parts c).1)
unfolding class_file strict
class_tail c fit = second_true (judging.head.fits (class_parts c).0) ((tail c.pool).fits (class_parts c).1) fit

pub method_fits : (c : ClassParts) (m : MemberInfo) → IsTrue (class_file.fits c) → IsIn m c.methods → IsTrue ((members.method c.pool).fits m)
method_fits c m fit is =
    let all = first_true (list_all (members.method c.pool).fits c.methods) (u2.fits (length c.methods)) (tail_methods c.pool (class_parts c).1 (class_tail c fit)) in
    at_index (members.method c.pool).fits c.methods is.0 m all is.1

pub record Parts (pool : List Entry) (m : MemberInfo) : Type 0 where
  pub desc : IsTrue ((method_descriptor pool m.flags).fits m.desc)
  pub attributes : IsTrue (list_all (method_attribute pool).fits m.attributes)
  pub codes : IsTrue (is_good (codes_fault pool (names_of m)))

pub parts_of : (pool : List Entry) (m : MemberInfo) → IsTrue ((members.method pool).fits m) → Parts pool m
unfolding members.method method_parts
parts_of pool m fit =
    let a = first_true ((method_parts pool).fits m) (is_good (codes_fault pool (names_of m))) fit in
    let b = second_true (access.fits m.flags) ((text_index pool · method_descriptor pool m.flags · counted u2 (method_attribute pool)).fits (m.name, (m.desc, m.attributes))) a in
    let c = second_true ((text_index pool).fits m.name) ((method_descriptor pool m.flags · counted u2 (method_attribute pool)).fits (m.desc, m.attributes)) b in
    let d = second_true ((method_descriptor pool m.flags).fits m.desc) ((counted u2 (method_attribute pool)).fits m.attributes) c in
    record {
      desc = first_true ((method_descriptor pool m.flags).fits m.desc) ((counted u2 (method_attribute pool)).fits m.attributes) c;
      attributes = first_true (list_all (method_attribute pool).fits m.attributes) (u2.fits (length m.attributes)) d;
      codes = second_true ((method_parts pool).fits m) (is_good (codes_fault pool (names_of m))) fit;
    }

-- ---- its descriptor

-- the types of a method's descriptor
pub record IsMethod (c : ClassParts) (m : MemberInfo) : Type 0 where
  pub params : List FieldType
  pub ret : Option FieldType
  pub is : descriptor_of (member_desc c m) ≡ Some (descriptors.Method params ret)
  pub good : IsTrue (list_all is_type params)
  pub good_return : IsTrue (is_return ret)
  pub few : slots c m ≤ 255

method_desc : (text : List ℕ) (x : List FieldType × Option FieldType) → method_of text ≡ Some x → descriptor_of text ≡ Some (descriptors.Method x.0 x.1)
unfolding descriptor_of method_of
method_desc [] x h = absurd cc
method_desc (b ∷ rest) x h = elim (cases_Bool (is_opening b)) [
  | inl opens ↦
      let read : option_map method (method_of (b ∷ rest)) ≡ Some (descriptors.Method x.0 x.1) = ap (λ (o : Option (List FieldType × Option FieldType)). option_map method o) h in
      rw opens (rw opens at read)
  | inr other ↦ let no : None ≡ Some x = rw other at h in absurd cc
]

-- a text within so many slots
record Counted (limit : ℕ) (text : List ℕ) : Type 0 where
  pub both : List FieldType × Option FieldType
  pub is : method_of text ≡ Some both
  pub few : slots_of both.0 ≤ limit

counted_from : (limit : ℕ) (text : List ℕ) (o : Option (List FieldType × Option FieldType)) → method_of text ≡ o → IsTrue (within limit (option_map (λ m. slots_of m.0) o)) → Counted limit text
counted_from limit text None e h = absurd cc
counted_from limit text (Some x) e h = record { both = x; is = e; few = leb-true (slots_of x.0) limit h }

counted_is : (limit : ℕ) (text : List ℕ) → IsTrue (within limit (method_slots text)) → Counted limit text
unfolding method_slots
counted_is limit text h = counted_from limit text (method_of text) refl h

counted_at : (limit : ℕ) (o : Option (List ℕ)) → IsTrue (is_good (descriptor_fault (λ text. within limit (method_slots text)) o)) → Counted limit (or_empty o)
counted_at limit None h = absurd cc
counted_at limit (Some text) h = counted_is limit text (good_is (within limit (method_slots text)) kinds.Descriptor h)

most : (static : Bool) → (if static then 255 else 254) + (if static then 0 else 1) ≤ 255
most true = omega arith
most false = omega arith

well_is : (ps : List FieldType) (ret : Option FieldType) → IsTrue (is_well_formed (descriptors.Method ps ret)) → IsTrue (is_method ps ret)
unfolding is_well_formed
well_is ps ret h = h

pub is_method_of : (c : ClassParts) (m : MemberInfo) → IsTrue (class_file.fits c) → IsIn m c.methods → IsMethod c m
unfolding method_descriptor is_static
is_method_of c m fit there =
    let p = parts_of c.pool m (method_fits c m fit there) in
    let good = second_true (u2.fits m.desc) (is_good (descriptor_fault (λ text. within (most_slots m.flags) (method_slots text)) (utf8_at c.pool m.desc))) p.desc in
    let n = counted_at (most_slots m.flags) (utf8_at c.pool m.desc) good in
    let is = method_desc (member_desc c m) n.both n.is in
    let well = (descriptor_take (member_desc c m) (descriptors.Method n.both.0 n.both.1) is).0 in
    let types = first_true (list_all is_type n.both.0 && is_return n.both.1) (nat_le (slots_of n.both.0) 255) (well_is n.both.0 n.both.1 well) in
    let few : slots_of n.both.0 ≤ most_slots m.flags = n.few in
    let all : most_slots m.flags + this_slots m ≤ 255 = most (parts.is_static m.flags) in
    record {
      params = n.both.0;
      ret = n.both.1;
      is = is;
      good = first_true (list_all is_type n.both.0) (is_return n.both.1) types;
      good_return = second_true (list_all is_type n.both.0) (is_return n.both.1) types;
      few = subst (λ (o : Option Descriptor). slots_of (params_in o) + this_slots m ≤ 255) (sym is) (omega arith);
    }

-- ---- its code

-- how many of these are named Code
abbrev codes_in : List Entry → List Attribute → ℕ
codes_in pool xs = length (filter (is_code pool) (map attribute_name xs))

named_code : (pool : List Entry) (a : Attribute) (b : CodeBody) → IsTrue ((method_attribute pool).fits a) → body_of a ≡ Some b → IsTrue (is_code pool (attribute_name a))
unfolding method_attribute
named_code pool (Code name stack locals ops handlers others) b fit is =
    let made : CodeBody = record { max_stack = stack; max_locals = locals; ops = ops; handlers = handlers; attributes = others } in
    first_true (is_code pool name) _ (second_true ((text_index pool).fits name) ((content (is_code pool name) (code_body pool)).fits (inl made)) fit)
named_code pool (ConstantValue name value) b fit is = absurd cc
named_code pool (Raw name bytes) b fit is = absurd cc

one_count : (b : Bool) (n : ℕ) (rest : List ℕ) → IsTrue b → length (if b then n ∷ rest else rest) ≡ suc (length rest)
one_count true n rest h = refl
one_count false n rest h = absurd cc

no_less : (b : Bool) (n : ℕ) (rest : List ℕ) → length rest ≤ length (if b then n ∷ rest else rest)
no_less true n rest = omega arith
no_less false n rest = omega arith

some_code : (pool : List Entry) (xs : List Attribute) (i : ℕ) (a : Attribute) → slice_get xs i ≡ Some a → IsTrue (is_code pool (attribute_name a)) → 1 ≤ codes_in pool xs
some_code pool [] i a at h = absurd cc
some_code pool (x ∷ xs) zero a at h =
    let same : x ≡ a = cc in
    let one : codes_in pool (x ∷ xs) ≡ suc (codes_in pool xs) = one_count (is_code pool (attribute_name x)) (attribute_name x) (filter (is_code pool) (map attribute_name xs)) (subst (λ (y : Attribute). IsTrue (is_code pool (attribute_name y))) (sym same) h) in
    omega arith
some_code pool (x ∷ xs) (suc i) a at h =
    let more : 1 ≤ codes_in pool xs = some_code pool xs i a at h in
    let less : codes_in pool xs ≤ codes_in pool (x ∷ xs) = no_less (is_code pool (attribute_name x)) (attribute_name x) (filter (is_code pool) (map attribute_name xs)) in
    omega arith

first_or : (pool : List Entry) (x : Attribute) (xs : List Attribute) (i : ℕ) (a : Attribute) (b : CodeBody) (o : Option CodeBody) → body_of x ≡ o → IsTrue ((method_attribute pool).fits x) → slice_get xs i ≡ Some a → IsTrue (is_code pool (attribute_name a)) → codes_in pool (x ∷ xs) ≤ 1
    → (codes_in pool xs ≤ 1 → first_some body_of xs ≡ Some b) → or_else o (first_some body_of xs) ≡ Some b
first_or pool x xs i a b None e fit at h few more =
    let less : codes_in pool xs ≤ codes_in pool (x ∷ xs) = no_less (is_code pool (attribute_name x)) (attribute_name x) (filter (is_code pool) (map attribute_name xs)) in
    more (omega arith)
first_or pool x xs i a b (Some c) e fit at h few more =
    let one : codes_in pool (x ∷ xs) ≡ suc (codes_in pool xs) = one_count (is_code pool (attribute_name x)) (attribute_name x) (filter (is_code pool) (map attribute_name xs)) (named_code pool x c fit e) in
    let two : 1 ≤ codes_in pool xs = some_code pool xs i a at h in
    absurd (omega arith)

only_from : (pool : List Entry) (xs : List Attribute) (i : ℕ) (a : Attribute) (b : CodeBody) → IsTrue (list_all (method_attribute pool).fits xs) → slice_get xs i ≡ Some a → body_of a ≡ Some b → codes_in pool xs ≤ 1 → first_some body_of xs ≡ Some b
unfolding first_some
only_from pool [] i a b fit at is few = absurd cc
only_from pool (x ∷ xs) zero a b fit at is few = let same : x ≡ a = cc in rw (ap body_of same ∙ is) refl
only_from pool (x ∷ xs) (suc i) a b fit at is few =
    let rest = second_true ((method_attribute pool).fits x) (list_all (method_attribute pool).fits xs) fit in
    let named = named_code pool a b (at_index (method_attribute pool).fits xs i a rest at) is in
    first_or pool x xs i a b (body_of x) refl (first_true ((method_attribute pool).fits x) (list_all (method_attribute pool).fits xs) fit) at named few (only_from pool xs i a b rest at is)

wanted_few : (b : Bool) → (if b then 0 else 1) ≤ 1
wanted_few true = omega arith
wanted_few false = omega arith

-- of its attributes one at most is code
pub only_code : (c : ClassParts) (m : MemberInfo) (a : Attribute) (b : CodeBody) → IsTrue (class_file.fits c) → IsIn m c.methods → IsIn a m.attributes → body_of a ≡ Some b → code_of m ≡ Some b
unfolding code_of
only_code c m a b fit there is body =
    let p = parts_of c.pool m (method_fits c m fit there) in
    let count : codes_in c.pool m.attributes ≡ codes_wanted m.flags = eqb-true (codes_in c.pool m.attributes) (codes_wanted m.flags) (good_is (codes_in c.pool m.attributes == codes_wanted m.flags) kinds.Code p.codes) in
    let few : codes_wanted m.flags ≤ 1 = wanted_few (has_no_code m.flags) in
    only_from c.pool m.attributes is.0 a b p.attributes is.1 body (omega arith)

-- ---- what is found

found_or : (x : Attribute) (xs : List Attribute) (b : CodeBody) (o : Option CodeBody) → body_of x ≡ o → or_else o (first_some body_of xs) ≡ Some b → (first_some body_of xs ≡ Some b → (a : Attribute) × (IsIn a xs × (body_of a ≡ Some b)))
    → (a : Attribute) × (IsIn a (x ∷ xs) × (body_of a ≡ Some b))
found_or x xs b None e h more = let r = more h in (r.0, ((suc r.1.0.0, r.1.0.1), r.1.1))
found_or x xs b (Some d) e h more = (x, ((0, refl), e ∙ h))

first_in : (xs : List Attribute) (b : CodeBody) → first_some body_of xs ≡ Some b → (a : Attribute) × (IsIn a xs × (body_of a ≡ Some b))
unfolding first_some
first_in [] b h = absurd cc
first_in (x ∷ xs) b h = found_or x xs b (body_of x) refl h (first_in xs b)

pub found_code : (c : ClassParts) (m : MemberInfo) (b : CodeBody) → IsIn m c.methods → code_of m ≡ Some b → IsCode c m b
unfolding code_of
found_code c m b there h = let r = first_in m.attributes b h in record { method = there; attribute = r.0; there = r.1.0; is_body = r.1.1 }

pub has_code : (c : ClassParts) (m : MemberInfo) (b : CodeBody) → IsTrue (class_file.fits c) → IsCode c m b → HasCode c b
has_code c m b fit code = record { good = fit; method = m; attribute = code.attribute; in_class = code.method; in_method = code.there; is_body = code.is_body }

-- ---- frames

none_fit : IsTrue (maps.fits [])
unfolding maps frames.frames
none_fit = refl

frames_some : (c : ClassParts) (b : CodeBody) → HasCode c b → (xs : List CodeAttribute) → ((x : CodeAttribute) → IsIn x xs → IsIn x b.attributes) → IsTrue (maps.fits (or_no_frames (first_some maps_of xs)))
unfolding first_some
frames_some c b has [] sub = none_fit
frames_some c b has (Maps name fs ∷ xs) sub = code_frames c.pool b name fs (code_fits c b has) (sub (Maps name fs) (0, refl))
frames_some c b has (code.Raw name bytes ∷ xs) sub = frames_some c b has xs (λ x is. sub x (suc is.0, is.1))

pub frames_fit : (c : ClassParts) (b : CodeBody) → HasCode c b → IsTrue (maps.fits (frames_in b))
frames_fit c b has = frames_some c b has b.attributes (λ x is. is)

-- ---- the pool

index_below : {A : Type 0} (xs : List A) (i : ℕ) → IsTrue (is_some (slice_get xs i)) → 0 < length xs
index_below [] i h = absurd cc
index_below (x ∷ xs) i h = omega arith

named_there : (pool : List Entry) (i : ℕ) (o : Option Entry) → slice_get pool i ≡ o → IsTrue (is_plain_class (option_and_then (utf8_at pool) (option_and_then entry_class o))) → 0 < length pool
named_there pool i None e h = absurd cc
named_there pool i (Some x) e h = index_below pool i (ap is_some e)

pub begun : (c : ClassParts) → IsTrue (class_file.fits c) → 0 < length c.pool
unfolding tail names_class class_name_at
begun c fit =
    let a = second_true (access.fits c.flags) _ (class_tail c fit) in
    let this = good_is (names_class c.pool c.this_class) kinds.Index (second_true (u2.fits c.this_class) _ (first_true ((index (names_class c.pool)).fits c.this_class) _ a)) in
    named_there c.pool c.this_class (slice_get c.pool c.this_class) refl this

-- ---- the members that references stand for

resolved_from : (p : Program) (c : ClassParts) (n : ℕ) (o : Option CodePart) → option_map (λ part. part.class) o ≡ Some c → option_and_then (λ part. referred p part.class.pool (slice_get part.class.pool n)) o ≡ referred p c.pool (slice_get c.pool n)
resolved_from p c n None h = absurd cc
resolved_from p c n (Some part) h = let same : part.class ≡ c = cc in ap (λ (d : ClassParts). referred p d.pool (slice_get d.pool n)) same

pub resolved_is : (p : Program) (i n : ℕ) (c : ClassParts) → part_of p i ≡ Some c → resolved p i n ≡ referred p c.pool (slice_get c.pool n)
unfolding resolved
resolved_is p i n c h = resolved_from p c n (slice_get p.parts i) h
