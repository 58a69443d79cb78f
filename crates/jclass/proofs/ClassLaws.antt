-- A class file is a body: what is read is spelled so, and what is spelled so is read.
use Rattle.std.proofs.Common.{◌≡◌, ℕ, ◌-◌, ◌≤◌, Bool, true, false, ◌⊎◌, List, [], ◌∷◌, ◌++◌, length, Option, Some, None, Ok, Err, refl, sym, ap, subst, ◌∙◌, arith, inl, inr}
use Rattle.std.specs.Prelude.{IsTrue, is_some, option_map, slice_get, option_and_then}
use Rattle.std.proofs.lemmas.List.{append-nil}
use Rattle.jground.specs.jbase.FirstFaults.{or_else}
use Rattle.jground.specs.declared.jformat.error.Fault.{Fault}
use Rattle.jground.specs.jformat.Format.{IsBytes, Format, ◌·◌, ◌▹◌, is_good}
use Rattle.jground.specs.jformat.BodyFormats.{whole, counted}
use Rattle.jground.specs.jformat.StatefulFormats.{counted_from}
use Rattle.jground.proofs.JformatProofs.ReadingSteps.{bind_ok, bind_err, ok_is, both, first_true, second_true, unless_ok, unless_err}
use Rattle.jground.proofs.JformatProofs.FormatLaws.{Takes, IsFormat, pair_law, then_law, via_law, such_law, as_case_law, literal_law}
use Rattle.jground.proofs.JformatProofs.Blocks.{IsBody, whole_law, counted_law}
use Rattle.jground.proofs.JformatProofs.StatefulFormats.{counted_from_law}
use Rattle.jground.proofs.JformatProofs.Skims.{Skims, skims_itself, skims_such, skims_pair, skims_then, skims_counted, passes_law, ahead_law}
use Rattle.jparts.specs.declared.jpool.entry.Entry.{Entry}
use Rattle.jparts.specs.jpool.PoolEntries
use Rattle.jparts.specs.jpool.PoolEntries.{size, utf8_parts}
use Rattle.jparts.specs.jpool.ConstantPools
use Rattle.jparts.specs.jpool.ConstantPools.{IsPool, faulty, first_fault, is_utf8, name_fault, utf8_at}
use Rattle.jparts.specs.declared.jpool.entry.Entry.TheVariants.{Class}
use Rattle.jparts.proofs.JpoolProofs.EntryLaws.{shape_law}
use Rattle.jparts.proofs.JpoolProofs.PoolLaws.{none_is_good, good_is_none, at_index}
use Rattle.jclass.specs.declared.class.Attribute.{Attribute}
use Rattle.jclass.specs.declared.class.Attribute.TheVariants.{ConstantValue, Code, Raw}
use Rattle.jclass.specs.declared.class.CodeBody.{CodeBody}
use Rattle.jclass.specs.declared.class.ClassParts.{ClassParts}
use Rattle.jclass.specs.declared.fault.ClassFault.{ClassFault}
use Rattle.jclass.specs.declared.fault.ClassFault.TheVariants.{Trailing, Magic}
use Rattle.jclass.specs.IndexFormats.{u2, u4, run, access, index, told, told_as, pool_fault}
use Rattle.jclass.specs.FlagRules.{names_class, names_super, is_code, field_descriptor, method_descriptor}
use Rattle.jclass.specs.ClassFileShape
use Rattle.jclass.specs.ClassFileShape.{HeadParts, major, entries, shape, has_shape}
use Rattle.jclass.specs.ProofNames.{magic, names_of}
use Rattle.jclass.specs.PoolChecks
use Rattle.jclass.specs.PoolChecks.{entry_fault, no_fault, judged}
use Rattle.jclass.specs.Attributes.{text_index, content, class_attribute, field_attribute, saw_constant}
use Rattle.jclass.specs.CodeFormat.{code_body}
use Rattle.jclass.specs.MemberFormat.{member_from, member_parts, field, code_from, code_parts, method_attribute, method_parts, names_at, codes_fault, method}
use Rattle.jclass.specs.Class.{TailParts, tail, class_from, class_parts, strict, class_file, Spells}
use Rattle.jclass.specs.AttributeLaws.{u2_law, u4_law, run_law, index_law, content_law}
use Rattle.jclass.proofs.AttributeLaws.{access_law, class_attribute_law, field_attribute_law}
use Rattle.jclass.specs.CodeLaws.{told_ok, told_err, code_body_law}
use Rattle.jclass.proofs.ShapeCoverage.{field_skim, method_skim, attributes_skim, names_over, names_reading}

-- ---- other names of faults

told_law : {K L A : Type 0} (name : K → L) (f : Format K A) → IsFormat f → IsFormat (told_as name f)
told_law name f F = record {
  takes = λ bytes x fits e. F.takes bytes x fits (told_ok name (f.read bytes) x e);
  again = λ x rest fit. ap (told name) (F.again x rest fit);
  reading = record {
    within = λ bytes d e. let c = told_err name (f.read bytes) d e in let le : c.0.left ≤ length bytes = F.reading.within bytes c.0 c.1 in rw c.2 le;
    shorter = λ bytes x e. F.reading.shorter bytes x (told_ok name (f.read bytes) x e);
  };
}

-- ---- members

field_law : (pool : List Entry) → IsFormat (field pool)
unfolding field field_descriptor
field_law pool = via_law member_from member_parts (access ▹ λ a. text_index pool · (field_descriptor pool ▹ λ desc. counted_from u2 (field_attribute pool a desc) saw_constant false)) (λ p fit. refl) (λ m fit. refl)
    (then_law access (λ a. text_index pool · (field_descriptor pool ▹ λ desc. counted_from u2 (field_attribute pool a desc) saw_constant false)) access_law
    (λ a. pair_law (text_index pool) (field_descriptor pool ▹ λ desc. counted_from u2 (field_attribute pool a desc) saw_constant false) (index_law (is_utf8 pool))
    (then_law (field_descriptor pool) (λ desc. counted_from u2 (field_attribute pool a desc) saw_constant false) (such_law _ u2 u2_law)
    (λ desc. counted_from_law u2 (field_attribute pool a desc) saw_constant u2_law (field_attribute_law pool a desc) false))))

code_made : (a : ℕ × (CodeBody ⊎ List ℕ)) → code_parts (code_from a) ≡ Some a
code_made (name, inl c) = refl
code_made (name, inr bytes) = refl

code_only : (b : Attribute) (a : ℕ × (CodeBody ⊎ List ℕ)) → code_parts b ≡ Some a → b ≡ code_from a
code_only (ConstantValue name value) a e = absurd cc
code_only (Raw name bytes) a e = let made : ℕ × (CodeBody ⊎ List ℕ) = (name, inr bytes) in let same : made ≡ a = cc in ap code_from same
code_only (Code name stack locals ops handlers attributes) a e = let made : ℕ × (CodeBody ⊎ List ℕ) = (name, inl (record { max_stack = stack; max_locals = locals; ops = ops; handlers = handlers; attributes = attributes })) in let same : made ≡ a = cc in ap code_from same

method_attribute_law : (pool : List Entry) → IsFormat (method_attribute pool)
unfolding method_attribute
method_attribute_law pool = as_case_law code_from code_parts (text_index pool ▹ λ i. content (is_code pool i) (code_body pool)) code_made code_only
    (then_law (text_index pool) (λ i. content (is_code pool i) (code_body pool)) (index_law (is_utf8 pool)) (λ i. content_law (is_code pool i) (code_body pool) (code_body_law pool)))

method_parts_law : (pool : List Entry) → IsFormat (method_parts pool)
unfolding method_parts method_descriptor
method_parts_law pool = via_law member_from member_parts (access ▹ λ a. text_index pool · method_descriptor pool a · counted u2 (method_attribute pool)) (λ p fit. refl) (λ m fit. refl)
    (then_law access (λ a. text_index pool · method_descriptor pool a · counted u2 (method_attribute pool)) access_law
    (λ a. pair_law (text_index pool) (method_descriptor pool a · counted u2 (method_attribute pool)) (index_law (is_utf8 pool))
    (pair_law (method_descriptor pool a) (counted u2 (method_attribute pool)) (such_law _ u2 u2_law) (counted_law u2 (method_attribute pool) u2_law (method_attribute_law pool)))))

method_law : (pool : List Entry) → IsFormat (method pool)
unfolding method
method_law pool = ahead_law names_at names_of (codes_fault pool) (method_parts pool) (method_parts_law pool) (names_over pool) names_reading.within

-- ---- the head

magic_law : IsFormat magic
magic_law = literal_law u4 Magic 3405691582 u4_law

major_law : IsFormat major
major_law = such_law _ u2 u2_law

entries_law : IsFormat entries
unfolding entries
entries_law = told_law pool_fault PoolEntries.shape shape_law

pub head_law : IsFormat ClassFileShape.head
unfolding ClassFileShape.head
head_law = pair_law magic (u2 · major · entries) magic_law (pair_law u2 (major · entries) u2_law (pair_law major entries major_law entries_law))

fault_here : {K : Type 0} (left : ℕ) (o : Option K) (later : Option (Fault K)) (d : Fault K) → ((later ≡ Some d) → d.left ≤ left) → or_else (faulty left o) later ≡ Some d → d.left ≤ left
fault_here left None later d h e = h e
fault_here {K} left (Some k) later d h e = let made : Fault K = record { left = left; kind = k } in let same : made ≡ d = cc in subst (λ (y : Fault K). y.left ≤ left) same (omega arith)

first_within : {K : Type 0} (test : Entry → Option K) (left : ℕ) (es : List Entry) (d : Fault K) → first_fault test left es ≡ Some d → d.left ≤ left
unfolding first_fault
first_within test left [] d h = absurd cc
first_within test left (e ∷ es) d h = fault_here left (test e) (first_fault test (left - size e) es) d (λ k. let le = first_within test (left - size e) es d k in omega arith) h

judged_takes : (bytes : List ℕ) (x : HeadParts × List ℕ) → IsBytes bytes → PoolChecks.head.read bytes ≡ Ok x → Takes PoolChecks.head.spell PoolChecks.head.fits bytes x
unfolding PoolChecks.head no_fault
judged_takes bytes x fits e =
    let a = bind_ok (ClassFileShape.head.read bytes) (judged (length bytes - 10)) x e in
    let s = head_law.takes bytes a.0 fits a.1 in
    let u = unless_ok a.0 x (first_fault (entry_fault a.0.0.1.1.1) (length bytes - 10) a.0.0.1.1.1) a.2 in
    let good = none_is_good (entry_fault a.0.0.1.1.1) (length bytes - 10) a.0.0.1.1.1 u.0 in
    let all : Takes PoolChecks.head.spell PoolChecks.head.fits bytes a.0 = record { parts = s.parts; rest_fits = s.rest_fits; fit = both _ _ s.fit good } in
    subst (λ (y : HeadParts × List ℕ). Takes PoolChecks.head.spell PoolChecks.head.fits bytes y) u.1 all

judged_again : (h : HeadParts) (rest : List ℕ) → IsTrue (PoolChecks.head.fits h) → PoolChecks.head.read (PoolChecks.head.spell h ++ rest) ≡ Ok (h, rest)
unfolding PoolChecks.head no_fault
judged_again h rest fit =
    let one : ClassFileShape.head.read (ClassFileShape.head.spell h ++ rest) ≡ Ok (h, rest) = head_law.again h rest (first_true (ClassFileShape.head.fits h) (no_fault h.1.1.1) fit) in
    let none = good_is_none (entry_fault h.1.1.1) (length (ClassFileShape.head.spell h ++ rest) - 10) h.1.1.1 (second_true (ClassFileShape.head.fits h) (no_fault h.1.1.1) fit) in
    rw (one, none) refl

judged_within : (bytes : List ℕ) (d : Fault ClassFault) → PoolChecks.head.read bytes ≡ Err d → d.left ≤ length bytes
unfolding PoolChecks.head
judged_within bytes d e =
    elim (bind_err (ClassFileShape.head.read bytes) (judged (length bytes - 10)) d e) [
      | inl h ↦ head_law.reading.within bytes d h
      | inr h ↦
          let le = first_within (entry_fault h.0.0.1.1.1) (length bytes - 10) h.0.0.1.1.1 d (unless_err h.0 d (first_fault (entry_fault h.0.0.1.1.1) (length bytes - 10) h.0.0.1.1.1) h.2) in
          omega arith
    ]

judged_shorter : (bytes : List ℕ) (x : HeadParts × List ℕ) → PoolChecks.head.read bytes ≡ Ok x → length x.1 ≤ length bytes
unfolding PoolChecks.head
judged_shorter bytes x e =
    let a = bind_ok (ClassFileShape.head.read bytes) (judged (length bytes - 10)) x e in
    let u = unless_ok a.0 x (first_fault (entry_fault a.0.0.1.1.1) (length bytes - 10) a.0.0.1.1.1) a.2 in
    subst (λ (y : HeadParts × List ℕ). length y.1 ≤ length bytes) u.1 (head_law.reading.shorter bytes a.0 a.1)

judged_law : IsFormat PoolChecks.head
judged_law = record { takes = judged_takes; again = judged_again; reading = record { within = judged_within; shorter = judged_shorter } }

judged_skim : Skims ClassFileShape.head PoolChecks.head
unfolding PoolChecks.head
judged_skim = λ h rest fit. (h, head_law.again h rest (first_true (ClassFileShape.head.fits h) (no_fault h.1.1.1) fit))

-- ---- the tail

shape_tail_law : IsFormat ClassFileShape.tail
unfolding ClassFileShape.tail
shape_tail_law =
    let attributes = counted_law u2 ClassFileShape.attribute u2_law (pair_law u2 run u2_law run_law) in
    let members = counted_law u2 ClassFileShape.member u2_law (pair_law u2 _ u2_law (pair_law u2 _ u2_law (pair_law u2 (counted u2 ClassFileShape.attribute) u2_law attributes))) in
    pair_law u2 _ u2_law (pair_law u2 _ u2_law (pair_law u2 _ u2_law (pair_law (counted u2 u2) _ (counted_law u2 u2 u2_law u2_law)
    (pair_law (counted u2 ClassFileShape.member) _ members (pair_law (counted u2 ClassFileShape.member) (counted u2 ClassFileShape.attribute) members attributes)))))

tail_law : (pool : List Entry) → IsFormat (tail pool)
unfolding tail
tail_law pool =
    pair_law access _ access_law (pair_law (index (names_class pool)) _ (index_law (names_class pool)) (pair_law (index (names_super pool)) _ (index_law (names_super pool))
    (pair_law (counted u2 (index (names_class pool))) _ (counted_law u2 (index (names_class pool)) u2_law (index_law (names_class pool)))
    (pair_law (counted u2 (field pool)) _ (counted_law u2 (field pool) u2_law (field_law pool))
    (pair_law (counted u2 (method pool)) (counted u2 (class_attribute pool)) (counted_law u2 (method pool) u2_law (method_law pool)) (counted_law u2 (class_attribute pool) u2_law (class_attribute_law pool)))))))

flags_skim : Skims u2 access
flags_skim = λ a rest fit. (a.0, u2_law.again a.0 rest fit)

index_skim : (test : ℕ → Bool) → Skims u2 (index test)
index_skim test = skims_such u2 _ u2 (skims_itself u2 u2_law)

tail_skim : (pool : List Entry) → Skims ClassFileShape.tail (tail pool)
unfolding ClassFileShape.tail tail
tail_skim pool =
    skims_pair u2 (u2 · u2 · counted u2 u2 · counted u2 ClassFileShape.member · counted u2 ClassFileShape.member · counted u2 ClassFileShape.attribute)
    access (index (names_class pool) · index (names_super pool) · counted u2 (index (names_class pool)) · counted u2 (field pool) · counted u2 (method pool) · counted u2 (class_attribute pool)) flags_skim
    (skims_pair u2 (u2 · counted u2 u2 · counted u2 ClassFileShape.member · counted u2 ClassFileShape.member · counted u2 ClassFileShape.attribute)
    (index (names_class pool)) (index (names_super pool) · counted u2 (index (names_class pool)) · counted u2 (field pool) · counted u2 (method pool) · counted u2 (class_attribute pool)) (index_skim (names_class pool))
    (skims_pair u2 (counted u2 u2 · counted u2 ClassFileShape.member · counted u2 ClassFileShape.member · counted u2 ClassFileShape.attribute)
    (index (names_super pool)) (counted u2 (index (names_class pool)) · counted u2 (field pool) · counted u2 (method pool) · counted u2 (class_attribute pool)) (index_skim (names_super pool))
    (skims_pair (counted u2 u2) (counted u2 ClassFileShape.member · counted u2 ClassFileShape.member · counted u2 ClassFileShape.attribute)
    (counted u2 (index (names_class pool))) (counted u2 (field pool) · counted u2 (method pool) · counted u2 (class_attribute pool)) (skims_counted u2 u2 (index (names_class pool)) u2_law (index_skim (names_class pool)))
    (skims_pair (counted u2 ClassFileShape.member) (counted u2 ClassFileShape.member · counted u2 ClassFileShape.attribute)
    (counted u2 (field pool)) (counted u2 (method pool) · counted u2 (class_attribute pool)) (skims_counted u2 ClassFileShape.member (field pool) u2_law (field_skim pool))
    (skims_pair (counted u2 ClassFileShape.member) (counted u2 ClassFileShape.attribute) (counted u2 (method pool)) (counted u2 (class_attribute pool)) (skims_counted u2 ClassFileShape.member (method pool) u2_law (method_skim pool)) (attributes_skim pool))))))

-- ---- the class file

strict_law : IsFormat strict
unfolding strict
strict_law = via_law class_from class_parts (PoolChecks.head ▹ λ h. tail h.1.1.1) (λ p fit. refl) (λ c fit. refl) (then_law PoolChecks.head (λ h. tail h.1.1.1) judged_law (λ h. tail_law h.1.1.1))

pub shape_body_law : IsBody shape
unfolding shape
shape_body_law = whole_law Trailing (ClassFileShape.head · ClassFileShape.tail) (pair_law ClassFileShape.head ClassFileShape.tail head_law shape_tail_law)

pub strict_body_law : IsBody (whole Trailing strict)
strict_body_law = whole_law Trailing strict strict_law

shape_over : (c : ClassParts) → IsTrue ((whole Trailing strict).fits c) → has_shape ((whole Trailing strict).spell c) ≡ Ok tt
unfolding strict shape
shape_over c fit =
    let s = skims_then ClassFileShape.head ClassFileShape.tail PoolChecks.head (λ h. tail h.1.1.1) judged_skim (λ h. tail_skim h.1.1.1) (class_parts c) [] fit in
    let eq = s.1 in
    let text : List ℕ = PoolChecks.head.spell (class_parts c).0 ++ (tail c.pool).spell (class_parts c).1 in
    let one : (ClassFileShape.head · ClassFileShape.tail).read text ≡ Ok (s.0, []) = ap (ClassFileShape.head · ClassFileShape.tail).read (sym (append-nil text)) ∙ eq in
    rw one refl

has_shape_within : (bytes : List ℕ) (d : Fault ClassFault) → has_shape bytes ≡ Err d → d.left ≤ length bytes
has_shape_within bytes d e = elim (bind_err (shape.read bytes) (λ _. Ok tt) d e) [ inl h ↦ shape_body_law.within bytes d h | inr h ↦ absurd cc ]

pub class_law : IsBody class_file
unfolding class_file
class_law = passes_law has_shape (λ _. tt) (λ _. whole Trailing strict) (λ _. strict_body_law) (λ _ c fit. shape_over c fit) has_shape_within

pub parts_fit : (bytes : List ℕ) (c : ClassParts) → IsBytes bytes → (whole Trailing strict).read bytes ≡ Ok c → IsTrue (class_file.fits c)
unfolding class_file
parts_fit bytes c fits e = (strict_body_law.takes bytes c fits e).0

pub found_is : (bytes : List ℕ) (c : ClassParts) → IsBytes bytes → class_file.read bytes ≡ Ok c → Spells bytes c
found_is bytes c fits e = class_law.takes bytes c fits e

pub read_is : (bytes : List ℕ) (c : ClassParts) → Spells bytes c → class_file.read bytes ≡ Ok c
read_is bytes c s = ap class_file.read s.1 ∙ class_law.again c s.0

pub one_record : (bytes : List ℕ) (c d : ClassParts) → Spells bytes c → Spells bytes d → c ≡ d
one_record bytes c d s t = ok_is (Fault ClassFault) c d (sym (read_is bytes c s) ∙ read_is bytes d t)

-- ---- what the pool keeps

named_good : (o : Option (List ℕ)) → is_good (option_map pool_fault (name_fault o)) ≡ true → is_some o ≡ true
named_good None h = absurd cc
named_good (Some text) h = refl

class_named : (pool : List Entry) (name : ℕ) → is_good (entry_fault pool (Class name)) ≡ true → IsTrue (is_utf8 pool name)
unfolding entry_fault ConstantPools.entry_fault utf8_at is_utf8
class_named pool name h = named_good (option_and_then utf8_parts (slice_get pool name)) h

pub head_pool : (bytes rest : List ℕ) (h : HeadParts) (left : ℕ) → IsBytes bytes → ClassFileShape.head.read bytes ≡ Ok (h, rest) → first_fault (entry_fault h.1.1.1) left h.1.1.1 ≡ None → IsPool h.1.1.1
unfolding ClassFileShape.head entries
head_pool bytes rest h left fits e none =
    let s = head_law.takes bytes (h, rest) fits e in
    let a = second_true (magic.fits h.0) ((u2 · major · entries).fits h.1) s.fit in
    let b = second_true (u2.fits h.1.0) ((major · entries).fits h.1.1) a in
    let good = none_is_good (entry_fault h.1.1.1) left h.1.1.1 none in
    record {
      laid = second_true (major.fits h.1.1.0) (entries.fits h.1.1.1) b;
      named = λ i name at. class_named h.1.1.1 name (at_index (λ one. is_good (entry_fault h.1.1.1 one)) h.1.1.1 i (Class name) good at);
    }

-- the methods and attributes of a class file whose tail fits
tail_end : (pool : List Entry) (t : TailParts) → IsTrue ((tail pool).fits t) → IsTrue ((counted u2 (method pool) · counted u2 (class_attribute pool)).fits t.1.1.1.1.1)
unfolding tail
tail_end pool t fit =
    let a = second_true (access.fits t.0) ((index (names_class pool) · index (names_super pool) · counted u2 (index (names_class pool)) · counted u2 (field pool) · counted u2 (method pool) · counted u2 (class_attribute pool)).fits t.1) fit in
    let b = second_true ((index (names_class pool)).fits t.1.0) ((index (names_super pool) · counted u2 (index (names_class pool)) · counted u2 (field pool) · counted u2 (method pool) · counted u2 (class_attribute pool)).fits t.1.1) a in
    let c = second_true ((index (names_super pool)).fits t.1.1.0) ((counted u2 (index (names_class pool)) · counted u2 (field pool) · counted u2 (method pool) · counted u2 (class_attribute pool)).fits t.1.1.1) b in
    let d = second_true ((counted u2 (index (names_class pool))).fits t.1.1.1.0) ((counted u2 (field pool) · counted u2 (method pool) · counted u2 (class_attribute pool)).fits t.1.1.1.1) c in
    second_true ((counted u2 (field pool)).fits t.1.1.1.1.0) ((counted u2 (method pool) · counted u2 (class_attribute pool)).fits t.1.1.1.1.1) d

pub tail_methods : (pool : List Entry) (t : TailParts) → IsTrue ((tail pool).fits t) → IsTrue ((counted u2 (method pool)).fits t.1.1.1.1.1.0)
tail_methods pool t fit = first_true ((counted u2 (method pool)).fits t.1.1.1.1.1.0) ((counted u2 (class_attribute pool)).fits t.1.1.1.1.1.1) (tail_end pool t fit)

pub tail_attributes : (pool : List Entry) (t : TailParts) → IsTrue ((tail pool).fits t) → IsTrue ((counted u2 (class_attribute pool)).fits t.1.1.1.1.1.1)
tail_attributes pool t fit = second_true ((counted u2 (method pool)).fits t.1.1.1.1.1.0) ((counted u2 (class_attribute pool)).fits t.1.1.1.1.1.1) (tail_end pool t fit)
