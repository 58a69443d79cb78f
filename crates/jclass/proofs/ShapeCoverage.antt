-- The shape goes over what the stricter passes spell.
use Rattle.std.proofs.Common.{◌≡◌, ℕ, suc, Bool, false, ◌&&◌, ◌⊎◌, map, List, [], ◌∷◌, ◌++◌, length, Option, Ok, refl, sym, ap, ◌∙◌, append_assoc, inl, inr}
use Rattle.std.specs.Prelude.{IsTrue, not}
use Rattle.std.specs.List.{flat_map, list_all}
use Rattle.std.proofs.lemmas.List.Concat.{flat_map-cons}
use Rattle.jground.specs.jformat.Format.{Format, ◌·◌, ◌▹◌, such, is_good, unless}
use Rattle.jground.specs.jformat.BodyFormats.{Body, block, counted, counted_at, times_at}
use Rattle.jground.specs.jformat.StatefulFormats.{counted_from, spell_from, fits_from}
use Rattle.jground.proofs.JformatProofs.ReadingSteps.{both, first_true, second_true}
use Rattle.jground.proofs.JformatProofs.FormatLaws.{IsReading, IsFormat, pair_law, ok_reading, then_reading}
use Rattle.jground.proofs.JformatProofs.Blocks.{counted_reading}
use Rattle.jground.proofs.JformatProofs.Skims.{Skims, skims_itself, skims_such, skims_via, skims_case, skims_then, skims_pair, skims_block, skims_counted}
use Rattle.jparts.specs.declared.jpool.entry.Entry.{Entry}
use Rattle.jparts.specs.jpool.ConstantPools.{is_utf8}
use Rattle.jclass.specs.declared.access.Access.{Access}
use Rattle.jclass.specs.declared.class.Attribute.{Attribute}
use Rattle.jclass.specs.declared.class.Attribute.TheVariants.{ConstantValue, Code, Raw}
use Rattle.jclass.specs.declared.class.CodeBody.{CodeBody}
use Rattle.jclass.specs.declared.class.MemberInfo.{MemberInfo}
use Rattle.jclass.specs.declared.fault.ClassFault.{ClassFault}
use Rattle.jclass.specs.declared.fault.ClassFault.TheVariants.{Truncated, Index}
use Rattle.jclass.specs.IndexFormats.{u2, u4, run, access}
use Rattle.jclass.specs.ClassFileShape
use Rattle.jclass.specs.FlagRules.{is_code, field_descriptor, method_descriptor}
use Rattle.jclass.specs.Attributes.{text_index, name_fault, name_once, content, class_attribute, constant, constant_from, constant_parts, is_constant, field_attribute, saw_constant}
use Rattle.jclass.specs.ProofNames.{raw_parts, names_of}
use Rattle.jclass.specs.CodeFormat.{code_body}
use Rattle.jclass.specs.MemberFormat.{member_from, member_parts, field, code_from, code_parts, method_attribute, method_parts, name_at, names_at, attribute_name, codes_fault, method}
use Rattle.jclass.specs.AttributeLaws.{u2_law, u4_law, run_law}
use Rattle.jclass.proofs.AttributeLaws.{access_law}
use Rattle.jground.specs.jformat.UnionFormats.{two_of}

-- ---- values by a state

from_skim : {S A B : Type 0} (f : Format ClassFault A) (g : S → Format ClassFault B) (next : S → B → S) → ((s : S) → Skims f (g s)) → (s : S) (xs : List B) (rest : List ℕ) → IsTrue (fits_from (λ t. (g t).fits) next s xs)
    → (ys : List A) × (times_at f.read (length xs) (spell_from (λ t. (g t).spell) next s xs ++ rest) ≡ Ok (ys, rest))
unfolding times_at spell_from fits_from
from_skim f g next S s [] rest fit = ([], refl)
from_skim f g next S s (x ∷ xs) rest fit =
    let one = S s x (spell_from (λ t. (g t).spell) next (next s x) xs ++ rest) (first_true ((g s).fits x) (fits_from (λ t. (g t).fits) next (next s x) xs) fit) in
    let others = from_skim f g next S (next s x) xs rest (second_true ((g s).fits x) (fits_from (λ t. (g t).fits) next (next s x) xs) fit) in
    let eq1 = one.1 in
    let eq2 = others.1 in
    (one.0 ∷ others.0, ap (times_at f.read (suc (length xs))) (append_assoc ((g s).spell x) (spell_from (λ t. (g t).spell) next (next s x) xs) rest) ∙ rw (eq1, eq2) refl)

skims_from : {S A B : Type 0} (f : Format ClassFault A) (g : S → Format ClassFault B) (next : S → B → S) → ((s : S) → Skims f (g s)) → (s : S) → Skims (counted u2 f) (counted_from u2 g next s)
skims_from f g next S s = λ xs rest fit.
    let one = u2_law.again (length xs) (spell_from (λ t. (g t).spell) next s xs ++ rest) (second_true (fits_from (λ t. (g t).fits) next s xs) (u2.fits (length xs)) fit) in
    let two = from_skim f g next S s xs rest (first_true (fits_from (λ t. (g t).fits) next s xs) (u2.fits (length xs)) fit) in
    let eq2 = two.1 in
    (two.0, ap (counted u2 f).read (append_assoc (u2.spell (length xs)) (spell_from (λ t. (g t).spell) next s xs) rest) ∙ rw (one, eq2) refl)

-- ---- attributes

content_over : {A : Type 0} (here : Bool) (body : Body ClassFault A) (x : A ⊎ List ℕ) (rest : List ℕ) → IsTrue ((content here body).fits x)
    → (text : List ℕ) × (run.read ((content here body).spell x ++ rest) ≡ Ok (text, rest))
content_over here body (inl a) rest fit = skims_block u4 Truncated body u4_law a rest (second_true here ((block u4 Truncated body).fits a) fit)
content_over here body (inr text) rest fit = skims_itself run run_law text rest (second_true (not here) (run.fits text) fit)

content_skim : {A : Type 0} (here : Bool) (body : Body ClassFault A) → Skims run (content here body)
content_skim here body = content_over here body

index_skim : (test : ℕ → Option ClassFault) → Skims u2 (such test u2)
index_skim test = skims_such u2 test u2 (skims_itself u2 u2_law)

class_attribute_skim : (pool : List Entry) → Skims ClassFileShape.attribute (class_attribute pool)
unfolding class_attribute
class_attribute_skim pool = skims_case ClassFileShape.attribute (two_of Raw) raw_parts (text_index pool · run) (skims_pair u2 run (text_index pool) run (index_skim (λ i. unless (is_utf8 pool i) Index)) (skims_itself run run_law))

field_attribute_skim : (pool : List Entry) (flags : Access) (desc : ℕ) (seen : Bool) → Skims ClassFileShape.attribute (field_attribute pool flags desc seen)
unfolding field_attribute
field_attribute_skim pool flags desc seen =
    skims_case ClassFileShape.attribute constant_from constant_parts (name_once pool (is_constant pool flags) Index seen ▹ λ i. content (is_constant pool flags i) (constant pool desc))
    (skims_then u2 run (name_once pool (is_constant pool flags) Index seen) (λ i. content (is_constant pool flags i) (constant pool desc))
    (index_skim (λ i. name_fault (is_utf8 pool i) (seen && is_constant pool flags i) Index)) (λ i. content_skim (is_constant pool flags i) (constant pool desc)))

method_attribute_skim : (pool : List Entry) → Skims ClassFileShape.attribute (method_attribute pool)
unfolding method_attribute
method_attribute_skim pool =
    skims_case ClassFileShape.attribute code_from code_parts (text_index pool ▹ λ i. content (is_code pool i) (code_body pool))
    (skims_then u2 run (text_index pool) (λ i. content (is_code pool i) (code_body pool))
    (index_skim (λ i. unless (is_utf8 pool i) Index)) (λ i. content_skim (is_code pool i) (code_body pool)))

-- ---- members

flags_skim : Skims u2 access
flags_skim =
    let make : ℕ → Access = λ n. record { 0 = n } in
    let parts : Access → ℕ = λ a. a.0 in
    skims_via u2 make parts u2 (skims_itself u2 u2_law)

pub field_skim : (pool : List Entry) → Skims ClassFileShape.member (field pool)
unfolding field field_descriptor
field_skim pool = skims_via ClassFileShape.member member_from member_parts (access ▹ λ a. text_index pool · (field_descriptor pool ▹ λ desc. counted_from u2 (field_attribute pool a desc) saw_constant false))
    (skims_then u2 (u2 · u2 · counted u2 ClassFileShape.attribute) access (λ a. text_index pool · (field_descriptor pool ▹ λ desc. counted_from u2 (field_attribute pool a desc) saw_constant false)) flags_skim
    (λ a. skims_pair u2 (u2 · counted u2 ClassFileShape.attribute) (text_index pool) (field_descriptor pool ▹ λ desc. counted_from u2 (field_attribute pool a desc) saw_constant false) (index_skim (λ i. unless (is_utf8 pool i) Index))
    (skims_then u2 (counted u2 ClassFileShape.attribute) (field_descriptor pool) (λ desc. counted_from u2 (field_attribute pool a desc) saw_constant false) (index_skim _)
    (λ desc. skims_from ClassFileShape.attribute (field_attribute pool a desc) saw_constant (field_attribute_skim pool a desc) false))))

method_parts_skim : (pool : List Entry) → Skims ClassFileShape.member (method_parts pool)
unfolding method_parts method_descriptor
method_parts_skim pool = skims_via ClassFileShape.member member_from member_parts (access ▹ λ a. text_index pool · method_descriptor pool a · counted u2 (method_attribute pool))
    (skims_then u2 (u2 · u2 · counted u2 ClassFileShape.attribute) access (λ a. text_index pool · method_descriptor pool a · counted u2 (method_attribute pool)) flags_skim
    (λ a. skims_pair u2 (u2 · counted u2 ClassFileShape.attribute) (text_index pool) (method_descriptor pool a · counted u2 (method_attribute pool)) (index_skim (λ i. unless (is_utf8 pool i) Index))
    (skims_pair u2 (counted u2 ClassFileShape.attribute) (method_descriptor pool a) (counted u2 (method_attribute pool)) (index_skim _)
    (skims_counted u2 ClassFileShape.attribute (method_attribute pool) u2_law (method_attribute_skim pool)))))

pub method_skim : (pool : List Entry) → Skims ClassFileShape.member (method pool)
unfolding method
method_skim pool = λ m rest fit. method_parts_skim pool m rest (first_true ((method_parts pool).fits m) (is_good (codes_fault pool (names_of m))) fit)

pub attributes_skim : (pool : List Entry) → Skims (counted u2 ClassFileShape.attribute) (counted u2 (class_attribute pool))
attributes_skim pool = skims_counted u2 ClassFileShape.attribute (class_attribute pool) u2_law (class_attribute_skim pool)

-- ---- the names of a method's attributes

named : {C : Type 0} (k : ℕ → Format ClassFault C) (i : ℕ) (x : C) (rest : List ℕ) → IsTrue (u2.fits i) → ((bytes : List ℕ) × (run.read ((k i).spell x ++ rest) ≡ Ok (bytes, rest))) → name_at ((u2.spell i ++ (k i).spell x) ++ rest) ≡ Ok (i, rest)
named k i x rest fit skim =
    let one = u2_law.again i ((k i).spell x ++ rest) fit in
    let eq2 = skim.1 in
    ap name_at (append_assoc (u2.spell i) ((k i).spell x) rest) ∙ rw (one, eq2) refl

one_name : (pool : List Entry) (x : Attribute) (rest : List ℕ) → IsTrue ((method_attribute pool).fits x) → name_at ((method_attribute pool).spell x ++ rest) ≡ Ok (attribute_name x, rest)
unfolding method_attribute
one_name pool (ConstantValue name value) rest fit = absurd cc
one_name pool (Code name stack locals ops handlers attributes) rest fit =
    let body : CodeBody = record { max_stack = stack; max_locals = locals; ops = ops; handlers = handlers; attributes = attributes } in
    let x = inl body in
    named (λ i. content (is_code pool i) (code_body pool)) name x rest
    (first_true (u2.fits name) (is_good (unless (is_utf8 pool name) Index)) (first_true ((text_index pool).fits name) ((content (is_code pool name) (code_body pool)).fits x) fit))
    (content_skim (is_code pool name) (code_body pool) x rest (second_true ((text_index pool).fits name) ((content (is_code pool name) (code_body pool)).fits x) fit))
one_name pool (Raw name bytes) rest fit =
    let x = inr bytes in
    named (λ i. content (is_code pool i) (code_body pool)) name x rest
    (first_true (u2.fits name) (is_good (unless (is_utf8 pool name) Index)) (first_true ((text_index pool).fits name) ((content (is_code pool name) (code_body pool)).fits x) fit))
    (content_skim (is_code pool name) (code_body pool) x rest (second_true ((text_index pool).fits name) ((content (is_code pool name) (code_body pool)).fits x) fit))

all_names : (pool : List Entry) (xs : List Attribute) (rest : List ℕ) → IsTrue (list_all (method_attribute pool).fits xs) → times_at name_at (length xs) (flat_map (method_attribute pool).spell xs ++ rest) ≡ Ok (map attribute_name xs, rest)
unfolding times_at
all_names pool [] rest fit = refl
all_names pool (x ∷ xs) rest fit =
    let spell = (method_attribute pool).spell in
    let regrouped : flat_map spell (x ∷ xs) ++ rest ≡ spell x ++ (flat_map spell xs ++ rest) = ap (λ (t : List ℕ). t ++ rest) (flat_map-cons spell x xs) ∙ append_assoc (spell x) (flat_map spell xs) rest in
    let one = one_name pool x (flat_map spell xs ++ rest) (first_true ((method_attribute pool).fits x) (list_all (method_attribute pool).fits xs) fit) in
    let others = all_names pool xs rest (second_true ((method_attribute pool).fits x) (list_all (method_attribute pool).fits xs) fit) in
    ap (times_at name_at (suc (length xs))) regrouped ∙ rw (one, others) refl

front_law : IsFormat (access · u2 · u2)
front_law = pair_law access (u2 · u2) access_law (pair_law u2 u2 u2_law u2_law)

regroup : (a b c d rest : List ℕ) → (a ++ (b ++ (c ++ d))) ++ rest ≡ (a ++ (b ++ c)) ++ (d ++ rest)
regroup a b c d rest =
    append_assoc a (b ++ (c ++ d)) rest
    ∙ ap (λ (t : List ℕ). a ++ t) (append_assoc b (c ++ d) rest ∙ ap (λ (t : List ℕ). b ++ t) (append_assoc c d rest) ∙ sym (append_assoc b c (d ++ rest)))
    ∙ sym (append_assoc a (b ++ c) (d ++ rest))

pub names_over : (pool : List Entry) (m : MemberInfo) (rest : List ℕ) → IsTrue ((method_parts pool).fits m) → names_at ((method_parts pool).spell m ++ rest) ≡ Ok (names_of m, rest)
unfolding method_parts method_descriptor
names_over pool m rest fit =
    let xs = m.attributes in
    let spell = (method_attribute pool).spell in
    let after_flags = second_true (access.fits m.flags) ((text_index pool · method_descriptor pool m.flags · counted u2 (method_attribute pool)).fits (m.name, (m.desc, xs))) fit in
    let f = first_true (access.fits m.flags) ((text_index pool · method_descriptor pool m.flags · counted u2 (method_attribute pool)).fits (m.name, (m.desc, xs))) fit in
    let n = first_true (u2.fits m.name) _ (first_true ((text_index pool).fits m.name) ((method_descriptor pool m.flags · counted u2 (method_attribute pool)).fits (m.desc, xs)) after_flags) in
    let after_name = second_true ((text_index pool).fits m.name) ((method_descriptor pool m.flags · counted u2 (method_attribute pool)).fits (m.desc, xs)) after_flags in
    let d = first_true (u2.fits m.desc) _ (first_true ((method_descriptor pool m.flags).fits m.desc) ((counted u2 (method_attribute pool)).fits xs) after_name) in
    let c = second_true ((method_descriptor pool m.flags).fits m.desc) ((counted u2 (method_attribute pool)).fits xs) after_name in
    let one : (access · u2 · u2).read ((access · u2 · u2).spell (m.flags, (m.name, m.desc)) ++ ((u2.spell (length xs) ++ flat_map spell xs) ++ rest)) ≡ Ok ((m.flags, (m.name, m.desc)), (u2.spell (length xs) ++ flat_map spell xs) ++ rest)
    = front_law.again (m.flags, (m.name, m.desc)) ((u2.spell (length xs) ++ flat_map spell xs) ++ rest) (both _ _ f (both _ _ n d)) in
    let two : u2.read ((u2.spell (length xs) ++ flat_map spell xs) ++ rest) ≡ Ok (length xs, flat_map spell xs ++ rest)
    = ap u2.read (append_assoc (u2.spell (length xs)) (flat_map spell xs) rest) ∙ u2_law.again (length xs) (flat_map spell xs ++ rest) (second_true (list_all (method_attribute pool).fits xs) (u2.fits (length xs)) c) in
    let three = all_names pool xs rest (first_true (list_all (method_attribute pool).fits xs) (u2.fits (length xs)) c) in
    ap names_at (regroup (access.spell m.flags) (u2.spell m.name) (u2.spell m.desc) (u2.spell (length xs) ++ flat_map spell xs) rest) ∙ rw (one, two, three) refl

name_reading : IsReading name_at
name_reading = ok_reading ClassFileShape.attribute.read (λ p. p.0) (pair_law u2 run u2_law run_law).reading

pub names_reading : IsReading names_at
names_reading = then_reading (access · u2 · u2).read (λ a. counted_at u2.read name_at) (λ a ns. (a.0, ns)) front_law.reading (λ a. counted_reading u2.read name_at u2_law.reading name_reading)
