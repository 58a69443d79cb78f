-- What a class file says of its methods: one that is neither abstract nor native has code, and code has an instruction.
use Rattle.std.proofs.Common.{◌≡◌, Bool, true, false, List, [], ◌∷◌, length, map, inr, Option, Some, None, refl, ap, ◌∙◌}
use Rattle.std.specs.Prelude.{IsTrue, ◌==◌, slice_get, if◌then◌else◌}
use Rattle.std.specs.List.{filter, list_all}
use Rattle.std.specs.Option.{IsSome}
use Rattle.std.proofs.lemmas.Bool.{eqb-true}
use Rattle.jground.specs.jbase.FirstFaults.{first_some, or_else}
use Rattle.jground.specs.jformat.Format.{Format, ◌·◌, ◌▹◌, is_good, unless}
use Rattle.jground.specs.jformat.BodyFormats.{block, counted}
use Rattle.jground.specs.jformat.StatefulFormats.{spell_from}
use Rattle.jground.proofs.JformatProofs.ReadingSteps.{first_true, second_true}
use Rattle.jparts.specs.declared.jpool.entry.Entry.{Entry}
use Rattle.jparts.proofs.JpoolProofs.PoolLaws.{at_index}
use Rattle.jparts.specs.declared.jcode.op.Handler.{Handler}
use Rattle.jparts.specs.declared.jcode.op.Placed.{Placed}
use Rattle.jparts.specs.jcode.Instructions
use Rattle.jclass.specs.declared.class.Attribute.{Attribute}
use Rattle.jclass.specs.declared.class.Attribute.TheVariants.{Code, ConstantValue, Raw}
use Rattle.jclass.specs.declared.class.ClassParts.{ClassParts}
use Rattle.jclass.specs.declared.class.CodeAttribute.{CodeAttribute}
use Rattle.jclass.specs.declared.class.CodeBody.{CodeBody}
use Rattle.jclass.specs.declared.class.MemberInfo.{MemberInfo}
use Rattle.jclass.specs.declared.fault.ClassFault.{ClassFault}
use Rattle.jclass.specs.declared.fault.ClassFault.TheVariants as kinds
use Rattle.jclass.specs.Attributes.{content, text_index}
use Rattle.jclass.specs.IndexFormats.{access, u2}
use Rattle.jclass.specs.Class.{class_file, class_parts, strict, tail}
use Rattle.jclass.specs.CodeFormat.{behind_ops, code_body, code_content, code_length, ops}
use Rattle.jclass.specs.ProofNames.{length_fault, codes_wanted, names_of}
use Rattle.jclass.specs.PoolChecks as judging
use Rattle.jclass.specs.MemberFormat.{attribute_name, body_of, codes_fault, method, method_attribute, method_parts}
use Rattle.jclass.specs.FlagRules.{has_no_code, is_code, method_descriptor}
use Rattle.jclass.specs.FileContents.{HasCode, IsIn}
use Rattle.jclass.proofs.ClassLaws.{tail_methods}
use Rattle.jclass.proofs.FittingClasses.{code_fits}
use Rattle.jresolution.specs.jprogram.ClassFileParts.{code_of}

-- ---- code

good_is : (b : Bool) (kind : ClassFault) → IsTrue (is_good (unless b kind)) → b ≡ true
good_is true kind h = refl
good_is false kind h = absurd (cc)

ops_there : (ps : List Placed) → IsTrue (is_good (length_fault (length (Instructions.code.spell ps)))) → IsSome (slice_get ps 0)
unfolding Instructions.code Instructions.instructions spell_from
ops_there [] h = absurd (cc)
ops_there (o ∷ ps) h = refl

content_begins : (pool : List Entry) (b : CodeBody) → IsTrue ((code_content pool).fits b) → IsSome (slice_get b.ops 0)
unfolding code_content ops
content_begins pool b fit =
    let inside : Format ClassFault (List Placed × (List Handler × List CodeAttribute)) = block code_length kinds.Truncated (ops pool) ▹ behind_ops pool in
    let a = second_true (u2.fits b.max_stack) ((u2 · inside).fits (b.max_locals, (b.ops, (b.handlers, b.attributes)))) fit in
    let all = second_true (u2.fits b.max_locals) (inside.fits (b.ops, (b.handlers, b.attributes))) a in
    let here = first_true ((block code_length kinds.Truncated (ops pool)).fits b.ops) ((behind_ops pool b.ops).fits (b.handlers, b.attributes)) all in
    by (second_true ((ops pool).fits b.ops) (code_length.fits (length (Instructions.code.spell b.ops))) here)
  where
    by : IsTrue (code_length.fits (length (Instructions.code.spell b.ops))) → IsSome (slice_get b.ops 0)
    by fits = ops_there b.ops (second_true _ (is_good (length_fault (length (Instructions.code.spell b.ops)))) fits)

pub code_begins : (c : ClassParts) (body : CodeBody) → HasCode c body → IsSome (slice_get body.ops 0)
code_begins c body has = content_begins c.pool body (code_fits c body has)

-- ---- methods

tail_fits : (c : ClassParts) → IsTrue (class_file.fits c) → IsTrue ((tail c.pool).fits (class_parts c).1)
unfolding class_file strict
tail_fits c fit = second_true (judging.head.fits (class_parts c).0) ((tail c.pool).fits (class_parts c).1) fit

methods_fit : (c : ClassParts) → IsTrue (class_file.fits c) → IsTrue (list_all (method c.pool).fits c.methods)
methods_fit c fit = first_true (list_all (method c.pool).fits c.methods) (u2.fits (length c.methods)) (tail_methods c.pool (class_parts c).1 (tail_fits c fit))

-- one of its attributes is named Code, or none is
record IsCounted (pool : List Entry) (m : MemberInfo) : Type 0 where
  attributes : IsTrue (list_all (method_attribute pool).fits m.attributes)
  codes : length (filter (is_code pool) (map attribute_name m.attributes)) ≡ codes_wanted m.flags

counted_in : (pool : List Entry) (m : MemberInfo) → IsTrue ((method pool).fits m) → IsCounted pool m
unfolding method method_parts
counted_in pool m fit =
    let a = first_true ((method_parts pool).fits m) (is_good (codes_fault pool (names_of m))) fit in
    let n = second_true ((method_parts pool).fits m) (is_good (codes_fault pool (names_of m))) fit in
    let b = second_true (access.fits m.flags) ((text_index pool · method_descriptor pool m.flags · counted u2 (method_attribute pool)).fits (m.name, (m.desc, m.attributes))) a in
    let c = second_true ((text_index pool).fits m.name) ((method_descriptor pool m.flags · counted u2 (method_attribute pool)).fits (m.desc, m.attributes)) b in
    let d = second_true ((method_descriptor pool m.flags).fits m.desc) ((counted u2 (method_attribute pool)).fits m.attributes) c in
    record {
      attributes = first_true (list_all (method_attribute pool).fits m.attributes) (u2.fits (length m.attributes)) d;
      codes = eqb-true (length (filter (is_code pool) (map attribute_name m.attributes))) (codes_wanted m.flags)
          (good_is (length (filter (is_code pool) (map attribute_name m.attributes)) == codes_wanted m.flags) kinds.Code n);
    }

-- an attribute of this name holds code
body_there : (pool : List Entry) (a : Attribute) → IsTrue ((method_attribute pool).fits a) → is_code pool (attribute_name a) ≡ true → IsSome (body_of a)
unfolding method_attribute
body_there pool (Code name stack locals items handlers attributes) fit is = refl
body_there pool (ConstantValue name value) fit is = absurd (cc)
body_there pool (Raw name bytes) fit is =
    by (is_code pool name) (second_true ((text_index pool).fits name) ((content (is_code pool name) (code_body pool)).fits (inr bytes)) fit) is
  where
    by : (b : Bool) → IsTrue ((content b (code_body pool)).fits (inr bytes)) → b ≡ true → IsSome (body_of (Raw name bytes))
    by true fit e = absurd (cc)
    by false fit e = absurd (cc)

code_found : (pool : List Entry) (xs : List Attribute) → IsTrue (list_all (method_attribute pool).fits xs) → length (filter (is_code pool) (map attribute_name xs)) ≡ 1
    → IsSome (first_some body_of xs)
unfolding first_some
code_found pool [] fit e = absurd (cc)
code_found pool (x ∷ xs) fit e =
    by (is_code pool (attribute_name x)) refl (body_of x) (body_there pool x (first_true ((method_attribute pool).fits x) (list_all (method_attribute pool).fits xs) fit))
    (code_found pool xs (second_true ((method_attribute pool).fits x) (list_all (method_attribute pool).fits xs) fit)) e
  where
    by : (b : Bool) → is_code pool (attribute_name x) ≡ b → (o : Option CodeBody) → (is_code pool (attribute_name x) ≡ true → IsSome o)
        → (length (filter (is_code pool) (map attribute_name xs)) ≡ 1 → IsSome (first_some body_of xs))
        → length (if b then attribute_name x ∷ filter (is_code pool) (map attribute_name xs) else filter (is_code pool) (map attribute_name xs)) ≡ 1
        → IsSome (or_else o (first_some body_of xs))
    by b is (Some body) here more e = refl
    by true is None here more e = absurd (none_is (here is))
      where
        none_is : IsSome {T = CodeBody} None → ⊥
        none_is h = absurd (cc)
    by false is None here more e = more e

pub method_has_code : (c : ClassParts) (m : MemberInfo) → IsTrue (class_file.fits c) → IsIn m c.methods → has_no_code m.flags ≡ false → IsSome (code_of m)
unfolding code_of
method_has_code c m fit there coded =
    let counts = counted_in c.pool m (at_index (method c.pool).fits c.methods there.0 m (methods_fit c fit) there.1) in
    code_found c.pool m.attributes counts.attributes (counts.codes ∙ ap (λ b. if b then 0 else 1) coded)
