-- What the constant of a field is in a class file: it suits the field (JVMS 4.7.2), and what fields with a constant hold.
use Rattle.std.proofs.Common.{◌≡◌, ◌⊎◌, ℕ, Bool, true, false, inl, inr, List, [], ◌∷◌, length, Option, Some, None, refl, ap, subst, ◌∙◌}
use Rattle.std.specs.Prelude.{IsTrue, ◌||◌, codes}
use Rattle.std.specs.List.{AllByRecursion, list_all}
use Rattle.std.specs.Str.{bytes_eq}
use Rattle.std.proofs.lemmas.Slice.Eq.{bytes_eq-Decides}
use Rattle.jground.specs.jbase.FirstFaults.{first_some, or_else}
use Rattle.jground.specs.jformat.Format.{◌·◌, ◌▹◌, is_good, unless}
use Rattle.jground.specs.jformat.BodyFormats.{block, counted}
use Rattle.jground.specs.jformat.StatefulFormats.{counted_from, fits_from}
use Rattle.jground.proofs.JformatProofs.ReadingSteps.{first_true, second_true}
use Rattle.jparts.specs.declared.jpool.entry.Entry.{Entry}
use Rattle.jparts.specs.jpool.Descriptors.{base_at, class_at, closing_at, descriptor_of, field_of, method_of, params_at, return_at, slots_of, type_at}
use Rattle.jparts.specs.jpool.ClassNames.{is_class_name}
use Rattle.jclass.specs.declared.access.Access.{Access}
use Rattle.jclass.specs.declared.class.Attribute.{Attribute}
use Rattle.jclass.specs.declared.class.Attribute.TheVariants as attributes
use Rattle.jclass.specs.declared.class.ClassParts.{ClassParts}
use Rattle.jclass.specs.declared.class.MemberInfo.{MemberInfo}
use Rattle.jclass.specs.declared.fault.ClassFault.TheVariants as kinds
use Rattle.jclass.specs.Attributes.{class_attribute, constant, content, field_attribute, is_constant, name_once, saw_constant, text_index}
use Rattle.jclass.specs.IndexFormats.{access, index, u2, u4}
use Rattle.jclass.specs.Class.{TailParts, class_file, class_parts, strict, tail}
use Rattle.jclass.specs.PoolChecks as judging
use Rattle.jclass.specs.MemberFormat.{field, method}
use Rattle.jclass.specs.FlagRules.{field_descriptor, is_int, names_class, names_super, suits_field}
use Rattle.jresolution.specs.jprogram.ProgramClasses.{Program}
use Rattle.jtypes.specs.declared.vtype.VType.{VType}
use Rattle.jtypes.specs.declared.vtype.VType.TheVariants as types
use Rattle.jresolution.specs.juses.DescriptorTypes.{type_in, typed}
use Rattle.jresolution.specs.ProofNames.{held_type as held}
use Rattle.jsemantics.specs.jmachine.OpeningState.{value_in}

-- ---- what an attribute of a field holds

is_no_fault : {K : Type 0} (good : Bool) (kind : K) → is_good (unless good kind) ≡ true → IsTrue good
is_no_fault true kind h = refl
is_no_fault false kind h = absurd cc

constant_suits : (pool : List Entry) (a : Access) (desc : ℕ) (seen : Bool) (x : Attribute) (i : ℕ) → IsTrue ((field_attribute pool a desc seen).fits x) → value_in x ≡ Some i
    → IsTrue (suits_field pool desc i)
unfolding field_attribute
constant_suits pool a desc seen (attributes.ConstantValue name value) i fit is =
    let same : value ≡ i = cc in
    let inside = second_true ((name_once pool (is_constant pool a) kinds.Index seen).fits name) ((content (is_constant pool a name) (constant pool desc)).fits (inl value)) fit in
    let whole = second_true (is_constant pool a name) ((block u4 kinds.Truncated (constant pool desc)).fits value) inside in
    let body = first_true ((constant pool desc).fits value) (u4.fits (length ((constant pool desc).spell value))) whole in
    let good = is_no_fault (suits_field pool desc value) kinds.Index (second_true (u2.fits value) (is_good (unless (suits_field pool desc value) kinds.Index)) body) in
    subst (λ (n : ℕ). IsTrue (suits_field pool desc n)) same good
constant_suits pool a desc seen (attributes.Code name stack locals ops handlers more) i fit is = absurd cc
constant_suits pool a desc seen (attributes.Raw name bytes) i fit is = absurd cc

or_some : {A : Type 0} (o q : Option A) (i : A) → or_else o q ≡ Some i → (o ≡ Some i) ⊎ (q ≡ Some i)
or_some None q i e = inr e
or_some (Some n) q i e = inl e

first_in : (x : Attribute) (xs : List Attribute) (i : ℕ) → first_some value_in (x ∷ xs) ≡ Some i → (value_in x ≡ Some i) ⊎ (first_some value_in xs ≡ Some i)
unfolding first_some
first_in x xs i e = or_some (value_in x) (first_some value_in xs) i e

none_first : (i : ℕ) → first_some value_in [] ≡ Some i → ⊥
unfolding first_some
none_first i e = cc

abbrev fit_along : List Entry → Access → ℕ → Bool → List Attribute → Bool
fit_along pool a desc seen xs = fits_from (λ (s : Bool). (field_attribute pool a desc s).fits) saw_constant seen xs

attributes_suit : (pool : List Entry) (a : Access) (desc : ℕ) (seen : Bool) (xs : List Attribute) (i : ℕ) → IsTrue (fit_along pool a desc seen xs)
    → first_some value_in xs ≡ Some i → IsTrue (suits_field pool desc i)
unfolding fits_from
attributes_suit pool a desc seen [] i fit is = absurd (none_first i is)
attributes_suit pool a desc seen (x ∷ xs) i fit is =
    elim (first_in x xs i is) [
      | inl here ↦ constant_suits pool a desc seen x i (first_true ((field_attribute pool a desc seen).fits x) (fit_along pool a desc (saw_constant seen x) xs) fit) here
      | inr more ↦
          attributes_suit pool a desc (saw_constant seen x) xs i
          (second_true ((field_attribute pool a desc seen).fits x) (fit_along pool a desc (saw_constant seen x) xs) fit) more
    ]

-- ---- a field of a class file

pub field_suits : (pool : List Entry) (m : MemberInfo) (i : ℕ) → IsTrue ((field pool).fits m) → first_some value_in m.attributes ≡ Some i → IsTrue (suits_field pool m.desc i)
unfolding field
field_suits pool m i fit is =
    let behind = field_descriptor pool ▹ (λ (desc : ℕ). counted_from u2 (field_attribute pool m.flags desc) saw_constant false) in
    let a = second_true (access.fits m.flags) ((text_index pool · behind).fits (m.name, (m.desc, m.attributes))) fit in
    let b = second_true ((text_index pool).fits m.name) (behind.fits (m.desc, m.attributes)) a in
    let c = second_true ((field_descriptor pool).fits m.desc) ((counted_from u2 (field_attribute pool m.flags m.desc) saw_constant false).fits m.attributes) b in
    let d = first_true (fit_along pool m.flags m.desc false m.attributes) (u2.fits (length m.attributes)) c in
    attributes_suit pool m.flags m.desc false m.attributes i d is

tail_fields : (pool : List Entry) (t : TailParts) → IsTrue ((tail pool).fits t) → IsTrue (list_all (field pool).fits t.1.1.1.1.0)
unfolding tail
tail_fields pool t fit =
    let ends = counted u2 (method pool) · counted u2 (class_attribute pool) in
    let a = second_true (access.fits t.0) ((index (names_class pool) · index (names_super pool) · counted u2 (index (names_class pool)) · counted u2 (field pool) · ends).fits t.1) fit in
    let b = second_true ((index (names_class pool)).fits t.1.0) ((index (names_super pool) · counted u2 (index (names_class pool)) · counted u2 (field pool) · ends).fits t.1.1) a in
    let c = second_true ((index (names_super pool)).fits t.1.1.0) ((counted u2 (index (names_class pool)) · counted u2 (field pool) · ends).fits t.1.1.1) b in
    let d = second_true ((counted u2 (index (names_class pool))).fits t.1.1.1.0) ((counted u2 (field pool) · ends).fits t.1.1.1.1) c in
    first_true (list_all (field pool).fits t.1.1.1.1.0) (u2.fits (length t.1.1.1.1.0)) (first_true ((counted u2 (field pool)).fits t.1.1.1.1.0) (ends.fits t.1.1.1.1.1) d)

pub class_fields : (c : ClassParts) → IsTrue (class_file.fits c) → IsTrue (list_all (field c.pool).fits c.fields)
unfolding class_file strict
class_fields c fit = tail_fields c.pool (class_parts c).1 (second_true (judging.head.fits (class_parts c).0) ((tail c.pool).fits (class_parts c).1) fit)

-- ---- descriptors of constants

pub text_is : (d : List ℕ) (word : List ℕ) → bytes_eq d word ≡ true → d ≡ word
text_is d word e = (bytes_eq-Decides d word).0 e

either : (a b : Bool) → (a || b) ≡ true → (a ≡ true) ⊎ (b ≡ true)
either true b e = inl refl
either false b e = inr e

abbrev pub held_by : Program → List ℕ → VType
held_by p d = held (typed p d)

ints_held : (p : Program) → AllByRecursion (λ (d : List ℕ). held_by p d ≡ types.Int) (codes "I" ∷ codes "S" ∷ codes "C" ∷ codes "B" ∷ codes "Z" ∷ [])
unfolding typed type_in descriptor_of method_of field_of params_at closing_at type_at base_at class_at return_at slots_of is_class_name
ints_held p = (refl, (refl, (refl, (refl, (refl, tt)))))

pub long_held : (p : Program) → held_by p (codes "J") ≡ types.Long
unfolding typed type_in descriptor_of method_of field_of params_at closing_at type_at base_at class_at return_at slots_of is_class_name
long_held p = refl

pub int_held : (p : Program) (d : List ℕ) → is_int d ≡ true → held_by p d ≡ types.Int
int_held p d e =
    let all = ints_held p in
    let i = bytes_eq d (codes "I") in
    let s = bytes_eq d (codes "S") in
    let c = bytes_eq d (codes "C") in
    let b = bytes_eq d (codes "B") in
    let z = bytes_eq d (codes "Z") in
    elim (either (((i || s) || c) || b) z e) [
      | inr is ↦ ap (held_by p) (text_is d (codes "Z") is) ∙ all.1.1.1.1.0
      | inl e ↦ elim (either ((i || s) || c) b e) [
        | inr is ↦ ap (held_by p) (text_is d (codes "B") is) ∙ all.1.1.1.0
        | inl e ↦ elim (either (i || s) c e) [
          | inr is ↦ ap (held_by p) (text_is d (codes "C") is) ∙ all.1.1.0
          | inl e ↦ elim (either i s e) [
            | inr is ↦ ap (held_by p) (text_is d (codes "S") is) ∙ all.1.0
            | inl is ↦ ap (held_by p) (text_is d (codes "I") is) ∙ all.0
          ]
        ]
      ]
    ]
