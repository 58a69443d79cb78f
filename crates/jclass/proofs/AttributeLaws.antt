-- The laws of flags and of attributes as formats.
use Rattle.std.proofs.Common.{◌≡◌, ℕ, Bool, ◌⊎◌, List, Some, refl, ap, inl, inr}
use Rattle.jground.specs.jformat.Format.{◌·◌, ◌▹◌}
use Rattle.jground.proofs.JformatProofs.FormatLaws.{IsFormat, pair_law, then_law, via_law, as_case_law}
use Rattle.jparts.specs.declared.jpool.entry.Entry.{Entry}
use Rattle.jparts.specs.jpool.ConstantPools.{is_utf8}
use Rattle.jclass.specs.declared.access.Access.{Access}
use Rattle.jclass.specs.declared.class.Attribute.{Attribute}
use Rattle.jclass.specs.declared.class.Attribute.TheVariants.{ConstantValue, Code, Raw}
use Rattle.jclass.specs.declared.fault.ClassFault.TheVariants.{Index}
use Rattle.jclass.specs.IndexFormats.{u2, run, access}
use Rattle.jclass.specs.Attributes.{text_index, name_once, content, class_attribute, constant, constant_from, constant_parts, is_constant, field_attribute}
use Rattle.jclass.specs.ProofNames.{raw_parts}
use Rattle.jclass.specs.AttributeLaws.{u2_law, run_law, index_law, content_law, name_once_law, constant_law}
use Rattle.jground.specs.jformat.UnionFormats.{two_of}

pub access_law : IsFormat access
access_law = via_law _ _ u2 (λ n fit. refl) (λ a fit. refl) u2_law

-- ---- of a class

raw_only : (b : Attribute) (a : ℕ × List ℕ) → raw_parts b ≡ Some a → b ≡ two_of Raw a
raw_only (Raw name bytes) a e = let made : ℕ × List ℕ = (name, bytes) in let same : made ≡ a = cc in ap (two_of Raw) same
raw_only (ConstantValue name value) a e = absurd cc
raw_only (Code name stack locals ops handlers attributes) a e = absurd cc

pub class_attribute_law : (pool : List Entry) → IsFormat (class_attribute pool)
unfolding class_attribute
class_attribute_law pool = as_case_law (two_of Raw) raw_parts (text_index pool · run) (λ a. refl) raw_only (pair_law (text_index pool) run (index_law (is_utf8 pool)) run_law)

-- ---- of a field

constant_made : (a : ℕ × (ℕ ⊎ List ℕ)) → constant_parts (constant_from a) ≡ Some a
constant_made (name, inl value) = refl
constant_made (name, inr bytes) = refl

constant_only : (b : Attribute) (a : ℕ × (ℕ ⊎ List ℕ)) → constant_parts b ≡ Some a → b ≡ constant_from a
constant_only (ConstantValue name value) a e = let made : ℕ × (ℕ ⊎ List ℕ) = (name, inl value) in let same : made ≡ a = cc in ap constant_from same
constant_only (Raw name bytes) a e = let made : ℕ × (ℕ ⊎ List ℕ) = (name, inr bytes) in let same : made ≡ a = cc in ap constant_from same
constant_only (Code name stack locals ops handlers attributes) a e = absurd cc

pub field_attribute_law : (pool : List Entry) (flags : Access) (desc : ℕ) (seen : Bool) → IsFormat (field_attribute pool flags desc seen)
unfolding field_attribute
field_attribute_law pool flags desc seen =
    as_case_law constant_from constant_parts (name_once pool (is_constant pool flags) Index seen ▹ λ i. content (is_constant pool flags i) (constant pool desc))
    constant_made constant_only
    (then_law (name_once pool (is_constant pool flags) Index seen) (λ i. content (is_constant pool flags i) (constant pool desc))
    (name_once_law pool (is_constant pool flags) Index seen) (λ i. content_law (is_constant pool flags i) (constant pool desc) (constant_law pool desc)))
