-- What descriptors say: in a moved program the same as in the program, where they name nothing that is kept.
use Rattle.std.proofs.Common.{◌≡◌, ℕ, Bool, true, false, not, List, [], ◌∷◌, Option, Some, None, refl, ap, ◌∙◌}
use Rattle.std.specs.Prelude.{is_some, option_map, ◌==◌, if◌then◌else◌}
use Rattle.std.specs.List.{list_any}
use Rattle.std.specs.Str.{byte}
use Rattle.jground.specs.jbase.ListMaps.{each_some, put_front}
use Rattle.jparts.specs.declared.jpool.descriptor.Descriptor.{Descriptor}
use Rattle.jparts.specs.declared.jpool.descriptor.Descriptor.TheVariants as descriptors
use Rattle.jparts.specs.declared.jpool.descriptor.FieldType.{FieldType}
use Rattle.jparts.specs.jpool.Descriptors.{descriptor_of}
use Rattle.jtypes.specs.declared.vtype.Element.TheVariants as elements
use Rattle.jtypes.specs.declared.vtype.VType.{VType}
use Rattle.jtypes.specs.DescriptorElements.{element_of}
use Rattle.jresolution.specs.jprogram.ProgramClasses.{Program, find}
use Rattle.jresolution.specs.jprogram.NameChecks.{desc_reserved, is_reserved, text_reserved, type_reserved}
use Rattle.jresolution.specs.jprogram.ProofNames.{return_reserved}
use Rattle.jresolution.specs.juses.DescriptorTypes.{called, name, return_in, type_in, type_of, typed, typed_as}
use Rattle.jresolution.specs.ProofNames.{held}
use Rattle.jrewriting.specs.jrewrite.RewrittenPrograms.{moved}
use Rattle.jrewriting.proofs.JrewriteProofs.DeclarationChecks.{first_false, second_false}
use Rattle.jrewriting.proofs.JrewriteProofs.HierarchyPhases.{IsPlain, missing_name}

not_same : (a b : Bool) → not a ≡ not b → a ≡ b
not_same true true e = refl
not_same true false e = cc
not_same false true e = cc
not_same false false e = refl

pub found_same : (p : Program) → IsPlain p → (c : List ℕ) → is_reserved c ≡ false → is_some (find (moved p) c) ≡ is_some (find p c)
found_same p is c plain = not_same (is_some (find (moved p) c)) (is_some (find p c)) (missing_name p is c plain)

pub type_same : (p : Program) → IsPlain p → (t : FieldType) → type_reserved t ≡ false → type_in (moved p) t ≡ type_in p t
unfolding type_in
type_same p is t plain =
    ap (λ (b : Bool). option_map (type_of t.depth) (if t.base == byte "L" then option_map elements.Class (if b then Some (name t.class) else None) else element_of t.base (name t.class))) (found_same p is t.class plain)

pub types_same : (p : Program) → IsPlain p → (ts : List FieldType) → list_any type_reserved ts ≡ false → each_some (type_in (moved p)) ts ≡ each_some (type_in p) ts
unfolding each_some
types_same p is [] plain = refl
types_same p is (t ∷ ts) plain =
    ap (λ (o : Option VType). put_front o (each_some (type_in (moved p)) ts)) (type_same p is t (first_false (type_reserved t) (list_any type_reserved ts) plain))
    ∙ ap (put_front (type_in p t)) (types_same p is ts (second_false (type_reserved t) (list_any type_reserved ts) plain))

pub return_same : (p : Program) → IsPlain p → (ret : Option FieldType) → return_reserved ret ≡ false → return_in (moved p) ret ≡ return_in p ret
return_same p is None plain = refl
return_same p is (Some t) plain = ap (option_map Some) (type_same p is t plain)

typed_by : (p : Program) → IsPlain p → (d : Option Descriptor) → desc_reserved d ≡ false → typed_as (moved p) d ≡ typed_as p d
typed_by p is None plain = refl
typed_by p is (Some (descriptors.Field t)) plain = ap held (type_same p is t plain)
typed_by p is (Some (descriptors.Method ps ret)) plain =
    ap (λ (o : Option (List VType)). called o (return_in (moved p) ret)) (types_same p is ps (first_false (list_any type_reserved ps) (return_reserved ret) plain))
    ∙ ap (called (each_some (type_in p) ps)) (return_same p is ret (second_false (list_any type_reserved ps) (return_reserved ret) plain))

-- a descriptor that names nothing kept says the same
pub typed_same : (p : Program) → IsPlain p → (desc : List ℕ) → text_reserved desc ≡ false → typed (moved p) desc ≡ typed p desc
unfolding typed text_reserved
typed_same p is desc plain = typed_by p is (descriptor_of desc) plain
