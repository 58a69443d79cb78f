-- The types that descriptors and class entries name: in the moved program as in the program, and of a moved descriptor the context besides.
use Rattle.std.proofs.Common.{◌≡◌, ℕ, Bool, true, false, List, [], ◌∷◌, ◌++◌, Option, Some, None, refl, ap, sym, ◌∙◌}
use Rattle.std.specs.Prelude.{is_some, option_map, codes, ◌||◌, nat_lt, if◌then◌else◌}
use Rattle.std.specs.List.{list_any}
use Rattle.std.proofs.lemmas.List.{reverse-append}
use Rattle.jground.specs.jbase.ListMaps.{each_some, put_front}
use Rattle.jparts.specs.declared.jpool.descriptor.Descriptor.{Descriptor}
use Rattle.jparts.specs.declared.jpool.descriptor.Descriptor.TheVariants as descriptors
use Rattle.jparts.specs.declared.jpool.descriptor.FieldType.{FieldType}
use Rattle.jparts.specs.jpool.Descriptors.{descriptor_of}
use Rattle.jlib.specs.declared.side.Side.TheVariants.{Passing}
use Rattle.jlib.specs.declared.classes.LibClass.TheVariants as lib
use Rattle.jlib.proofs.LibraryLookup.{class_only}
use Rattle.jmove.specs.PoolAdditions.{context_type}
use Rattle.jtypes.specs.declared.vtype.Element.TheVariants as elements
use Rattle.jtypes.specs.declared.vtype.VType.{VType}
use Rattle.jtypes.specs.declared.vtype.VType.TheVariants as types
use Rattle.jresolution.specs.jprogram.ProgramClasses.{Class, Program}
use Rattle.jresolution.specs.jprogram.NameChecks.{class_reserved, desc_reserved, is_reserved, text_reserved, type_reserved}
use Rattle.jresolution.specs.jprogram.ProofNames.{return_reserved}
use Rattle.jresolution.specs.juses.DescriptorTypes.{Called, Typed, called, class_by, class_of, class_type, name, return_in, there, type_in, type_of, typed, typed_as}
use Rattle.jrewriting.specs.jrewrite.RewrittenPrograms.{moved}
use Rattle.jrewriting.proofs.JrewriteProofs.DeclarationChecks.{first_false, second_false}
use Rattle.jrewriting.proofs.JrewriteProofs.Security.{IsPassing, find_lib}
use Rattle.jrewriting.proofs.JrewriteProofs.HierarchyPhases.{IsPlain}
use Rattle.jmoved_laws.proofs.NamesProofs.Types.{found_same, return_same, type_same, types_same}

-- ---- the same classes

there_same : (p : Program) → IsPlain p → (text : List ℕ) → is_reserved text ≡ false → there (moved p) text ≡ there p text
there_same p is text plain = ap (λ (b : Bool). if b then Some (name text) else None) (found_same p is text plain)

class_same : (p : Program) → IsPlain p → (text : List ℕ) → is_reserved text ≡ false → option_map class_of (there (moved p) text) ≡ option_map class_of (there p text)
class_same p is text plain = ap (option_map class_of) (there_same p is text plain)

class_if : (p : Program) → IsPlain p → (text : List ℕ) (t : FieldType) (b : Bool) → is_reserved text ≡ false → type_reserved t ≡ false
    → (if b then type_in (moved p) t else option_map class_of (there (moved p) text)) ≡ (if b then type_in p t else option_map class_of (there p text))
class_if p is text t true plain kept = type_same p is t kept
class_if p is text t false plain kept = class_same p is text plain

class_in : (p : Program) → IsPlain p → (text : List ℕ) (d : Option Descriptor) → is_reserved text ≡ false → desc_reserved d ≡ false → class_by (moved p) text d ≡ class_by p text d
class_in p is text None plain kept = class_same p is text plain
class_in p is text (Some (descriptors.Field t)) plain kept = class_if p is text t (nat_lt 0 t.depth) plain kept
class_in p is text (Some (descriptors.Method ps ret)) plain kept = class_same p is text plain

-- what a class entry names
pub class_type_same : (p : Program) → IsPlain p → (text : List ℕ) → class_reserved text ≡ false → class_type (moved p) text ≡ class_type p text
unfolding class_type text_reserved
class_type_same p is text plain = class_in p is text (descriptor_of text) (first_false (is_reserved text) (text_reserved text) plain) (second_false (is_reserved text) (text_reserved text) plain)

-- ---- the context besides

pub context_in : (q : Program) → IsPassing q → type_in q context_type ≡ Some types.Ctx
unfolding type_in
context_in q is =
    ap (λ (o : Option Class). option_map (type_of 0) (option_map elements.Class (if is_some o then Some (name (codes "sps/Ctx")) else None))) (find_lib q is (codes "sps/Ctx") lib.Ctx (class_only Passing lib.Ctx refl))

abbrev more : VType → List VType → List VType
more v vs = vs ++ v ∷ []

put_more : (v : VType) (o : Option VType) (vs : Option (List VType)) → put_front o (option_map (more v) vs) ≡ option_map (more v) (put_front o vs)
put_more v None vs = refl
put_more v (Some x) None = refl
put_more v (Some x) (Some vs) = refl

each_more : (f : FieldType → Option VType) (ts : List FieldType) (t : FieldType) (v : VType) → f t ≡ Some v → each_some f (ts ++ t ∷ []) ≡ option_map (more v) (each_some f ts)
unfolding each_some
each_more f [] t v e = ap (λ (o : Option VType). put_front o (Some [])) e
each_more f (x ∷ ts) t v e = ap (put_front (f x)) (each_more f ts t v e) ∙ put_more v (f x) (each_some f ts)

abbrev with_newest : VType → Typed → Typed
with_newest v (Called params ret) = Called (v ∷ params) ret
with_newest v t = t

called_more : (v : VType) (o : Option (List VType)) (ret : Option (Option VType)) → called (option_map (more v) o) ret ≡ with_newest v (called o ret)
called_more v None ret = refl
called_more v (Some vs) None = refl
called_more v (Some vs) (Some r) = ap (λ (l : List VType). Called l r) (reverse-append vs (v ∷ []))

-- a moved descriptor
pub typed_handed : (p : Program) → IsPlain p → IsPassing (moved p) → (old new : List ℕ) (ps : List FieldType) (ret : Option FieldType) → descriptor_of old ≡ Some (descriptors.Method ps ret) → descriptor_of new ≡ Some (descriptors.Method (ps ++ context_type ∷ []) ret)
    → text_reserved old ≡ false → (params : List VType) (r : Option VType) → typed p old ≡ Called params r → typed (moved p) new ≡ Called (types.Ctx ∷ params) r
unfolding typed text_reserved
typed_handed p is passing old new ps ret reads now plain params r e =
    let kept : (list_any type_reserved ps || return_reserved ret) ≡ false = sym (ap desc_reserved reads) ∙ plain in
    let said : called (each_some (type_in p) ps) (return_in p ret) ≡ Called params r = sym (ap (typed_as p) reads) ∙ e in
    ap (typed_as (moved p)) now
    ∙ ap (λ (o : Option (List VType)). called o (return_in (moved p) ret)) (each_more (type_in (moved p)) ps context_type types.Ctx (context_in (moved p) passing))
    ∙ called_more types.Ctx (each_some (type_in (moved p)) ps) (return_in (moved p) ret)
    ∙ ap (λ (o : Option (List VType)). with_newest types.Ctx (called o (return_in (moved p) ret))) (types_same p is ps (first_false (list_any type_reserved ps) (return_reserved ret) kept))
    ∙ ap (λ (o : Option (Option VType)). with_newest types.Ctx (called (each_some (type_in p) ps) o)) (return_same p is ret (second_false (list_any type_reserved ps) (return_reserved ret) kept))
    ∙ ap (with_newest types.Ctx) said
