-- What stands above a class, and which classes may be named: in the moved program as in the program.
use Rattle.std.proofs.Common.{◌≡◌, ℕ, zero, suc, ◌+◌, Bool, true, false, List, [], ◌∷◌, ◌++◌, length, Option, Some, None, refl, ap, sym, ◌∙◌, subst}
use Rattle.std.specs.Prelude.{option_to_list, ◌||◌, if◌then◌else◌}
use Rattle.std.specs.List.{flat_map, list_any}
use Rattle.std.specs.Str.{bytes_eq}
use Rattle.jground.specs.jbase.FirstFaults.{first_some, or_else}
use Rattle.jparts.specs.declared.jpool.descriptor.Descriptor.{Descriptor}
use Rattle.jparts.specs.declared.jpool.descriptor.Descriptor.TheVariants as descriptors
use Rattle.jparts.specs.declared.jpool.descriptor.FieldType.{FieldType}
use Rattle.jparts.specs.jpool.Descriptors.{descriptor_of, is_class_sign}
use Rattle.jclass.specs.declared.class.ClassParts.{ClassParts}
use Rattle.jlib.specs.declared.classes.LibClass.{LibClass}
use Rattle.jresolution.specs.declared.jprogram.fault.LinkKind.{LinkKind}
use Rattle.jresolution.specs.jprogram.ProgramClasses.{Class, Lib, Program, User, above_name, chain, extends, face_names, find, holds, is_public, known, over, superinterfaces, up}
use Rattle.jresolution.specs.jprogram.ProgramClasses as classes
use Rattle.jresolution.specs.jprogram.MemberResolution.{may_name}
use Rattle.jresolution.specs.jprogram.ProofNames.{is_public_at, return_reserved}
use Rattle.jresolution.specs.jprogram.NameChecks.{class_reserved, desc_reserved, is_reserved, text_reserved, type_reserved}
use Rattle.jresolution.specs.jprogram.ClassFileParts as parts
use Rattle.jlinking.specs.jreferring.ClassNameAccess.{array_or, class_test, class_type, desc_test, is_array, return_test, type_named, type_test}
use Rattle.jlinking.specs.jreferring.ClassEntryUses.{class_use, is_no_maker, is_unmade}
use Rattle.jrewriting.specs.jrewrite.RewrittenPrograms.{moved}
use Rattle.jrewriting.proofs.JrewriteProofs.DeclarationChecks.{first_false, second_false}
use Rattle.jrewriting.proofs.JrewriteProofs.ClassLookup.{IsMovedClass, SameFound}
use Rattle.jrewriting.proofs.JrewriteProofs.FinalOverrides.{SameChain, chain_same}
use Rattle.jrewriting.proofs.JrewriteProofs.HierarchyPhases.{AllPlain, IsPlain, faces_found, flags_same, known_same, missing_name, plain_append, same, supers_plain}

-- ---- chains

pub up_same : (p : Program) → IsPlain p → (name : List ℕ) → is_reserved name ≡ false → SameChain p (up p name) (up (moved p) name)
up_same p is name plain =
    let k = chain_same p is (length (known p) + 1) name plain in
    record { same = ap (λ (n : ℕ). chain (moved p) (n + 1) name) (known_same p) ∙ k.same; plain = k.plain }

pub extends_same : (p : Program) → IsPlain p → (from class : List ℕ) → is_reserved from ≡ false → extends (moved p) from class ≡ extends p from class
unfolding extends
extends_same p is from class plain = ap (λ (names : List (List ℕ)). bytes_eq class classes.object || list_any (bytes_eq class) names) (up_same p is from plain).same

-- ---- interfaces

plain_back : (ns ms : List (List ℕ)) → AllPlain (ns ++ ms) → AllPlain ms
plain_back [] ms h = h
plain_back (n ∷ ns) ms h = plain_back ns ms h.1

faces_plain : (p : Program) → IsPlain p → (name : List ℕ) → is_reserved name ≡ false → AllPlain (face_names p name)
faces_plain p is name plain = plain_back (option_to_list (above_name p name)) (face_names p name) (supers_plain p is name plain)

faces_same : (p : Program) → IsPlain p → (name : List ℕ) → is_reserved name ≡ false → face_names (moved p) name ≡ face_names p name
faces_same p is name plain = faces_found p is (find p name) (find (moved p) name) (same p is name plain)

flat_same : (p : Program) (f g : List ℕ → List (List ℕ)) (names : List (List ℕ)) → AllPlain names → ((n : List ℕ) → is_reserved n ≡ false → SameChain p (f n) (g n)) → SameChain p (flat_map f names) (flat_map g names)
flat_same p f g [] plain h = record { same = refl; plain = tt }
flat_same p f g (n ∷ names) plain h =
    let one = h n plain.0 in
    let others = flat_same p f g names plain.1 h in
    record {
      same = ap (λ (l : List (List ℕ)). l ++ flat_map g names) one.same ∙ ap (λ (l : List (List ℕ)). f n ++ l) others.same;
      plain = plain_append (f n) (flat_map f names) one.plain others.plain;
    }

over_same : (p : Program) → IsPlain p → (n : ℕ) (names : List (List ℕ)) → AllPlain names → SameChain p (over p n names) (over (moved p) n names)
unfolding over
over_same p is zero names plain = record { same = refl; plain = tt }
over_same p is (suc n) names plain = flat_same p (λ name. name ∷ over p n (face_names p name)) (λ name. name ∷ over (moved p) n (face_names (moved p) name)) names plain (λ name here.
    let k = over_same p is n (face_names p name) (faces_plain p is name here) in
    record { same = ap (λ (l : List (List ℕ)). name ∷ l) (ap (over (moved p) n) (faces_same p is name here) ∙ k.same); plain = (here, k.plain) })

pub supers_above : (p : Program) → IsPlain p → (name : List ℕ) → is_reserved name ≡ false → SameChain p (superinterfaces p name) (superinterfaces (moved p) name)
supers_above p is name plain =
    let k = over_same p is (length (known p)) (face_names p name) (faces_plain p is name plain) in
    record { same = ap (λ (n : ℕ). over (moved p) n (face_names (moved p) name)) (known_same p) ∙ ap (over (moved p) (length (known p))) (faces_same p is name plain) ∙ k.same; plain = k.plain }

-- ---- what was found says the same

pub holds_same : (p : Program) (test : Class → Bool) → ((i : ℕ) (c d : ClassParts) → IsMovedClass p i c d → test (User i d) ≡ test (User i c)) → (o q : Option Class) → SameFound p o q → holds test q ≡ holds test o
holds_same p test users None None h = refl
holds_same p test users (Some (User i c)) (Some (User j d)) h = subst (λ (k : ℕ). test (User k d) ≡ test (User i c)) h.0 (users i c d h.1)
holds_same p test users (Some (Lib c)) (Some (Lib d)) h = ap (λ (x : LibClass). test (Lib x)) (sym h)
holds_same p test users None (Some d) h = absurd h
holds_same p test users (Some (User i c)) None h = absurd h
holds_same p test users (Some (Lib c)) None h = absurd h
holds_same p test users (Some (User i c)) (Some (Lib d)) h = absurd h
holds_same p test users (Some (Lib c)) (Some (User j d)) h = absurd h

public_name : (p : Program) → IsPlain p → (name : List ℕ) → is_reserved name ≡ false → is_public_at (moved p) name ≡ is_public_at p name
public_name p is name plain = holds_same p is_public (λ i c d h. ap parts.is_public (flags_same p i c d h)) (find p name) (find (moved p) name) (same p is name plain)

pub interface_name : (p : Program) → IsPlain p → (name : List ℕ) → is_reserved name ≡ false → holds classes.is_interface (find (moved p) name) ≡ holds classes.is_interface (find p name)
interface_name p is name plain = holds_same p classes.is_interface (λ i c d h. ap parts.is_interface (flags_same p i c d h)) (find p name) (find (moved p) name) (same p is name plain)

unmade_name : (p : Program) → IsPlain p → (name : List ℕ) → is_reserved name ≡ false → holds is_unmade (find (moved p) name) ≡ holds is_unmade (find p name)
unmade_name p is name plain = holds_same p is_unmade (λ i c d h. ap (λ f. parts.is_abstract f || parts.is_interface f) (flags_same p i c d h)) (find p name) (find (moved p) name) (same p is name plain)

-- ---- classes that are named

pub class_test_same : (p : Program) → IsPlain p → (from name : List ℕ) → is_reserved name ≡ false → class_test (moved p) from name ≡ class_test p from name
unfolding class_test may_name
class_test_same p is from name plain = rw (missing_name p is name plain, public_name p is name plain) refl

pub type_test_same : (p : Program) → IsPlain p → (from : List ℕ) (t : FieldType) → type_reserved t ≡ false → type_test (moved p) from t ≡ type_test p from t
unfolding type_test
type_test_same p is from t plain = ap (λ (o : Option LinkKind). if is_class_sign t.base then o else None) (class_test_same p is from t.class plain)

pub types_test_same : (p : Program) → IsPlain p → (from : List ℕ) (ts : List FieldType) → list_any type_reserved ts ≡ false → first_some (type_test (moved p) from) ts ≡ first_some (type_test p from) ts
unfolding first_some
types_test_same p is from [] plain = refl
types_test_same p is from (t ∷ ts) plain =
    ap (λ (o : Option LinkKind). or_else o (first_some (type_test (moved p) from) ts)) (type_test_same p is from t (first_false (type_reserved t) (list_any type_reserved ts) plain))
    ∙ ap (or_else (type_test p from t)) (types_test_same p is from ts (second_false (type_reserved t) (list_any type_reserved ts) plain))

pub return_test_same : (p : Program) → IsPlain p → (from : List ℕ) (ret : Option FieldType) → return_reserved ret ≡ false → return_test (moved p) from ret ≡ return_test p from ret
return_test_same p is from None plain = refl
return_test_same p is from (Some t) plain = type_test_same p is from t plain

pub desc_test_same : (p : Program) → IsPlain p → (from : List ℕ) (d : Option Descriptor) → desc_reserved d ≡ false → desc_test (moved p) from d ≡ desc_test p from d
desc_test_same p is from None plain = refl
desc_test_same p is from (Some (descriptors.Field t)) plain = type_test_same p is from t plain
desc_test_same p is from (Some (descriptors.Method ps ret)) plain =
    ap (λ (o : Option LinkKind). or_else o (return_test (moved p) from ret)) (types_test_same p is from ps (first_false (list_any type_reserved ps) (return_reserved ret) plain))
    ∙ ap (or_else (first_some (type_test p from) ps)) (return_test_same p is from ret (second_false (list_any type_reserved ps) (return_reserved ret) plain))

-- ---- Class entries

plain_if : (b : Bool) (t u : FieldType) → type_reserved t ≡ false → type_reserved u ≡ false → type_reserved (if b then t else u) ≡ false
plain_if true t u h k = h
plain_if false t u h k = k

array_plain : (name : List ℕ) (d : Option Descriptor) → is_reserved name ≡ false → desc_reserved d ≡ false → type_reserved (array_or name d) ≡ false
array_plain name None plain h = plain
array_plain name (Some (descriptors.Field t)) plain h = plain_if (is_array t) t (class_type name) h plain
array_plain name (Some (descriptors.Method ps ret)) plain h = plain

pub named_plain : (text : List ℕ) → class_reserved text ≡ false → type_reserved (type_named text) ≡ false
unfolding type_named text_reserved
named_plain text h = array_plain text (descriptor_of text) (first_false (is_reserved text) (text_reserved text) h) (second_false (is_reserved text) (text_reserved text) h)

unmade_same : (p : Program) → IsPlain p → (t : FieldType) → type_reserved t ≡ false → is_no_maker (moved p) t ≡ is_no_maker p t
unfolding is_no_maker
unmade_same p is t plain = ap (λ (b : Bool). is_array t || b) (unmade_name p is t.class plain)

pub class_use_same : (p : Program) → IsPlain p → (from text : List ℕ) → class_reserved text ≡ false → class_use (moved p) from text ≡ class_use p from text
class_use_same p is from text plain =
    let k = named_plain text plain in
    rw (type_test_same p is from (type_named text) k, unmade_same p is (type_named text) k) refl
