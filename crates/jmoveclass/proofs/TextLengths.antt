-- How long the texts are that are put into a pool.
use Rattle.std.proofs.Common.{◌≡◌, ℕ, ◌+◌, ◌≤◌, Bool, true, false, List, [], ◌∷◌, ◌++◌, length, Option, Some, None, refl, ap, arith, inl, inr}
use Rattle.std.specs.Prelude.{IsTrue, slice_get, option_and_then, replicate, nat_le, nat_lt, codes, if◌then◌else◌, ◌⊎◌, ◌&&◌, ◌==◌, ◌^◌, All}
use Rattle.std.specs.List.{AllByRecursion, flat_map, list_all}
use Rattle.std.specs.Str.{byte}
use Rattle.std.proofs.lemmas.Bool.{eqb-true, leb-true}
use Rattle.std.proofs.lemmas.Grind.{flat_map-append}
use Rattle.std.proofs.lemmas.List.{length-append}
use Rattle.std.proofs.lemmas.List.Concat.{flat_map-cons}
use Rattle.std.proofs.lemmas.List.Elements.{All-from_recursion}
use Rattle.jparts.specs.declared.jpool.descriptor.Descriptor.{Descriptor}
use Rattle.jparts.specs.declared.jpool.descriptor.Descriptor.TheVariants as descriptors
use Rattle.jparts.specs.declared.jpool.descriptor.FieldType.{FieldType}
use Rattle.jparts.specs.declared.jpool.entry.Entry.{Entry}
use Rattle.jparts.specs.declared.jpool.entry.Entry.TheVariants.{Unused, Utf8}
use Rattle.jparts.specs.jpool.Descriptors.{class_text, descriptor_of, descriptor_text, is_base, is_class_sign, is_return, is_type, is_well_formed, return_text, slots_of, type_text}
use Rattle.jparts.specs.jpool.ClassNames.{is_class_name}
use Rattle.jground.proofs.JformatProofs.ReadingSteps.{first_true, second_true}
use Rattle.jparts.specs.jpool.PoolEntries.{entry, first_slot, utf8_parts, class_parts}
use Rattle.jparts.specs.jpool.ConstantPools.{IsPool, class_name_at, utf8_at}
use Rattle.jparts.proofs.JpoolProofs.PoolExtension.{each_is, laid_slots}
use Rattle.jparts.proofs.JpoolProofs.DescriptorTexts.{descriptor_take}
use Rattle.jparts.proofs.JpoolProofs.EntrySpellings.{fits_spelling}
use Rattle.jclass.specs.declared.class.ClassParts.{ClassParts}
use Rattle.jclass.specs.declared.class.MemberInfo.{MemberInfo}
use Rattle.jmove.specs.PoolAdditions.{context_type, moved_descriptor, with_context}
use Rattle.jresolution.specs.jprogram.ClassFileParts.{class_text as class_of, member_desc, or_empty, text}
use Rattle.jmoveclass.specs.EntryLocals.{class_name, params_in, params_of}

-- ---- texts of a pool

text_fits : (bytes : List ℕ) → (Utf8 bytes ≡ Unused) ⊎ IsTrue (entry.fits (Utf8 bytes)) → length bytes ≤ 0xffff
text_fits bytes (inl other) = absurd cc
text_fits bytes (inr fit) = leb-true (length bytes) 0xffff (fits_spelling (Utf8 bytes) fit)

some_short : (pool : List Entry) (i : ℕ) (o : Option Entry) → IsPool pool → slice_get pool i ≡ o → length (or_empty (option_and_then utf8_parts o)) ≤ 0xffff
some_short pool i (Some (Utf8 bytes)) is at = text_fits bytes (each_is pool (first_slot (length pool)) i (Utf8 bytes) (laid_slots pool is.laid) at)
some_short pool i o is at = omega arith

pub text_short : (pool : List Entry) (i : ℕ) → IsPool pool → length (text pool i) ≤ 0xffff
unfolding utf8_at
text_short pool i is = some_short pool i (slice_get pool i) is refl

name_short : (pool : List Entry) (o : Option ℕ) → IsPool pool → length (or_empty (option_and_then (utf8_at pool) o)) ≤ 0xffff
name_short pool None is = omega arith
name_short pool (Some n) is = text_short pool n is

pub class_short : (pool : List Entry) (i : ℕ) → IsPool pool → length (class_of pool i) ≤ 0xffff
unfolding class_name_at
class_short pool i is = name_short pool (option_and_then class_parts (slice_get pool i)) is

-- ---- classes of a descriptor

sign_short : (b : Bool) (base : ℕ) (class : List ℕ) → (b ≡ false → length class ≡ 0) → length class ≤ length (base ∷ (if b then class ++ byte ";" ∷ [] else []))
sign_short true base class h = let long : length (class ++ byte ";" ∷ []) ≡ length class + 1 = length-append class (byte ";" ∷ []) in omega arith
sign_short false base class h = let none : length class ≡ 0 = h refl in omega arith

no_class : (b good : Bool) (class : List ℕ) → IsTrue (good && length class == 0) → length class ≡ 0
no_class b good class h = eqb-true (length class) 0 (second_true good (length class == 0) h)

type_short : (t : FieldType) → IsTrue (is_type t) → length t.class ≤ length (type_text t)
type_short t good =
    let rest = t.base ∷ class_text t.base t.class in
    let parts = second_true (nat_lt t.depth (2 ^ 32)) (if is_class_sign t.base then is_class_name t.class else is_base t.base && length t.class == 0) good in
    let inner : length t.class ≤ length rest = sign_short (is_class_sign t.base) t.base t.class (λ other. no_class false (is_base t.base) t.class (rw other at parts)) in
    let long : length (replicate t.depth (byte "[") ++ rest) ≡ length (replicate t.depth (byte "[")) + length rest = length-append (replicate t.depth (byte "[")) rest in
    omega arith

either_short : (b : Bool) (x y : List ℕ) (n : ℕ) → length x ≤ n → length y ≤ n → length (if b then x else y) ≤ n
either_short true x y n h k = h
either_short false x y n h k = k

class_name_short : (t : FieldType) → IsTrue (is_type t) → length (class_name t) ≤ length (type_text t)
class_name_short t good = either_short (nat_lt 0 t.depth) (type_text t) t.class (length (type_text t)) (omega arith) (type_short t good)

all_short : (n : ℕ) (ts : List FieldType) → IsTrue (list_all is_type ts) → length (flat_map type_text ts) ≤ n → AllByRecursion (λ t. length (class_name t) ≤ n) ts
all_short n [] good h = tt
all_short n (t ∷ ts) good h =
    let parts : length (type_text t ++ flat_map type_text ts) ≡ length (type_text t) + length (flat_map type_text ts) = length-append (type_text t) (flat_map type_text ts) in
    let same : length (flat_map type_text (t ∷ ts)) ≡ length (type_text t ++ flat_map type_text ts) = ap (λ (l : List ℕ). length l) (flat_map-cons type_text t ts) in
    let one : length (class_name t) ≤ length (type_text t) = class_name_short t (first_true (is_type t) (list_all is_type ts) good) in
    (omega arith, all_short n ts (second_true (is_type t) (list_all is_type ts) good) (omega arith))

-- the types of a well formed descriptor
well_types : (ps : List FieldType) (ret : Option FieldType) → IsTrue (is_well_formed (descriptors.Method ps ret)) → IsTrue (list_all is_type ps)
unfolding is_well_formed
well_types ps ret h = first_true (list_all is_type ps) (is_return ret) (first_true (list_all is_type ps && is_return ret) (nat_le (slots_of ps) 255) h)

params_short : (ps : List FieldType) (ret : Option FieldType) (desc : List ℕ) → desc ≡ descriptor_text (descriptors.Method ps ret) → length (flat_map type_text ps) ≤ length desc
unfolding descriptor_text
params_short ps ret desc e =
    let parts : length (flat_map type_text ps ++ byte ")" ∷ return_text ret) ≡ length (flat_map type_text ps) + length (byte ")" ∷ return_text ret) = length-append (flat_map type_text ps) (byte ")" ∷ return_text ret) in
    let same : length desc ≡ length (byte "(" ∷ (flat_map type_text ps ++ byte ")" ∷ return_text ret)) = ap (λ (l : List ℕ). length l) e in
    omega arith

types_short : (desc : List ℕ) (d : Option Descriptor) → descriptor_of desc ≡ d → length desc ≤ 0xffff → AllByRecursion (λ t. length (class_name t) ≤ 0xffff) (params_in d)
types_short desc None e h = tt
types_short desc (Some (descriptors.Field t)) e h = tt
types_short desc (Some (descriptors.Method ps ret)) e h =
    let take = descriptor_take desc (descriptors.Method ps ret) e in
    let less : length (flat_map type_text ps) ≤ length desc = params_short ps ret desc take.1 in
    all_short 0xffff ps (well_types ps ret take.0) (omega arith)

-- the classes of a method's parameters
pub classes_short : (c : ClassParts) (m : MemberInfo) → IsPool c.pool → All (λ t. length (class_name t) ≤ 0xffff) (params_of c m)
classes_short c m is = All-from_recursion (λ t. length (class_name t) ≤ 0xffff) (params_of c m) (types_short (member_desc c m) (descriptor_of (member_desc c m)) refl (text_short c.pool m.desc is))

-- ---- descriptors with a context

context_longer : (ps : List FieldType) (ret : Option FieldType) → length (descriptor_text (descriptors.Method (ps ++ context_type ∷ []) ret)) ≡ length (descriptor_text (descriptors.Method ps ret)) + 9
unfolding descriptor_text
context_longer ps ret =
    let back = byte ")" ∷ return_text ret in
    let more : flat_map type_text (ps ++ context_type ∷ []) ≡ flat_map type_text ps ++ codes "Lsps/Ctx;" = flat_map-append type_text ps (context_type ∷ []) in
    let a : length (flat_map type_text (ps ++ context_type ∷ [])) ≡ length (flat_map type_text ps ++ codes "Lsps/Ctx;") = ap (λ (l : List ℕ). length l) more in
    let b : length (flat_map type_text ps ++ codes "Lsps/Ctx;") ≡ length (flat_map type_text ps) + 9 = length-append (flat_map type_text ps) (codes "Lsps/Ctx;") in
    let x : length (flat_map type_text (ps ++ context_type ∷ []) ++ back) ≡ length (flat_map type_text (ps ++ context_type ∷ [])) + length back = length-append (flat_map type_text (ps ++ context_type ∷ [])) back in
    let y : length (flat_map type_text ps ++ back) ≡ length (flat_map type_text ps) + length back = length-append (flat_map type_text ps) back in
    omega arith

moved_by_desc : (desc : List ℕ) (d : Option Descriptor) → descriptor_of desc ≡ d → length desc ≤ 65526 → length (or_empty (option_and_then with_context d)) ≤ 0xffff
moved_by_desc desc None e h = omega arith
moved_by_desc desc (Some (descriptors.Field t)) e h = omega arith
moved_by_desc desc (Some (descriptors.Method ps ret)) e h =
    let take = descriptor_take desc (descriptors.Method ps ret) e in
    let same : length desc ≡ length (descriptor_text (descriptors.Method ps ret)) = ap (λ (l : List ℕ). length l) take.1 in
    let longer : length (descriptor_text (descriptors.Method (ps ++ context_type ∷ []) ret)) ≡ length (descriptor_text (descriptors.Method ps ret)) + 9 = context_longer ps ret in
    omega arith

pub moved_short : (desc : List ℕ) → length desc ≤ 65526 → length (or_empty (moved_descriptor desc)) ≤ 0xffff
unfolding moved_descriptor
moved_short desc h = moved_by_desc desc (descriptor_of desc) refl h
