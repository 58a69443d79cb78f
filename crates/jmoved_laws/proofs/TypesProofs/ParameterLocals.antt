-- What a method is handed: how many locals it fills, and that none of it waits for an `<init>` but `this`.
use Rattle.std.proofs.Common.{◌≡◌, ℕ, ◌+◌, Bool, true, false, List, [], ◌∷◌, ◌++◌, length, map, reverse, Option, Some, refl, sym, ap, ◌∙◌, arith}
use Rattle.std.specs.Prelude.{if◌then◌else◌}
use Rattle.std.proofs.lemmas.List.{length-append, map-append, reverse-append}
use Rattle.std.proofs.lemmas.List.Concat.{flat_map-append, flat_map-cons}
use Rattle.jparts.specs.declared.jpool.descriptor.Descriptor.TheVariants as descriptors
use Rattle.jparts.specs.declared.jpool.descriptor.FieldType.{FieldType}
use Rattle.jparts.specs.jpool.Descriptors.{descriptor_of, slots_of}
use Rattle.jtypes.specs.declared.vtype.Name.{Name}
use Rattle.jtypes.specs.declared.vtype.VType.{VType}
use Rattle.jtypes.specs.declared.vtype.VType.TheVariants.{Top, Int, Long, Null, UninitThis, Uninit, Object, Array, Ctx}
use Rattle.jtypes.specs.TypeFrames.{places, places_of}
use Rattle.jresolution.specs.jprogram.ProgramClasses.{Program}
use Rattle.jtyping.proofs.JruleProofs.TypeSubstitution.{any_reversed}
use Rattle.jtyping.specs.jrule.FrameExtension.{is_unready}
use Rattle.jtyping.specs.jwelltyped.MethodPremises.{params_of, receiver}
use Rattle.jresolution.specs.juses.DescriptorTypes.{Called, Held, Typed, Untyped, typed}
use Rattle.jmoved_laws.proofs.CodeProofs.Slots.{says_types, wide, wides, wides_append}
use Rattle.jmoved_laws.specs.types.RenamedPlaces.{renamed_type}
use Rattle.jmoved_laws.proofs.TypesProofs.NewSubstitution.{same_settled}
use Rattle.jmoved_laws.proofs.TypesProofs.InitializedTypes.{AreSettled, SettledTyped, first_settled, rest_settled, typed_settled}

-- ---- places

wide_is : (v : VType) → length (places v) ≡ wide v
wide_is Long = refl
wide_is Top = refl
wide_is Int = refl
wide_is Null = refl
wide_is UninitThis = refl
wide_is (Uninit o) = refl
wide_is (Object c) = refl
wide_is (Array a) = refl
wide_is Ctx = refl

pub wides_are : (vs : List VType) → length (places_of vs) ≡ wides vs
wides_are [] = refl
wides_are (v ∷ vs) =
    ap length (flat_map-cons places v vs) ∙ length-append (places v) (places_of vs) ∙ ap (λ (n : ℕ). n + length (places_of vs)) (wide_is v)
    ∙ ap (λ (n : ℕ). wide v + n) (wides_are vs)

wides_back : (vs : List VType) → wides (reverse vs) ≡ wides vs
wides_back [] = refl
wides_back (v ∷ vs) =
    let last = wides_append (reverse vs) (v ∷ []) in
    let back = wides_back vs in
    ap wides (reverse-append (v ∷ []) vs) ∙ omega arith

-- the places of what a descriptor says
pub params_slots : (p : Program) (desc : List ℕ) (ps : List FieldType) (ret : Option FieldType) (params : List VType) (back : Option VType)
    → descriptor_of desc ≡ Some (descriptors.Method ps ret) → typed p desc ≡ Called (reverse params) back
    → length (places_of params) ≡ slots_of ps
params_slots p desc ps ret params back reads types =
    let s = says_types p desc (reverse params) back types in
    let both : Some (descriptors.Method s.ts s.ret) ≡ Some (descriptors.Method ps ret) = sym s.is ∙ reads in
    let same : s.ts ≡ ps = cc in
    wides_are params ∙ sym (wides_back params) ∙ s.width ∙ ap slots_of same

receiver_places : (static init : Bool) (class : Name) → length (places_of (receiver static init class)) ≡ (if static then 0 else 1)
receiver_places true init class = refl
receiver_places false true class = refl
receiver_places false false class = refl

pub all_places : (static init : Bool) (class : Name) (params : List VType) (n : ℕ) → length (places_of params) ≡ n
    → n + (if static then 0 else 1) ≡ length (places_of (receiver static init class ++ params))
all_places static init class params n e =
    let all : length (places_of (receiver static init class ++ params)) ≡ length (places_of (receiver static init class) ++ places_of params) = ap length
    (flat_map-append places (receiver static init class) params) in
    let sum = length-append (places_of (receiver static init class)) (places_of params) in
    let first = receiver_places static init class in
    omega arith

-- ---- what stays where `new`s go elsewhere

settled_stay : (to : ℕ → ℕ) (vs : List VType) → AreSettled vs → map (renamed_type to) vs ≡ vs
settled_stay to [] h = refl
settled_stay to (v ∷ vs) h =
    ap (λ (z : VType). z ∷ map (renamed_type to) vs) (same_settled to v (first_settled v vs h)) ∙ ap (λ (zs : List VType). v ∷ zs) (settled_stay to vs (rest_settled v vs h))

params_settled : (t : Typed) → SettledTyped t → AreSettled (params_of t)
params_settled Untyped h = refl
params_settled (Held t) h = refl
params_settled (Called params ret) h = any_reversed is_unready params ∙ h.0

receiver_stays : (to : ℕ → ℕ) (static init : Bool) (class : Name) → map (renamed_type to) (receiver static init class) ≡ receiver static init class
receiver_stays to true init class = refl
receiver_stays to false true class = refl
receiver_stays to false false class = refl

pub all_stay : (p : Program) (to : ℕ → ℕ) (static init : Bool) (class : Name) (desc : List ℕ)
    → map (renamed_type to) (receiver static init class ++ params_of (typed p desc)) ≡ receiver static init class ++ params_of (typed p desc)
all_stay p to static init class desc =
    map-append (renamed_type to) (receiver static init class) (params_of (typed p desc))
    ∙ ap (λ (zs : List VType). zs ++ map (renamed_type to) (params_of (typed p desc))) (receiver_stays to static init class)
    ∙ ap (λ (zs : List VType). receiver static init class ++ zs) (settled_stay to (params_of (typed p desc)) (params_settled (typed p desc) (typed_settled p desc)))
