-- Facts of types by number, and the same of the types that they stand for.
use Rattle.std.proofs.Common.{◌≡◌, ℕ, zero, suc, ◌+◌, ◌-◌, Bool, true, false, ◌&&◌, ◌||◌, List, [], ◌∷◌, ◌++◌, length, map, replicate, reverse, Option, Some, None, refl, ap, ◌∙◌, arith}
use Rattle.std.specs.Prelude.{is_some, nat_le, option_map}
use Rattle.std.specs.List.{flat_map, list_all, list_any}
use Rattle.std.proofs.lemmas.Bool.Decides.{nat_tests}
use Rattle.std.proofs.lemmas.List.{length-append, length-replicate, map-append, reverse-append}
use Rattle.std.proofs.lemmas.List.Folds.{list_all-append}
use Rattle.jtypes.specs.declared.vtype.VType.{VType}
use Rattle.jtypes.specs.declared.vtype.VType.TheVariants as types
use Rattle.jtypes.specs.declared.vtype.Name.{Name}
use Rattle.jtypes.specs.TypeFrames as frames
use Rattle.jtypes.specs.TypeFrames.{places_of, slots}
use Rattle.jresolution.specs.declared.jprogram.part.ClassRef.{ClassRef}
use Rattle.jresolution.specs.jprogram.ProgramClasses.{Program}
use Rattle.jresolution.specs.declared.juses.types.TypeRef.{TypeRef}
use Rattle.jresolution.specs.declared.juses.types.TypeRef.TheVariants as refs
use Rattle.jresolution.specs.juses.InternedTypes.{class_named, named}
use Rattle.jtyping.specs.jrule.StackEffects.{is_uninit_this}
use Rattle.jtyping.specs.jrule.OperandSlots.{slot_count}
use Rattle.jtyping.specs.jrule.TypeSubstitution.{is_this}
use Rattle.jtyping.proofs.JruleProofs.OperandSlots.{size_named, slots_named}
use Rattle.jtyping.proofs.JruleProofs.TypeSubstitution.{any_reversed}
use Rattle.jtyping.specs.jwelltyped.DeclaredFrames.{filled, is_there}
use Rattle.jverify.specs.LocalChains.{is_made}
use Rattle.jverify.specs.FrameTables.{places}

-- ---- in any order

and_turned : (a b : Bool) → (a && b) ≡ (b && a)
and_turned true true = refl
and_turned true false = refl
and_turned false true = refl
and_turned false false = refl

pub and_true : (a : Bool) → (a && true) ≡ a
and_true true = refl
and_true false = refl

pub all_reversed : {A : Type 0} (test : A → Bool) (xs : List A) → list_all test (reverse xs) ≡ list_all test xs
all_reversed test [] = refl
all_reversed test (x ∷ xs) =
    ap (list_all test) (reverse-append (x ∷ []) xs) ∙ list_all-append test (reverse xs) (x ∷ [])
    ∙ ap (λ b. list_all test (reverse xs) && b) (and_true (test x)) ∙ ap (λ b. b && test x) (all_reversed test xs) ∙ and_turned (list_all test xs) (test x)

slots_append : (ks ms : List TypeRef) → slot_count (ks ++ ms) ≡ slot_count ks + slot_count ms
unfolding slot_count
slots_append [] ms = omega arith
slots_append (k ∷ ks) ms = omega (arith, slots_append ks ms)

pub slots_reversed : (ks : List TypeRef) → slot_count (reverse ks) ≡ slot_count ks
unfolding slot_count
slots_reversed [] = refl
slots_reversed (k ∷ ks) = ap slot_count (reverse-append (k ∷ []) ks) ∙ slots_append (reverse ks) (k ∷ []) ∙ omega (arith, slots_reversed ks)

-- ---- `this` before its `<init>`

this_named : (p : Program) (k : TypeRef) → is_uninit_this (named p k) ≡ is_this k
this_named p refs.Top = refl
this_named p refs.Int = refl
this_named p refs.Long = refl
this_named p refs.Null = refl
this_named p refs.UninitThis = refl
this_named p (refs.Uninit o) = refl
this_named p (refs.Object c) = refl
this_named p (refs.Array a) = refl
this_named p refs.Ctx = refl

pub any_this : (p : Program) (ks : List TypeRef) → list_any is_uninit_this (map (named p) ks) ≡ list_any is_this ks
any_this p [] = refl
any_this p (k ∷ ks) = ap (λ b. b || list_any is_uninit_this (map (named p) ks)) (this_named p k) ∙ ap (λ b. is_this k || b) (any_this p ks)

pub flag_named : (p : Program) (ks : List TypeRef) → list_any is_uninit_this (map (named p) (reverse ks)) ≡ list_any is_this ks
flag_named p ks = any_this p (reverse ks) ∙ any_reversed is_this ks

-- ---- `new`s that are named

some_named : (p : Program) (o : Option ClassRef) → is_some (option_map (class_named p) o) ≡ is_some o
some_named p None = refl
some_named p (Some c) = refl

abbrev pub makes_named : Program → (ℕ → Option ClassRef) → ℕ → Option Name
makes_named p makes o = option_map (class_named p) (makes o)

there_named : (p : Program) (makes : ℕ → Option ClassRef) (k : TypeRef) → is_there (makes_named p makes) (named p k) ≡ is_made makes k
there_named p makes refs.Top = refl
there_named p makes refs.Int = refl
there_named p makes refs.Long = refl
there_named p makes refs.Null = refl
there_named p makes refs.UninitThis = refl
there_named p makes (refs.Uninit o) = some_named p (makes o)
there_named p makes (refs.Object c) = refl
there_named p makes (refs.Array a) = refl
there_named p makes refs.Ctx = refl

all_there : (p : Program) (makes : ℕ → Option ClassRef) (ks : List TypeRef) → list_all (is_there (makes_named p makes)) (map (named p) ks) ≡ list_all (is_made makes) ks
all_there p makes [] = refl
all_there p makes (k ∷ ks) =
    ap (λ b. b && list_all (is_there (makes_named p makes)) (map (named p) ks)) (there_named p makes k) ∙ ap (λ b. is_made makes k && b) (all_there p makes ks)

pub there_reversed : (p : Program) (makes : ℕ → Option ClassRef) (ks : List TypeRef) → list_all (is_there (makes_named p makes)) (map (named p) (reverse ks)) ≡ list_all (is_made makes) ks
there_reversed p makes ks = all_there p makes (reverse ks) ∙ all_reversed (is_made makes) ks

there_tops : (makes : ℕ → Option Name) (n : ℕ) → list_all (is_there makes) (replicate n types.Top) ≡ true
there_tops makes zero = refl
there_tops makes (suc n) = there_tops makes n

there_places : (makes : ℕ → Option Name) (a : VType) → list_all (is_there makes) (frames.places a) ≡ is_there makes a
there_places makes types.Top = refl
there_places makes types.Int = refl
there_places makes types.Long = refl
there_places makes types.Null = refl
there_places makes types.UninitThis = refl
there_places makes (types.Uninit o) = and_true (is_some (makes o))
there_places makes (types.Object c) = refl
there_places makes (types.Array a) = refl
there_places makes types.Ctx = refl

there_of : (makes : ℕ → Option Name) (vs : List VType) → list_all (is_there makes) (places_of vs) ≡ list_all (is_there makes) vs
there_of makes [] = refl
there_of makes (a ∷ vs) =
    list_all-append (is_there makes) (frames.places a) (places_of vs)
    ∙ ap (λ b. b && list_all (is_there makes) (places_of vs)) (there_places makes a) ∙ ap (λ b. is_there makes a && b) (there_of makes vs)

pub there_filled : (makes : ℕ → Option Name) (most : ℕ) (vs : List VType) → list_all (is_there makes) (filled most (places_of vs)) ≡ list_all (is_there makes) vs
there_filled makes most vs =
    list_all-append (is_there makes) (places_of vs) (replicate (most - length (places_of vs)) types.Top)
    ∙ ap (λ b. list_all (is_there makes) (places_of vs) && b) (there_tops makes (most - length (places_of vs)))
    ∙ and_true (list_all (is_there makes) (places_of vs)) ∙ there_of makes vs

-- ---- places

places_one : (p : Program) (k : TypeRef) → map (named p) (places k) ≡ frames.places (named p k)
places_one p refs.Top = refl
places_one p refs.Int = refl
places_one p refs.Long = refl
places_one p refs.Null = refl
places_one p refs.UninitThis = refl
places_one p (refs.Uninit o) = refl
places_one p (refs.Object c) = refl
places_one p (refs.Array a) = refl
places_one p refs.Ctx = refl

pub places_named : (p : Program) (ks : List TypeRef) → map (named p) (flat_map places ks) ≡ places_of (map (named p) ks)
places_named p [] = refl
places_named p (k ∷ ks) =
    map-append (named p) (places k) (flat_map places ks) ∙ ap (λ xs. xs ++ map (named p) (flat_map places ks)) (places_one p k)
    ∙ ap (λ xs. frames.places (named p k) ++ xs) (places_named p ks)

-- how many places locals fill
pub count_named : (p : Program) (ks : List TypeRef) → length (places_of (map (named p) ks)) ≡ slot_count ks
unfolding slot_count
count_named p [] = refl
count_named p (k ∷ ks) = omega (arith, length-append (frames.places (named p k)) (places_of (map (named p) ks)), size_named p k, count_named p ks)

pub count_reversed : (p : Program) (ks : List TypeRef) → length (places_of (map (named p) (reverse ks))) ≡ slot_count ks
count_reversed p ks = count_named p (reverse ks) ∙ slots_reversed ks

pub stack_reversed : (p : Program) (ks : List TypeRef) → slots (map (named p) (reverse ks)) ≡ slot_count ks
stack_reversed p ks = slots_named p (reverse ks) ∙ slots_reversed ks

-- there is room for them where they are no more than there can be
room_test : (n most : ℕ) → nat_le (n + (most - n)) most ≡ nat_le n most
room_test n most = grind (arith, nat_tests)

pub room_filled : (most : ℕ) (vs : List VType) → nat_le (length (filled most vs)) most ≡ nat_le (length vs) most
room_filled most vs =
    let all : length (filled most vs) ≡ length vs + (most - length vs) = omega (arith, length-append vs (replicate (most - length vs) types.Top), length-replicate (most - length vs) types.Top) in
    ap (λ n. nat_le n most) all ∙ room_test (length vs) most
