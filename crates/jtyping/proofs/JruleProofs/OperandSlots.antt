-- How many slots operands take, by number and by name.
use Rattle.std.proofs.Common.{◌≡◌, ◌+◌, ◌≤◌, List, [], ◌∷◌, ◌++◌, length, map, reverse, refl, ap, subst, ◌∙◌, arith}
use Rattle.std.proofs.lemmas.List.{length-reverse, reverse-append}
use Rattle.jresolution.specs.declared.juses.types.TypeRef.{TypeRef}
use Rattle.jresolution.specs.declared.juses.types.TypeRef.TheVariants as refs
use Rattle.jresolution.specs.juses.InternedTypes.{named}
use Rattle.jresolution.specs.jprogram.ProgramClasses.{Program}
use Rattle.jtypes.specs.TypeFrames.{places, slots}
use Rattle.jtyping.specs.jrule.OperandSlots.{long_count, longs_in, size, slot_count}

pub size_named : (p : Program) (k : TypeRef) → length (places (named p k)) ≡ size k
size_named p refs.Top = refl
size_named p refs.Int = refl
size_named p refs.Long = refl
size_named p refs.Null = refl
size_named p refs.UninitThis = refl
size_named p (refs.Uninit o) = refl
size_named p (refs.Object c) = refl
size_named p (refs.Array a) = refl
size_named p refs.Ctx = refl

pub slots_named : (p : Program) (ks : List TypeRef) → slots (map (named p) ks) ≡ slot_count ks
unfolding slots slot_count
slots_named p [] = refl
slots_named p (k ∷ ks) = grind (arith, size_named p k, slots_named p ks)

pub size_parts : (k : TypeRef) → size k ≡ 1 + longs_in k
size_parts refs.Top = refl
size_parts refs.Int = refl
size_parts refs.Long = refl
size_parts refs.Null = refl
size_parts refs.UninitThis = refl
size_parts (refs.Uninit o) = refl
size_parts (refs.Object c) = refl
size_parts (refs.Array a) = refl
size_parts refs.Ctx = refl

-- an operand takes a slot, and a long one more
pub slots_parts : (ks : List TypeRef) → slot_count ks ≡ length ks + long_count ks
unfolding slot_count long_count
slots_parts [] = refl
slots_parts (k ∷ ks) = grind (arith, size_parts k, slots_parts ks)

longs_few : (k : TypeRef) → longs_in k ≤ 1
longs_few refs.Top = omega arith
longs_few refs.Int = omega arith
longs_few refs.Long = omega arith
longs_few refs.Null = omega arith
longs_few refs.UninitThis = omega arith
longs_few (refs.Uninit o) = omega arith
longs_few (refs.Object c) = omega arith
longs_few (refs.Array a) = omega arith
longs_few refs.Ctx = omega arith

-- no more are longs than there are
pub longs_bound : (ks : List TypeRef) → long_count ks ≤ length ks
unfolding long_count
longs_bound [] = omega arith
longs_bound (k ∷ ks) = omega (arith, longs_few k, longs_bound ks)

-- ---- newest first

pub longs_pushed : (ks : List TypeRef) (k : TypeRef) → long_count (reverse (ks ++ k ∷ [])) ≡ longs_in k + long_count (reverse ks)
unfolding long_count
longs_pushed ks k = ap long_count (reverse-append ks (k ∷ []))

pub longs_within : (ks : List TypeRef) → long_count (reverse ks) ≤ length ks
longs_within ks = subst (λ n. long_count (reverse ks) ≤ n) (length-reverse ks) (longs_bound (reverse ks))

pub slots_reversed : (ks : List TypeRef) → slot_count (reverse ks) ≡ length ks + long_count (reverse ks)
slots_reversed ks = slots_parts (reverse ks) ∙ ap (λ n. n + long_count (reverse ks)) (length-reverse ks)
