-- A write to locals, by number and by name.
use Rattle.std.proofs.Common.{◌≡◌, ℕ, zero, suc, ◌+◌, Bool, true, false, List, length, map, refl, sym, ap, ◌∙◌, arith}
use Rattle.std.specs.Prelude.{option_map, slice_get, slice_set, if◌then◌else◌}
use Rattle.std.proofs.lemmas.Grind.{common_steps}
use Rattle.std.proofs.lemmas.List.{length-map, map-set}
use Rattle.std.proofs.lemmas.Option.{slice_get-map}
use Rattle.jresolution.specs.jprogram.ProgramClasses.{Program}
use Rattle.jresolution.specs.declared.juses.types.TypeRef.{TypeRef}
use Rattle.jresolution.specs.declared.juses.types.TypeRef.TheVariants as refs
use Rattle.jresolution.specs.juses.InternedTypes.{named}
use Rattle.jtypes.specs.declared.vtype.VType.{VType}
use Rattle.jtypes.specs.declared.vtype.VType.TheVariants.{Top}
use Rattle.jtypes.specs.TypeFrames.{is_long}
use Rattle.jtyping.specs.jrule.LocalRule.{broken, passes, with_local}

pub set_named : (p : Program) (ts : List TypeRef) (i : ℕ) (t : TypeRef) → map (named p) (slice_set ts i t) ≡ slice_set (map (named p) ts) i (named p t)
set_named p ts i t = map-set (named p) ts i t

pub get_named : (p : Program) (ts : List TypeRef) (i : ℕ) → option_map (named p) (slice_get ts i) ≡ slice_get (map (named p) ts) i
get_named p ts i = sym (slice_get-map (named p) ts i)

pub broken_length : (xs : List VType) (n : ℕ) → length (broken xs n) ≡ length xs
broken_length xs zero = refl
broken_length xs (suc n) = go (passes is_long (slice_get xs n))
  where
    go : (b : Bool) → length (if b then slice_set xs n Top else xs) ≡ length xs
    go true = grind (arith, common_steps)
    go false = refl

pub same_length : (p : Program) (ts us : List TypeRef) (n : ℕ) → map (named p) us ≡ broken (map (named p) ts) n → length us ≡ length ts
same_length p ts us n e = sym (length-map us (named p)) ∙ ap length e ∙ broken_length (map (named p) ts) n ∙ length-map ts (named p)

-- a long in front of a place is broken
pub broken_named : (p : Program) (ts us : List TypeRef) (n m : ℕ) → n ≡ suc m → passes is_long (slice_get (map (named p) ts) m) ≡ true → us ≡ slice_set ts m refs.Top →
    map (named p) us ≡ broken (map (named p) ts) n
broken_named p ts us n m e h is =
    ap (map (named p)) is ∙ set_named p ts m refs.Top
    ∙ sym (ap (broken (map (named p) ts)) e ∙ ap (λ b. if b then slice_set (map (named p) ts) m Top else map (named p) ts) h)

-- a long is put there, and Top behind it
pub long_named : (p : Program) (ts us vs ws : List TypeRef) (n : ℕ) (t : TypeRef) → t ≡ refs.Long → map (named p) us ≡ broken (map (named p) ts) n → vs ≡ slice_set us n t → ws ≡ slice_set vs (n + 1) refs.Top →
    map (named p) ws ≡ with_local (map (named p) ts) n (named p t)
unfolding with_local
long_named p ts us vs ws n t long b v w =
    ap (map (named p)) w ∙ set_named p vs (n + 1) refs.Top
    ∙ ap (λ xs. slice_set xs (n + 1) Top) (ap (map (named p)) v ∙ set_named p us n t ∙ ap (λ xs. slice_set xs n (named p t)) b ∙ ap (λ x. slice_set (broken (map (named p) ts) n) n (named p x)) long)
    ∙ sym (ap (λ x. with_local (map (named p) ts) n (named p x)) long)
