-- Operands that serve are there.
use Rattle.std.proofs.Common.{◌≡◌, ◌∙◌, ℕ, zero, suc, ◌+◌, ◌≤◌, Bool, true, false, ◌&&◌, List, [], ◌∷◌, ◌++◌, length, map, refl, sym, arith}
use Rattle.std.specs.Prelude.{slice_get}
use Rattle.std.proofs.lemmas.List.{length-append, length-map}
use Rattle.jvalues.specs.declared.jops.value.Value.{Value}
use Rattle.jresolution.specs.declared.jprogram.part.ClassRef.{ClassRef}
use Rattle.jresolution.specs.jprogram.ProgramClasses.{Program}
use Rattle.jtyping.specs.jrule.StackEffects.{Fits, Want}
use Rattle.jresolution.specs.declared.juses.meaning.InvokeKind.{InvokeKind}
use Rattle.jresolution.specs.declared.juses.meaning.InvokeKind.TheVariants as how
use Rattle.jresolution.specs.declared.juses.types.TypeRef.{TypeRef}
use Rattle.jresolution.specs.juses.InternedTypes.{named}
use Rattle.jserving.specs.declared.jserve.values.Objects.{Objects}
use Rattle.jserving.specs.jserve.CallOperandChecks.{begins_at, count_of}
use Rattle.jserving.specs.jserve.OperandChecks.{all_serve}

both : (a b : Bool) → (a && b) ≡ true → b ≡ true
both true b e = e
both false b e = cc

module _ (f : Want → Value ℕ → Bool) where
  all_few : (wants : List Want) (ops : List (Value ℕ)) → all_serve f wants ops ≡ true → length wants ≤ length ops
  unfolding all_serve
  all_few [] ops e = omega arith
  all_few (want ∷ wants) [] e = cc
  all_few (want ∷ wants) (v ∷ ops) e = let rest = all_few wants ops (both (f want v) (all_serve f wants ops) e) in omega (arith, rest)

  module _ (p : Program) (params : List TypeRef) (ops : List (Value ℕ)) (by : InvokeKind) where
    abbrev wants : List Want
    wants = map Fits (map (named p) params)

    count : length wants ≡ length params
    count = length-map (map (named p) params) Fits ∙ length-map params (named p)

    pub static_few : (b : Bool) → by ≡ how.Static → b ≡ all_serve f wants ops → b ≡ true → count_of by (length params) ≤ length ops
    static_few b is e so =
        let few = all_few wants ops (sym e ∙ so) in
        rw is (let n = count in omega (arith, few, n))

    -- a call on an object
    abbrev IsOn : InvokeKind → Type 0
    IsOn how.Static = ⊥
    IsOn by = Unit {0}

    on_count : (way : InvokeKind) (n : ℕ) → IsOn way → count_of way n ≡ n + 1
    on_count how.Static n is = absurd is
    on_count how.Virtual n is = refl
    on_count how.Special n is = refl
    on_count how.Interface n is = refl
    on_count how.Init n is = refl

    pub object_few : (is : IsOn by) (want : Want) (b : Bool) → b ≡ all_serve f (wants ++ want ∷ []) ops → b ≡ true
        → count_of by (length params) ≤ length ops
    object_few is want b e so =
        let few = all_few (wants ++ want ∷ []) ops (sym e ∙ so) in
        let n = length-append wants (want ∷ []) in
        let m = count in
        let c = on_count by (length params) is in
        omega (arith, few, n, m, c)

pub begins_few : (p : Program) (x : Objects) (owner : ClassRef) (n : ℕ) (ops : List (Value ℕ)) (b : Bool) → b ≡ begins_at p x owner (slice_get ops n)
    → b ≡ true → n + 1 ≤ length ops
begins_few p x owner n ops b e so = there n ops (sym e ∙ so)
  where
    there : (n : ℕ) (ops : List (Value ℕ)) → begins_at p x owner (slice_get ops n) ≡ true → n + 1 ≤ length ops
    there n [] e = cc
    there zero (v ∷ ops) e = omega arith
    there (suc n) (v ∷ ops) e = let rest = there n ops e in omega (arith, rest)

pub init_few : (by : InvokeKind) (n : ℕ) (ops : List (Value ℕ)) (b : Bool) → by ≡ how.Init → (b ≡ true → n + 1 ≤ length ops) → b ≡ true
    → count_of by n ≤ length ops
init_few by n ops b is few so = rw is (few so)
