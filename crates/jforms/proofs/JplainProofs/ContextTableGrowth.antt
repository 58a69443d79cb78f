-- How the table of contexts grows.
use Rattle.std.proofs.Common.{◌≡◌, ◌∙◌, ◌⊎◌, inl, inr, ℕ, zero, suc, ◌+◌, ◌<◌, List, [], ◌∷◌, ◌++◌, length, Option, Some, None, option_map, refl, ap, arith}
use Rattle.std.specs.Prelude.{IfSome, slice_get, get_or}
use Rattle.std.proofs.lemmas.List.{length-append}
use Rattle.std.proofs.lemmas.Option.{slice_get_within, slice_get-get_or}
use Rattle.jperm.specs.declared.permission.Permission.{Permission}
use Rattle.jctx.specs.declared.item.Item.{Item}
use Rattle.jinterned.specs.InternedContexts.{Holds, HoldsEntered, HoldsPrivileged}
use Rattle.jforms.specs.jplain.PlainGuards.{GrowsByOne, IsEntered, IsPrivileged, IsThat}

front : (i : ℕ) (xs ys : List (List Item)) → i < length xs → slice_get (xs ++ ys) i ≡ slice_get xs i
front i [] ys lt = absurd (omega (arith, lt))
front zero (x ∷ xs) ys lt = refl
front (suc i) (x ∷ xs) ys lt = front i xs ys (omega (arith, lt))

pub grown_same : (old new : List (List Item)) → new ≡ old → GrowsByOne old new
grown_same old new same = (λ n c at. ap (λ (cs : List (List Item)). slice_get cs n) same ∙ at, omega (arith, ap length same))

grown_held : (old new : List (List Item)) (c : List Item) (n : ℕ) → Holds old c new n → GrowsByOne old new
grown_held old new c n holds = by_case holds.1
  where
    by_case : (new ≡ old) ⊎ (new ≡ old ++ c ∷ []) → GrowsByOne old new
    by_case (inl e) = grown_same old new e
    by_case (inr e) = (
      λ k x at. ap (λ (cs : List (List Item)). slice_get cs k) e ∙ front k old (c ∷ []) (slice_get_within old k x at) ∙ at,
      omega (arith, ap length e, length-append old (c ∷ [])),
    )

pub grown_entered : (old new : List (List Item)) (n d made : ℕ) → n < length old → HoldsEntered old new n d made → GrowsByOne old new
grown_entered old new n d made lt holds = grown_held old new _ made (holds (get_or old n []) (slice_get-get_or old n [] lt))

pub is_entered : (old new : List (List Item)) (n d made : ℕ) → HoldsEntered old new n d made → IsEntered old new n d made
is_entered old new n d made holds c at = (holds c at).0

abbrev given_at : List (List Item) → Option ℕ → Option (List Item)
given_at old given = option_map (λ (g : ℕ). get_or old g []) given

given_is : (old : List (List Item)) (given : Option ℕ) → IfSome given (λ g. g < length old) → IsThat old given (given_at old given)
given_is old None there = refl
given_is old (Some g) there = ap (λ (o : Option (List Item)). Some o) (slice_get-get_or old g [] there)

pub grown_privileged : (old new : List (List Item)) (d : ℕ) (given : Option ℕ) (limits : Option (List Permission)) (n made : ℕ) → n < length old
    → IfSome given (λ g. g < length old) → HoldsPrivileged old new d given limits n made → GrowsByOne old new
grown_privileged old new d given limits n made lt there holds =
    grown_held old new _ made (holds (get_or old n []) (given_at old given) (slice_get-get_or old n [] lt) (given_is old given there))

pub is_privileged : (old new : List (List Item)) (d : ℕ) (given : Option ℕ) (limits : Option (List Permission)) (n made : ℕ)
    → HoldsPrivileged old new d given limits n made → IsPrivileged old new d given limits n made
is_privileged old new d given limits n made holds c g at that = (holds c g at that).0
