-- A search that begins without marks, and what it finds upwards.
use Rattle.std.proofs.Common.{◌≡◌, ℕ, zero, suc, Bool, true, false, List, [], ◌∷◌, length, Option, Some, None, refl, ap, ◌∙◌}
use Rattle.std.specs.Prelude.{replicate, slice_get}
use Rattle.jground.specs.jbase.FirstFaults.{first_some, or_else}
use Rattle.jresolution.specs.declared.jprogram.member.Member.{Member}
use Rattle.jresolution.specs.declared.jprogram.searching.Sort.TheVariants as sort
use Rattle.jresolution.specs.jprogram.ProgramClasses.{Program, place_of, superinterfaces}
use Rattle.jresolution.specs.jprogram.MemberResolution.{field_at, method_at}
use Rattle.jresolution.specs.jprogram.InterfaceSearch.{AreClosed, at_and_over, is_closed, is_closed_at, is_marked}

unmarked : (n i : ℕ) → is_marked (slice_get (replicate n false) i) ≡ false
unmarked zero i = refl
unmarked (suc n) zero = refl
unmarked (suc n) (suc i) = unmarked n i

pub none_at : (n : ℕ) (o : Option ℕ) → is_closed_at (replicate n false) o ≡ false
none_at n None = refl
none_at n (Some i) = unmarked n i

pub replicate_length : (n : ℕ) → length (replicate n false) ≡ n
replicate_length zero = refl
replicate_length (suc n) = ap (λ k. suc k) (replicate_length n)

clash : {P : Type 0} (b : Bool) → b ≡ true → b ≡ false → P
clash b t f = absurd cc

-- where nothing is marked nothing has been gone through
pub none_closed : (p : Program) (f : List ℕ → Option Member) (n : ℕ) (closed : List Bool) → closed ≡ replicate n false → n ≡ length p.parts → AreClosed p f closed
none_closed p f n closed is size = record {
  each = ap length is ∙ replicate_length n ∙ size;
  without = λ c marked. clash (is_closed p closed c) marked (ap (λ (bs : List Bool). is_closed_at bs (place_of p.parts c)) is ∙ none_at n (place_of p.parts c));
}

same_along : {A B : Type 0} (f g : A → Option B) → ((x : A) → f x ≡ g x) → (xs : List A) → first_some f xs ≡ first_some g xs
unfolding first_some
same_along f g e [] = refl
same_along f g e (x ∷ xs) = ap (λ o. or_else o (first_some f xs)) (e x) ∙ ap (or_else (g x)) (same_along f g e xs)

pub over_methods : (p : Program) (name desc : List ℕ) (names : List (List ℕ)) → first_some (at_and_over p sort.Method name desc) names ≡ first_some (λ x. first_some (method_at p name desc) (superinterfaces p x)) names
unfolding at_and_over
over_methods p name desc names = same_along (at_and_over p sort.Method name desc) (λ x. first_some (method_at p name desc) (superinterfaces p x)) (λ x. refl) names

pub over_fields : (p : Program) (name desc : List ℕ) (names : List (List ℕ))
    → first_some (at_and_over p sort.Field name desc) names ≡ first_some (λ x. or_else (field_at p name desc x) (first_some (field_at p name desc) (superinterfaces p x))) names
unfolding at_and_over
over_fields p name desc names = same_along (at_and_over p sort.Field name desc) (λ x. or_else (field_at p name desc x) (first_some (field_at p name desc) (superinterfaces p x))) (λ x. refl) names
