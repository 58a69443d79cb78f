-- A user's class extends the class above it.
use Rattle.std.proofs.Common.{◌≡◌, ℕ, true, List, ◌∷◌, Option, Some, None, refl, sym, ap, subst, ◌∙◌}
use Rattle.std.specs.Prelude.{option_and_then, option_map, slice_get}
use Rattle.std.specs.List.{list_any}
use Rattle.std.specs.Str.{bytes_eq}
use Rattle.jresolution.specs.declared.jprogram.part.ClassRef.{ClassRef}
use Rattle.jresolution.specs.declared.jprogram.part.ClassRef.TheVariants as refs
use Rattle.jresolution.specs.declared.jprogram.part.CodePart.{CodePart}
use Rattle.jresolution.specs.jprogram.ClassFileParts.{super_name, this_name}
use Rattle.jresolution.specs.jprogram.ProgramClasses.{Program, User, above, above_name, extends, find, name_at, object, onward, ref_of, super_at, up, named}
use Rattle.jresolution.specs.jprogram.OrderedPrograms.{StandsInOrder}
use Rattle.jresolution.proofs.JprogramProofs.SuperclassOrder.{up_is}
use Rattle.jresolution.proofs.JprogramProofs.ClassNumbers.{number_name}
use Rattle.jresolution.proofs.JprogramProofs.ImplementationRows.{found_part, own_place}
use Rattle.jresolution.proofs.JprogramProofs.NameReachability.{name_equal}
use Rattle.jsoundness_laws.proofs.TypedProofs.SubtypeTransitivity.{or_left, or_right}

-- the class that is named above a class is one that it extends
named_above : (p : Program) → StandsInOrder p → (c a : List ℕ) → above_name p c ≡ Some a → extends p c a ≡ true
unfolding extends
named_above p good c a e =
    let first : list_any (bytes_eq a) (up p a) ≡ true = subst (λ (xs : List (List ℕ)). list_any (bytes_eq a) xs ≡ true) (sym (up_is p good a))
    (or_left (bytes_eq a a) (list_any (bytes_eq a) (onward (up p) (above_name p a))) (name_equal a)) in
    let chain : up p c ≡ c ∷ up p a = up_is p good c ∙ ap (λ (o : Option (List ℕ)). c ∷ onward (up p) o) e in
    let both : list_any (bytes_eq a) (up p c) ≡ true = subst (λ (xs : List (List ℕ)). list_any (bytes_eq a) xs ≡ true) (sym chain) (or_right (bytes_eq a c) (list_any (bytes_eq a) (up p a)) first) in
    or_right (bytes_eq a object) (list_any (bytes_eq a) (up p c)) both

module _ (p : Program) (good : StandsInOrder p) (i : ℕ) (r : ClassRef) where
  by_name : (part : CodePart) → slice_get p.parts i ≡ Some part → (o : Option (List ℕ)) → super_name part.class ≡ o → option_map ref_of (option_and_then (find p) o) ≡ Some r
      → extends p (this_name part.class) (name_at p r) ≡ true
  by_name part at None is e = absurd (cc)
  by_name part at (Some a) is e =
      let own = found_part p good (this_name part.class) i part (own_place p good i part at) at in
      let above_is : above_name p (this_name part.class) ≡ Some a = ap (option_and_then above) own ∙ is in
      subst (λ (n : List ℕ). extends p (this_name part.class) n ≡ true) (sym (number_name p a r e)) (named_above p good (this_name part.class) a above_is)

  by_part : (o : Option CodePart) → slice_get p.parts i ≡ o → option_map ref_of (option_and_then (find p) (option_and_then above (option_map (λ (x : CodePart). User i x.class) o))) ≡ Some r
      → extends p (named (option_map (λ (x : CodePart). User i x.class) o)) (name_at p r) ≡ true
  by_part None at e = absurd (cc)
  by_part (Some part) at e = by_name part at (super_name part.class) refl e

  pub extends_super : super_at p (refs.User i) ≡ Some r → extends p (name_at p (refs.User i)) (name_at p r) ≡ true
  extends_super e = by_part (slice_get p.parts i) refl e
