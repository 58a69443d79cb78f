-- What a class and its interfaces have, where it lists none.
use Rattle.std.proofs.Common.{◌≡◌, ℕ, zero, suc, false, List, [], ◌∷◌, length, ◌≤◌, Option, Some, None, refl, ap, ◌∙◌, arith}
use Rattle.std.specs.Prelude.{nat_lt}
use Rattle.std.proofs.lemmas.Bool.{ltb-false}
use Rattle.jground.specs.jbase.FirstFaults.{first_some, or_else}
use Rattle.jresolution.specs.declared.jprogram.member.Member.{Member}
use Rattle.jresolution.specs.declared.jprogram.searching.Sort.{Sort}
use Rattle.jresolution.specs.jprogram.ProgramClasses.{Program, face_names, known, over, superinterfaces}
use Rattle.jresolution.specs.jprogram.InterfaceSearch.{at_and_over, member_at, own}

no_over : (p : Program) (n : ℕ) → over p n [] ≡ []
unfolding over
no_over p zero = refl
no_over p (suc n) = refl

nothing : {A : Type 0} (xs : List A) → nat_lt 0 (length xs) ≡ false → xs ≡ []
nothing [] e = refl
nothing (x ∷ xs) e = let none : length (x ∷ xs) ≤ 0 = ltb-false 0 (length (x ∷ xs)) e in absurd (omega (arith, none))

pub plain_found : (p : Program) (sort : Sort) (name desc class : List ℕ) (m : Member) → own p sort name desc class ≡ Some m → at_and_over p sort name desc class ≡ Some m
unfolding at_and_over
plain_found p sort name desc class m e = ap (λ (o : Option Member). or_else o (first_some (member_at p sort name desc) (superinterfaces p class))) e

pub plain_none : (p : Program) (sort : Sort) (name desc class : List ℕ) → nat_lt 0 (length (face_names p class)) ≡ false → own p sort name desc class ≡ None → at_and_over p sort name desc class ≡ None
unfolding at_and_over first_some
plain_none p sort name desc class few none =
    let f : List ℕ → Option Member = member_at p sort name desc in
    let faces : face_names p class ≡ [] = nothing (face_names p class) few in
    let above : superinterfaces p class ≡ [] = ap (over p (length (known p))) faces ∙ no_over p (length (known p)) in
    let rest : first_some f (superinterfaces p class) ≡ None = ap (first_some f) above in
    ap (λ (o : Option Member). or_else o (first_some f (superinterfaces p class))) none ∙ rest
