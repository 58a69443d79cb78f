-- The method with which a run begins is the `main` of a class.
use Rattle.std.proofs.Common.{◌≡◌, ◌∙◌, ℕ, List, Option, Some, None, subst}
use Rattle.std.specs.Prelude.{Ok}
use Rattle.jresolution.specs.declared.jprogram.member.MethodId.{MethodId}
use Rattle.jresolution.specs.jprogram.ProgramClasses.{Program}
use Rattle.jresolution.specs.jprogram.MemberResolution.{IsMain, main_of}
use Rattle.jtyping.specs.jwelltyped.VerifierTests.{Place, type_fault}
use Rattle.jshow.specs.declared.refusal.Refusal.{Refusal}
use Rattle.jtasks.specs.jstages.CheckStage.{checked, unless_untyped}
use Rattle.jtasks.specs.jstages.Stages.{judged}

pub found_is : (r : Refusal) (o : Option MethodId) (m : MethodId) → judged r o ≡ Ok m → o ≡ Some m
found_is r None m e = absurd (let x = e in cc)
found_is r (Some n) m e = let x = e in cc

unless_is : (p q : Program) (o : Option Place) → unless_untyped p o ≡ Ok q → p ≡ q
unless_is p q None e = let x = e in cc
unless_is p q (Some place) e = absurd (let x = e in cc)

pub checked_is : (p q : Program) → checked p ≡ Ok q → p ≡ q
unfolding checked
checked_is p q e = unless_is p q (type_fault p) e

-- so it is where the program is checked behind it
pub run_main : (r : Refusal) (p q : Program) (name : List ℕ) (m : MethodId) → judged r (main_of p name) ≡ Ok m → checked p ≡ Ok q → IsMain q m
run_main r p q name m found typed = (name, subst (λ (x : Program). main_of x name ≡ Some m) (checked_is p q typed) (found_is r (main_of p name) m found))

-- and in a program in which the `main` of each class is the same method
pub same_main : (p q : Program) (m : MethodId) → ((name : List ℕ) → main_of q name ≡ main_of p name) → IsMain p m → IsMain q m
same_main p q m same (name, is) = (name, same name ∙ is)
