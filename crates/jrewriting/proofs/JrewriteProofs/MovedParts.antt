-- What is known of a moved program's parts where it is made.
use Rattle.std.proofs.Common.{◌≡◌, ℕ, zero, suc, List, [], ◌∷◌, map, Some, refl, ap, sym, subst}
use Rattle.std.specs.Prelude.{All, IsTrue, slice_get}
use Rattle.std.specs.List.{AllByRecursion}
use Rattle.std.proofs.lemmas.List.Elements.{All-from_recursion}
use Rattle.jclass.specs.Class.{class_file}
use Rattle.jlib.specs.declared.side.Side.TheVariants.{Passing}
use Rattle.jresolution.specs.declared.jprogram.part.CodePart.{CodePart}
use Rattle.jresolution.specs.jprogram.ProgramClasses.{Program, program}
use Rattle.jlinking.specs.jlink.LinkedPrograms.{Links}
use Rattle.jrewriting.specs.declared.jrewrite.part.MovedPart.{MovedPart}
use Rattle.jrewriting.specs.jrewrite.RewrittenPrograms.{moved, seen_part}

-- a part that is a class file (JVMS 4.1)
abbrev pub IsFile : CodePart → Type 0
IsFile part = IsTrue (class_file.fits part.class)

-- what holds of all parts holds of each
pub file_at : (parts : List CodePart) (i : ℕ) (part : CodePart) → AllByRecursion IsFile parts → slice_get parts i ≡ Some part → IsFile part
file_at [] i part all at = absurd cc
file_at (one ∷ parts) zero part all at = let e : one ≡ part = cc in subst IsFile e all.0
file_at (one ∷ parts) (suc i) part all at = file_at parts i part all.1 at

fit_by : (q : List CodePart) (ms : List MovedPart) → map seen_part ms ≡ q → ((i : ℕ) (part : CodePart) → slice_get q i ≡ Some part → IsFile part) → AllByRecursion (λ m. IsTrue (class_file.fits m.class)) ms
fit_by q [] e h = tt
fit_by [] (m ∷ ms) e h = absurd cc
fit_by (x ∷ xs) (m ∷ ms) e h =
    let one : seen_part m ≡ x = cc in
    let others : map seen_part ms ≡ xs = cc in
    (subst IsFile (sym one) (h 0 x refl), fit_by xs ms others (λ i part at. h (suc i) part at))

-- moved parts are class files where those of the moved program are
pub all_fit : (p : Program) (ms : List MovedPart) → map seen_part ms ≡ (moved p).parts → ((i : ℕ) (part : CodePart) → slice_get (moved p).parts i ≡ Some part → IsTrue (class_file.fits part.class)) → All (λ m. IsTrue (class_file.fits m.class)) ms
all_fit p ms e h = All-from_recursion (λ m. IsTrue (class_file.fits m.class)) ms (fit_by (moved p).parts ms e h)

-- a program of its parts is the moved program
pub program_is : (p : Program) (parts : List CodePart) → parts ≡ (moved p).parts → program Passing parts ≡ moved p
unfolding moved
program_is p parts e = ap (program Passing) e

pub links_is : (p : Program) (parts : List CodePart) → parts ≡ (moved p).parts → Links (moved p) → Links (program Passing parts)
links_is p parts e h = subst Links (sym (program_is p parts e)) h
