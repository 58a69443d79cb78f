-- The lines of a text that is written line by line, with other paths.
use Rattle.std.proofs.Common.{◌≡◌, ℕ, ◌==◌, Bool, true, false, cond, List, [], ◌∷◌, ◌++◌, All, codes, drop, refl, ap, ◌∙◌}
use Rattle.std.specs.List.{AllByRecursion, onto_first}
use Rattle.std.proofs.lemmas.List.Elements.{All-append, All-cons, All-from_recursion, All-nil}
use Rattle.std.proofs.lemmas.List.Splits.{slice_split_at}
use Rattle.jjob.specs.Jobs.{lines_of}
use Rattle.jjob.specs.StoredJobText.{line_with, lines_with, names_class, paths_behind, with_first}

abbrev pub feeds : ℕ → Bool
feeds b = b == 10

-- no byte of a line ends it
abbrev pub IsLine : List ℕ → Type 0
IsLine line = All (λ b. feeds b ≡ false) line

-- ---- the lines of a text

onto_lines : (b : ℕ) (parts : List (List ℕ)) → feeds b ≡ false → AllByRecursion IsLine parts → AllByRecursion IsLine (onto_first b parts)
onto_lines b [] is h = (All-cons (λ c. feeds c ≡ false) b [] is (All-nil (λ c. feeds c ≡ false)), tt)
onto_lines b (part ∷ parts) is h = (All-cons (λ c. feeds c ≡ false) b part is h.0, h.1)

pub lines_are : (text : List ℕ) → AllByRecursion IsLine (lines_of text)
lines_are [] = (All-nil (λ c. feeds c ≡ false), tt)
lines_are (b ∷ text) = go (feeds b) refl (lines_are text)
  where
    go : (t : Bool) → feeds b ≡ t → AllByRecursion IsLine (lines_of text) → AllByRecursion IsLine (cond t ([] ∷ lines_of text) (onto_first b (lines_of text)))
    go true is h = (All-nil (λ c. feeds c ≡ false), h)
    go false is h = onto_lines b (lines_of text) is h

-- ---- a line with another path

class_word : IsLine (codes "class ")
class_word = All-from_recursion (λ c. feeds c ≡ false) (codes "class ") (refl, (refl, (refl, (refl, (refl, (refl, tt))))))

with_path : (paths : List (List ℕ)) (line : List ℕ) → AllByRecursion IsLine paths → IsLine line → IsLine (with_first paths line)
with_path [] line h is = is
with_path (path ∷ paths) line h is = All-append (λ c. feeds c ≡ false) (codes "class ") path class_word h.0

pub line_is : (paths : List (List ℕ)) (line : List ℕ) → AllByRecursion IsLine paths → IsLine line → IsLine (line_with paths line)
line_is paths line h is = go (names_class line)
  where
    go : (t : Bool) → IsLine (cond t (with_first paths line) line)
    go true = with_path paths line h is
    go false = is

without_one : {X : Type 0} (P : X → Type 0) (xs : List X) → AllByRecursion P xs → AllByRecursion P (drop 1 xs)
without_one P [] h = tt
without_one P (x ∷ xs) h = h.1

-- what holds of all paths holds of those that are left
pub behind_are : (P : List ℕ → Type 0) (paths : List (List ℕ)) (line : List ℕ) → AllByRecursion P paths → AllByRecursion P (paths_behind paths line)
behind_are P paths line h = go (names_class line)
  where
    go : (t : Bool) → AllByRecursion P (cond t (drop 1 paths) paths)
    go true = without_one P paths h
    go false = h

-- ---- all lines

-- the last line with the paths that are left, and the empty one behind its end
abbrev pub last_with : List (List ℕ) → List ℕ → List (List ℕ)
last_with paths [] = [] ∷ []
last_with paths (b ∷ line) = line_with paths (b ∷ line) ∷ [] ∷ []

-- lines with these paths, as they are parted again
abbrev pub relined : List (List ℕ) → List (List ℕ) → List (List ℕ)
relined paths [] = [] ∷ []
relined paths (line ∷ []) = last_with paths line
relined paths (line ∷ next ∷ more) = line_with paths line ∷ relined (paths_behind paths line) (next ∷ more)

pub next_line : (paths : List (List ℕ)) (line next : List ℕ) (more : List (List ℕ))
    → lines_with paths (line ∷ next ∷ more) ≡ line_with paths line ++ 10 ∷ lines_with (paths_behind paths line) (next ∷ more)
unfolding lines_with
next_line paths [] next more = refl
next_line paths (b ∷ line) next more = refl

pub last_line : (paths : List (List ℕ)) (b : ℕ) (line : List ℕ) → lines_with paths ((b ∷ line) ∷ []) ≡ line_with paths (b ∷ line) ++ 10 ∷ []
unfolding lines_with
last_line paths b line = refl

-- a line that is ended, and what stands behind it
parted : (line rest : List ℕ) → IsLine line → lines_of (line ++ 10 ∷ rest) ≡ line ∷ lines_of rest
parted line rest is = slice_split_at feeds line 10 rest is refl

last_again : (paths : List (List ℕ)) (line : List ℕ) → AllByRecursion IsLine paths → IsLine line → lines_of (lines_with paths (line ∷ [])) ≡ last_with paths line
unfolding lines_with
last_again paths [] h is = refl
last_again paths (b ∷ line) h is = parted (line_with paths (b ∷ line)) [] (line_is paths (b ∷ line) h is)

pub lines_again : (paths lines : List (List ℕ)) → AllByRecursion IsLine paths → AllByRecursion IsLine lines → lines_of (lines_with paths lines) ≡ relined paths lines
unfolding lines_with
lines_again paths [] h are = refl
lines_again paths (line ∷ []) h are = last_again paths line h are.0
lines_again paths (line ∷ next ∷ more) h are =
    let rest = lines_with (paths_behind paths line) (next ∷ more) in
    ap lines_of (next_line paths line next more) ∙ parted (line_with paths line) rest (line_is paths line h are.0)
    ∙ ap (λ (ls : List (List ℕ)). line_with paths line ∷ ls) (lines_again (paths_behind paths line) (next ∷ more) (behind_are IsLine paths line h) are.1)
