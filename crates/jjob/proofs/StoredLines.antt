-- The lines of a job that is stored, as a loop puts them.
use Rattle.std.proofs.Common.{◌≡◌, ◌==◌, ℕ, false, List, [], ◌∷◌, ◌++◌, length, refl, sym, ap, ◌∙◌, append_assoc}
use Rattle.std.proofs.lemmas.List.{append-nil}
use Rattle.jjob.specs.Jobs.{lines_of}
use Rattle.jjob.specs.StoredJobText.{line_with, lines_with, paths_behind}
use Rattle.jjob.proofs.LineNumbers.{some_lines}

next_line : (paths : List (List ℕ)) (line : List ℕ) (more : List (List ℕ)) → ¬ (length more ≡ 0) → lines_with paths (line ∷ more) ≡ line_with paths line ++ 10 ∷ lines_with (paths_behind paths line) more
unfolding lines_with
next_line paths line [] some = absurd (some refl)
next_line paths [] (next ∷ more) some = refl
next_line paths (b ∷ line) (next ∷ more) some = refl

regroup : (out line more : List ℕ) → out ++ (line ++ 10 ∷ more) ≡ ((out ++ line) ++ 10 ∷ []) ++ more
regroup out line more = simp append_assoc

-- a line that isn't the last one
pub put_more : (out now : List ℕ) (left behind : List (List ℕ)) (text line more total : List ℕ) → lines_of text ≡ line ∷ lines_of more → now ≡ (out ++ line_with left line) ++ 10 ∷ [] → behind ≡ paths_behind left line → out ++ lines_with left (lines_of text) ≡ total
    → now ++ lines_with behind (lines_of more) ≡ total
put_more out now left behind text line more total here is paths so_far =
    let rest = lines_with (paths_behind left line) (lines_of more) in
    let one : lines_with left (lines_of text) ≡ line_with left line ++ 10 ∷ rest = ap (lines_with left) here ∙ next_line left line (lines_of more) (some_lines more) in
    rw (is, paths) (sym (regroup out (line_with left line) rest) ∙ sym (ap (λ (r : List ℕ). out ++ r) one) ∙ so_far)

-- the last line
pub last_none : (paths : List (List ℕ)) (line out : List ℕ) → length line ≡ 0 → out ≡ out ++ lines_with paths (line ∷ [])
unfolding lines_with
last_none paths [] out h = sym (append-nil out)
last_none paths (b ∷ line) out h = absurd cc

ends_line : (paths : List (List ℕ)) (line : List ℕ) → (length line == 0) ≡ false → lines_with paths (line ∷ []) ≡ line_with paths line ++ 10 ∷ []
unfolding lines_with
ends_line paths [] h = absurd (let x = h in cc)
ends_line paths (b ∷ line) h = refl

pub last_some : (paths : List (List ℕ)) (line out now : List ℕ) → (length line == 0) ≡ false → now ≡ (out ++ line_with paths line) ++ 10 ∷ [] → now ≡ out ++ lines_with paths (line ∷ [])
last_some paths line out now some is = is ∙ append_assoc out (line_with paths line) (10 ∷ []) ∙ ap (λ (r : List ℕ). out ++ r) (sym (ends_line paths line some))
