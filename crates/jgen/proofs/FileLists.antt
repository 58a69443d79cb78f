-- The files of classes, put one behind the other.
use Rattle.std.proofs.Common.{◌≡◌, ℕ, ◌+◌, ◌≤◌, ◌<◌, List, [], ◌∷◌, ◌++◌, length, get_or, drop, sym, ap, ◌∙◌, append_assoc, append-nil}
use Rattle.std.proofs.lemmas.List.{drop_all, drop_more}
use Rattle.jgen.specs.declared.draws.Kind.{Kind}
use Rattle.jgen.specs.declared.making.MadeFile.{MadeFile}
use Rattle.jgen.specs.GeneratedFiles.{class_file, class_files}

files_step : (size : ℕ) (ks : List Kind) (i : ℕ) (k : Kind) → i < length ks → class_files size i (drop i ks) ≡ class_file size i (get_or ks i k) ∷ class_files size (i + 1) (drop (i + 1) ks)
unfolding class_files
files_step size ks i k h = ap (class_files size i) (drop_more ks i k h)

pub files_next : (size : ℕ) (ks : List Kind) (i : ℕ) (k : Kind) (file : MadeFile) (old new all : List MadeFile) → i < length ks → file ≡ class_file size i (get_or ks i k) → new ≡ old ++ file ∷ []
    → old ++ class_files size i (drop i ks) ≡ all → new ++ class_files size (i + 1) (drop (i + 1) ks) ≡ all
files_next size ks i k file old new all h made put so_far =
    let rest = class_files size (i + 1) (drop (i + 1) ks) in
    ap (λ (l : List MadeFile). l ++ rest) put ∙ append_assoc old (file ∷ []) rest ∙ ap (λ (x : MadeFile). old ++ x ∷ rest) made
    ∙ sym (ap (λ (l : List MadeFile). old ++ l) (files_step size ks i k h)) ∙ so_far

pub files_end : (size : ℕ) (ks : List Kind) (i : ℕ) (found all : List MadeFile) → length ks ≤ i → found ++ class_files size i (drop i ks) ≡ all → found ≡ all
unfolding class_files
files_end size ks i found all h so_far = sym (append-nil found) ∙ sym (ap (λ (l : List Kind). found ++ class_files size i l) (drop_all i ks h)) ∙ so_far
