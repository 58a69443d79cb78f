-- Counting the lines of a text, and texts that aren't UTF-8.
use Rattle.std.proofs.Common.{◌≡◌, ℕ, ◌+◌, ◌==◌, Bool, true, false, List, [], ◌∷◌, length, refl, ap, ◌∙◌, arith}
use Rattle.std.specs.List.{count_by}
use Rattle.std.specs.Str.{IsUtf8, is_utf8}
use Rattle.std.proofs.lemmas.Str.{IsUtf8-from_is_utf8}
use Rattle.std.proofs.lemmas.List.Splits.{length-slice_split}
use Rattle.jjob.specs.Jobs.{lines_of, number_of_lines}

one_more : (line : List ℕ) (more : List (List ℕ)) → ¬ (length more ≡ 0) → number_of_lines (line ∷ more) ≡ 1 + number_of_lines more
one_more line [] some = absurd (some refl)
one_more [] (next ∷ more) some = refl
one_more (b ∷ line) (next ∷ more) some = refl

pub some_lines : (text : List ℕ) → ¬ (length (lines_of text) ≡ 0)
some_lines text none = let counted : length (lines_of text) ≡ count_by (λ b. b == 10) text + 1 = length-slice_split (λ b. b == 10) text in omega (arith, none, counted)

pub lines_more : (text line more : List ℕ) → lines_of text ≡ line ∷ lines_of more → number_of_lines (lines_of text) ≡ 1 + number_of_lines (lines_of more)
lines_more text line more is = ap number_of_lines is ∙ one_more line (lines_of more) (some_lines more)

-- ---- UTF-8

false_where : (bytes : List ℕ) (b : Bool) → is_utf8 bytes ≡ b → ¬ (IsUtf8 bytes) → is_utf8 bytes ≡ false
false_where bytes true is h = absurd (h (IsUtf8-from_is_utf8 bytes is))
false_where bytes false is h = is

pub not_utf8 : (bytes : List ℕ) → ¬ (IsUtf8 bytes) → is_utf8 bytes ≡ false
not_utf8 bytes h = false_where bytes (is_utf8 bytes) refl h
