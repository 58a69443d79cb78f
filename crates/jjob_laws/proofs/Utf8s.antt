-- A text that is written line by line with other paths is UTF-8.
use Rattle.std.proofs.Common.{◌≡◌, ℕ, ◌+◌, ◌<◌, Bool, true, false, cond, List, [], ◌∷◌, ◌++◌, codes, IsUtf8, length, drop, get_or, refl, sym, ap, ◌∙◌, subst, arith, append_assoc}
use Rattle.std.specs.List.{AllByRecursion, join_with_byte}
use Rattle.std.proofs.lemmas.List.{drop_at, get_or_at, length-append, take_at}
use Rattle.std.proofs.lemmas.List.Splits.{join_with_byte-slice_split}
use Rattle.std.proofs.lemmas.Str.{IsCharBoundary-after_ascii, IsCharBoundary-before_ascii, IsUtf8-append, IsUtf8-drop, IsUtf8-nil, IsUtf8-take}
use Rattle.jjob.specs.Jobs.{lines_of}
use Rattle.jjob.specs.StoredJobText.{line_with, lines_with, names_class, paths_behind, with_first}
use Rattle.jjob_laws.proofs.Lines.{behind_are, next_line}

-- ---- lines of a text

module _ (xs ys : List ℕ) (u : IsUtf8 (xs ++ 10 ∷ ys)) where
  abbrev all : List ℕ
  all = xs ++ 10 ∷ ys

  here : length xs < length all
  here = omega (arith, length-append xs (10 ∷ ys))

  feed : get_or all (length xs) 0 ≡ 10
  feed = get_or_at xs 10 ys 0 (length xs) refl

  small : get_or all (length xs) 0 < 128
  small = omega (arith, feed)

  pub front_utf8 : IsUtf8 xs
  front_utf8 = subst IsUtf8 (take_at xs (10 ∷ ys) (length xs) refl) (IsUtf8-take all (length xs) u (IsCharBoundary-before_ascii all (length xs) here small))

  rest_is : drop (length xs + 1) all ≡ ys
  rest_is = ap (drop (length xs + 1)) (sym (append_assoc xs (10 ∷ []) ys)) ∙ drop_at (xs ++ 10 ∷ []) ys (length xs + 1) (length-append xs (10 ∷ []))

  pub rest_utf8 : IsUtf8 ys
  rest_utf8 = subst IsUtf8 rest_is (IsUtf8-drop all (length xs + 1) u (IsCharBoundary-after_ascii all (length xs) u here small))

parts_utf8 : (lines : List (List ℕ)) → IsUtf8 (join_with_byte 10 lines) → AllByRecursion IsUtf8 lines
parts_utf8 [] u = tt
parts_utf8 (line ∷ []) u = (u, tt)
parts_utf8 (line ∷ next ∷ more) u =
    let rest = join_with_byte 10 (next ∷ more) in
    (front_utf8 line rest u, parts_utf8 (next ∷ more) (rest_utf8 line rest u))

pub lines_utf8 : (text : List ℕ) → IsUtf8 text → AllByRecursion IsUtf8 (lines_of text)
lines_utf8 text u = parts_utf8 (lines_of text) (subst IsUtf8 (sym (join_with_byte-slice_split 10 text)) u)

-- ---- and back

class_utf8 : IsUtf8 (codes "class ")
unfolding lib.Utf8.encode
class_utf8 = (codes "class ", (refl, refl))

feed_utf8 : IsUtf8 (10 ∷ [])
unfolding lib.Utf8.encode
feed_utf8 = (10 ∷ [], (refl, refl))

with_utf8 : (paths : List (List ℕ)) (line : List ℕ) → AllByRecursion IsUtf8 paths → IsUtf8 line → IsUtf8 (with_first paths line)
with_utf8 [] line h u = u
with_utf8 (path ∷ paths) line h u = IsUtf8-append (codes "class ") path class_utf8 h.0

line_utf8 : (paths : List (List ℕ)) (line : List ℕ) → AllByRecursion IsUtf8 paths → IsUtf8 line → IsUtf8 (line_with paths line)
line_utf8 paths line h u = go (names_class line)
  where
    go : (t : Bool) → IsUtf8 (cond t (with_first paths line) line)
    go true = with_utf8 paths line h u
    go false = u

ended : (line rest : List ℕ) → IsUtf8 line → IsUtf8 rest → IsUtf8 (line ++ 10 ∷ rest)
ended line rest u v = IsUtf8-append line (10 ∷ rest) u (IsUtf8-append (10 ∷ []) rest feed_utf8 v)

last_utf8 : (paths : List (List ℕ)) (line : List ℕ) → AllByRecursion IsUtf8 paths → IsUtf8 line → IsUtf8 (lines_with paths (line ∷ []))
unfolding lines_with
last_utf8 paths [] h u = IsUtf8-nil
last_utf8 paths (b ∷ line) h u = ended (line_with paths (b ∷ line)) [] (line_utf8 paths (b ∷ line) h u) IsUtf8-nil

pub written_utf8 : (paths lines : List (List ℕ)) → AllByRecursion IsUtf8 paths → AllByRecursion IsUtf8 lines → IsUtf8 (lines_with paths lines)
unfolding lines_with
written_utf8 paths [] h u = IsUtf8-nil
written_utf8 paths (line ∷ []) h u = last_utf8 paths line h u.0
written_utf8 paths (line ∷ next ∷ more) h u =
    let rest = lines_with (paths_behind paths line) (next ∷ more) in
    subst IsUtf8 (sym (next_line paths line next more))
    (ended (line_with paths line) rest (line_utf8 paths line h u.0) (written_utf8 (paths_behind paths line) (next ∷ more) (behind_are IsUtf8 paths line h) u.1))
