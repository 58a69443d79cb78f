-- Which of the runnable threads a schedule picks.
use Rattle.std.specs.Prelude.{ℕ, ◌%◌, List, [], ◌∷◌, length, Option, None, slice_get, slice_index}

-- none of none, else the entry at the place s modulo the number of entries, where s is the schedule's number at `taken`
abbrev pub picked : List ℕ → ℕ → List ℕ → Option ℕ
picked schedule taken = elim [ [] ↦ None | t ∷ ts ↦ slice_get (t ∷ ts) (slice_index schedule taken % length (t ∷ ts)) ]
