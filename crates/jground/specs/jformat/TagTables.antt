-- First bytes that are apart, and tables of what each first byte says of the bytes behind it.
use Rattle.std.specs.Prelude.{ℕ, Bool, true, false, ◌&&◌, not, List, [], ◌∷◌, Result, Ok, Err, nat_lt, ◌==◌, if◌then◌else◌}
use Rattle.jground.specs.jbase.MemoryFailures.{◌>>=◌}
use Rattle.jground.specs.jformat.Format.{Answer, Format, fault}

-- ---- first bytes

abbrev pub is_in : ℕ → List ℕ → Bool
is_in t [] = false
is_in t (u ∷ us) = if t == u then true else is_in t us

abbrev pub apart : List ℕ → List ℕ → Bool
apart [] us = true
apart (t ∷ ts) us = not (is_in t us) && apart ts us

-- ---- rows of a table

abbrev pub row_read : {K R A : Type 0} → (R → Format K A) → ℕ → List ℕ → Result R K → Answer K (ℕ × A)
row_read f t rest y = elim y [ Ok r ↦ (f r).read rest >>= λ x. Ok ((t, x.0), x.1) | Err k ↦ fault k (t ∷ rest) ]

abbrev pub rows_at : {K R A : Type 0} → K → (ℕ → Result R K) → (R → Format K A) → List ℕ → Answer K (ℕ × A)
rows_at cut row f x = elim x [ [] ↦ fault cut [] | t ∷ rest ↦ row_read f t rest (row t) ]

-- a byte, and what the byte's row in a table says
abbrev pub rows : {K R A : Type 0} → K → (ℕ → Result R K) → (R → Format K A) → Format K (ℕ × A)
rows cut row f = record {
  spell = λ p. elim (row p.0) [ Ok r ↦ p.0 ∷ (f r).spell p.1 | Err k ↦ [] ];
  fits = λ p. nat_lt p.0 256 && (elim (row p.0) [ Ok r ↦ (f r).fits p.1 | Err k ↦ false ]);
  read = rows_at cut row f;
}
