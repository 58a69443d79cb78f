-- Names by which proofs and the contracts of inner functions call what the definitions say in place. What `javasec` and `dispatch` promise
-- reaches none of them.
use Rattle.std.specs.Prelude.{List, ℕ, Result, length, Bool, Ok, Err, false, ◌∷◌, []}
use Rattle.jground.specs.jbase.MemoryFailures.{◌>>=◌}
use Rattle.jground.specs.jformat.Format.{Answer, Format, fault}
use Rattle.jground.specs.declared.jformat.error.Fault.{Fault}
use Rattle.jground.specs.jformat.BodyFormats.{inner_at}

-- ---- of jformat.BodyFormats

abbrev pub block_at : {K A : Type 0} → (List ℕ → Answer K ℕ) → K → (List ℕ → Result A (Fault K)) → List ℕ → Answer K A
block_at count cut read bytes = count bytes >>= λ n. inner_at cut read n.0 n.1

-- ---- of jformat.Format

-- A fault where these bytes are left.
abbrev pub fault_at : {K : Type 0} → K → List ℕ → Fault K
fault_at kind bytes = record { left = length bytes; kind = kind }

-- ---- of jformat.TagTables

abbrev pub row_fits : {K R A : Type 0} → (R → Format K A) → A → Result R K → Bool
row_fits f a x = elim x [ Ok r ↦ (f r).fits a | Err k ↦ false ]

abbrev pub row_spell : {K R A : Type 0} → (R → Format K A) → ℕ → A → Result R K → List ℕ
row_spell f t a x = elim x [ Ok r ↦ t ∷ (f r).spell a | Err k ↦ [] ]

-- ---- of jformat.Format

abbrev pub byte_at : {K : Type 0} → K → List ℕ → Answer K ℕ
byte_at cut x = elim x [ [] ↦ fault cut [] | b ∷ rest ↦ Ok (b, rest) ]
