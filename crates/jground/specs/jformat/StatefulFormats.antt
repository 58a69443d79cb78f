-- Values one behind the other, each read by a state that the earlier ones made.
use Rattle.std.specs.Prelude.{ℕ, zero, suc, Bool, true, ◌&&◌, List, [], ◌∷◌, ◌++◌, length, Result, Ok}
use Rattle.jground.specs.jbase.MemoryFailures.{◌>>=◌}
use Rattle.jground.specs.declared.jformat.error.Fault.{Fault}
use Rattle.jground.specs.jformat.Format.{Answer, Format, fault}
use Rattle.jground.specs.jformat.BodyFormats.{Body}

unfoldable pub times_from : {K S A : Type 0} → (S → List ℕ → Answer K A) → (S → A → S) → S → ℕ → List ℕ → Answer K (List A)
times_from read next s zero bytes = Ok ([], bytes)
times_from read next s (suc n) bytes = read s bytes >>= λ x. times_from read next (next s x.0) n x.1 >>= λ y. Ok (x.0 ∷ y.0, y.1)

unfoldable pub many_from : {K S A : Type 0} → K → (S → List ℕ → Answer K A) → (S → A → S) → S → ℕ → List ℕ → Result (List A) (Fault K)
many_from more read next s zero [] = Ok []
many_from more read next s zero (b ∷ bs) = fault more (b ∷ bs)
many_from more read next s (suc n) [] = Ok []
many_from more read next s (suc n) (b ∷ bs) = read s (b ∷ bs) >>= λ x. many_from more read next (next s x.0) n x.1 >>= λ y. Ok (x.0 ∷ y)

unfoldable pub spell_from : {S A : Type 0} → (S → A → List ℕ) → (S → A → S) → S → List A → List ℕ
spell_from spell next s [] = []
spell_from spell next s (x ∷ xs) = spell s x ++ spell_from spell next (next s x) xs

unfoldable pub fits_from : {S A : Type 0} → (S → A → Bool) → (S → A → S) → S → List A → Bool
fits_from fits next s [] = true
fits_from fits next s (x ∷ xs) = fits s x && fits_from fits next (next s x) xs

-- values behind their number
abbrev pub counted_from : {K S A : Type 0} → Format K ℕ → (S → Format K A) → (S → A → S) → S → Format K (List A)
counted_from count f next s = record {
  spell = λ xs. count.spell (length xs) ++ spell_from (λ t. (f t).spell) next s xs;
  fits = λ xs. fits_from (λ t. (f t).fits) next s xs && count.fits (length xs);
  read = λ bytes. count.read bytes >>= λ n. times_from (λ t. (f t).read) next s n.0 n.1;
}

-- values to the end of the bytes; each takes a byte at least
abbrev pub many_by : {K S A : Type 0} → K → (S → Format K A) → (S → A → S) → S → Body K (List A)
many_by more f next s = record {
  spell = spell_from (λ t. (f t).spell) next s;
  fits = fits_from (λ t. (f t).fits) next s;
  read = λ bytes. many_from more (λ t. (f t).read) next s (length bytes) bytes;
}
