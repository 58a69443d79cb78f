-- Walks upwards, as loops make them.
use Rattle.std.proofs.Common.{◌≡◌, ℕ, suc, ◌+◌, ◌-◌, ◌<◌, ◌≤◌, List, [], ◌∷◌, length, refl, arith}
use Rattle.std.proofs.lemmas.List.{length-append, length-map}
use Rattle.jresolution.specs.jprogram.ProgramClasses.{Program, above_name, chain, known, onward}

pub chain_at : (p : Program) (n i : ℕ) (c : List ℕ) → i < n → chain p (n - i) c ≡ c ∷ onward (chain p (n - (i + 1))) (above_name p c)
unfolding chain
chain_at p n i c lt = let e : n - i ≡ suc (n - (i + 1)) = omega arith in rw e refl

pub chain_end : (p : Program) (n i : ℕ) (c : List ℕ) → n ≤ i → chain p (n - i) c ≡ []
unfolding chain
chain_end p n i c le = let e : n - i ≡ 0 = omega arith in rw e refl

-- how many classes are known
pub known_count : (p : Program) → length (known p) ≡ length p.parts + 46
known_count p = simp (length-append, length-map) refl
