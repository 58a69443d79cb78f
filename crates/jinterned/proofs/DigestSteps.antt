-- A digest of pairs, four by four and one by one.
use Rattle.std.proofs.Common.{◌≡◌, ℕ, zero, suc, ◌-◌, ◌<◌, ◌≤◌, List, [], ◌∷◌, drop, fold, length, take, refl, ap, arith}
use Rattle.std.specs.Prelude.{get_or}
use Rattle.jinterned.specs.declared.pairs.Pair.{Pair}
use Rattle.jinterned.specs.ContextDigests.{digest_from, with_one, with_four}

-- fewer than four pairs are stirred in one by one
pub few : (sum : ℕ) (ps : List Pair) → length ps < 4 → digest_from sum ps ≡ fold with_one sum ps
unfolding digest_from
few sum [] lt = refl
few sum (a ∷ []) lt = refl
few sum (a ∷ b ∷ []) lt = refl
few sum (a ∷ b ∷ c ∷ []) lt = refl
few sum (a ∷ b ∷ c ∷ d ∷ ps) lt = absurd (omega (arith, lt))

whole : {T : Type 0} (xs : List T) (n : ℕ) → length xs ≤ n → take n xs ≡ xs
whole [] zero le = refl
whole [] (suc n) le = refl
whole (x ∷ xs) zero le = absurd (omega (arith, le))
whole (x ∷ xs) (suc n) le = ap (λ ys. x ∷ ys) (whole xs n (omega (arith, le)))

-- four are taken at once
pub four_more : (sum : ℕ) (ps : List Pair) (w x y z : Pair) → 4 ≤ length ps
    → digest_from (with_four sum (get_or ps 0 w) (get_or ps 1 x) (get_or ps 2 y) (get_or ps 3 z)) (take (length ps - 4) (drop 4 ps)) ≡ digest_from sum ps
unfolding digest_from
four_more sum [] w x y z le = absurd (omega (arith, le))
four_more sum (a ∷ []) w x y z le = absurd (omega (arith, le))
four_more sum (a ∷ b ∷ []) w x y z le = absurd (omega (arith, le))
four_more sum (a ∷ b ∷ c ∷ []) w x y z le = absurd (omega (arith, le))
four_more sum (a ∷ b ∷ c ∷ d ∷ ps) w x y z le = ap (λ (qs : List Pair). digest_from (with_four sum a b c d) qs) (whole ps (length (a ∷ b ∷ c ∷ d ∷ ps) - 4) (omega arith))
