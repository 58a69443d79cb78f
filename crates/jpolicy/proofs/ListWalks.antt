-- Going along a list as a loop does: what is left gives what all gives.
use Rattle.std.proofs.Common.{◌≡◌, ℕ, zero, suc, ◌+◌, ◌-◌, ◌≤◌, ◌<◌, Bool, true, false, cond, List, [], ◌∷◌, length, Result, Ok, Err, refl, sym, ◌∙◌, subst, inl, inr, arith}
use Rattle.std.specs.Prelude.{◌⊎◌}
use Rattle.jground.specs.jbase.MemoryFailures.{◌>>=◌}
use Rattle.jground.specs.declared.jbase.fault_or_memory.FaultOrMemory.{FaultOrMemory}
use Rattle.jground.specs.declared.jbase.fault_or_memory.FaultOrMemory.TheVariants as stops
use Rattle.jground.specs.jbase.MemoryFailures.{Fails}
use Rattle.jpolicy.specs.ListWalks.{walk, Ends}

pub walk_more : {S A F : Type 0} (ends : List A → Bool) (goes : S → List A → Result (S × List A) F) (n i : ℕ) (s t : S) (xs ys : List A) (total : Result (S × List A) F) → i < n → false ≡ ends xs → goes s xs ≡ Ok (t, ys) → walk ends goes (n - i) s xs ≡ total → walk ends goes (n - (i + 1)) t ys ≡ total
unfolding walk
walk_more ends goes n i s t xs ys total lt goes_on h so_far =
    let k : n - i ≡ suc (n - (i + 1)) = omega arith in
    let one : walk ends goes (n - i) s xs ≡ walk ends goes (n - (i + 1)) t ys = rw (k, ← goes_on, h) refl in
    sym one ∙ so_far

pub walk_fails : {S A F : Type 0} (ends : List A → Bool) (goes : S → List A → Result (S × List A) F) (n i : ℕ) (s : S) (xs : List A) (stop : FaultOrMemory F) (total : Result (S × List A) F) → i < n → false ≡ ends xs → Fails stop (goes s xs) → walk ends goes (n - i) s xs ≡ total → Fails stop total
unfolding walk
walk_fails ends goes n i s xs stops.Memory total lt goes_on h so_far = tt
walk_fails ends goes n i s xs (stops.Fault d) total lt goes_on h so_far =
    let k : n - i ≡ suc (n - (i + 1)) = omega arith in
    let one : walk ends goes (n - i) s xs ≡ Err d = rw (k, ← goes_on, h) refl in
    sym so_far ∙ one

pub walk_over : {S A F : Type 0} (ends : List A → Bool) (goes : S → List A → Result (S × List A) F) (n i : ℕ) (s : S) (xs : List A) (total : Result (S × List A) F) → i < n → true ≡ ends xs → walk ends goes (n - i) s xs ≡ total → total ≡ Ok (s, xs)
unfolding walk
walk_over ends goes n i s xs total lt over so_far =
    let k : n - i ≡ suc (n - (i + 1)) = omega arith in
    let one : walk ends goes (n - i) s xs ≡ Ok (s, xs) = rw (k, ← over) refl in
    sym so_far ∙ one

pub walk_out : {S A F : Type 0} (ends : List A → Bool) (goes : S → List A → Result (S × List A) F) (n i : ℕ) (s : S) (xs : List A) (total : Result (S × List A) F) → n ≤ i → walk ends goes (n - i) s xs ≡ total → total ≡ Ok (s, xs)
unfolding walk
walk_out ends goes n i s xs total le so_far =
    let k : n - i ≡ 0 = omega arith in
    let one : walk ends goes (n - i) s xs ≡ Ok (s, xs) = rw k refl in
    sym so_far ∙ one

-- ---- where a walk ends

pub bind_ok : {A B F : Type 0} (r : Result A F) (k : A → Result B F) (y : B) → (r >>= k) ≡ Ok y → (x : A) × (r ≡ Ok x) × (k x ≡ Ok y)
bind_ok (Ok x) k y e = (x, refl, e)
bind_ok (Err d) k y e = absurd cc

pub chosen : {X : Type 0} (b : Bool) (l r x : X) → cond b l r ≡ x → ((b ≡ true) × (l ≡ x)) ⊎ ((b ≡ false) × (r ≡ x))
chosen true l r x e = inl (refl, e)
chosen false l r x e = inr (refl, e)

-- each step leaves fewer items
abbrev pub Shrinks : {S A F : Type 0} → (List A → Bool) → (S → List A → Result (S × List A) F) → Type 0
Shrinks {S} {A} ends goes = (s : S) (xs : List A) (x : S × List A) → ends xs ≡ false → goes s xs ≡ Ok x → length x.1 < length xs

none_left : {A : Type 0} (xs : List A) → length xs ≤ 0 → xs ≡ []
none_left [] h = refl
none_left (x ∷ xs) h = absurd (omega arith)

end_same : {S A F : Type 0} (ends : List A → Bool) (s : S) (xs : List A) (r : Result (S × List A) F) → (ends xs ≡ true) ⊎ (xs ≡ []) → Ok (s, xs) ≡ r → Ends ends r
end_same {S} {A} ends s xs (Ok x) h e = let same : (s, xs) ≡ x = cc in subst (λ (y : S × List A). (ends y.1 ≡ true) ⊎ (y.1 ≡ [])) same h
end_same ends s xs (Err d) h e = absurd cc

pub walk_ends : {S A F : Type 0} (ends : List A → Bool) (goes : S → List A → Result (S × List A) F) → Shrinks ends goes → (n : ℕ) (s : S) (xs : List A) (r : Result (S × List A) F) → length xs ≤ n → walk ends goes n s xs ≡ r → Ends ends r
unfolding walk
walk_ends ends goes fewer zero s xs r room e = end_same ends s xs r (inr (none_left xs room)) e
walk_ends ends goes fewer (suc n) s xs (Err d) room e = tt
walk_ends ends goes fewer (suc n) s xs (Ok x) room e = elim (chosen (ends xs) (Ok (s, xs)) (goes s xs >>= λ y. walk ends goes n y.0 y.1) (Ok x) e) [
  | inl hit ↦ end_same ends s xs (Ok x) (inl hit.0) hit.1
  | inr miss ↦ (
      let b = bind_ok (goes s xs) (λ y. walk ends goes n y.0 y.1) x miss.1 in
      let less : length b.0.1 < length xs = fewer s xs b.0 miss.0 b.1 in
      walk_ends ends goes fewer n b.0.0 b.0.1 (Ok x) (omega arith) b.2)
]

-- a walk leaves no more than it began with
pub walk_no_more : {S A F : Type 0} (ends : List A → Bool) (goes : S → List A → Result (S × List A) F) → Shrinks ends goes → (n : ℕ) (s : S) (xs : List A) (x : S × List A) → walk ends goes n s xs ≡ Ok x → length x.1 ≤ length xs
unfolding walk
walk_no_more {S} {A} ends goes fewer zero s xs x e = let same : (s, xs) ≡ x = cc in subst (λ (y : S × List A). length y.1 ≤ length xs) same (omega arith)
walk_no_more {S} {A} ends goes fewer (suc n) s xs x e = elim (chosen (ends xs) (Ok (s, xs)) (goes s xs >>= λ y. walk ends goes n y.0 y.1) (Ok x) e) [
  | inl hit ↦ (let h = hit.1 in let same : (s, xs) ≡ x = cc in subst (λ (y : S × List A). length y.1 ≤ length xs) same (omega arith))
  | inr miss ↦ (
      let b = bind_ok (goes s xs) (λ y. walk ends goes n y.0 y.1) x miss.1 in
      let less : length b.0.1 < length xs = fewer s xs b.0 miss.0 b.1 in
      let rest : length x.1 ≤ length b.0.1 = walk_no_more ends goes fewer n b.0.0 b.0.1 x b.2 in
      omega arith)
]
