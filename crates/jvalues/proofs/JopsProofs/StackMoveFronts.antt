-- Moves of the stack look at the items that go alone.
use Rattle.std.proofs.Common.{◌≡◌, ℕ, ◌≤◌, ◌++◌, List, [], ◌∷◌, length, take, refl, Option, Some, None, ap, subst, arith}
use Rattle.jvalues.specs.declared.jnames.names.Shuffle.{Shuffle}
use Rattle.jvalues.specs.declared.jnames.names.Shuffle.TheVariants.{Pop, Pop2, Dup, DupX1, DupX2, Dup2, Dup2X1, Dup2X2, Swap}
use Rattle.jvalues.specs.jops.Shuffles.{Item, One, Two, Move, moves, shuffle}

abbrev pub Front : {V : Type 0} → (List (Item V) → Option (Move V)) → Type 0
Front {V} f = (xs ys : List (Item V)) (m : Move V) → f xs ≡ Some m → (f (xs ++ ys) ≡ Some m) × (m.taken ≤ length xs)

taken_in : {V : Type 0} → Option (Move V) → ℕ
taken_in (Some m) = m.taken
taken_in None = 0

taken : {V : Type 0} (n k : ℕ) (vs : List V) (m : Move V) → n ≤ k → Some (moves n vs) ≡ Some m → m.taken ≤ k
unfolding taken_in
taken n k vs m h e = subst (λ t. t ≤ k) (ap taken_in e) h

pop_front : {V : Type 0} → Front (shuffle {V = V} Pop)
unfolding shuffle
pop_front [] ys m e = cc
pop_front (One a ∷ xs) ys m e = (e, taken _ _ _ m (omega arith) e)
pop_front (Two a ∷ xs) ys m e = cc

pop2_front : {V : Type 0} → Front (shuffle {V = V} Pop2)
unfolding shuffle
pop2_front [] ys m e = cc
pop2_front (One a ∷ []) ys m e = cc
pop2_front (One a ∷ One b ∷ xs) ys m e = (e, taken _ _ _ m (omega arith) e)
pop2_front (One a ∷ Two b ∷ xs) ys m e = cc
pop2_front (Two a ∷ xs) ys m e = (e, taken _ _ _ m (omega arith) e)

dup_front : {V : Type 0} → Front (shuffle {V = V} Dup)
unfolding shuffle
dup_front [] ys m e = cc
dup_front (One a ∷ xs) ys m e = (e, taken _ _ _ m (omega arith) e)
dup_front (Two a ∷ xs) ys m e = cc

dup_x1_front : {V : Type 0} → Front (shuffle {V = V} DupX1)
unfolding shuffle
dup_x1_front [] ys m e = cc
dup_x1_front (One a ∷ []) ys m e = cc
dup_x1_front (One a ∷ One b ∷ xs) ys m e = (e, taken _ _ _ m (omega arith) e)
dup_x1_front (One a ∷ Two b ∷ xs) ys m e = cc
dup_x1_front (Two a ∷ xs) ys m e = cc

dup_x2_front : {V : Type 0} → Front (shuffle {V = V} DupX2)
unfolding shuffle
dup_x2_front [] ys m e = cc
dup_x2_front (One a ∷ []) ys m e = cc
dup_x2_front (One a ∷ One b ∷ []) ys m e = cc
dup_x2_front (One a ∷ One b ∷ One c ∷ xs) ys m e = (e, taken _ _ _ m (omega arith) e)
dup_x2_front (One a ∷ One b ∷ Two c ∷ xs) ys m e = cc
dup_x2_front (One a ∷ Two b ∷ xs) ys m e = (e, taken _ _ _ m (omega arith) e)
dup_x2_front (Two a ∷ xs) ys m e = cc

dup2_front : {V : Type 0} → Front (shuffle {V = V} Dup2)
unfolding shuffle
dup2_front [] ys m e = cc
dup2_front (One a ∷ []) ys m e = cc
dup2_front (One a ∷ One b ∷ xs) ys m e = (e, taken _ _ _ m (omega arith) e)
dup2_front (One a ∷ Two b ∷ xs) ys m e = cc
dup2_front (Two a ∷ xs) ys m e = (e, taken _ _ _ m (omega arith) e)

dup2_x1_front : {V : Type 0} → Front (shuffle {V = V} Dup2X1)
unfolding shuffle
dup2_x1_front [] ys m e = cc
dup2_x1_front (One a ∷ []) ys m e = cc
dup2_x1_front (One a ∷ One b ∷ []) ys m e = cc
dup2_x1_front (One a ∷ One b ∷ One c ∷ xs) ys m e = (e, taken _ _ _ m (omega arith) e)
dup2_x1_front (One a ∷ One b ∷ Two c ∷ xs) ys m e = cc
dup2_x1_front (One a ∷ Two b ∷ xs) ys m e = cc
dup2_x1_front (Two a ∷ []) ys m e = cc
dup2_x1_front (Two a ∷ One b ∷ xs) ys m e = (e, taken _ _ _ m (omega arith) e)
dup2_x1_front (Two a ∷ Two b ∷ xs) ys m e = cc

dup2_x2_front : {V : Type 0} → Front (shuffle {V = V} Dup2X2)
unfolding shuffle
dup2_x2_front [] ys m e = cc
dup2_x2_front (One a ∷ []) ys m e = cc
dup2_x2_front (One a ∷ One b ∷ []) ys m e = cc
dup2_x2_front (One a ∷ One b ∷ One c ∷ []) ys m e = cc
dup2_x2_front (One a ∷ One b ∷ One c ∷ One d ∷ xs) ys m e = (e, taken _ _ _ m (omega arith) e)
dup2_x2_front (One a ∷ One b ∷ One c ∷ Two d ∷ xs) ys m e = cc
dup2_x2_front (One a ∷ One b ∷ Two c ∷ xs) ys m e = (e, taken _ _ _ m (omega arith) e)
dup2_x2_front (One a ∷ Two b ∷ xs) ys m e = cc
dup2_x2_front (Two a ∷ []) ys m e = cc
dup2_x2_front (Two a ∷ One b ∷ []) ys m e = cc
dup2_x2_front (Two a ∷ One b ∷ One c ∷ xs) ys m e = (e, taken _ _ _ m (omega arith) e)
dup2_x2_front (Two a ∷ One b ∷ Two c ∷ xs) ys m e = cc
dup2_x2_front (Two a ∷ Two b ∷ xs) ys m e = (e, taken _ _ _ m (omega arith) e)

swap_front : {V : Type 0} → Front (shuffle {V = V} Swap)
unfolding shuffle
swap_front [] ys m e = cc
swap_front (One a ∷ []) ys m e = cc
swap_front (One a ∷ One b ∷ xs) ys m e = (e, taken _ _ _ m (omega arith) e)
swap_front (One a ∷ Two b ∷ xs) ys m e = cc
swap_front (Two a ∷ xs) ys m e = cc

pub shuffle_front : {V : Type 0} (s : Shuffle) → Front (shuffle {V = V} s)
unfolding shuffle
shuffle_front Pop = pop_front
shuffle_front Pop2 = pop2_front
shuffle_front Dup = dup_front
shuffle_front DupX1 = dup_x1_front
shuffle_front DupX2 = dup_x2_front
shuffle_front Dup2 = dup2_front
shuffle_front Dup2X1 = dup2_x1_front
shuffle_front Dup2X2 = dup2_x2_front
shuffle_front Swap = swap_front

-- ---- no form looks at more than four items

abbrev pub Four : {V : Type 0} → (List (Item V) → Option (Move V)) → Type 0
Four {V} f = (xs : List (Item V)) → f (take 4 xs) ≡ f xs

pop_four : {V : Type 0} → Four (shuffle {V = V} Pop)
unfolding shuffle
pop_four [] = refl
pop_four (One a ∷ xs) = refl
pop_four (Two a ∷ xs) = refl

pop2_four : {V : Type 0} → Four (shuffle {V = V} Pop2)
unfolding shuffle
pop2_four [] = refl
pop2_four (One a ∷ []) = refl
pop2_four (One a ∷ One b ∷ xs) = refl
pop2_four (One a ∷ Two b ∷ xs) = refl
pop2_four (Two a ∷ xs) = refl

dup_four : {V : Type 0} → Four (shuffle {V = V} Dup)
unfolding shuffle
dup_four [] = refl
dup_four (One a ∷ xs) = refl
dup_four (Two a ∷ xs) = refl

dup_x1_four : {V : Type 0} → Four (shuffle {V = V} DupX1)
unfolding shuffle
dup_x1_four [] = refl
dup_x1_four (One a ∷ []) = refl
dup_x1_four (One a ∷ One b ∷ xs) = refl
dup_x1_four (One a ∷ Two b ∷ xs) = refl
dup_x1_four (Two a ∷ xs) = refl

dup_x2_four : {V : Type 0} → Four (shuffle {V = V} DupX2)
unfolding shuffle
dup_x2_four [] = refl
dup_x2_four (One a ∷ []) = refl
dup_x2_four (One a ∷ One b ∷ []) = refl
dup_x2_four (One a ∷ One b ∷ One c ∷ xs) = refl
dup_x2_four (One a ∷ One b ∷ Two c ∷ xs) = refl
dup_x2_four (One a ∷ Two b ∷ xs) = refl
dup_x2_four (Two a ∷ xs) = refl

dup2_four : {V : Type 0} → Four (shuffle {V = V} Dup2)
unfolding shuffle
dup2_four [] = refl
dup2_four (One a ∷ []) = refl
dup2_four (One a ∷ One b ∷ xs) = refl
dup2_four (One a ∷ Two b ∷ xs) = refl
dup2_four (Two a ∷ xs) = refl

dup2_x1_four : {V : Type 0} → Four (shuffle {V = V} Dup2X1)
unfolding shuffle
dup2_x1_four [] = refl
dup2_x1_four (One a ∷ []) = refl
dup2_x1_four (One a ∷ One b ∷ []) = refl
dup2_x1_four (One a ∷ One b ∷ One c ∷ xs) = refl
dup2_x1_four (One a ∷ One b ∷ Two c ∷ xs) = refl
dup2_x1_four (One a ∷ Two b ∷ xs) = refl
dup2_x1_four (Two a ∷ []) = refl
dup2_x1_four (Two a ∷ One b ∷ xs) = refl
dup2_x1_four (Two a ∷ Two b ∷ xs) = refl

dup2_x2_four : {V : Type 0} → Four (shuffle {V = V} Dup2X2)
unfolding shuffle
dup2_x2_four [] = refl
dup2_x2_four (One a ∷ []) = refl
dup2_x2_four (One a ∷ One b ∷ []) = refl
dup2_x2_four (One a ∷ One b ∷ One c ∷ []) = refl
dup2_x2_four (One a ∷ One b ∷ One c ∷ One d ∷ xs) = refl
dup2_x2_four (One a ∷ One b ∷ One c ∷ Two d ∷ xs) = refl
dup2_x2_four (One a ∷ One b ∷ Two c ∷ xs) = refl
dup2_x2_four (One a ∷ Two b ∷ xs) = refl
dup2_x2_four (Two a ∷ []) = refl
dup2_x2_four (Two a ∷ One b ∷ []) = refl
dup2_x2_four (Two a ∷ One b ∷ One c ∷ xs) = refl
dup2_x2_four (Two a ∷ One b ∷ Two c ∷ xs) = refl
dup2_x2_four (Two a ∷ Two b ∷ xs) = refl

swap_four : {V : Type 0} → Four (shuffle {V = V} Swap)
unfolding shuffle
swap_four [] = refl
swap_four (One a ∷ []) = refl
swap_four (One a ∷ One b ∷ xs) = refl
swap_four (One a ∷ Two b ∷ xs) = refl
swap_four (Two a ∷ xs) = refl

pub shuffle_four : {V : Type 0} (s : Shuffle) → Four (shuffle {V = V} s)
unfolding shuffle
shuffle_four Pop = pop_four
shuffle_four Pop2 = pop2_four
shuffle_four Dup = dup_four
shuffle_four DupX1 = dup_x1_four
shuffle_four DupX2 = dup_x2_four
shuffle_four Dup2 = dup2_four
shuffle_four Dup2X1 = dup2_x1_four
shuffle_four Dup2X2 = dup2_x2_four
shuffle_four Swap = swap_four
