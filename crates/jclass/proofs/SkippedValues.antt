-- Going over values without keeping them leads to the same place, or to the same fault.
use Rattle.std.proofs.Common.{◌≡◌, ℕ, zero, suc, List, ◌∷◌, Ok, Err, refl}
use Rattle.jground.specs.jbase.MemoryFailures.{◌>>=◌}
use Rattle.jground.specs.jformat.Format.{Answer}
use Rattle.jground.specs.jformat.BodyFormats.{times_at, counted_at}
use Rattle.jclass.specs.IndexFormats.{unseen}

-- what is done with the values doesn't count
made_unseen : {K A B C D : Type 0} (p : Answer K A) (q : Answer K B) (f : A → C) (g : B → D) → unseen p ≡ unseen q → unseen (p >>= λ y. Ok (f y.0, y.1)) ≡ unseen (q >>= λ y. Ok (g y.0, y.1))
made_unseen (Ok y) (Ok z) f g e = e
made_unseen (Ok y) (Err d) f g e = absurd cc
made_unseen (Err d) (Ok z) f g e = absurd cc
made_unseen (Err d) (Err c) f g e = e

one_more : {K A : Type 0} (r : Answer K A) (f : List ℕ → Answer K (List (Unit {0}))) (g : List ℕ → Answer K (List A)) → ((bytes : List ℕ) → unseen (f bytes) ≡ unseen (g bytes))
    → unseen (unseen r >>= λ x. f x.1 >>= λ y. Ok (x.0 ∷ y.0, y.1)) ≡ unseen (r >>= λ x. g x.1 >>= λ y. Ok (x.0 ∷ y.0, y.1))
one_more (Ok x) f g same = made_unseen (f x.1) (g x.1) (λ ys. tt ∷ ys) (λ ys. x.0 ∷ ys) (same x.1)
one_more (Err d) f g same = refl

times_unseen : {K A : Type 0} (read : List ℕ → Answer K A) (n : ℕ) (bytes : List ℕ) → unseen (times_at (λ b. unseen (read b)) n bytes) ≡ unseen (times_at read n bytes)
unfolding times_at
times_unseen read zero bytes = refl
times_unseen read (suc n) bytes = one_more (read bytes) (times_at (λ b. unseen (read b)) n) (times_at read n) (times_unseen read n)

then_times : {K A : Type 0} (r : Answer K ℕ) (read : List ℕ → Answer K A) → unseen (r >>= λ n. times_at (λ b. unseen (read b)) n.0 n.1) ≡ unseen (r >>= λ n. times_at read n.0 n.1)
then_times (Ok n) read = times_unseen read n.0 n.1
then_times (Err d) read = refl

pub counted_unseen : {K A : Type 0} (count : List ℕ → Answer K ℕ) (read : List ℕ → Answer K A) (bytes : List ℕ) → unseen (counted_at count (λ b. unseen (read b)) bytes) ≡ unseen (counted_at count read bytes)
counted_unseen count read bytes = then_times (count bytes) read
