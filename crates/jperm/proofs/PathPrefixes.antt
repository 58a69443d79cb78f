-- Texts that begin with a directory and a slash.
use Rattle.std.proofs.Common.{◌≡◌, ℕ, ◌<◌, ◌+◌, Bool, true, false, ◌&&◌, List, [], ◌∷◌, ◌++◌, length, get_or, nat_eq, nat_lt, refl, ap, ◌∙◌, arith, ◌≤◌, length-append}
use Rattle.std.specs.List.{starts_with}
use Rattle.std.proofs.lemmas.Bool.Decides.{nat_tests}
use Rattle.jperm.specs.NameCoverage.{goes_on}

eq_comm : (a b : ℕ) → nat_eq a b ≡ nat_eq b a
eq_comm a b = grind (arith, nat_tests)

true_when : (b : Bool) → (b && true) ≡ b
true_when true = refl
true_when false = refl

and_assoc : (a b c : Bool) → (a && (b && c)) ≡ ((a && b) && c)
and_assoc true b c = refl
and_assoc false b c = refl

-- a text begins with a directory and a unit where it begins with the directory and the unit follows
starts_with-push : (dir path : List ℕ) (u : ℕ) → length dir < length path
    → starts_with nat_eq path (dir ++ u ∷ []) ≡ (starts_with nat_eq path dir && nat_eq (get_or path (length dir) 0) u)
starts_with-push [] [] u h = absurd (omega arith)
starts_with-push [] (x ∷ path) u h = true_when (nat_eq u x) ∙ eq_comm u x
starts_with-push (d ∷ dir) [] u h = absurd (omega arith)
starts_with-push (d ∷ dir) (x ∷ path) u h =
    ap (λ b. nat_eq d x && b) (starts_with-push dir path u (omega arith))
    ∙ and_assoc (nat_eq d x) (starts_with nat_eq path dir) (nat_eq (get_or path (length dir) 0) u)

and_false : (a b : Bool) → b ≡ false → (a && b) ≡ false
and_false true b h = h
and_false false b h = refl

and_with : (a b : Bool) → b ≡ true → (a && b) ≡ a
and_with true b h = h
and_with false b h = refl

-- a short text does not go on behind a directory and a slash
pub goes_on-short : (dir path : List ℕ) (u : ℕ) → length path ≤ length dir + 1 → goes_on (dir ++ u ∷ []) path ≡ false
goes_on-short dir path u h =
    and_false (starts_with nat_eq path (dir ++ u ∷ [])) (nat_lt (length (dir ++ u ∷ [])) (length path))
    (let n = length-append dir (u ∷ []) in rw n (grind (arith, nat_tests)))

-- a longer one does where it begins with the directory and has the slash there
pub goes_on-long : (dir path : List ℕ) (u : ℕ) → length dir + 1 < length path
    → goes_on (dir ++ u ∷ []) path ≡ (starts_with nat_eq path dir && nat_eq (get_or path (length dir) 0) u)
goes_on-long dir path u h =
    and_with (starts_with nat_eq path (dir ++ u ∷ [])) (nat_lt (length (dir ++ u ∷ [])) (length path))
    (let n = length-append dir (u ∷ []) in rw n (grind (arith, nat_tests)))
    ∙ starts_with-push dir path u (omega arith)

pub ruleset behind = (goes_on-short, goes_on-long)
