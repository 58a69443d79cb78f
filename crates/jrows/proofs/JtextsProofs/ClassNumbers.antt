-- Classes of the library by their numbers.
use Rattle.std.proofs.Common.{◌≡◌, ◌∙◌, ℕ, zero, suc, ◌+◌, ◌<◌, Bool, true, false, List, [], ◌∷◌, length, refl, ap, arith}
use Rattle.std.specs.Prelude.{slice_get, unwrap_or, if◌then◌else◌}
use Rattle.jlib.specs.declared.classes.LibClass.{LibClass}
use Rattle.jlib.specs.declared.classes.LibClass.TheVariants as lib
use Rattle.jruntime.specs.jstate.ClassNumbers.{library_at, library_classes, library_count}

-- what is said of the classes of a list is what a test says of their places, counted from a number
abbrev pub agrees : (LibClass → Bool) → (ℕ → Bool) → ℕ → List LibClass → Bool
agrees has said n [] = true
agrees has said n (c ∷ cs) = if has c then (if said n then agrees has said (suc n) cs else false) else (if said n then false else agrees has said (suc n) cs)

same : (a b r : Bool) → (if a then (if b then r else false) else (if b then false else r)) ≡ true → a ≡ b
same true true r e = refl
same true false r e = cc
same false true r e = cc
same false false r e = refl

rest : (a b r : Bool) → (if a then (if b then r else false) else (if b then false else r)) ≡ true → r ≡ true
rest true true r e = e
rest true false r e = cc
rest false true r e = cc
rest false false r e = e

at_each : (has : LibClass → Bool) (said : ℕ → Bool) (cs : List LibClass) (n k : ℕ) → agrees has said n cs ≡ true → k < length cs
    → has (unwrap_or (slice_get cs k) lib.Object) ≡ said (k + n)
at_each has said [] n k all h = absurd (omega (arith, h))
at_each has said (c ∷ cs) n zero all h = let here : n ≡ 0 + n = omega arith in same (has c) (said n) (agrees has said (suc n) cs) all ∙ ap said here
at_each has said (c ∷ cs) n (suc k) all h =
    let behind = rest (has c) (said n) (agrees has said (suc n) cs) all in
    let moved : k + suc n ≡ suc k + n = omega arith in
    at_each has said cs (suc n) k behind (omega (arith, h)) ∙ ap said moved

pub at_number : (has : LibClass → Bool) (said : ℕ → Bool) → agrees has said 0 library_classes ≡ true → (k : ℕ) → k < library_count
    → has (library_at k) ≡ said k
at_number has said all k h = let none : k + 0 ≡ k = omega arith in at_each has said library_classes 0 k all h ∙ ap said none
