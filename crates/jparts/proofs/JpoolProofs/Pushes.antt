-- Where the first item that passes stands, in a list with one more item behind the others.
use Rattle.std.proofs.Common.{◌≡◌, ℕ, suc, ◌+◌, Bool, true, false, cond, List, [], ◌∷◌, ◌++◌, length, Option, Some, None, refl, sym, ap, ◌∙◌, arith}
use Rattle.std.specs.List.{position, position_from}
use Rattle.std.specs.Option.{option_or}
use Rattle.std.proofs.lemmas.Iterator.Adapters.{position_from-zero}

-- the first, or else the second
pub one_more : (b : Bool) (i : ℕ) (found later rest : Option ℕ) → rest ≡ option_or found later → cond b (Some i) rest ≡ option_or (cond b (Some i) found) later
one_more true i found later rest h = refl
one_more false i found later rest h = h

from_push : {X : Type 0} (p : X → Bool) (i : ℕ) (xs : List X) (x : X) → position_from p i (xs ++ x ∷ []) ≡ option_or (position_from p i xs) (cond (p x) (Some (i + length xs)) None)
from_push p i [] x = let n : i ≡ i + 0 = omega arith in ap (λ (k : ℕ). cond (p x) (Some k) None) n
from_push p i (y ∷ ys) x =
    let n : i + 1 + length ys ≡ i + suc (length ys) = omega arith in
    let later = from_push p (i + 1) ys x ∙ ap (λ (k : ℕ). option_or (position_from p (i + 1) ys) (cond (p x) (Some k) None)) n in
    one_more (p y) i (position_from p (i + 1) ys) (cond (p x) (Some (i + suc (length ys))) None) (position_from p (i + 1) (ys ++ x ∷ [])) later

pub position_push : {X : Type 0} (p : X → Bool) (xs : List X) (x : X) → position p (xs ++ x ∷ []) ≡ option_or (position p xs) (cond (p x) (Some (length xs)) None)
position_push p xs x =
    let n : 0 + length xs ≡ length xs = omega arith in
    position_from-zero p (xs ++ x ∷ []) ∙ from_push p 0 xs x
    ∙ ap (λ (k : ℕ). option_or (position_from p 0 xs) (cond (p x) (Some k) None)) n
    ∙ ap (λ (o : Option ℕ). option_or o (cond (p x) (Some (length xs)) None)) (sym (position_from-zero p xs))

pub or_none : (o : Option ℕ) → option_or o None ≡ o
or_none None = refl
or_none (Some i) = refl
