-- Texts with a slash behind them.
use Rattle.std.proofs.Common.{◌≡◌, ℕ, ◌-◌, Bool, true, false, ◌&&◌, List, [], ◌∷◌, ◌++◌, length, take, drop, refl, ap, sym, ◌∙◌, codes, arith, length-append}
use Rattle.std.specs.Str.{bytes_eq}
use Rattle.std.specs.Prelude.{nat_eq}
use Rattle.std.proofs.lemmas.List.{take-append-drop}
use Rattle.std.proofs.Math.Seq.{drop-append_seam}
use Rattle.std.proofs.lemmas.Slice.Eq.{bytes_eq-Decides}

and_false : (b : Bool) → (b && false) ≡ false
and_false true = refl
and_false false = refl

-- a slash behind both texts changes nothing
same_with_slash : (path front : List ℕ) → bytes_eq (path ++ codes "/") (front ++ codes "/") ≡ bytes_eq path front
same_with_slash [] [] = refl
same_with_slash [] (y ∷ []) = and_false (nat_eq 47 y)
same_with_slash [] (y ∷ z ∷ ys) = and_false (nat_eq 47 y)
same_with_slash (x ∷ []) [] = and_false (nat_eq x 47)
same_with_slash (x ∷ z ∷ xs) [] = and_false (nat_eq x 47)
same_with_slash (x ∷ xs) (y ∷ ys) = ap (λ b. nat_eq x y && b) (same_with_slash xs ys)

-- the last item of a text with a slash behind it
last_slash : (path : List ℕ) → drop (length (path ++ codes "/") - 1) (path ++ codes "/") ≡ codes "/"
last_slash path =
    let len : length (path ++ codes "/") - 1 ≡ length path = rw length-append (omega arith) in
    ap (λ n. drop n (path ++ codes "/")) len ∙ drop-append_seam path (codes "/")

-- a text with a slash behind it is a directory where the text is the directory less its slash
pub with_slash : (path directory front : List ℕ)
    → bytes_eq (drop (length directory - 1) directory) (codes "/") ≡ true
    → front ≡ take (length directory - 1) directory
    → bytes_eq path front ≡ bytes_eq (path ++ codes "/") directory
with_slash path directory front last is =
    let end : drop (length directory - 1) directory ≡ codes "/" = (bytes_eq-Decides _ _).0 last in
    let whole : front ++ codes "/" ≡ directory =
    ap (λ t. t ++ codes "/") is ∙ ap (λ t. take (length directory - 1) directory ++ t) (sym end) ∙ take-append-drop (length directory - 1) directory in
    sym (same_with_slash path front) ∙ ap (λ t. bytes_eq (path ++ codes "/") t) whole

by_value : (path directory : List ℕ) (b : Bool) → bytes_eq (path ++ codes "/") directory ≡ b
    → bytes_eq (drop (length directory - 1) directory) (codes "/") ≡ false
    → false ≡ b
by_value path directory false is other = refl
by_value path directory true is other =
    let whole : path ++ codes "/" ≡ directory = (bytes_eq-Decides _ _).0 is in
    let end : drop (length directory - 1) directory ≡ codes "/" =
    ap (λ t. drop (length t - 1) t) (sym whole) ∙ last_slash path in
    sym other ∙ (bytes_eq-Decides _ _).1 end

-- a text with a slash behind it is none that doesn't end in a slash
pub without_slash : (path directory : List ℕ)
    → bytes_eq (drop (length directory - 1) directory) (codes "/") ≡ false
    → false ≡ bytes_eq (path ++ codes "/") directory
without_slash path directory other =
    by_value path directory (bytes_eq (path ++ codes "/") directory) refl other
