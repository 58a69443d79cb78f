-- The package of a name, as a loop finds it that goes from the last byte to the first.
use Rattle.std.proofs.Common.{◌≡◌, ℕ, zero, suc, ◌-◌, ◌≤◌, ◌<◌, Bool, true, false, ◌||◌, List, [], ◌∷◌, length, get_or, take, drop, refl, sym, ap, ◌∙◌, arith}
use Rattle.std.specs.List.{list_any}
use Rattle.jparts.specs.jpool.ClassNames.{is_slash}
use Rattle.jresolution.specs.jprogram.ClassFileParts.{package_of}

any_true : (b : Bool) → b ≡ true → (c : Bool) → (c || b) ≡ true
any_true b e true = refl
any_true b e false = e

-- a slash stands behind what is in front of it
slash_behind : (name : List ℕ) (i : ℕ) → i < length name → is_slash (get_or name i 0) ≡ true → list_any is_slash name ≡ true
slash_behind [] i lt is = absurd (omega arith)
slash_behind (b ∷ rest) zero lt is = rw is refl
slash_behind (b ∷ rest) (suc i) lt is = any_true (list_any is_slash rest) (slash_behind rest i (omega arith) is) (is_slash b)

none_behind : (a b : Bool) → (a || b) ≡ false → b ≡ false
none_behind true b e = absurd cc
none_behind false b e = e

pub package_none : (name : List ℕ) → list_any is_slash name ≡ false → package_of name ≡ []
unfolding package_of
package_none [] none = refl
package_none (b ∷ rest) none = rw (none_behind (is_slash b) (list_any is_slash rest) none) refl

pub package_front : (name : List ℕ) (i : ℕ) → i < length name → is_slash (get_or name i 0) ≡ true → list_any is_slash (drop (suc i) name) ≡ false → package_of name ≡ take i name
unfolding package_of
package_front [] i lt is none = absurd (omega arith)
package_front (b ∷ rest) zero lt is none = rw none refl
package_front (b ∷ rest) (suc i) lt is none =
    let any = slash_behind rest i (omega arith) is in
    rw any (ap (λ (front : List ℕ). b ∷ front) (package_front rest i (omega arith) is none))

-- the loop stands at the last slash
pub package_at : (name : List ℕ) (end : ℕ) → 0 < end → end ≤ length name → list_any is_slash (drop end name) ≡ false → get_or name (end - 1) 0 ≡ 47 → take (end - 1) name ≡ package_of name
package_at name zero lt le none is = absurd (omega arith)
package_at name (suc i) lt le none is =
    let e : suc i - 1 ≡ i = omega arith in
    let here : get_or name i 0 ≡ 47 = sym (ap (λ (k : ℕ). get_or name k 0) e) ∙ is in
    let slash : is_slash (get_or name i 0) ≡ true = rw here refl in
    rw e (sym (package_front name i (omega arith) slash none))

-- or it has gone through all
pub package_end : (name : List ℕ) (end : ℕ) → end ≤ 0 → list_any is_slash (drop end name) ≡ false → [] ≡ package_of name
package_end name zero le none = sym (package_none name none)
package_end name (suc i) le none = absurd (omega arith)
