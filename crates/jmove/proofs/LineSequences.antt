-- Lines one behind the other.
use Rattle.std.proofs.Common.{◌≡◌, ℕ, ◌+◌, ◌<◌, ◌≤◌, List, [], ◌∷◌, ◌++◌, map, length, get_or, drop, refl, ap, ap₂, ◌∙◌, sym, subst, arith, append_assoc}
use Rattle.std.proofs.lemmas.List.{drop_more, drop_all}
use Rattle.jparts.specs.declared.jcode.op.Op.{Op}
use Rattle.jparts.specs.declared.jcode.op.Placed.{Placed}
use Rattle.jparts.specs.jcode.Instructions.{size, placed_at}
use Rattle.jmove.specs.declared.method.Expand.{Expand}
use Rattle.jmove.specs.declared.method.Setting.{Setting}
use Rattle.jmove.specs.AssemblyLines.{Line, Label, Do, reach, end_of, place_of, led, placed}
use Rattle.jmove.specs.MethodExpansion.{expansion, expansions}

pub end_reach : (at q : ℕ) (os : List Op) (ys : List Line) → end_of at (map (Do q) os ++ ys) ≡ end_of (reach at os) ys
end_reach at q [] ys = refl
end_reach at q (o ∷ os) ys = end_reach (at + size at o) q os ys

-- no label stands among instructions alone
pub place_skip : (old at q : ℕ) (os : List Op) (ys : List Line) → place_of old at (map (Do q) os ++ ys) ≡ place_of old (reach at os) ys
place_skip old at q [] ys = refl
place_skip old at q (o ∷ os) ys = place_skip old (at + size at o) q os ys

pub placed_append : (f : ℕ → ℕ) (at q : ℕ) (os : List Op) (ys : List Line) → placed f at (map (Do q) os ++ ys) ≡ placed f at (map (Do q) os) ++ placed f (reach at os) ys
placed_append f at q [] ys = refl
placed_append f at q (o ∷ os) ys = ap (λ (l : List Placed). placed_at at (led f q at o) ∷ l) (placed_append f (at + size at o) q os ys)

pub end_above : (at : ℕ) (xs : List Line) → at ≤ end_of at xs
end_above at [] = omega arith
end_above at (Label q ∷ xs) = end_above at xs
end_above at (Do q o ∷ xs) = omega (arith, end_above (at + size at o) xs)

-- an instruction's expansion
abbrev pub one : Setting → Expand → Placed → List Line
one s k i = map (Do i.at) (expansion s k i.op)

-- the next expansion
pub one_more : (s : Setting) (ks : List Expand) (is : List Placed) (i : ℕ) (k : Expand) (x : Placed) → i < length is → length ks ≡ length is → x ≡ get_or is i x
    → expansions s (drop i ks) (drop i is) ≡ Label x.at ∷ (one s (get_or ks i k) x ++ expansions s (drop (i + 1) ks) (drop (i + 1) is))
one_more s ks is i k x h e is_x =
    subst (λ (y : Placed). expansions s (drop i ks) (drop i is) ≡ Label y.at ∷ (one s (get_or ks i k) y ++ expansions s (drop (i + 1) ks) (drop (i + 1) is))) (sym is_x)
    (ap₂ (expansions s) (drop_more ks i k (omega arith)) (drop_more is i x h))

pub no_more : (s : Setting) (ks : List Expand) (is : List Placed) (i : ℕ) → length ks ≤ i → expansions s (drop i ks) (drop i is) ≡ []
no_more s ks is i h = ap (λ l. expansions s l (drop i is)) (drop_all i ks h)

-- what an expansion reaches, within what the whole code reaches
pub within : (s : Setting) (ks : List Expand) (is : List Placed) (i at n : ℕ) (k : Expand) (x : Placed) → i < length is → length ks ≡ length is → x ≡ get_or is i x
    → end_of at (expansions s (drop i ks) (drop i is)) ≡ n → reach at (expansion s (get_or ks i k) x.op) ≤ n
within s ks is i at n k x h e is_x same =
    let os = expansion s (get_or ks i k) x.op in
    let rest = expansions s (drop (i + 1) ks) (drop (i + 1) is) in
    omega (arith, sym same ∙ ap (end_of at) (one_more s ks is i k x h e is_x), end_reach at x.at os rest, end_above (reach at os) rest)

-- and the rest goes on behind it
pub same_end : (s : Setting) (ks : List Expand) (is : List Placed) (i at n : ℕ) (k : Expand) (x : Placed) → i < length is → length ks ≡ length is → x ≡ get_or is i x
    → end_of at (expansions s (drop i ks) (drop i is)) ≡ n → end_of (reach at (expansion s (get_or ks i k) x.op)) (expansions s (drop (i + 1) ks) (drop (i + 1) is)) ≡ n
same_end s ks is i at n k x h e is_x same =
    let os = expansion s (get_or ks i k) x.op in
    let rest = expansions s (drop (i + 1) ks) (drop (i + 1) is) in
    sym (end_reach at x.at os rest) ∙ sym (ap (end_of at) (one_more s ks is i k x h e is_x)) ∙ same

pub placed_more : (f : ℕ → ℕ) (s : Setting) (ks : List Expand) (is out : List Placed) (i at : ℕ) (all : List Placed) (k : Expand) (x : Placed) → i < length is → length ks ≡ length is → x ≡ get_or is i x
    → out ++ placed f at (expansions s (drop i ks) (drop i is)) ≡ all
    → (out ++ placed f at (one s (get_or ks i k) x)) ++ placed f (reach at (expansion s (get_or ks i k) x.op)) (expansions s (drop (i + 1) ks) (drop (i + 1) is)) ≡ all
placed_more f s ks is out i at all k x h e is_x same =
    let os = expansion s (get_or ks i k) x.op in
    let rest = expansions s (drop (i + 1) ks) (drop (i + 1) is) in
    append_assoc out (placed f at (map (Do x.at) os)) (placed f (reach at os) rest)
    ∙ ap (λ (l : List Placed). out ++ l) (sym (placed_append f at x.at os rest) ∙ sym (ap (placed f at) (one_more s ks is i k x h e is_x)))
    ∙ same
