-- What is put behind others, and the lines that it stands for.
use Rattle.std.proofs.Common.{◌≡◌, ℕ, ◌+◌, ◌<◌, ◌≤◌, List, [], ◌∷◌, ◌++◌, map, length, get_or, drop, ap, ◌∙◌, sym, subst, arith, append_assoc, Result, Ok, Err}
use Rattle.std.specs.Prelude.{OnOk}
use Rattle.std.proofs.lemmas.List.{drop_more}
use Rattle.jparts.specs.declared.jcode.op.Op.{Op}
use Rattle.jparts.specs.declared.jcode.op.Placed.{Placed}
use Rattle.jparts.specs.jcode.Instructions.{size, placed_at}
use Rattle.jmove.specs.AssemblyLines.{Do, reach, led, placed}

on_ok : {T E : Type 0} (P Q : Type 0) (r : Result T E) → (P → Q) → OnOk r P → OnOk r Q
on_ok P Q (Ok x) f h = f h
on_ok P Q (Err e) f h = tt

-- two instructions, one behind the other
pub two_put : {T E : Type 0} (at k : ℕ) (a b : Op) (old mid new : List Placed) (r : Result T E) → size at a ≡ k → mid ≡ old ++ placed_at at a ∷ [] → OnOk r (new ≡ mid ++ placed_at (at + k) b ∷ [])
    → OnOk r (new ≡ old ++ placed_at at a ∷ placed_at (at + size at a) b ∷ [])
two_put at k a b old mid new r wide first =
    on_ok _ _ r (λ (e : new ≡ mid ++ placed_at (at + k) b ∷ []).
    e ∙ ap (λ (l : List Placed). l ++ placed_at (at + k) b ∷ []) first ∙ append_assoc old (placed_at at a ∷ []) (placed_at (at + k) b ∷ [])
    ∙ ap (λ (n : ℕ). old ++ placed_at at a ∷ placed_at (at + n) b ∷ []) (sym wide))

-- ---- what a body begins with

reach_above : (at : ℕ) (os : List Op) → at ≤ reach at os
reach_above at [] = omega arith
reach_above at (o ∷ os) = omega (arith, reach_above (at + size at o) os)

pub next_reach : (os : List Op) (i at n : ℕ) (o : Op) → i < length os → o ≡ get_or os i o → reach at (drop i os) ≡ n → reach (at + size at o) (drop (i + 1) os) ≡ n
next_reach os i at n o h is_o same =
    subst (λ (x : Op). reach (at + size at x) (drop (i + 1) os) ≡ n) (sym is_o) (sym (ap (reach at) (drop_more os i o h)) ∙ same)

pub still_near : (os : List Op) (i at n : ℕ) (o : Op) → i < length os → o ≡ get_or os i o → reach at (drop i os) ≡ n → at + size at o ≤ n
still_near os i at n o h is_o same = omega (arith, next_reach os i at n o h is_o same, reach_above (at + size at o) (drop (i + 1) os))

-- one more of what a body begins with is put
pub next_put : (f : ℕ → ℕ) (q : ℕ) (os : List Op) (i at : ℕ) (out all : List Placed) (o : Op) → i < length os → o ≡ get_or os i o
    → out ++ placed f at (map (Do q) (drop i os)) ≡ all → (out ++ placed_at at (led f q at o) ∷ []) ++ placed f (at + size at o) (map (Do q) (drop (i + 1) os)) ≡ all
next_put f q os i at out all o h is_o same =
    subst (λ (x : Op). (out ++ placed_at at (led f q at x) ∷ []) ++ placed f (at + size at x) (map (Do q) (drop (i + 1) os)) ≡ all) (sym is_o)
    (append_assoc out (placed_at at (led f q at (get_or os i o)) ∷ []) (placed f (at + size at (get_or os i o)) (map (Do q) (drop (i + 1) os)))
    ∙ sym (ap (λ (l : List Op). out ++ placed f at (map (Do q) l)) (drop_more os i o h)) ∙ same)
