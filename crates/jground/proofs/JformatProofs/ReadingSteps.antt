-- One step of a reading behind another, and bytes that stay bytes.
use Rattle.std.proofs.Common.{◌≡◌, ℕ, suc, ◌+◌, ◌≤◌, Bool, true, false, ◌&&◌, ◌⊎◌, cond, List, ◌∷◌, length, take, drop, Option, Some, None, Result, Ok, Err, refl, ap, subst, arith, inl, inr}
use Rattle.std.specs.Prelude.{IsTrue}
use Rattle.std.proofs.lemmas.Bool.{cases_lt}
use Rattle.std.proofs.lemmas.List.{get_or-drop, get_or-take, get_or_past, length-take}
use Rattle.jground.specs.jbase.MemoryFailures.{◌>>=◌}
use Rattle.jground.specs.declared.jformat.error.Fault.{Fault}
use Rattle.jground.specs.jformat.Format.{IsBytes, passed, is_good, unless_fault}
use Rattle.jground.specs.ProofNames.{fault_at}

pub IsBytes-drop : (n : ℕ) (bytes : List ℕ) → IsBytes bytes → IsBytes (drop n bytes)
IsBytes-drop n bytes h i = rw get_or-drop (h (n + i))

pub IsBytes-take : (n : ℕ) (bytes : List ℕ) → IsBytes bytes → IsBytes (take n bytes)
IsBytes-take n bytes h i =
    elim (cases_lt i n) [
      | inl lt ↦ rw (get_or-take n bytes i 0 lt) (h i)
      | inr le ↦ rw (get_or_past (take n bytes) i 0 (omega (arith, length-take n bytes))) (omega arith)
    ]

pub IsBytes-rest : (b : ℕ) (bytes : List ℕ) → IsBytes (b ∷ bytes) → IsBytes bytes
IsBytes-rest b bytes h i = h (suc i)

pub bind_ok : {A B F : Type 0} (r : Result A F) (f : A → Result B F) (y : B) → (r >>= f) ≡ Ok y → (x : A) × (r ≡ Ok x) × (f x ≡ Ok y)
bind_ok (Ok x) f y e = (x, refl, e)
bind_ok (Err d) f y e = absurd cc

pub bind_err : {A B F : Type 0} (r : Result A F) (f : A → Result B F) (d : F) → (r >>= f) ≡ Err d → (r ≡ Err d) ⊎ ((x : A) × (r ≡ Ok x) × (f x ≡ Err d))
bind_err (Ok x) f d e = inr (x, refl, e)
bind_err {A} {B} {F} (Err c) f d e = let same : c ≡ d = cc in inl (ap (λ (y : F). Err y) same)

pub guard_ok : {A F : Type 0} (b : Bool) (d : F) (x y : A) → cond b (Err d) (Ok x) ≡ Ok y → (b ≡ false) × (x ≡ y)
guard_ok true d x y e = absurd cc
guard_ok false d x y e = (refl, cc)

pub guard_err : {A F : Type 0} (b : Bool) (c d : F) (x : A) → cond b (Err c) (Ok x) ≡ Err d → c ≡ d
guard_err true c d x e = cc
guard_err false c d x e = absurd cc

pub guard_ended : {A F : Type 0} (b : Bool) (d : F) (x y : A) → cond b (Ok x) (Err d) ≡ Ok y → (b ≡ true) × (x ≡ y)
guard_ended true d x y e = (refl, cc)
guard_ended false d x y e = absurd cc

pub guard_cut : {A F : Type 0} (b : Bool) (c d : F) (x : A) → cond b (Ok x) (Err c) ≡ Err d → c ≡ d
guard_cut true c d x e = absurd cc
guard_cut false c d x e = cc

abbrev pub done : (F : Type 0) {A : Type 0} → A → Result A F
done F x = Ok x

pub ok_is : {A : Type 0} (F : Type 0) (x y : A) → done F x ≡ done F y → x ≡ y
ok_is F x y e = cc

pub both : (a b : Bool) → IsTrue a → IsTrue b → IsTrue (a && b)
both a b p q = rw (p, q) refl

pub first_true : (a b : Bool) → IsTrue (a && b) → IsTrue a
first_true true b h = refl
first_true false b h = h

pub second_true : (a b : Bool) → IsTrue (a && b) → IsTrue b
second_true true b h = h
second_true false b h = absurd cc

-- a fault where a part of the bytes is left stands within them
pub fault_within : {K : Type 0} (kind : K) (bytes outer : List ℕ) (d : Fault K) → length bytes ≤ length outer → fault_at kind bytes ≡ d → d.left ≤ length outer
fault_within {K} kind bytes outer d le e = subst (λ (y : Fault K). y.left ≤ length outer) e le

pub passed_ok : {K A : Type 0} (o : Option K) (bytes : List ℕ) (x y : A × List ℕ) → passed o bytes x ≡ Ok y → (is_good o ≡ true) × (x ≡ y)
passed_ok None bytes x y e = (refl, cc)
passed_ok (Some k) bytes x y e = absurd cc

pub passed_none : {K A : Type 0} (o : Option K) (bytes : List ℕ) (x : A × List ℕ) → is_good o ≡ true → passed o bytes x ≡ Ok x
passed_none None bytes x e = refl
passed_none (Some k) bytes x e = absurd cc

pub passed_err : {K A : Type 0} (o : Option K) (bytes : List ℕ) (x : A × List ℕ) (d : Fault K) → passed o bytes x ≡ Err d → d.left ≤ length bytes
passed_err None bytes x d e = absurd cc
passed_err (Some k) bytes x d e = fault_within k bytes bytes d (omega arith) cc

pub unless_ok : {K A : Type 0} (x y : A) (o : Option (Fault K)) → unless_fault x o ≡ Ok y → (o ≡ None) × (x ≡ y)
unless_ok x y None e = (refl, cc)
unless_ok x y (Some d) e = absurd cc

pub unless_err : {K A : Type 0} (x : A) (d : Fault K) (o : Option (Fault K)) → unless_fault x o ≡ Err d → o ≡ Some d
unless_err x d None e = absurd cc
unless_err x d (Some c) e = cc
