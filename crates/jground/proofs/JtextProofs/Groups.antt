-- The laws of a unit's group, and of a text.
use Rattle.std.proofs.Common.{◌≡◌, ℕ, zero, suc, ◌+◌, ◌-◌, ◌*◌, ◌/◌, ◌%◌, ◌<◌, ◌≤◌, Bool, true, false, ◌&&◌, ◌||◌, ◌⊎◌, cond, ltb, leb, eqb, List, [], ◌∷◌, ◌++◌, length, Ok, Err, refl, sym, ap, subst, ◌∙◌, arith, inl, inr}
use Rattle.std.specs.Prelude.{IsTrue}
use Rattle.std.specs.List.{flat_map, list_all}
use Rattle.std.proofs.lemmas.Bool.{cases_Bool, ltb-true, ltb-false, leb-true, le-leb, lt-ltb, le-ltb, eqb-true}
use Rattle.jground.specs.declared.jformat.error.Fault.{Fault}
use Rattle.jground.specs.jformat.Format.{IsBytes, fault}
use Rattle.jground.specs.ProofNames.{fault_at}
use Rattle.jground.proofs.JformatProofs.ReadingSteps.{IsBytes-rest, ok_is, first_true, second_true, both, fault_within}
use Rattle.jground.proofs.JformatProofs.FormatLaws.{IsFormat}
use Rattle.jground.proofs.JformatProofs.Blocks.{IsBody, many_law}
use Rattle.jground.specs.jtext.Modified.{group, goes_on, two, three, two_at, three_at, unit_at, unit, text}

-- ---- numbers

not_zero : (u : ℕ) → 1 ≤ u → eqb u 0 ≡ false
not_zero u le = grind arith

-- ---- groups of one, two and three bytes

one_byte : (u : ℕ) → 0 < u → u < 128 → group u ≡ u ∷ []
one_byte u lt lt' =
    let a : eqb u 0 ≡ false = not_zero u (omega arith) in
    let b : ltb u 128 ≡ true = lt-ltb _ _ lt' in
    rw (a, b) refl

two_bytes : (u : ℕ) → 128 ≤ u → u < 2048 → group u ≡ (192 + u / 64) ∷ (128 + u % 64) ∷ []
two_bytes u le lt =
    let a : eqb u 0 ≡ false = not_zero u (omega arith) in
    let b : ltb u 128 ≡ false = le-ltb _ _ le in
    let c : ltb u 2048 ≡ true = lt-ltb _ _ lt in
    rw (a, b, c) refl

three_bytes : (u : ℕ) → 2048 ≤ u → group u ≡ (224 + u / 4096) ∷ (128 + u / 64 % 64) ∷ (128 + u % 64) ∷ []
three_bytes u le =
    let a : eqb u 0 ≡ false = not_zero u (omega arith) in
    let b : ltb u 128 ≡ false = le-ltb _ _ (omega arith) in
    let c : ltb u 2048 ≡ false = le-ltb _ _ le in
    rw (a, b, c) refl

-- what two bytes that may be a group are
group_of_two : (a b : ℕ) → 192 ≤ a → a < 224 → 128 ≤ b → b < 192 → (u : ℕ) → u ≡ (a - 192) * 64 + (b - 128) → (u ≡ 0) ⊎ (128 ≤ u) → group u ≡ a ∷ b ∷ []
group_of_two a b a1 a2 b1 b2 u is (inl none) =
    let ea : a ≡ 192 = omega arith in
    let eb : b ≡ 128 = omega arith in
    rw (none, ea, eb) refl
group_of_two a b a1 a2 b1 b2 u is (inr le) =
    let ea : 192 + u / 64 ≡ a = omega arith in
    let eb : 128 + u % 64 ≡ b = omega arith in
    two_bytes u le (omega arith) ∙ ap (λ (x : ℕ). x ∷ (128 + u % 64) ∷ []) ea ∙ ap (λ (x : ℕ). a ∷ x ∷ []) eb

group_of_three : (a b c : ℕ) → 224 ≤ a → a < 240 → 128 ≤ b → b < 192 → 128 ≤ c → c < 192 → (u : ℕ) → u ≡ (a - 224) * 4096 + (b - 128) * 64 + (c - 128) → 2048 ≤ u → group u ≡ a ∷ b ∷ c ∷ []
group_of_three a b c a1 a2 b1 b2 c1 c2 u is le =
    let ea : 224 + u / 4096 ≡ a = omega arith in
    let eb : 128 + u / 64 % 64 ≡ b = omega arith in
    let ec : 128 + u % 64 ≡ c = omega arith in
    three_bytes u le ∙ ap (λ (x : ℕ). x ∷ (128 + u / 64 % 64) ∷ (128 + u % 64) ∷ []) ea ∙ ap (λ (x : ℕ). a ∷ x ∷ (128 + u % 64) ∷ []) eb ∙ ap (λ (x : ℕ). a ∷ b ∷ x ∷ []) ec

-- ---- what a test says

pub record Between (low n high : ℕ) : Type 0 where
  pub above : low ≤ n
  pub below : n < high

between : (low n high : ℕ) → (leb low n && ltb n high) ≡ true → Between low n high
between low n high h = record { above = leb-true _ _ (first_true (leb low n) (ltb n high) h); below = ltb-true _ _ (second_true (leb low n) (ltb n high) h) }

inside : (low n high : ℕ) → low ≤ n → n < high → (leb low n && ltb n high) ≡ true
inside low n high le lt = both _ _ (le-leb low n le) (lt-ltb n high lt)

under : (low n high : ℕ) → n < low → (leb low n && ltb n high) ≡ false
under low n high lt = let a : leb low n ≡ false = grind arith in rw a refl

over : (low n high : ℕ) → high ≤ n → (leb low n && ltb n high) ≡ false
over low n high le = elim (cases_Bool (leb low n)) [ inl hit ↦ rw hit (le-ltb _ _ le) | inr miss ↦ rw miss refl ]

zero_or_long : (u : ℕ) → (eqb u 0 || leb 128 u) ≡ true → (u ≡ 0) ⊎ (128 ≤ u)
zero_or_long u h = elim (cases_Bool (eqb u 0)) [ inl hit ↦ inl (eqb-true _ _ hit) | inr miss ↦ inr (let k : leb 128 u ≡ true = rw miss at h in leb-true _ _ k) ]

-- ---- what is read is spelled so

-- a unit, and what lies behind its group
abbrev pub Spelled : List ℕ → ℕ × List ℕ → Type 0
Spelled bytes x = (bytes ≡ group x.0 ++ x.1) × (x.0 < 65536) × ((IsBytes bytes) → IsBytes x.1) × (length x.1 ≤ length bytes)

tested_ok : (b : Bool) (bytes : List ℕ) (x y : ℕ × List ℕ) → cond b (Ok x) (fault {K = Unit {0}} tt bytes) ≡ Ok y → (b ≡ true) × (x ≡ y)
tested_ok true bytes x y e = (refl, cc)
tested_ok false bytes x y e = absurd cc

tested_err : (b : Bool) (bytes : List ℕ) (x : ℕ × List ℕ) (d : Fault (Unit {0})) → cond b (Ok x) (fault {K = Unit {0}} tt bytes) ≡ Err d → fault_at tt bytes ≡ d
tested_err true bytes x d e = absurd cc
tested_err false bytes x d e = cc

one_spelled : (a : ℕ) (rest : List ℕ) → (ltb 0 a && ltb a 128) ≡ true → Spelled (a ∷ rest) (a, rest)
one_spelled a rest h =
    let lt : a < 128 = ltb-true _ _ (second_true (ltb 0 a) (ltb a 128) h) in
    let some : 0 < a = ltb-true _ _ (first_true (ltb 0 a) (ltb a 128) h) in
    (ap (λ (g : List ℕ). g ++ rest) (sym (one_byte a some lt)), omega arith, IsBytes-rest a rest, omega arith)

two_spelled : (a : ℕ) (rest : List ℕ) (x : ℕ × List ℕ) → 192 ≤ a → a < 224 → two_at (a ∷ rest) a rest ≡ Ok x → Spelled (a ∷ rest) x
two_spelled a [] x a1 a2 e = absurd cc
two_spelled a (b ∷ rest) x a1 a2 e =
    let made : ℕ × List ℕ = (two a b, rest) in
    let g = tested_ok (goes_on b && (eqb (two a b) 0 || leb 128 (two a b))) (a ∷ b ∷ rest) made x e in
    let q = between 128 b 192 (first_true (goes_on b) (eqb (two a b) 0 || leb 128 (two a b)) g.0) in
    let z = zero_or_long (two a b) (second_true (goes_on b) (eqb (two a b) 0 || leb 128 (two a b)) g.0) in
    let same : group (two a b) ≡ a ∷ b ∷ [] = group_of_two a b a1 a2 q.above q.below (two a b) refl z in
    let small : two a b < 65536 = omega arith in
    let all : Spelled (a ∷ b ∷ rest) made = (ap (λ (t : List ℕ). t ++ rest) (sym same), small, (λ h. IsBytes-rest b rest (IsBytes-rest a (b ∷ rest) h)), omega arith) in
    subst (λ (y : ℕ × List ℕ). Spelled (a ∷ b ∷ rest) y) g.1 all

three_spelled : (a : ℕ) (rest : List ℕ) (x : ℕ × List ℕ) → 224 ≤ a → a < 240 → three_at (a ∷ rest) a rest ≡ Ok x → Spelled (a ∷ rest) x
three_spelled a [] x a1 a2 e = absurd cc
three_spelled a (b ∷ []) x a1 a2 e = absurd cc
three_spelled a (b ∷ c ∷ rest) x a1 a2 e =
    let made : ℕ × List ℕ = (three a b c, rest) in
    let g = tested_ok (goes_on b && (goes_on c && leb 2048 (three a b c))) (a ∷ b ∷ c ∷ rest) made x e in
    let q = between 128 b 192 (first_true (goes_on b) (goes_on c && leb 2048 (three a b c)) g.0) in
    let h = second_true (goes_on b) (goes_on c && leb 2048 (three a b c)) g.0 in
    let r = between 128 c 192 (first_true (goes_on c) (leb 2048 (three a b c)) h) in
    let long : 2048 ≤ three a b c = leb-true _ _ (second_true (goes_on c) (leb 2048 (three a b c)) h) in
    let same : group (three a b c) ≡ a ∷ b ∷ c ∷ [] = group_of_three a b c a1 a2 q.above q.below r.above r.below (three a b c) refl long in
    let small : three a b c < 65536 = omega arith in
    let all : Spelled (a ∷ b ∷ c ∷ rest) made = (ap (λ (t : List ℕ). t ++ rest) (sym same), small, (λ k. IsBytes-rest c rest (IsBytes-rest b (c ∷ rest) (IsBytes-rest a (b ∷ c ∷ rest) k))), omega arith) in
    subst (λ (y : ℕ × List ℕ). Spelled (a ∷ b ∷ c ∷ rest) y) g.1 all

by_first : (a : ℕ) (rest : List ℕ) (x : ℕ × List ℕ) (p q r : Bool) → (ltb 0 a && ltb a 128) ≡ p → (leb 192 a && ltb a 224) ≡ q → (leb 224 a && ltb a 240) ≡ r
    → cond p (Ok (a, rest)) (cond q (two_at (a ∷ rest) a rest) (cond r (three_at (a ∷ rest) a rest) (fault tt (a ∷ rest)))) ≡ Ok x → Spelled (a ∷ rest) x
by_first a rest x true q r hp hq hr e = let made : ℕ × List ℕ = (a, rest) in subst (λ (y : ℕ × List ℕ). Spelled (a ∷ rest) y) (ok_is (Fault (Unit {0})) made x e) (one_spelled a rest hp)
by_first a rest x false true r hp hq hr e = let k = between 192 a 224 hq in two_spelled a rest x k.above k.below e
by_first a rest x false false true hp hq hr e = let k = between 224 a 240 hr in three_spelled a rest x k.above k.below e
by_first a rest x false false false hp hq hr e = absurd cc

unit_spelled : (bytes : List ℕ) (x : ℕ × List ℕ) → unit_at bytes ≡ Ok x → Spelled bytes x
unit_spelled [] x e = absurd cc
unit_spelled (a ∷ rest) x e = by_first a rest x (ltb 0 a && ltb a 128) (leb 192 a && ltb a 224) (leb 224 a && ltb a 240) refl refl refl e

-- ---- the fault stands at the first byte

two_fault : (bytes : List ℕ) (a : ℕ) (rest : List ℕ) (d : Fault (Unit {0})) → two_at bytes a rest ≡ Err d → fault_at tt bytes ≡ d
two_fault bytes a [] d e = cc
two_fault bytes a (b ∷ rest) d e = tested_err (goes_on b && (eqb (two a b) 0 || leb 128 (two a b))) bytes (two a b, rest) d e

three_fault : (bytes : List ℕ) (a : ℕ) (rest : List ℕ) (d : Fault (Unit {0})) → three_at bytes a rest ≡ Err d → fault_at tt bytes ≡ d
three_fault bytes a [] d e = cc
three_fault bytes a (b ∷ []) d e = cc
three_fault bytes a (b ∷ c ∷ rest) d e = tested_err (goes_on b && (goes_on c && leb 2048 (three a b c))) bytes (three a b c, rest) d e

fault_by : (a : ℕ) (rest : List ℕ) (d : Fault (Unit {0})) (p q r : Bool) → cond p (Ok (a, rest)) (cond q (two_at (a ∷ rest) a rest) (cond r (three_at (a ∷ rest) a rest) (fault tt (a ∷ rest)))) ≡ Err d → fault_at tt (a ∷ rest) ≡ d
fault_by a rest d true q r e = absurd cc
fault_by a rest d false true r e = two_fault (a ∷ rest) a rest d e
fault_by a rest d false false true e = three_fault (a ∷ rest) a rest d e
fault_by a rest d false false false e = cc

unit_fault : (bytes : List ℕ) (d : Fault (Unit {0})) → unit_at bytes ≡ Err d → fault_at tt bytes ≡ d
unit_fault [] d e = cc
unit_fault (a ∷ rest) d e = fault_by a rest d (ltb 0 a && ltb a 128) (leb 192 a && ltb a 224) (leb 224 a && ltb a 240) e

-- ---- what is spelled so is read again

read_one : (a : ℕ) (rest : List ℕ) → 0 < a → a < 128 → unit_at (a ∷ rest) ≡ Ok (a, rest)
read_one a rest lt lt' = let h : (ltb 0 a && ltb a 128) ≡ true = both _ _ (lt-ltb _ _ lt) (lt-ltb _ _ lt') in rw h refl

past_one : (a : ℕ) → 128 ≤ a → (ltb 0 a && ltb a 128) ≡ false
past_one a le = elim (cases_Bool (ltb 0 a)) [ inl hit ↦ rw hit (le-ltb _ _ le) | inr miss ↦ rw miss refl ]

read_two : (a b : ℕ) (rest : List ℕ) (u : ℕ) → 192 ≤ a → a < 224 → 128 ≤ b → b < 192 → two a b ≡ u → (eqb u 0 || leb 128 u) ≡ true → unit_at (a ∷ b ∷ rest) ≡ Ok (u, rest)
read_two a b rest u a1 a2 b1 b2 is z =
    let p = past_one a (omega arith) in
    let q = inside 192 a 224 a1 a2 in
    let r = inside 128 b 192 b1 b2 in
    rw (p, q, r, is, z) refl

read_three : (a b c : ℕ) (rest : List ℕ) (u : ℕ) → 224 ≤ a → a < 240 → 128 ≤ b → b < 192 → 128 ≤ c → c < 192 → three a b c ≡ u → leb 2048 u ≡ true → unit_at (a ∷ b ∷ c ∷ rest) ≡ Ok (u, rest)
read_three a b c rest u a1 a2 b1 b2 c1 c2 is z =
    let p = past_one a (omega arith) in
    let q = over 192 a 224 a1 in
    let r = inside 224 a 240 a1 a2 in
    let s = inside 128 b 192 b1 b2 in
    let t = inside 128 c 192 c1 c2 in
    rw (p, q, r, s, t, is, z) refl

above_zero : (u : ℕ) → eqb u 0 ≡ false → 0 < u
above_zero zero h = absurd cc
above_zero (suc u) h = omega arith

again_at : (u : ℕ) (rest : List ℕ) → u < 65536 → (e l m : Bool) → eqb u 0 ≡ e → ltb u 128 ≡ l → ltb u 2048 ≡ m → unit_at (group u ++ rest) ≡ Ok (u, rest)
again_at u rest lt true l m he hl hm = let none : u ≡ 0 = eqb-true _ _ he in rw none refl
again_at u rest lt false true m he hl hm =
    let some : 0 < u = above_zero u he in
    let low : u < 128 = ltb-true _ _ hl in
    ap (λ (g : List ℕ). unit_at (g ++ rest)) (one_byte u some low) ∙ read_one u rest some low
again_at u rest lt false false true he hl hm =
    let low : 128 ≤ u = ltb-false _ _ hl in
    let high : u < 2048 = ltb-true _ _ hm in
    let z : (eqb u 0 || leb 128 u) ≡ true = rw (he, le-leb 128 u low) refl in
    ap (λ (g : List ℕ). unit_at (g ++ rest)) (two_bytes u low high) ∙ read_two (192 + u / 64) (128 + u % 64) rest u (omega arith) (omega arith) (omega arith) (omega arith) (omega arith) z
again_at u rest lt false false false he hl hm =
    let low : 2048 ≤ u = ltb-false _ _ hm in
    ap (λ (g : List ℕ). unit_at (g ++ rest)) (three_bytes u low) ∙ read_three (224 + u / 4096) (128 + u / 64 % 64) (128 + u % 64) rest u (omega arith) (omega arith) (omega arith) (omega arith) (omega arith) (omega arith) (omega arith) (le-leb 2048 u low)

long : (u : ℕ) (e l m : Bool) → 0 < length (cond e (192 ∷ 128 ∷ []) (cond l (u ∷ []) (cond m ((192 + u / 64) ∷ (128 + u % 64) ∷ []) ((224 + u / 4096) ∷ (128 + u / 64 % 64) ∷ (128 + u % 64) ∷ []))))
long u true l m = omega arith
long u false true m = omega arith
long u false false true = omega arith
long u false false false = omega arith

has_bytes : (u : ℕ) → 0 < length (group u)
has_bytes u = long u (eqb u 0) (ltb u 128) (ltb u 2048)

pub unit_law : IsFormat unit
unit_law = record {
  takes = λ bytes x fits e. let s = unit_spelled bytes x e in record { parts = s.0; rest_fits = s.2 fits; fit = lt-ltb _ _ s.1 };
  again = λ u rest fit. again_at u rest (ltb-true _ _ fit) (eqb u 0) (ltb u 128) (ltb u 2048) refl refl refl;
  reading = record {
    within = λ bytes d e. fault_within tt bytes bytes d (omega arith) (unit_fault bytes d e);
    shorter = λ bytes x e. (unit_spelled bytes x e).3;
  };
}

pub text_law : IsBody text
text_law = many_law tt unit unit_law (λ u fit. has_bytes u)

-- ---- a text that was read

pub read_is : (bytes : List ℕ) (u : List ℕ) → IsTrue (list_all (λ n. ltb n 65536) u) → bytes ≡ flat_map group u → text.read bytes ≡ Ok u
read_is bytes u fit is = ap text.read is ∙ text_law.again u fit

pub read_spelled : (bytes : List ℕ) (u : List ℕ) → IsBytes bytes → text.read bytes ≡ Ok u → bytes ≡ flat_map group u
read_spelled bytes u fits e = (text_law.takes bytes u fits e).1

pub any_fits : (u : List ℕ) → IsTrue (list_all (λ (n : ℕ). true) u)
any_fits [] = refl
any_fits (n ∷ u) = any_fits u

pub spelled_once : (u v : List ℕ) → IsTrue (list_all (λ n. ltb n 65536) u) → IsTrue (list_all (λ n. ltb n 65536) v) → flat_map group u ≡ flat_map group v → u ≡ v
spelled_once u v fit fit' same = ok_is (Fault (Unit {0})) u v (sym (text_law.again u fit) ∙ ap text.read same ∙ text_law.again v fit')
