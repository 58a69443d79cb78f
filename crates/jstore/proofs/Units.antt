-- What stands in the path of a class that is stored: printable ASCII.
use Rattle.std.proofs.Common.{◌≡◌, ℕ, zero, suc, ◌+◌, ◌/◌, ◌%◌, ◌^◌, ◌<◌, ◌≤◌, ◌==◌, ◌&&◌, ◌||◌, Bool, true, false, cond, List, [], ◌∷◌, ◌++◌, Result, Ok, Err, IsAscii, codes, decimal, length, refl, ap, subst, arith, leb-true, ltb-true, ne_eqb}
use Rattle.std.specs.Prelude.{nat_le, nat_lt}
use Rattle.std.specs.Result.{result_unwrap_or}
use Rattle.std.specs.Fmt.{digit_glyph}
use Rattle.std.specs.List.{AllByRecursion}
use Rattle.std.specs.Str.{byte}
use Rattle.std.proofs.lemmas.Fmt.{decimal_by_steps}
use Rattle.jground.specs.declared.jformat.error.Fault.{Fault}
use Rattle.jground.specs.jformat.BodyFormats.{many_at}
use Rattle.jground.specs.jformat.Format.{fault}
use Rattle.joutput.specs.jio.TextOutput.{written, written_unit}
use Rattle.jtasks.specs.jstages.LinkStage.{units_in}
use Rattle.jground.specs.jtext.Modified.{goes_on, text, three, three_at, two, two_at, unit_at}
use Rattle.jground.specs.jbase.MemoryFailures.{◌>>=◌}
use Rattle.jstore.proofs.Binds.{bound}

-- ---- units of a name

abbrev Unit_of : Type 0
Unit_of = ℕ × List ℕ

both_are : (a b : Bool) → (a && b) ≡ true → (a ≡ true) × (b ≡ true)
both_are true true e = (refl, refl)
both_are true false e = cc
both_are false b e = cc

tested : (b : Bool) (bytes : List ℕ) (x y : Unit_of) → cond b (Ok x) (fault {K = Unit {0}} tt bytes) ≡ Ok y → (b ≡ true) × (x ≡ y)
tested true bytes x y e = (refl, cc)
tested false bytes x y e = absurd cc

goes_below : (b : ℕ) → goes_on b ≡ true → b < 192
goes_below b h = ltb-true b 192 ((both_are (nat_le 128 b) (nat_lt b 192) h).1)

two_small : (a : ℕ) (rest : List ℕ) (x : Unit_of) → a < 224 → two_at (a ∷ rest) a rest ≡ Ok x → x.0 < 65536
two_small a [] x lt e = absurd cc
two_small a (b ∷ rest) x lt e =
    let t = tested (goes_on b && (two a b == 0 || nat_le 0x80 (two a b))) (a ∷ b ∷ rest) (two a b, rest) x e in
    let l = goes_below b ((both_are (goes_on b) (two a b == 0 || nat_le 0x80 (two a b)) t.0).0) in
    let n : two a b < 65536 = omega arith in
    subst (λ (y : Unit_of). y.0 < 65536) t.1 n

three_small : (a : ℕ) (rest : List ℕ) (x : Unit_of) → a < 240 → three_at (a ∷ rest) a rest ≡ Ok x → x.0 < 65536
three_small a [] x lt e = absurd cc
three_small a (b ∷ []) x lt e = absurd cc
three_small a (b ∷ c ∷ rest) x lt e =
    let t = tested (goes_on b && (goes_on c && nat_le 0x800 (three a b c))) (a ∷ b ∷ c ∷ rest) (three a b c, rest) x e in
    let h = both_are (goes_on b) (goes_on c && nat_le 0x800 (three a b c)) t.0 in
    let l = goes_below b h.0 in
    let m = goes_below c ((both_are (goes_on c) (nat_le 0x800 (three a b c)) h.1).0) in
    let n : three a b c < 65536 = omega arith in
    subst (λ (y : Unit_of). y.0 < 65536) t.1 n

abbrev ok_unit : Unit_of → Result Unit_of (Fault (Unit {0}))
ok_unit x = Ok x

units_same : (x y : Unit_of) → ok_unit x ≡ ok_unit y → x ≡ y
units_same x y e = cc

unit_small : (bytes : List ℕ) (x : Unit_of) → unit_at bytes ≡ Ok x → x.0 < 65536
unit_small [] x e = absurd cc
unit_small (a ∷ rest) x e = go (nat_lt 0 a && nat_lt a 0x80) (nat_le 0xc0 a && nat_lt a 0xe0) (nat_le 0xe0 a && nat_lt a 0xf0) refl refl refl e
  where
    one : (x : Unit_of) → a < 128 → ok_unit (a, rest) ≡ ok_unit x → x.0 < 65536
    one x lt e = let is : a ≡ x.0 = ap (λ (y : Unit_of). y.0) (units_same (a, rest) x e) in omega arith

    go : (p q r : Bool) → (nat_lt 0 a && nat_lt a 0x80) ≡ p → (nat_le 0xc0 a && nat_lt a 0xe0) ≡ q → (nat_le 0xe0 a && nat_lt a 0xf0) ≡ r
        → cond p (Ok (a, rest)) (cond q (two_at (a ∷ rest) a rest) (cond r (three_at (a ∷ rest) a rest) (fault tt (a ∷ rest)))) ≡ Ok x → x.0 < 65536
    go true q r hp hq hr e = one x (ltb-true a 128 ((both_are (nat_lt 0 a) (nat_lt a 0x80) hp).1)) e
    go false true r hp hq hr e = two_small a rest x (ltb-true a 224 ((both_are (nat_le 0xc0 a) (nat_lt a 0xe0) hq).1)) e
    go false false true hp hq hr e = three_small a rest x (ltb-true a 240 ((both_are (nat_le 0xe0 a) (nat_lt a 0xf0) hr).1)) e
    go false false false hp hq hr e = absurd cc

abbrev pub Small : List ℕ → Type 0
Small units = AllByRecursion (λ u. u < 65536) units

abbrev units_at : ℕ → List ℕ → Result (List ℕ) (Fault (Unit {0}))
units_at n bytes = many_at tt unit_at n bytes

abbrev ok_units : List ℕ → Result (List ℕ) (Fault (Unit {0}))
ok_units us = Ok us

same_units : (us vs : List ℕ) → ok_units us ≡ ok_units vs → us ≡ vs
same_units us vs e = cc

none_small : (us : List ℕ) → ok_units [] ≡ ok_units us → Small us
none_small us e = subst Small (same_units [] us e) tt

many_small : (n : ℕ) (bytes us : List ℕ) → units_at n bytes ≡ Ok us → Small us
unfolding many_at
many_small zero [] us e = none_small us e
many_small zero (b ∷ bs) us e = absurd cc
many_small (suc n) [] us e = none_small us e
many_small (suc n) (b ∷ bs) us e =
    let first = bound (unit_at (b ∷ bs)) (λ x. units_at n x.1 >>= λ y. ok_units (x.0 ∷ y)) us e in
    let rest = bound (units_at n first.0.1) (λ y. ok_units (first.0.0 ∷ y)) us first.2 in
    subst Small (same_units (first.0.0 ∷ rest.0) us rest.2) (unit_small (b ∷ bs) first.0 first.1, many_small n first.0.1 rest.0 rest.1)

pub units_small : (bytes : List ℕ) → Small (units_in bytes)
units_small bytes = go (text.read bytes) refl
  where
    go : (r : Result (List ℕ) (Fault (Unit {0}))) → text.read bytes ≡ r → Small (result_unwrap_or r [])
    go (Ok us) e = many_small (length bytes) bytes us e
    go (Err d) e = tt

-- ---- printable bytes

-- a printable byte of ASCII
abbrev pub Prints : ℕ → Type 0
Prints b = (32 ≤ b) × (b ≤ 126)

abbrev pub AllPrint : List ℕ → Type 0
AllPrint bytes = AllByRecursion Prints bytes

pub print_both : (xs ys : List ℕ) → AllPrint xs → AllPrint ys → AllPrint (xs ++ ys)
print_both [] ys h k = k
print_both (x ∷ xs) ys h k = (h.0, print_both xs ys h.1 k)

digit_prints : (d : ℕ) → d < 10 → Prints (48 + d)
digit_prints d lt = (omega arith, omega arith)

pub decimal_prints : (n : ℕ) → n < 2 ^ 64 → AllPrint (decimal n)
decimal_prints n lt =
    decimal_by_steps (λ m ds. AllPrint ds) (λ m few. (digit_prints m few, tt))
    (λ m ds le h. print_both ds ((48 + m % 10) ∷ []) h (digit_prints (m % 10) (omega arith), tt)) n lt

glyph_prints : (d : ℕ) → d < 16 → Prints (digit_glyph false d)
glyph_prints d lt = go (nat_lt d 10) refl
  where
    go : (b : Bool) → nat_lt d 10 ≡ b → Prints (cond b (48 + d) (87 + d))
    go true e = digit_prints d (ltb-true d 10 e)
    go false e = (omega arith, omega arith)

backslash_prints : Prints 92
backslash_prints = (omega arith, omega arith)

u_prints : Prints 117
u_prints = (omega arith, omega arith)

four_print : (a b c d : ℕ) → Prints a → Prints b → Prints c → Prints d → AllPrint (a ∷ b ∷ c ∷ d ∷ [])
four_print a b c d p q r s = (p, (q, (r, (s, tt))))

abbrev glyphs : ℕ → List ℕ
glyphs u = digit_glyph false (u / 0x1000) ∷ digit_glyph false (u / 0x100 % 16) ∷ digit_glyph false (u / 16 % 16) ∷ digit_glyph false (u % 16) ∷ []

unit_prints : (u : ℕ) → u < 65536 → AllPrint (written_unit u)
unit_prints u lt = go (u == byte "\\") (nat_le 0x20 u && nat_le u 0x7e) refl
  where
    digits : AllPrint (glyphs u)
    digits = four_print _ _ _ _ (glyph_prints (u / 0x1000) (omega arith)) (glyph_prints (u / 0x100 % 16) (omega arith)) (glyph_prints (u / 16 % 16) (omega arith)) (glyph_prints (u % 16) (omega arith))

    go : (a b : Bool) → (nat_le 0x20 u && nat_le u 0x7e) ≡ b
        → AllPrint (cond a (codes "\\\\") (cond b (u ∷ []) (92 ∷ 117 ∷ glyphs u)))
    go true b e = (backslash_prints, (backslash_prints, tt))
    go false true e = let h = both_are (nat_le 0x20 u) (nat_le u 0x7e) e in ((leb-true 32 u h.0, leb-true u 126 h.1), tt)
    go false false e = (backslash_prints, (u_prints, digits))

pub written_prints : (units : List ℕ) → Small units → AllPrint (written units)
unfolding written
written_prints [] h = tt
written_prints (u ∷ units) h = print_both (written_unit u) (written units) (unit_prints u h.0) (written_prints units h.1)

-- ---- such bytes are a text in a line

pub is_ascii : (bytes : List ℕ) → AllPrint bytes → IsAscii bytes
is_ascii [] h i = omega arith
is_ascii (b ∷ bytes) h zero = let le = h.0.1 in omega arith
is_ascii (b ∷ bytes) h (suc i) = is_ascii bytes h.1 i

pub no_feeds : (bytes : List ℕ) → AllPrint bytes → AllByRecursion (λ b. (b == 10) ≡ false) bytes
no_feeds [] h = tt
no_feeds (b ∷ bytes) h = (ne_eqb b 10 (λ e. let le = h.0.0 in omega arith), no_feeds bytes h.1)
