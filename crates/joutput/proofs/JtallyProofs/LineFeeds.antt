-- Which parts of an event's line have no line feed.
use Rattle.std.proofs.Common.{◌≡◌, ◌==◌, ◌&&◌, ℕ, zero, suc, ◌+◌, ◌/◌, ◌%◌, Bool, true, false, not, List, [], ◌∷◌, ◌++◌, codes, decimal, if◌then◌else◌, nat_le, nat_lt, refl, ap, ◌∙◌, arith}
use Rattle.std.specs.Fmt.{digit_glyph, digits, digits_onto}
use Rattle.std.specs.List.{onto_first, slice_split}
use Rattle.std.proofs.lemmas.Bool.{ne_eqb}
use Rattle.std.proofs.lemmas.List.Splits.{slice_split-cons_no}
use Rattle.joutput.specs.jio.TextOutput.{written, written_unit}

-- no byte is a line feed
abbrev pub clean : List ℕ → Bool
clean [] = true
clean (b ∷ bs) = not (b == 10) && clean bs

pub clean_both : (xs ys : List ℕ) → clean xs ≡ true → clean ys ≡ true → clean (xs ++ ys) ≡ true
clean_both [] ys first second = second
clean_both (x ∷ xs) ys first second = by (x == 10) first (λ more. clean_both xs ys more second)
  where
    by : (b : Bool) → (not b && clean xs) ≡ true → (clean xs ≡ true → clean (xs ++ ys) ≡ true) → (not b && clean (xs ++ ys)) ≡ true
    by false more rest = rest more
    by true more rest = absurd (let no = more in cc)

clean_more : (x : ℕ) (xs : List ℕ) → (x ≡ 10 → ⊥) → clean xs ≡ true → clean (x ∷ xs) ≡ true
clean_more x xs other rest = ap (λ (b : Bool). not b && clean xs) (ne_eqb x 10 other) ∙ rest

either : (b : Bool) (xs ys : List ℕ) → clean xs ≡ true → clean ys ≡ true → clean (if b then xs else ys) ≡ true
either true xs ys first second = first
either false xs ys first second = second

-- ---- numbers and texts

glyph_other : (d : ℕ) → digit_glyph false d ≡ 10 → ⊥
glyph_other d = by (nat_lt d 10)
  where
    by : (b : Bool) → (if b then 48 + d else 87 + d) ≡ 10 → ⊥
    by true h = omega (arith, h)
    by false h = omega (arith, h)

clean_onto : (k n : ℕ) (acc : List ℕ) → clean acc ≡ true → clean (digits_onto k 10 false n acc) ≡ true
clean_onto zero n acc h = h
clean_onto (suc k) n acc h =
    let more : clean (digit_glyph false (n % 10) ∷ acc) ≡ true = clean_more (digit_glyph false (n % 10)) acc (glyph_other (n % 10)) h in
    either (n / 10 == 0) (digit_glyph false (n % 10) ∷ acc) (digits_onto k 10 false (n / 10) (digit_glyph false (n % 10) ∷ acc)) more
    (clean_onto k (n / 10) (digit_glyph false (n % 10) ∷ acc) more)

pub clean_decimal : (n : ℕ) → clean (decimal n) ≡ true
unfolding digits
clean_decimal n = clean_onto 64 n [] refl

-- some digits, one before the others
clean_glyph : (d : ℕ) (xs : List ℕ) → clean xs ≡ true → clean (digit_glyph false d ∷ xs) ≡ true
clean_glyph d xs h = clean_more (digit_glyph false d) xs (glyph_other d) h

abbrev escape : ℕ → ℕ → ℕ → ℕ → List ℕ
escape a b c d = 92 ∷ 117 ∷ digit_glyph false a ∷ digit_glyph false b ∷ digit_glyph false c ∷ digit_glyph false d ∷ []

clean_escape : (a b c d : ℕ) → clean (escape a b c d) ≡ true
clean_escape a b c d =
    let last : clean (digit_glyph false d ∷ []) ≡ true = clean_glyph d [] refl in
    let third : clean (digit_glyph false c ∷ digit_glyph false d ∷ []) ≡ true = clean_glyph c (digit_glyph false d ∷ []) last in
    let second : clean (digit_glyph false b ∷ digit_glyph false c ∷ digit_glyph false d ∷ []) ≡ true = clean_glyph b (digit_glyph false c ∷ digit_glyph false d ∷ []) third in
    clean_glyph a (digit_glyph false b ∷ digit_glyph false c ∷ digit_glyph false d ∷ []) second

clean_printable : (unit : ℕ) (others : List ℕ) (b : Bool) → (nat_le 0x20 unit && nat_le unit 0x7e) ≡ b → clean others ≡ true → clean (if b then unit ∷ [] else others) ≡ true
clean_printable unit others true is h = clean_more unit [] (λ ten. absurd (let no = rw ten at is in cc)) refl
clean_printable unit others false is h = h

clean_unit : (unit : ℕ) → clean (written_unit unit) ≡ true
clean_unit unit =
    let hex = escape (unit / 0x1000) (unit / 0x100 % 16) (unit / 16 % 16) (unit % 16) in
    let printable = nat_le 0x20 unit && nat_le unit 0x7e in
    either (unit == 92) (codes "\\\\") (if printable then unit ∷ [] else hex) refl
    (clean_printable unit hex printable refl (clean_escape (unit / 0x1000) (unit / 0x100 % 16) (unit / 16 % 16) (unit % 16)))

pub clean_written : (units : List ℕ) → clean (written units) ≡ true
unfolding written
clean_written [] = refl
clean_written (unit ∷ units) = clean_both (written_unit unit) (written units) (clean_unit unit) (clean_written units)

-- ---- the first line

-- the lines of a text that begins with one that is ended
pub first_line : (xs ys : List ℕ) → clean xs ≡ true → slice_split (λ b. b == 10) (xs ++ 10 ∷ ys) ≡ xs ∷ slice_split (λ b. b == 10) ys
first_line [] ys h = refl
first_line (x ∷ xs) ys h = by (x == 10) refl h (λ more. first_line xs ys more)
  where
    by : (b : Bool) → (x == 10) ≡ b → (not b && clean xs) ≡ true → (clean xs ≡ true → slice_split (λ b. b == 10) (xs ++ 10 ∷ ys) ≡ xs ∷ slice_split (λ b. b == 10) ys)
        → slice_split (λ b. b == 10) (x ∷ (xs ++ 10 ∷ ys)) ≡ (x ∷ xs) ∷ slice_split (λ b. b == 10) ys
    by false is more rest = slice_split-cons_no (λ b. b == 10) x (xs ++ 10 ∷ ys) is ∙ ap (onto_first x) (rest more)
    by true is more rest = absurd (let no = more in cc)
