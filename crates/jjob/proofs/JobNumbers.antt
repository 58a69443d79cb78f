-- Numbers as `parse` reads them.
use Rattle.std.proofs.Common.{◌≡◌, ◌≢◌, ℕ, [], ◌∷◌, ◌<◌, ◌≤◌, ◌^◌, List, length, get_or, Bool, true, false, ◌&&◌, cond, subst, refl, sym, ap, ◌∙◌, arith, Option, Some, None, rules}
use Rattle.std.specs.Prelude.{Result, Ok, Err, nat_le, nat_lt}
use Rattle.std.specs.Result.{OkIff}
use Rattle.std.specs.Str.{all_ascii_digits}
use Rattle.std.specs.Str.Parse.{ParsesUnsigned, digits_value}
use Rattle.std.proofs.lemmas.Str.Parse.{IsNumeralModel, numerals_by_value, parse_plain, tells_all_ascii_digits}
use Rattle.jjob.specs.JobNumbers.{number_up_to}

own : IsNumeralModel (λ ds. all_ascii_digits ds ≡ true) (digits_value 10)
own = numerals_by_value _ tells_all_ascii_digits

some_number : (most : ℕ) (bs : List ℕ) → 0 < length bs → length bs ≤ 20 → all_ascii_digits bs ≡ true → digits_value 10 bs ≤ most → number_up_to most bs ≡ Some (digits_value 10 bs)
unfolding number_up_to
some_number most bs a b c d = search rules

too_big : (most : ℕ) (bs : List ℕ) → most < digits_value 10 bs → number_up_to most bs ≡ None
unfolding number_up_to
too_big most bs d = go (nat_lt 0 (length bs)) (nat_le (length bs) 20) (all_ascii_digits bs) (nat_le (digits_value 10 bs) most) (search rules)
  where
    go : (p q a b : Bool) → b ≡ false → cond (((p && q) && a) && b) (Some (digits_value 10 bs)) None ≡ None
    go true true true b e = rw e refl
    go true true false b e = refl
    go true false a b e = refl
    go false q a b e = refl

no_digits : (most : ℕ) (bs : List ℕ) → (0 < length bs → ¬ (all_ascii_digits bs ≡ true)) → number_up_to most bs ≡ None
unfolding number_up_to
no_digits most bs not_so = go (nat_lt 0 (length bs)) (all_ascii_digits bs) (nat_le (length bs) 20) (nat_le (digits_value 10 bs) most) (λ e. not_so (search (rules, e)))
  where
    go : (p a q b : Bool) → (p ≡ true → ¬ (a ≡ true)) → cond (((p && q) && a) && b) (Some (digits_value 10 bs)) None ≡ None
    go false a q b h = refl
    go true true q b h = absurd (h refl refl)
    go true false true b h = refl
    go true false false b h = refl

pub too_long : (most : ℕ) (bs : List ℕ) → 20 < length bs → number_up_to most bs ≡ None
unfolding number_up_to
too_long most bs d = go (nat_lt 0 (length bs)) (nat_le (length bs) 20) (search rules)
  where
    go : (p q : Bool) → q ≡ false → cond (((p && q) && all_ascii_digits bs) && nat_le (digits_value 10 bs) most) (Some (digits_value 10 bs)) None ≡ None
    go true q e = rw e refl
    go false q e = refl

pub plus_first : (most : ℕ) (bs : List ℕ) → get_or bs 0 0 ≡ 43 → number_up_to most bs ≡ None
plus_first most [] e = no_digits most [] (λ l _. omega (arith, l))
plus_first most (c ∷ cs) e = no_digits most (c ∷ cs) (λ l a. plus_is_none c cs e a)
  where
    plus_is_none : (c : ℕ) (cs : List ℕ) → c ≡ 43 → all_ascii_digits (c ∷ cs) ≡ true → ⊥
    plus_is_none c cs e a = let b : all_ascii_digits (43 ∷ cs) ≡ true = subst (λ (x : ℕ). all_ascii_digits (x ∷ cs) ≡ true) e a in cc

pub read_ok : {E : Type 0} (most : ℕ) (bs : List ℕ) (n : ℕ) (r : Option ℕ) (read : Result ℕ E) → get_or bs 0 0 ≢ 43 → length bs ≤ 20 → ParsesUnsigned 64 10 bs read → read ≡ Ok n → (n ≤ most → r ≡ Some n) → (most < n → r ≡ None) → r ≡ number_up_to most bs
read_ok {E} most bs n r read no_plus short parses ok small big =
    let h = subst (λ (x : Result ℕ E). OkIff x ((all_ascii_digits bs ≡ true) × (0 < length bs) × (digits_value 10 bs < 2 ^ 64)) (digits_value 10 bs)) ok (parse_plain own 64 bs read parses no_plus) in
    go (nat_le n most) refl h.0.0 h.0.1 h.1
  where
    go : (b : Bool) → nat_le n most ≡ b → all_ascii_digits bs ≡ true → 0 < length bs → n ≡ digits_value 10 bs → r ≡ number_up_to most bs
    go true e digits some is = small (search rules) ∙ ap Some is ∙ sym (some_number most bs some short digits (search rules))
    go false e digits some is = big (search rules) ∙ sym (too_big most bs (search rules))

pub read_err : {E : Type 0} (most : ℕ) (bs : List ℕ) (e : E) (read : Result ℕ E) → get_or bs 0 0 ≢ 43 → most < 2 ^ 64 → ParsesUnsigned 64 10 bs read → read ≡ Err e → number_up_to most bs ≡ None
read_err {E} most bs e read no_plus low parses err =
    let h = subst (λ (x : Result ℕ E). OkIff x ((all_ascii_digits bs ≡ true) × (0 < length bs) × (digits_value 10 bs < 2 ^ 64)) (digits_value 10 bs)) err (parse_plain own 64 bs read parses no_plus) in
    go (nat_le (digits_value 10 bs) most) refl h
  where
    go : (b : Bool) → nat_le (digits_value 10 bs) most ≡ b → ¬ ((all_ascii_digits bs ≡ true) × (0 < length bs) × (digits_value 10 bs < 2 ^ 64)) → number_up_to most bs ≡ None
    go true is h = no_digits most bs (λ l a. h (a, l, search (rules, is, low)))
    go false is h = too_big most bs (search rules)
