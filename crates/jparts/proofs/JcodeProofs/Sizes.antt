-- How many bytes the operands of a switch have.
use Rattle.std.proofs.Common.{◌≡◌, eqb, inl, inr, ℕ, zero, suc, ◌+◌, ◌-◌, ◌*◌, ◌%◌, ℤ, List, [], ◌∷◌, ◌++◌, length, Option, None, refl, ap, ◌∙◌, arith}
use Rattle.std.specs.List.{flat_map}
use Rattle.std.proofs.lemmas.Bool.{cases_Bool}
use Rattle.std.proofs.lemmas.List.{length-append}
use Rattle.std.proofs.lemmas.List.Concat.{flat_map-cons}
use Rattle.jground.specs.jformat.Format.{known}
use Rattle.jground.specs.jformat.StatefulFormats.{spell_from}
use Rattle.jparts.specs.declared.jcode.fault.CodeFault.{CodeFault}
use Rattle.jparts.specs.declared.jcode.op.Case.{Case}
use Rattle.jparts.specs.declared.jcode.op.TableSwitch.{TableSwitch}
use Rattle.jparts.specs.declared.jcode.op.LookupSwitch.{LookupSwitch}
use Rattle.jparts.specs.jcode.OperandFormats.{i4, u4, nils, padding, bounded, case_behind, key_of, table_switch, lookup_switch}
use Rattle.jparts.specs.ProofNames.{span}

nils_length : (n : ℕ) → length ((nils n).spell tt) ≡ n
unfolding nils
nils_length zero = refl
nils_length (suc n) = omega (arith, nils_length n)

ints_length : (xs : List ℤ) → length (flat_map i4.spell xs) ≡ 4 * length xs
ints_length [] = refl
ints_length (x ∷ xs) =
    let step : length (flat_map i4.spell (x ∷ xs)) ≡ length (i4.spell x) + length (flat_map i4.spell xs) = ap (λ (t : List ℕ). length t) (flat_map-cons i4.spell x xs) ∙ length-append (i4.spell x) (flat_map i4.spell xs) in
    let four : length (i4.spell x) ≡ 4 = refl in
    omega (arith, ints_length xs)

cases_length : (s : Option ℤ) (xs : List Case) → length (spell_from (λ t. (case_behind t).spell) key_of s xs) ≡ 8 * length xs
unfolding spell_from
cases_length s [] = refl
cases_length s (x ∷ xs) = omega (arith, cases_length (key_of s x) xs)

known_spelling : (n k : ℕ) → (known {K = CodeFault} n).spell k ≡ []
known_spelling n k = elim (cases_Bool (eqb k n)) [ inl hit ↦ rw hit refl | inr miss ↦ rw miss refl ]

pub table_length : (at : ℕ) (s : TableSwitch) → length ((table_switch at).spell s) ≡ 3 - at % 4 + (12 + 4 * length s.branches)
unfolding table_switch bounded
table_length at s =
    let pad = (padding at).spell tt in
    let count = (known {K = CodeFault} (span s.low s.high)).spell (length s.branches) in
    let rest = λ (c : List ℕ). i4.spell s.default ++ ((i4.spell s.low ++ i4.spell s.high) ++ (c ++ flat_map i4.spell s.branches)) in
    let parts : (table_switch at).spell s ≡ pad ++ rest count = refl in
    let none : rest count ≡ rest [] = ap rest (known_spelling (span s.low s.high) (length s.branches)) in
    let sum : length ((table_switch at).spell s) ≡ length pad + length (rest []) = ap (λ (t : List ℕ). length t) (parts ∙ ap (λ (t : List ℕ). pad ++ t) none) ∙ length-append pad (rest []) in
    let len : length (rest []) ≡ 12 + length (flat_map i4.spell s.branches) = omega arith in
    omega (arith, nils_length (3 - at % 4), ints_length s.branches)

pub lookup_length : (at : ℕ) (s : LookupSwitch) → length ((lookup_switch at).spell s) ≡ 3 - at % 4 + (8 + 8 * length s.cases)
unfolding lookup_switch
lookup_length at s =
    let pad = (padding at).spell tt in
    let rest = i4.spell s.default ++ (u4.spell (length s.cases) ++ spell_from (λ t. (case_behind t).spell) key_of None s.cases) in
    let parts : (lookup_switch at).spell s ≡ pad ++ rest = refl in
    let sum : length ((lookup_switch at).spell s) ≡ length pad + length rest = ap (λ (t : List ℕ). length t) parts ∙ length-append pad rest in
    omega (arith, nils_length (3 - at % 4), cases_length None s.cases)
