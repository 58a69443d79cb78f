-- A loop over the groups of a text.
use Rattle.std.proofs.Common.{◌≡◌, ℕ, zero, suc, ◌+◌, ◌-◌, ◌≤◌, ◌<◌, Bool, true, false, eqb, List, [], ◌∷◌, length, Some, None, Result, Ok, Err, refl, sym, ap, ◌∙◌, arith}
use Rattle.std.specs.Result.{is_ok}
use Rattle.jground.specs.jbase.MemoryFailures.{◌>>=◌}
use Rattle.jground.specs.declared.jformat.error.Fault.{Fault}
use Rattle.jground.specs.jformat.Format.{Answer}
use Rattle.jground.specs.jformat.BodyFormats.{many_at}
use Rattle.jground.proofs.JformatProofs.Blocks.{many_some}
use Rattle.jground.proofs.JformatProofs.ReadingLoops.{is_none, is_some}
use Rattle.jground.specs.jtext.Modified.{unit_at}
use Rattle.jclass.specs.PoolChecks.{is_modified, behind}

abbrev pub rest_is_text : ℕ → List ℕ → Bool
rest_is_text n bytes = is_ok (many_at tt unit_at n bytes)

pub text_begins : (n : ℕ) (bytes : List ℕ) → n ≡ length bytes → rest_is_text n bytes ≡ is_modified bytes
unfolding is_modified
text_begins n bytes same = ap (λ (k : ℕ). rest_is_text k bytes) same

is_empty_text : (n : ℕ) (bytes : List ℕ) → length bytes ≡ 0 → rest_is_text n bytes ≡ true
unfolding many_at
is_empty_text zero [] h = refl
is_empty_text (suc n) [] h = refl
is_empty_text n (b ∷ bs) h = absurd (omega arith)

pub text_ends : (n : ℕ) (bytes : List ℕ) (total : Bool) → true ≡ eqb (length bytes) 0 → rest_is_text n bytes ≡ total → true ≡ total
text_ends n bytes total h so_far = sym (is_empty_text n bytes (is_none bytes h)) ∙ so_far

rest_ok : {K A : Type 0} (r : Result (List A) (Fault K)) (a : A) → is_ok (r >>= λ y. Ok (a ∷ y)) ≡ is_ok r
rest_ok (Ok y) a = refl
rest_ok (Err d) a = refl

one_unit : (r : Answer (Unit {0}) ℕ) (n : ℕ) (after : List ℕ) → Some after ≡ behind r → is_ok (r >>= λ x. many_at tt unit_at n x.1 >>= λ y. Ok (x.0 ∷ y)) ≡ rest_is_text n after
one_unit (Ok x) n after h = let same : x.1 ≡ after = cc in rest_ok (many_at tt unit_at n x.1) x.0 ∙ ap (rest_is_text n) same
one_unit (Err d) n after h = absurd cc

no_unit : (r : Answer (Unit {0}) ℕ) (n : ℕ) → None ≡ behind r → is_ok (r >>= λ x. many_at tt unit_at n x.1 >>= λ y. Ok (x.0 ∷ y)) ≡ false
no_unit (Ok x) n h = absurd cc
no_unit (Err d) n h = refl

pub text_goes_on : (count i : ℕ) (bytes after : List ℕ) (total : Bool) → i < count → false ≡ eqb (length bytes) 0 → Some after ≡ behind (unit_at bytes) → rest_is_text (count - i) bytes ≡ total → rest_is_text (count - (i + 1)) after ≡ total
text_goes_on count i bytes after total lt some h so_far =
    let k : count - i ≡ suc (count - (i + 1)) = omega arith in
    let one = ap (λ (n : ℕ). rest_is_text n bytes) k ∙ ap is_ok (many_some tt unit_at (count - (i + 1)) bytes (is_some bytes some)) ∙ one_unit (unit_at bytes) (count - (i + 1)) after h in
    sym one ∙ so_far

pub text_stops : (count i : ℕ) (bytes : List ℕ) (total : Bool) → i < count → false ≡ eqb (length bytes) 0 → None ≡ behind (unit_at bytes) → rest_is_text (count - i) bytes ≡ total → false ≡ total
text_stops count i bytes total lt some h so_far =
    let k : count - i ≡ suc (count - (i + 1)) = omega arith in
    let one = ap (λ (n : ℕ). rest_is_text n bytes) k ∙ ap is_ok (many_some tt unit_at (count - (i + 1)) bytes (is_some bytes some)) ∙ no_unit (unit_at bytes) (count - (i + 1)) h in
    sym one ∙ so_far

over_text : (bytes : List ℕ) → rest_is_text 0 bytes ≡ eqb (length bytes) 0
unfolding many_at
over_text [] = refl
over_text (b ∷ bs) = let more : eqb (suc (length bs)) 0 ≡ false = grind arith in sym more

pub text_over : (count i : ℕ) (bytes : List ℕ) (total : Bool) → count ≤ i → rest_is_text (count - i) bytes ≡ total → eqb (length bytes) 0 ≡ total
text_over count i bytes total le so_far =
    let k : count - i ≡ 0 = omega arith in
    sym (ap (λ (n : ℕ). rest_is_text n bytes) k ∙ over_text bytes) ∙ so_far
