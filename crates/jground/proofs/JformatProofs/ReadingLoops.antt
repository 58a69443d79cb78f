-- Reading and writing values one behind the other, as loops do: what is left gives what all gives.
use Rattle.std.proofs.Common.{◌≡◌, ℕ, zero, suc, ◌-◌, ◌+◌, ◌≤◌, ◌<◌, Bool, true, false, ◌&&◌, eqb, List, [], ◌∷◌, ◌++◌, length, get_or, drop, Result, Ok, Err, refl, sym, ap, ◌∙◌, append_assoc, arith, add-one}
use Rattle.std.specs.Prelude.{IsTrue}
use Rattle.std.proofs.Math.Seq.{drop-cons}
use Rattle.std.proofs.Math.ListN.{drop_of_length-le}
use Rattle.std.proofs.lemmas.Bool.{eqb-true}
use Rattle.std.proofs.lemmas.List.{append-nil}
use Rattle.jground.specs.declared.jbase.fault_or_memory.FaultOrMemory.{FaultOrMemory}
use Rattle.jground.specs.declared.jbase.fault_or_memory.FaultOrMemory.TheVariants as stops
use Rattle.jground.specs.jbase.MemoryFailures.{◌>>=◌, Fails}
use Rattle.jground.specs.declared.jformat.error.Fault.{Fault}
use Rattle.jground.specs.jformat.Format.{Answer, fault}
use Rattle.jground.specs.jformat.BodyFormats.{times_at, many_at}
use Rattle.jground.specs.jformat.StatefulFormats.{times_from, many_from, spell_from, fits_from}
use Rattle.jground.proofs.JformatProofs.StatefulFormats.{many_from_some}
use Rattle.jground.proofs.JformatProofs.ReadingSteps.{first_true, second_true}

-- ---- so many values

-- what was read before, and what is still read
abbrev pub with_front : {K A : Type 0} → List A → Answer K (List A) → Answer K (List A)
with_front front read = read >>= λ x. Ok (front ++ x.0, x.1)

regroup : {K A : Type 0} (front : List A) (n : A) (read : Answer K (List A)) → with_front front (read >>= λ x. Ok (n ∷ x.0, x.1)) ≡ with_front (front ++ n ∷ []) read
regroup {K} {A} front n (Ok x) = ap (λ (ns : List A). Ok (ns, x.1)) (simp append_assoc)
regroup front n (Err f) = refl

pub times_more : {K S A : Type 0} (read : S → List ℕ → Answer K A) (next : S → A → S) (s : S) (front : List A) (count i : ℕ) (bytes : List ℕ) (n : A) (after : List ℕ) (total : Answer K (List A)) → i < count → read s bytes ≡ Ok (n, after)
    → with_front front (times_from read next s (count - i) bytes) ≡ total → with_front (front ++ n ∷ []) (times_from read next (next s n) (count - (i + 1)) after) ≡ total
unfolding times_from
times_more read next s front count i bytes n after total lt h so_far =
    let k : count - i ≡ suc (count - (i + 1)) = omega arith in
    let one : with_front front (times_from read next s (count - i) bytes) ≡ with_front (front ++ n ∷ []) (times_from read next (next s n) (count - (i + 1)) after) = rw (k, h) (regroup front n (times_from read next (next s n) (count - (i + 1)) after)) in
    sym one ∙ so_far

pub times_fail : {K S A : Type 0} (read : S → List ℕ → Answer K A) (next : S → A → S) (s : S) (stop : FaultOrMemory (Fault K)) (front : List A) (count i : ℕ) (bytes : List ℕ) (total : Answer K (List A)) → i < count → Fails stop (read s bytes)
    → with_front front (times_from read next s (count - i) bytes) ≡ total → Fails stop total
unfolding times_from
times_fail read next s stops.Memory front count i bytes total lt h so_far = tt
times_fail read next s (stops.Fault f) front count i bytes total lt h so_far =
    let k : count - i ≡ suc (count - (i + 1)) = omega arith in
    let one : with_front front (times_from read next s (count - i) bytes) ≡ Err f = rw (k, h) refl in
    sym so_far ∙ one

pub times_end : {K S A : Type 0} (read : S → List ℕ → Answer K A) (next : S → A → S) (s : S) (front : List A) (count i : ℕ) (bytes : List ℕ) (total : Answer K (List A)) → count ≤ i → with_front front (times_from read next s (count - i) bytes) ≡ total → total ≡ Ok (front, bytes)
unfolding times_from
times_end {K} {S} {A} read next s front count i bytes total le so_far =
    let k : count - i ≡ 0 = omega arith in
    let one : with_front front (times_from read next s (count - i) bytes) ≡ Ok (front, bytes) = rw k (ap (λ (ns : List A). Ok (ns, bytes)) (append-nil front)) in
    sym so_far ∙ one

bind_same : {A B F : Type 0} (r : Result A F) (f g : A → Result B F) → ((x : A) → f x ≡ g x) → (r >>= f) ≡ (r >>= g)
bind_same (Ok x) f g h = h x
bind_same (Err d) f g h = refl

-- without a state
plain_times : {K A : Type 0} (read : List ℕ → Answer K A) (n : ℕ) (bytes : List ℕ) → times_from (λ (u : Unit {0}). read) (λ (u : Unit {0}) (a : A). u) tt n bytes ≡ times_at read n bytes
unfolding times_at times_from
plain_times read zero bytes = refl
plain_times {K} {A} read (suc n) bytes = bind_same (read bytes) (λ x. times_from (λ (u : Unit {0}). read) (λ (u : Unit {0}) (a : A). u) tt n x.1 >>= λ y. Ok (x.0 ∷ y.0, y.1)) (λ x. times_at read n x.1 >>= λ y. Ok (x.0 ∷ y.0, y.1))
    (λ x. ap (λ (r : Answer K (List A)). r >>= λ y. Ok (x.0 ∷ y.0, y.1)) (plain_times read n x.1))

-- nothing was read before
front_none : {K A : Type 0} (read : Answer K (List A)) → with_front [] read ≡ read
front_none (Ok x) = refl
front_none (Err d) = refl

pub times_begin : {K A : Type 0} (read : List ℕ → Answer K A) (m n : ℕ) (bytes : List ℕ) → m ≡ n → with_front [] (times_from (λ (u : Unit {0}). read) (λ (u : Unit {0}) (a : A). u) tt m bytes) ≡ times_at read n bytes
times_begin {K} {A} read m n bytes h = front_none (times_from (λ (u : Unit {0}). read) (λ (u : Unit {0}) (a : A). u) tt m bytes) ∙ plain_times read m bytes ∙ ap (λ k. times_at read k bytes) h

pub times_by_begin : {K S A : Type 0} (read : S → List ℕ → Answer K A) (next : S → A → S) (s : S) (m n : ℕ) (bytes : List ℕ) → m ≡ n → with_front [] (times_from read next s m bytes) ≡ times_from read next s n bytes
times_by_begin read next s m n bytes h = front_none (times_from read next s m bytes) ∙ ap (λ k. times_from read next s k bytes) h

-- ---- to the end

abbrev pub with_list : {K A : Type 0} → List A → Result (List A) (Fault K) → Result (List A) (Fault K)
with_list front read = read >>= λ x. Ok (front ++ x)

regroup_list : {K A : Type 0} (front : List A) (n : A) (read : Result (List A) (Fault K)) → with_list front (read >>= λ x. Ok (n ∷ x)) ≡ with_list (front ++ n ∷ []) read
regroup_list {K} {A} front n (Ok x) = ap (λ (ns : List A). Ok ns) (simp append_assoc)
regroup_list front n (Err f) = refl

none_left : {K S A : Type 0} (more : K) (read : S → List ℕ → Answer K A) (next : S → A → S) (s : S) (n : ℕ) (bytes : List ℕ) → length bytes ≡ 0 → many_from more read next s n bytes ≡ Ok []
unfolding many_from
none_left more read next s zero [] h = refl
none_left more read next s (suc n) [] h = refl
none_left more read next s n (b ∷ bs) h = absurd (omega arith)

over : {K S A : Type 0} (more : K) (read : S → List ℕ → Answer K A) (next : S → A → S) (s : S) (bytes : List ℕ) → 0 < length bytes → many_from more read next s 0 bytes ≡ fault more bytes
unfolding many_from
over more read next s [] lt = absurd (omega arith)
over more read next s (b ∷ bs) lt = refl

pub many_more : {K S A : Type 0} (more : K) (read : S → List ℕ → Answer K A) (next : S → A → S) (s : S) (front : List A) (count i : ℕ) (bytes : List ℕ) (n : A) (after : List ℕ) (total : Result (List A) (Fault K)) → i < count → 0 < length bytes → read s bytes ≡ Ok (n, after)
    → with_list front (many_from more read next s (count - i) bytes) ≡ total → with_list (front ++ n ∷ []) (many_from more read next (next s n) (count - (i + 1)) after) ≡ total
many_more more read next s front count i bytes n after total lt some h so_far =
    let k : count - i ≡ suc (count - (i + 1)) = omega arith in
    let one : with_list front (many_from more read next s (count - i) bytes) ≡ with_list (front ++ n ∷ []) (many_from more read next (next s n) (count - (i + 1)) after) = ap (λ j. with_list front (many_from more read next s j bytes)) k ∙ ap (with_list front) (many_from_some more read next s (count - (i + 1)) bytes some) ∙ rw h (regroup_list front n (many_from more read next (next s n) (count - (i + 1)) after)) in
    sym one ∙ so_far

pub many_fail : {K S A : Type 0} (more : K) (read : S → List ℕ → Answer K A) (next : S → A → S) (s : S) (stop : FaultOrMemory (Fault K)) (front : List A) (count i : ℕ) (bytes : List ℕ) (total : Result (List A) (Fault K)) → i < count → 0 < length bytes → Fails stop (read s bytes)
    → with_list front (many_from more read next s (count - i) bytes) ≡ total → Fails stop total
many_fail more read next s stops.Memory front count i bytes total lt some h so_far = tt
many_fail more read next s (stops.Fault f) front count i bytes total lt some h so_far =
    let k : count - i ≡ suc (count - (i + 1)) = omega arith in
    let one : with_list front (many_from more read next s (count - i) bytes) ≡ Err f = ap (λ j. with_list front (many_from more read next s j bytes)) k ∙ ap (with_list front) (many_from_some more read next s (count - (i + 1)) bytes some) ∙ rw h refl in
    sym so_far ∙ one

pub many_done : {K S A : Type 0} (more : K) (read : S → List ℕ → Answer K A) (next : S → A → S) (s : S) (front : List A) (n : ℕ) (bytes : List ℕ) (total : Result (List A) (Fault K)) → length bytes ≡ 0 → with_list front (many_from more read next s n bytes) ≡ total → total ≡ Ok front
many_done {K} {S} {A} more read next s front n bytes total none so_far =
    sym so_far ∙ ap (with_list front) (none_left more read next s n bytes none) ∙ ap (λ (x : List A). Ok x) (append-nil front)

pub many_over : {K S A : Type 0} (more : K) (read : S → List ℕ → Answer K A) (next : S → A → S) (s : S) (front : List A) (count i : ℕ) (bytes : List ℕ) (total : Result (List A) (Fault K)) → count ≤ i → 0 < length bytes → with_list front (many_from more read next s (count - i) bytes) ≡ total → total ≡ fault more bytes
many_over more read next s front count i bytes total le some so_far =
    let k : count - i ≡ 0 = omega arith in
    sym so_far ∙ ap (λ j. with_list front (many_from more read next s j bytes)) k ∙ ap (with_list front) (over more read next s bytes some)

plain_many : {K A : Type 0} (more : K) (read : List ℕ → Answer K A) (n : ℕ) (bytes : List ℕ) → many_from more (λ (u : Unit {0}). read) (λ (u : Unit {0}) (a : A). u) tt n bytes ≡ many_at more read n bytes
unfolding many_at many_from
plain_many more read zero [] = refl
plain_many more read zero (b ∷ bs) = refl
plain_many more read (suc n) [] = refl
plain_many {K} {A} more read (suc n) (b ∷ bs) = bind_same (read (b ∷ bs)) (λ x. many_from more (λ (u : Unit {0}). read) (λ (u : Unit {0}) (a : A). u) tt n x.1 >>= λ y. Ok (x.0 ∷ y)) (λ x. many_at more read n x.1 >>= λ y. Ok (x.0 ∷ y))
    (λ x. ap (λ (r : Result (List A) (Fault K)). r >>= λ y. Ok (x.0 ∷ y)) (plain_many more read n x.1))

list_none : {K A : Type 0} (read : Result (List A) (Fault K)) → with_list [] read ≡ read
list_none (Ok x) = refl
list_none (Err d) = refl

pub many_begin : {K A : Type 0} (more : K) (read : List ℕ → Answer K A) (m n : ℕ) (bytes : List ℕ) → m ≡ n → with_list [] (many_from more (λ (u : Unit {0}). read) (λ (u : Unit {0}) (a : A). u) tt m bytes) ≡ many_at more read n bytes
many_begin {K} {A} more read m n bytes h = list_none (many_from more (λ (u : Unit {0}). read) (λ (u : Unit {0}) (a : A). u) tt m bytes) ∙ plain_many more read m bytes ∙ ap (λ k. many_at more read k bytes) h

pub many_by_begin : {K S A : Type 0} (more : K) (read : S → List ℕ → Answer K A) (next : S → A → S) (s : S) (m n : ℕ) (bytes : List ℕ) → m ≡ n → with_list [] (many_from more read next s m bytes) ≡ many_from more read next s n bytes
many_by_begin more read next s m n bytes h = list_none (many_from more read next s m bytes) ∙ ap (λ k. many_from more read next s k bytes) h

-- what `is_empty` tells
pub is_none : (bytes : List ℕ) → true ≡ eqb (length bytes) 0 → length bytes ≡ 0
is_none bytes h = eqb-true _ _ (sym h)

pub is_some : (bytes : List ℕ) → false ≡ eqb (length bytes) 0 → 0 < length bytes
is_some [] h = absurd cc
is_some (b ∷ bs) h = omega arith

-- ---- writing by a state

pub spell_next : {S A : Type 0} (spell : S → A → List ℕ) (next : S → A → S) (s : S) (xs : List A) (i : ℕ) (x : A) (out more total : List ℕ) → i < length xs → x ≡ get_or xs i x → more ≡ out ++ spell s x → out ++ spell_from spell next s (drop i xs) ≡ total → more ++ spell_from spell next (next s x) (drop (i + 1) xs) ≡ total
unfolding spell_from
spell_next spell next s xs i x out more total lt is m so_far =
    let one : spell_from spell next s (drop i xs) ≡ spell s x ++ spell_from spell next (next s x) (drop (suc i) xs) = rw (drop-cons xs i x, ← is) refl in
    let two : more ++ spell_from spell next (next s x) (drop (suc i) xs) ≡ out ++ spell_from spell next s (drop i xs) = ap (λ (t : List ℕ). t ++ spell_from spell next (next s x) (drop (suc i) xs)) m ∙ append_assoc out (spell s x) (spell_from spell next (next s x) (drop (suc i) xs)) ∙ ap (λ (t : List ℕ). out ++ t) (sym one) in
    rw add-one (two ∙ so_far)

pub spell_end : {S A : Type 0} (spell : S → A → List ℕ) (next : S → A → S) (s : S) (xs : List A) (i : ℕ) (out total : List ℕ) → length xs ≤ i → out ++ spell_from spell next s (drop i xs) ≡ total → out ≡ total
unfolding spell_from
spell_end spell next s xs i out total le so_far =
    let one : spell_from spell next s (drop i xs) ≡ [] = rw (drop_of_length-le xs le) refl in
    sym (append-nil out) ∙ ap (λ (t : List ℕ). out ++ t) (sym one) ∙ so_far

pub fits_here : {S A : Type 0} (fits : S → A → Bool) (next : S → A → S) (s : S) (xs : List A) (i : ℕ) (x : A) → i < length xs → x ≡ get_or xs i x → IsTrue (fits_from fits next s (drop i xs)) → (IsTrue (fits s x)) × (IsTrue (fits_from fits next (next s x) (drop (i + 1) xs)))
unfolding fits_from
fits_here fits next s xs i x lt is h =
    let one : fits_from fits next s (drop i xs) ≡ (fits s x && fits_from fits next (next s x) (drop (suc i) xs)) = rw (drop-cons xs i x, ← is) refl in
    let both : IsTrue (fits s x && fits_from fits next (next s x) (drop (suc i) xs)) = sym one ∙ h in
    (first_true (fits s x) (fits_from fits next (next s x) (drop (suc i) xs)) both, rw add-one (second_true (fits s x) (fits_from fits next (next s x) (drop (suc i) xs)) both))
