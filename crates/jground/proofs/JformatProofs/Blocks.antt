-- The laws of bodies, texts inside others, and values one behind the other.
use Rattle.std.proofs.Common.{◌≡◌, ℕ, zero, suc, ◌+◌, ◌<◌, ◌≤◌, true, false, cond, ltb, eqb, List, [], ◌∷◌, ◌++◌, length, take, drop, Result, Ok, Err, refl, sym, ap, subst, ◌∙◌, append_assoc, arith, inl, inr}
use Rattle.std.specs.Prelude.{IsTrue}
use Rattle.std.specs.List.{flat_map, list_all}
use Rattle.std.proofs.lemmas.Bool.{ltb-false, lt-ltb, le-ltb, eqb-true}
use Rattle.std.proofs.lemmas.List.{take_at, drop_at, take-append-drop, length-append, length-take-le, append-nil, nil_from_length}
use Rattle.std.proofs.lemmas.List.Concat.{flat_map-cons}
use Rattle.jground.specs.jbase.MemoryFailures.{◌>>=◌}
use Rattle.jground.specs.declared.jformat.error.Fault.{Fault}
use Rattle.jground.specs.jformat.Format.{IsBytes, Answer, Format, fault, run_at}
use Rattle.jground.specs.ProofNames.{fault_at}
use Rattle.jground.specs.jformat.BodyFormats.{Body, all, whole, outward, inner_at, block, sized, times_at, counted, counted_at, many, many_at}
use Rattle.jground.proofs.JformatProofs.ReadingSteps.{IsBytes-drop, IsBytes-take, IsBytes-rest, bind_ok, bind_err, guard_ok, guard_err, guard_ended, guard_cut, ok_is, both, first_true, second_true, fault_within}
use Rattle.jground.proofs.JformatProofs.FormatLaws.{IsReading, IsFormat, HasBytes, bind_reading}

pub record IsBody {K A : Type 0} (f : Body K A) : Type 0 where
  pub takes : (bytes : List ℕ) (a : A) → IsBytes bytes → f.read bytes ≡ Ok a → IsTrue (f.fits a) × (bytes ≡ f.spell a)
  pub again : (a : A) → IsTrue (f.fits a) → f.read (f.spell a) ≡ Ok a
  pub within : (bytes : List ℕ) (d : Fault K) → f.read bytes ≡ Err d → d.left ≤ length bytes

all_bytes : (text : List ℕ) → IsBytes text → list_all (λ b. ltb b 256) text ≡ true
all_bytes [] fits = refl
all_bytes (b ∷ bs) fits = both _ _ (lt-ltb _ _ (fits 0)) (all_bytes bs (IsBytes-rest b bs fits))

-- All bytes of a text, read as they are, have no fault.
no_fault : {K : Type 0} (bytes : List ℕ) (d : Fault K) → (all {K = K}).read bytes ≡ Err d → d.left ≤ length bytes
no_fault bytes d e = absurd cc

pub all_law : {K : Type 0} → IsBody (all {K = K})
all_law {K} = record {
  takes = λ bytes a fits e.
      subst (λ (y : List ℕ). IsTrue (list_all (λ b. ltb b 256) y) × (bytes ≡ y)) (ok_is (Fault K) bytes a e) (all_bytes bytes fits, refl);
  again = λ a fit. refl;
  within = no_fault;
}

-- ---- so many bytes

-- what a run that was read is
pub record IsRun (n : ℕ) (bytes : List ℕ) (x : List ℕ × List ℕ) : Type 0 where
  pub parts : bytes ≡ x.0 ++ x.1
  pub len : length x.0 ≡ n

pub run_is : {K : Type 0} (cut : K) (n : ℕ) (bytes : List ℕ) (x : List ℕ × List ℕ) → run_at cut n bytes ≡ Ok x → IsRun n bytes x
run_is {K} cut n bytes x e =
    let made : List ℕ × List ℕ = (take n bytes, drop n bytes) in
    let g = guard_ok {F = Fault K} (ltb (length bytes) n) (fault_at cut bytes) made x e in
    let long : n ≤ length bytes = ltb-false _ _ g.0 in
    let whole_run : IsRun n bytes made = record { parts = sym (take-append-drop n bytes); len = length-take-le n bytes long } in
    subst (IsRun n bytes) g.1 whole_run

run_bytes : {K : Type 0} (cut : K) (n : ℕ) (bytes : List ℕ) (x : List ℕ × List ℕ) → IsBytes bytes → run_at cut n bytes ≡ Ok x → (IsBytes x.0) × (IsBytes x.1)
run_bytes {K} cut n bytes x fits e =
    let made : List ℕ × List ℕ = (take n bytes, drop n bytes) in
    let g = guard_ok {F = Fault K} (ltb (length bytes) n) (fault_at cut bytes) made x e in
    subst (λ (y : List ℕ × List ℕ). (IsBytes y.0) × (IsBytes y.1)) g.1 (IsBytes-take n bytes fits, IsBytes-drop n bytes fits)

pub run_again : {K : Type 0} (cut : K) (n : ℕ) (text rest : List ℕ) → length text ≡ n → run_at cut n (text ++ rest) ≡ Ok (text, rest)
run_again cut n text rest len =
    let long : ltb (length (text ++ rest)) n ≡ false = le-ltb _ _ (omega (arith, length-append text rest)) in
    rw (long, take_at text rest n len, drop_at text rest n len) refl

pub run_reading : {K : Type 0} (cut : K) (n : ℕ) → IsReading (run_at cut n)
run_reading {K} cut n = record {
  within = λ bytes d e. fault_within cut bytes bytes d (omega arith) (guard_err {A = List ℕ × List ℕ} (ltb (length bytes) n) (fault_at cut bytes) d (take n bytes, drop n bytes) e);
  shorter = λ bytes x e. let r = run_is cut n bytes x e in omega (arith, ap length r.parts, length-append x.0 x.1);
}

-- ---- all of the bytes

pub whole_law : {K A : Type 0} (more : K) (f : Format K A) → IsFormat f → IsBody (whole more f)
whole_law {K} {A} more f F = record {
  takes = λ bytes a fits e.
      let p = bind_ok (f.read bytes) (λ x. cond (eqb (length x.1) 0) (Ok x.0) (fault more x.1)) a e in
      let s = F.takes bytes p.0 fits p.1 in
      let g = guard_ended {F = Fault K} (eqb (length p.0.1) 0) (fault_at more p.0.1) p.0.0 a p.2 in
      let none_left : p.0.1 ≡ [] = nil_from_length p.0.1 (eqb-true _ _ g.0) in
      let text : bytes ≡ f.spell p.0.0 = s.parts ∙ ap (λ (r : List ℕ). f.spell p.0.0 ++ r) none_left ∙ append-nil (f.spell p.0.0) in
      subst (λ (y : A). IsTrue (f.fits y) × (bytes ≡ f.spell y)) g.1 (s.fit, text);
  again = λ a fit.
      let one : f.read (f.spell a) ≡ Ok (a, []) = ap f.read (sym (append-nil (f.spell a))) ∙ F.again a [] fit in
      rw one refl;
  within = λ bytes d e.
      elim (bind_err (f.read bytes) (λ x. cond (eqb (length x.1) 0) (Ok x.0) (fault more x.1)) d e) [
        | inl h ↦ F.reading.within bytes d h
        | inr h ↦ fault_within more h.0.1 bytes d (F.reading.shorter bytes h.0 h.1) (guard_cut {F = Fault K} (eqb (length h.0.1) 0) (fault_at more h.0.1) d h.0.0 h.2)
      ];
}

-- ---- texts inside others

outward_ok : {K A : Type 0} (behind : ℕ) (r : Result A (Fault K)) (a : A) → outward behind r ≡ Ok a → r ≡ Ok a
outward_ok behind (Ok x) a e = e
outward_ok behind (Err d) a e = absurd cc

outward_err : {K A : Type 0} (behind : ℕ) (r : Result A (Fault K)) (d : Fault K) → outward behind r ≡ Err d → (c : Fault K) × (r ≡ Err c) × (d.left ≡ c.left + behind)
outward_err behind (Ok x) d e = absurd cc
outward_err {K} behind (Err c) d e =
    let moved : Fault K = record { left = c.left + behind; kind = c.kind } in
    let same : moved ≡ d = cc in (c, refl, ap (λ (y : Fault K). y.left) (sym same))

-- what a fault inside a text and what lies behind the text take together
pub inside : {K : Type 0} (cut : K) (n : ℕ) (bytes text behind : List ℕ) (left : ℕ) → run_at cut n bytes ≡ Ok (text, behind) → left ≤ length text → left + length behind ≤ length bytes
inside cut n bytes text behind left e le =
    let r = run_is cut n bytes (text, behind) e in
    omega (arith, ap length r.parts, length-append text behind)

inner_within : {K A : Type 0} (cut : K) (f : Body K A) → IsBody f → (n : ℕ) (bytes : List ℕ) (d : Fault K) → inner_at cut f.read n bytes ≡ Err d → d.left ≤ length bytes
inner_within {K} {A} cut f F n bytes d e =
    elim (bind_err (run_at cut n bytes) (λ r. outward (length r.1) (f.read r.0) >>= λ y. Ok (y, r.1)) d e) [
      | inl h ↦ (run_reading cut n).within bytes d h
      | inr h ↦
          elim (bind_err (outward (length h.0.1) (f.read h.0.0)) (λ y. Ok (y, h.0.1)) d h.2) [
            | inl m ↦
                let o = outward_err (length h.0.1) (f.read h.0.0) d m in
                let le : o.0.left ≤ length h.0.0 = F.within h.0.0 o.0 o.1 in
                let moved : d.left ≡ o.0.left + length h.0.1 = o.2 in
                rw moved (inside cut n bytes h.0.0 h.0.1 o.0.left h.1 le)
            | inr m ↦ absurd cc
          ]
    ]

inner_shorter : {K A : Type 0} (cut : K) (read : List ℕ → Result A (Fault K)) (n : ℕ) (bytes : List ℕ) (x : A × List ℕ) → inner_at cut read n bytes ≡ Ok x → length x.1 ≤ length bytes
inner_shorter {K} {A} cut read n bytes x e =
    let b = bind_ok (run_at cut n bytes) (λ r. outward (length r.1) (read r.0) >>= λ y. Ok (y, r.1)) x e in
    let c = bind_ok (outward (length b.0.1) (read b.0.0)) (λ y. Ok (y, b.0.1)) x b.2 in
    let made : A × List ℕ = (c.0, b.0.1) in
    rw (sym (ok_is (Fault K) made x c.2)) ((run_reading cut n).shorter bytes b.0 b.1)

pub inner_reading : {K A : Type 0} (cut : K) (f : Body K A) → IsBody f → (n : ℕ) → IsReading (inner_at cut f.read n)
inner_reading cut f F n = record { within = inner_within cut f F n; shorter = inner_shorter cut f.read n }

-- what a text that was read says of the bytes
record IsInner {K A : Type 0} (f : Body K A) (n : ℕ) (bytes : List ℕ) (x : A × List ℕ) : Type 0 where
  parts : bytes ≡ f.spell x.0 ++ x.1
  rest_fits : IsBytes x.1
  fit : IsTrue (f.fits x.0)
  len : length (f.spell x.0) ≡ n

inner_takes : {K A : Type 0} (cut : K) (f : Body K A) → IsBody f → (n : ℕ) (bytes : List ℕ) (x : A × List ℕ) → IsBytes bytes → inner_at cut f.read n bytes ≡ Ok x → IsInner f n bytes x
inner_takes {K} {A} cut f F n bytes x fits e =
    let b = bind_ok (run_at cut n bytes) (λ r. outward (length r.1) (f.read r.0) >>= λ y. Ok (y, r.1)) x e in
    let r = run_is cut n bytes b.0 b.1 in
    let q = run_bytes cut n bytes b.0 fits b.1 in
    let c = bind_ok (outward (length b.0.1) (f.read b.0.0)) (λ y. Ok (y, b.0.1)) x b.2 in
    let t = F.takes b.0.0 c.0 q.0 (outward_ok (length b.0.1) (f.read b.0.0) c.0 c.1) in
    let made : A × List ℕ = (c.0, b.0.1) in
    let whole_text : IsInner f n bytes made = record {
      parts = r.parts ∙ ap (λ (y : List ℕ). y ++ b.0.1) t.1;
      rest_fits = q.1;
      fit = t.0;
      len = ap length (sym t.1) ∙ r.len;
    } in
    subst (λ (y : A × List ℕ). IsInner f n bytes y) (ok_is (Fault K) made x c.2) whole_text

pub block_law : {K A : Type 0} (count : Format K ℕ) (cut : K) (f : Body K A) → IsFormat count → IsBody f → IsFormat (block count cut f)
block_law {K} {A} count cut f C F = record {
  takes = λ bytes x fits e.
      let a = bind_ok (count.read bytes) (λ n. inner_at cut f.read n.0 n.1) x e in
      let s = C.takes bytes a.0 fits a.1 in
      let t = inner_takes cut f F a.0.0 a.0.1 x s.rest_fits a.2 in
      record {
        parts = rw t.len (s.parts ∙ ap (λ (y : List ℕ). count.spell a.0.0 ++ y) t.parts ∙ sym (append_assoc (count.spell a.0.0) (f.spell x.0) x.1));
        rest_fits = t.rest_fits;
        fit = both _ _ t.fit (rw t.len s.fit);
      };
  again = λ x rest fit.
      let one = C.again (length (f.spell x)) (f.spell x ++ rest) (second_true _ _ fit) in
      let two = run_again cut (length (f.spell x)) (f.spell x) rest refl in
      let three = F.again x (first_true _ _ fit) in
      ap (block count cut f).read (append_assoc (count.spell (length (f.spell x))) (f.spell x) rest) ∙ rw (one, two, three) refl;
  reading = bind_reading count.read (λ n. inner_at cut f.read n.0 n.1) C.reading (λ x d e. inner_within cut f F x.0 x.1 d e) (λ x y e. inner_shorter cut f.read x.0 x.1 y e);
}

pub sized_law : {K : Type 0} (count : Format K ℕ) (cut : K) → IsFormat count → IsFormat (sized count cut)
sized_law count cut C = block_law count cut all C all_law

-- ---- so many values

record TakesAll {K A : Type 0} (f : Format K A) (bytes : List ℕ) (n : ℕ) (x : List A × List ℕ) : Type 0 where
  parts : bytes ≡ flat_map f.spell x.0 ++ x.1
  rest_fits : IsBytes x.1
  fit : IsTrue (list_all f.fits x.0)
  len : length x.0 ≡ n

times_take : {K A : Type 0} (f : Format K A) → IsFormat f → (n : ℕ) (bytes : List ℕ) (x : List A × List ℕ) → IsBytes bytes → times_at f.read n bytes ≡ Ok x → TakesAll f bytes n x
unfolding times_at
times_take {K} {A} f F zero bytes x fits e =
    let made : List A × List ℕ = ([], bytes) in
    let whole_list : TakesAll f bytes 0 made = record { parts = refl; rest_fits = fits; fit = refl; len = refl } in
    subst (λ (y : List A × List ℕ). TakesAll f bytes 0 y) (ok_is (Fault K) made x e) whole_list
times_take {K} {A} f F (suc n) bytes x fits e =
    let a = bind_ok (f.read bytes) (λ p. times_at f.read n p.1 >>= λ q. Ok (p.0 ∷ q.0, q.1)) x e in
    let b = bind_ok (times_at f.read n a.0.1) (λ q. Ok (a.0.0 ∷ q.0, q.1)) x a.2 in
    let s = F.takes bytes a.0 fits a.1 in
    let t = times_take f F n a.0.1 b.0 s.rest_fits b.1 in
    let made : List A × List ℕ = (a.0.0 ∷ b.0.0, b.0.1) in
    let whole_list : TakesAll f bytes (suc n) made = record {
      parts = rw flat_map-cons (s.parts ∙ ap (λ (r : List ℕ). f.spell a.0.0 ++ r) t.parts ∙ sym (append_assoc (f.spell a.0.0) (flat_map f.spell b.0.0) b.0.1));
      rest_fits = t.rest_fits;
      fit = both _ _ s.fit t.fit;
      len = ap suc t.len;
    } in
    subst (λ (y : List A × List ℕ). TakesAll f bytes (suc n) y) (ok_is (Fault K) made x b.2) whole_list

times_again : {K A : Type 0} (f : Format K A) → IsFormat f → (xs : List A) (rest : List ℕ) → IsTrue (list_all f.fits xs) → times_at f.read (length xs) (flat_map f.spell xs ++ rest) ≡ Ok (xs, rest)
unfolding times_at
times_again f F [] rest fit = refl
times_again f F (x ∷ xs) rest fit =
    let regrouped : flat_map f.spell (x ∷ xs) ++ rest ≡ f.spell x ++ (flat_map f.spell xs ++ rest) = ap (λ (t : List ℕ). t ++ rest) (flat_map-cons f.spell x xs) ∙ append_assoc (f.spell x) (flat_map f.spell xs) rest in
    let one = F.again x (flat_map f.spell xs ++ rest) (first_true (f.fits x) (list_all f.fits xs) fit) in
    let others = times_again f F xs rest (second_true (f.fits x) (list_all f.fits xs) fit) in
    ap (times_at f.read (suc (length xs))) regrouped ∙ rw (one, others) refl

times_within : {K A : Type 0} (read : List ℕ → Answer K A) → IsReading read → (n : ℕ) (bytes : List ℕ) (d : Fault K) → times_at read n bytes ≡ Err d → d.left ≤ length bytes
unfolding times_at
times_within read R zero bytes d e = absurd cc
times_within read R (suc n) bytes d e =
    elim (bind_err (read bytes) (λ p. times_at read n p.1 >>= λ q. Ok (p.0 ∷ q.0, q.1)) d e) [
      | inl h ↦ R.within bytes d h
      | inr h ↦
          let le = R.shorter bytes h.0 h.1 in
          elim (bind_err (times_at read n h.0.1) (λ q. Ok (h.0.0 ∷ q.0, q.1)) d h.2) [
            | inl k ↦ let in_rest : d.left ≤ length h.0.1 = times_within read R n h.0.1 d k in omega arith
            | inr k ↦ absurd cc
          ]
    ]

times_shorter : {K A : Type 0} (read : List ℕ → Answer K A) → IsReading read → (n : ℕ) (bytes : List ℕ) (x : List A × List ℕ) → times_at read n bytes ≡ Ok x → length x.1 ≤ length bytes
unfolding times_at
times_shorter {K} {A} read R zero bytes x e = let made : List A × List ℕ = ([], bytes) in rw (sym (ok_is (Fault K) made x e)) (omega arith)
times_shorter {K} {A} read R (suc n) bytes x e =
    let a = bind_ok (read bytes) (λ p. times_at read n p.1 >>= λ q. Ok (p.0 ∷ q.0, q.1)) x e in
    let b = bind_ok (times_at read n a.0.1) (λ q. Ok (a.0.0 ∷ q.0, q.1)) x a.2 in
    let one = R.shorter bytes a.0 a.1 in
    let two = times_shorter read R n a.0.1 b.0 b.1 in
    let made : List A × List ℕ = (a.0.0 ∷ b.0.0, b.0.1) in
    rw (sym (ok_is (Fault K) made x b.2)) (omega arith)

pub times_reading : {K A : Type 0} (read : List ℕ → Answer K A) → IsReading read → (n : ℕ) → IsReading (times_at read n)
times_reading read R n = record { within = times_within read R n; shorter = times_shorter read R n }

pub counted_reading : {K A : Type 0} (count : List ℕ → Answer K ℕ) (read : List ℕ → Answer K A) → IsReading count → IsReading read → IsReading (counted_at count read)
counted_reading count read C R = bind_reading count (λ n. times_at read n.0 n.1) C (λ x d e. times_within read R x.0 x.1 d e) (λ x y e. times_shorter read R x.0 x.1 y e)

pub counted_law : {K A : Type 0} (count : Format K ℕ) (f : Format K A) → IsFormat count → IsFormat f → IsFormat (counted count f)
counted_law {K} {A} count f C F = record {
  takes = λ bytes x fits e.
      let a = bind_ok (count.read bytes) (λ n. times_at f.read n.0 n.1) x e in
      let s = C.takes bytes a.0 fits a.1 in
      let t = times_take f F a.0.0 a.0.1 x s.rest_fits a.2 in
      record {
        parts = rw t.len (s.parts ∙ ap (λ (r : List ℕ). count.spell a.0.0 ++ r) t.parts ∙ sym (append_assoc (count.spell a.0.0) (flat_map f.spell x.0) x.1));
        rest_fits = t.rest_fits;
        fit = both _ _ t.fit (rw t.len s.fit);
      };
  again = λ xs rest fit.
      let one = C.again (length xs) (flat_map f.spell xs ++ rest) (second_true _ _ fit) in
      ap (counted count f).read (append_assoc (count.spell (length xs)) (flat_map f.spell xs) rest) ∙ rw one (times_again f F xs rest (first_true _ _ fit));
  reading = counted_reading count.read f.read C.reading F.reading;
}

-- ---- values to the end

many_takes : {K A : Type 0} (more : K) (f : Format K A) → IsFormat f → (n : ℕ) (bytes : List ℕ) (xs : List A) → IsBytes bytes → many_at more f.read n bytes ≡ Ok xs → IsTrue (list_all f.fits xs) × (bytes ≡ flat_map f.spell xs)
unfolding many_at
many_takes {K} {A} more f F zero [] xs fits e = let none : [] ≡ xs = ok_is (Fault K) [] xs e in subst (λ (ys : List A). IsTrue (list_all f.fits ys) × ([] ≡ flat_map f.spell ys)) none (refl, refl)
many_takes more f F zero (b ∷ bs) xs fits e = absurd cc
many_takes {K} {A} more f F (suc n) [] xs fits e = let none : [] ≡ xs = ok_is (Fault K) [] xs e in subst (λ (ys : List A). IsTrue (list_all f.fits ys) × ([] ≡ flat_map f.spell ys)) none (refl, refl)
many_takes {K} {A} more f F (suc n) (b ∷ bs) xs fits e =
    let a = bind_ok (f.read (b ∷ bs)) (λ p. many_at more f.read n p.1 >>= λ q. Ok (p.0 ∷ q)) xs e in
    let c = bind_ok (many_at more f.read n a.0.1) (λ q. Ok (a.0.0 ∷ q)) xs a.2 in
    let s = F.takes (b ∷ bs) a.0 fits a.1 in
    let t = many_takes more f F n a.0.1 c.0 s.rest_fits c.1 in
    let made : List A = a.0.0 ∷ c.0 in
    let text : b ∷ bs ≡ flat_map f.spell made = rw flat_map-cons (s.parts ∙ ap (λ (r : List ℕ). f.spell a.0.0 ++ r) t.1) in
    subst (λ (ys : List A). IsTrue (list_all f.fits ys) × (b ∷ bs ≡ flat_map f.spell ys)) (ok_is (Fault K) made xs c.2) (both _ _ s.fit t.0, text)

pub many_some : {K A : Type 0} (more : K) (read : List ℕ → Answer K A) (n : ℕ) (bytes : List ℕ) → 0 < length bytes → many_at more read (suc n) bytes ≡ (read bytes >>= λ x. many_at more read n x.1 >>= λ y. Ok (x.0 ∷ y))
unfolding many_at
many_some more read n [] lt = absurd (omega arith)
many_some more read n (b ∷ bs) lt = refl

many_again : {K A : Type 0} (more : K) (f : Format K A) → IsFormat f → HasBytes f → (xs : List A) (n : ℕ) → length (flat_map f.spell xs) ≤ n → IsTrue (list_all f.fits xs) → many_at more f.read n (flat_map f.spell xs) ≡ Ok xs
unfolding many_at
many_again more f F some [] zero le fit = refl
many_again more f F some [] (suc n) le fit = refl
many_again more f F some (x ∷ xs) zero le fit =
    let lt = some x (first_true (f.fits x) (list_all f.fits xs) fit) in
    absurd (omega (arith, ap length (flat_map-cons f.spell x xs), length-append (f.spell x) (flat_map f.spell xs)))
many_again more f F some (x ∷ xs) (suc n) le fit =
    let fit_x = first_true (f.fits x) (list_all f.fits xs) fit in
    let lt = some x fit_x in
    let sum : length (flat_map f.spell (x ∷ xs)) ≡ length (f.spell x) + length (flat_map f.spell xs) = ap length (flat_map-cons f.spell x xs) ∙ length-append (f.spell x) (flat_map f.spell xs) in
    let le' : length (flat_map f.spell xs) ≤ n = omega arith in
    let others = many_again more f F some xs n le' (second_true (f.fits x) (list_all f.fits xs) fit) in
    let one = F.again x (flat_map f.spell xs) fit_x in
    let long : 0 < length (f.spell x ++ flat_map f.spell xs) = omega (arith, length-append (f.spell x) (flat_map f.spell xs)) in
    ap (many_at more f.read (suc n)) (flat_map-cons f.spell x xs) ∙ many_some more f.read n (f.spell x ++ flat_map f.spell xs) long ∙ rw (one, others) refl

pub many_within : {K A : Type 0} (more : K) (read : List ℕ → Answer K A) → IsReading read → (n : ℕ) (bytes : List ℕ) (d : Fault K) → many_at more read n bytes ≡ Err d → d.left ≤ length bytes
unfolding many_at
many_within more read R zero [] d e = absurd cc
many_within {K} more read R zero (b ∷ bs) d e = fault_within more (b ∷ bs) (b ∷ bs) d (omega arith) cc
many_within more read R (suc n) [] d e = absurd cc
many_within more read R (suc n) (b ∷ bs) d e =
    elim (bind_err (read (b ∷ bs)) (λ p. many_at more read n p.1 >>= λ q. Ok (p.0 ∷ q)) d e) [
      | inl h ↦ R.within (b ∷ bs) d h
      | inr h ↦
          let le = R.shorter (b ∷ bs) h.0 h.1 in
          elim (bind_err (many_at more read n h.0.1) (λ q. Ok (h.0.0 ∷ q)) d h.2) [
            | inl k ↦ let in_rest : d.left ≤ length h.0.1 = many_within more read R n h.0.1 d k in omega arith
            | inr k ↦ absurd cc
          ]
    ]

pub many_law : {K A : Type 0} (more : K) (f : Format K A) → IsFormat f → HasBytes f → IsBody (many more f)
many_law more f F some = record {
  takes = λ bytes xs fits e. many_takes more f F (length bytes) bytes xs fits e;
  again = λ xs fit. many_again more f F some xs (length (flat_map f.spell xs)) (omega arith) fit;
  within = λ bytes d e. many_within more f.read F.reading (length bytes) bytes d e;
}
