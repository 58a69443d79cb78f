-- A moved handler covers the expansions of what the old one covers.
use Rattle.std.proofs.Common.{◌≡◌, ◌⊎◌, ℕ, zero, suc, ◌+◌, ◌<◌, ◌≤◌, pos, Bool, true, eqb, List, [], ◌∷◌, length, Some, refl, ap, ◌∙◌, sym, subst, arith, inl, inr}
use Rattle.std.specs.Prelude.{IsTrue, slice_get}
use Rattle.std.specs.List.{list_any}
use Rattle.std.specs.Ordering.{int_eq}
use Rattle.std.proofs.lemmas.Bool.{cases_Bool, eqb-true}
use Rattle.std.proofs.lemmas.Bool.Decides.{Decides-int_eq}
use Rattle.std.proofs.lemmas.Int.{ints}
use Rattle.jparts.specs.declared.jcode.op.Op.{Op}
use Rattle.jparts.specs.declared.jcode.op.Placed.{Placed}
use Rattle.jparts.specs.jcode.Instructions.{size, code, is_place}
use Rattle.jmove.specs.declared.method.Expand.{Expand}
use Rattle.jmove.specs.declared.method.Setting.{Setting}
use Rattle.jmove.specs.AssemblyLines.{end_of, place_of, Laid}
use Rattle.jmove.specs.MethodExpansion.{expansion, lines}
use Rattle.jmove.proofs.Bounds.{laid_above}
use Rattle.jmove.proofs.CodeLayout.{code_laid}
use Rattle.jmove.proofs.Sizes.{size_some}
use Rattle.jrewriting.specs.jmove_laws.InstructionNumbers.{IsNth, index_of, length_of, standing, moved, new_place}
use Rattle.jrewriting.specs.jmove_laws.HandlerRanges.{Ranges}
use Rattle.jrewriting.proofs.JmoveLawsProofs.BranchTargets.{within, first_of, ended}
use Rattle.jrewriting.proofs.JmoveLawsProofs.InstructionNumbers.{from_on, fetched, next}
use Rattle.jrewriting.proofs.JmoveLawsProofs.InstructionSizes.{laid_placed}

-- ---- instructions one behind the other

rises : (from to : ℕ) (ps : List Placed) (a b : ℕ) (x y : Placed) → Laid from ps to → slice_get ps a ≡ Some x → slice_get ps b ≡ Some y → a < b → x.at < y.at
rises from to [] a b x y h is_x is_y lt = absurd cc
rises from to (p ∷ ps) zero zero x y h is_x is_y lt = absurd (omega arith)
rises from to (p ∷ ps) zero (suc b) x y h is_x is_y lt =
    let same : p ≡ x = cc in
    let places : p.at ≡ x.at = ap (λ (z : Placed). z.at) same in
    omega (arith, h.0, places, size_some from p.op, from_on (from + size from p.op) to ps b y h.1 is_y)
rises from to (p ∷ ps) (suc a) zero x y h is_x is_y lt = absurd (omega arith)
rises from to (p ∷ ps) (suc a) (suc b) x y h is_x is_y lt = rises (from + size from p.op) to ps a b x y h.1 is_x is_y (omega arith)

le_or : (a b : ℕ) → (a < b) ⊎ (b ≤ a)
le_or a b = grind arith

same_or : (a b : ℕ) → a ≤ b → (a ≡ b) ⊎ (a < b)
same_or a b h = grind arith

rises_or_same : (from to : ℕ) (ps : List Placed) (a b : ℕ) (x y : Placed) → Laid from ps to → slice_get ps a ≡ Some x → slice_get ps b ≡ Some y → a ≤ b → x.at ≤ y.at
rises_or_same from to ps a b x y h is_x is_y le = elim (same_or a b le) [
  | inl e ↦
      let both : Some x ≡ Some y = sym is_x ∙ ap (slice_get ps) e ∙ is_y in
      let same : x ≡ y = cc in
      let places : x.at ≡ y.at = ap (λ (z : Placed). z.at) same in
      omega arith
  | inr lt ↦ let less = rises from to ps a b x y h is_x is_y lt in omega arith
]

below_end : (from to : ℕ) (ps : List Placed) (a : ℕ) (x : Placed) → Laid from ps to → slice_get ps a ≡ Some x → x.at < to
below_end from to [] a x h is_x = absurd cc
below_end from to (p ∷ ps) zero x h is_x =
    let same : p ≡ x = cc in
    let places : p.at ≡ x.at = ap (λ (z : Placed). z.at) same in
    omega (arith, h.0, places, size_some from p.op, laid_above (from + size from p.op) to ps h.1)
below_end from to (p ∷ ps) (suc a) x h is_x = below_end (from + size from p.op) to ps a x h.1 is_x

-- ---- numbers rise

grows : (s : Setting) (ks : List Expand) (is : List Placed) (a b : ℕ) → a ≤ b → length_of s ks is a ≤ length_of s ks is b
grows s ks is zero b le = omega arith
grows s ks is (suc a) zero le = absurd (omega arith)
grows s [] is (suc a) (suc b) le = omega arith
grows s (k ∷ ks) [] (suc a) (suc b) le = omega arith
grows s (k ∷ ks) (i ∷ is) (suc a) (suc b) le = omega (arith, grows s ks is a b (omega arith))

-- ---- borders

-- a place lies before an instruction and its expansion alike
pub record Parts (to : ℕ → ℕ) (i x : Placed) (q : ℕ) : Type 0 where
  pub low : q ≤ i.at → to q ≤ x.at
  pub high : i.at < q → x.at < to q

pub at_label : (begin : List Op) (s : Setting) (ks : List Expand) (is : List Placed) → IsTrue (code.fits is)
    → (n j : ℕ) (k : Expand) (i x : Placed) → IsNth ks is n k i → j < length (expansion s k i.op) → slice_get (moved begin s ks is) (index_of begin s ks is n + j) ≡ Some x
    → (m : ℕ) (c : Expand) (t : Placed) → IsNth ks is m c t → Parts (new_place begin s ks is) i x t.at
at_label begin s ks is fits n j k i x nth lt is_x m c t mth =
    let ls = lines begin s ks is in
    let f : ℕ → ℕ = λ old. place_of old 0 ls in
    let all = moved begin s ks is in
    let laid : Laid 0 all (end_of 0 ls) = laid_placed f 0 ls in
    let old : Laid 0 is (length (code.spell is)) = code_laid is fits in
    let one = first_of s c t.op in
    let y : Placed = standing f t.at (f t.at) (expansion s c t.op) 0 one.0 in
    let none : index_of begin s ks is m + 0 ≡ index_of begin s ks is m = omega arith in
    let is_y : slice_get all (index_of begin s ks is m) ≡ Some y = sym (ap (slice_get all) none) ∙ fetched begin s ks is fits m 0 c t one.0 mth one.1 in
    record {
      low = λ le. elim (le_or n m) [
        | inl before ↦ absurd (let less = rises 0 (length (code.spell is)) is n m i t old nth.old mth.old before in omega arith)
        | inr behind ↦
            let more : index_of begin s ks is m ≤ index_of begin s ks is n + j = omega (arith, grows s ks is m n behind) in
            rises_or_same 0 (end_of 0 ls) all (index_of begin s ks is m) (index_of begin s ks is n + j) y x laid is_y is_x more
      ];
      high = λ less. elim (le_or n m) [
        | inl before ↦
            let more : length_of s ks is (n + 1) ≤ length_of s ks is m = grows s ks is (n + 1) m (omega arith) in
            let step : index_of begin s ks is (n + 1) ≡ index_of begin s ks is n + length (expansion s k i.op) = next begin s ks is n k i nth in
            let higher : index_of begin s ks is n + j < index_of begin s ks is m = omega arith in
            rises 0 (end_of 0 ls) all (index_of begin s ks is n + j) (index_of begin s ks is m) x y laid is_x is_y higher
        | inr behind ↦ absurd (let le = rises_or_same 0 (length (code.spell is)) is m n t i old mth.old nth.old behind in omega arith)
      ];
    }

at_end : (begin : List Op) (s : Setting) (ks : List Expand) (is : List Placed) → IsTrue (code.fits is) → (n m : ℕ) (i x : Placed) → slice_get is n ≡ Some i → slice_get (moved begin s ks is) m ≡ Some x
    → Parts (new_place begin s ks is) i x (length (code.spell is))
at_end begin s ks is fits n m i x is_i is_x =
    let ls = lines begin s ks is in
    let f : ℕ → ℕ = λ old. place_of old 0 ls in
    let last : f (length (code.spell is)) ≡ end_of 0 ls = ended begin s ks is fits in
    let below : x.at < end_of 0 ls = below_end 0 (end_of 0 ls) (moved begin s ks is) m x (laid_placed f 0 ls) is_x in
    let before : i.at < length (code.spell is) = below_end 0 (length (code.spell is)) is n i (code_laid is fits) is_i in
    record { low = λ le. absurd (omega arith); high = λ less. omega arith }

-- ---- a place as a number

pub record Somewhere (p : Placed → Bool) (ps : List Placed) : Type 0 where
  pub number : ℕ
  pub one : Placed
  pub stands : slice_get ps number ≡ Some one
  pub hit : p one ≡ true

pub somewhere : (p : Placed → Bool) (ps : List Placed) → list_any p ps ≡ true → Somewhere p ps
somewhere p [] e = absurd cc
somewhere p (x ∷ ps) e = elim (cases_Bool (p x)) [
  | inl hit ↦ record { number = 0; one = x; stands = refl; hit = hit }
  | inr miss ↦ let r = somewhere p ps (rw miss at e) in record { number = suc r.number; one = r.one; stands = r.stands; hit = r.hit }
]

pub there : {A : Type 0} (xs : List A) (n : ℕ) → n < length xs → (x : A) × (slice_get xs n ≡ Some x)
there [] n lt = absurd (omega arith)
there (x ∷ xs) zero lt = (x, refl)
there (x ∷ xs) (suc n) lt = there xs n (omega arith)

pub record Labelled (ks : List Expand) (is : List Placed) (q : ℕ) : Type 0 where
  pub number : ℕ
  pub kind : Expand
  pub one : Placed
  pub nth : IsNth ks is number kind one
  pub place : one.at ≡ q

pub labelled : (ks : List Expand) (is : List Placed) (q : ℕ) → length ks ≡ length is → IsTrue (is_place is (pos q)) → Labelled ks is q
labelled ks is q e hit =
    let r = somewhere (λ p. int_eq (pos p.at) (pos q)) is hit in
    let even : pos r.one.at ≡ pos q = (Decides-int_eq (pos r.one.at) (pos q)).0 r.hit in
    let same : r.one.at ≡ q = omega (arith, ints) in
    let k = there ks r.number (omega (arith, within is r.number r.one r.stands)) in
    record { number = r.number; kind = k.0; one = r.one; nth = record { kind = k.1; old = r.stands }; place = same }

-- ---- ranges

pub ranges : Ranges
ranges begin s ks is e fits h range n j k i x nth lt is_x =
    let to = new_place begin s ks is in
    let label : (q : ℕ) → IsTrue (is_place is (pos q)) → Parts to i x q =
    λ q hit. (let r = labelled ks is q e hit in subst (Parts to i x) r.place (at_label begin s ks is fits n j k i x nth lt is_x r.number r.kind r.one r.nth)) in
    let start : Parts to i x h.start = label h.start range.start in
    let past : Parts to i x h.end = elim (cases_Bool (eqb h.end (length (code.spell is)))) [
      | inl hit ↦ subst (Parts to i x) (sym (eqb-true h.end (length (code.spell is)) hit)) (at_end begin s ks is fits n (index_of begin s ks is n + j) i x nth.old is_x)
      | inr miss ↦ label h.end (rw miss at range.end)
    ] in (
      λ c. (
        elim (le_or i.at h.start) [ inl less ↦ absurd (let l = start.high less in omega (arith, c.0)) | inr le ↦ le ],
        elim (le_or i.at h.end) [ inl less ↦ less | inr le ↦ absurd (let l = past.low le in omega (arith, c.1)) ],
      ),
      λ c. (start.low c.0, past.high c.1),
    )
