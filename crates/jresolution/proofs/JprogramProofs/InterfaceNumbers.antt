-- The numbers of interfaces, as a loop gives them, and that no two have the same one.
use Rattle.std.proofs.Common.{◌≡◌, ℕ, zero, suc, ◌+◌, ◌≤◌, ◌<◌, ◌⊎◌, Bool, true, false, cond, List, [], ◌∷◌, ◌++◌, length, get_or, take, Option, Some, None, refl, sym, ap, ◌∙◌, arith, inl, inr}
use Rattle.std.specs.Prelude.{slice_get}
use Rattle.std.specs.List.{filter}
use Rattle.std.proofs.lemmas.Bool.{cases_eq, cases_lt}
use Rattle.std.proofs.lemmas.List.{length-append}
use Rattle.std.proofs.lemmas.List.Filters.{length-filter_more}
use Rattle.std.proofs.lemmas.Option.{slice_get_past, slice_get_read}
use Rattle.jresolution.specs.declared.jprogram.part.CodePart.{CodePart}
use Rattle.jresolution.specs.jprogram.InterfaceNumbers.{AreFaces, face_number, faces_before, is_face, number_if, number_of_part}
use Rattle.jresolution.specs.jprogram.NameSlots.{held}
use Rattle.jresolution.proofs.JprogramProofs.InterfaceSearch.{some_is}

-- ---- no two have the same number

filter_less : (b : Bool) (x : CodePart) (few more : List CodePart) → length few < length more → length (cond b (x ∷ few) few) < length (cond b (x ∷ more) more)
filter_less true x few more lt = omega (arith, lt)
filter_less false x few more lt = lt

before_less : (ps : List CodePart) (i j : ℕ) (part : CodePart) → i < j → slice_get ps i ≡ Some part → is_face part ≡ true → faces_before ps i < faces_before ps j
before_less [] i j part lt at is = absurd cc
before_less (x ∷ xs) zero zero part lt at is = absurd (omega (arith, lt))
before_less (x ∷ xs) zero (suc j) part lt at is =
    let here : is_face x ≡ true = ap is_face (some_is x part at) ∙ is in
    rw here (omega arith)
before_less (x ∷ xs) (suc i) zero part lt at is = absurd (omega (arith, lt))
before_less (x ∷ xs) (suc i) (suc j) part lt at is = filter_less (is_face x) x (filter is_face (take i xs)) (filter is_face (take j xs)) (before_less xs i j part (omega (arith, lt)) at is)

-- a number is that of an interface, which as many stand in front of
pub record Numbered (ps : List CodePart) (i n : ℕ) : Type 0 where
  pub part : CodePart
  pub at : slice_get ps i ≡ Some part
  pub face : is_face part ≡ true
  pub before : faces_before ps i ≡ n

if_some : (b : Bool) (m n : ℕ) → number_if b m ≡ Some n → (b ≡ true) × (m ≡ n)
if_some true m n e = (refl, some_is m n e)
if_some false m n e = absurd cc

numbered_at : (ps : List CodePart) (i n : ℕ) (o : Option CodePart) → slice_get ps i ≡ o → number_of_part (faces_before ps i) o ≡ Some n → Numbered ps i n
numbered_at ps i n None at e = absurd cc
numbered_at ps i n (Some one) at e = let is = if_some (is_face one) (faces_before ps i) n e in record { part = one; at = at; face = is.0; before = is.1 }

numbered : (ps : List CodePart) (i n : ℕ) → face_number ps i ≡ Some n → Numbered ps i n
numbered ps i n e = numbered_at ps i n (slice_get ps i) refl e

pub one_face : (ps : List CodePart) (a b n : ℕ) → face_number ps a ≡ Some n → face_number ps b ≡ Some n → a ≡ b
one_face ps a b n e h =
    let one = numbered ps a n e in
    let two = numbered ps b n h in
    let first = one.before in
    let second = two.before in
    elim (cases_lt a b) [
      | inl lt ↦ let less = before_less ps a b one.part lt one.at one.face in absurd (omega (arith, less, first, second))
      | inr le ↦ elim (cases_lt b a) [
        | inl lt ↦ let less = before_less ps b a two.part lt two.at two.face in absurd (omega (arith, less, first, second))
        | inr ge ↦ omega (arith, le, ge)
      ]
    ]

-- an interface has a number
pub face_numbered : (ps : List CodePart) (i : ℕ) (part : CodePart) → slice_get ps i ≡ Some part → is_face part ≡ true → face_number ps i ≡ Some (faces_before ps i)
face_numbered ps i part at is = ap (number_of_part (faces_before ps i)) at ∙ ap (λ (b : Bool). number_if b (faces_before ps i)) is

-- ---- the loop

get_front : (xs : List (Option ℕ)) (y : Option ℕ) (j : ℕ) → j < length xs → slice_get (xs ++ y ∷ []) j ≡ slice_get xs j
get_front [] y j lt = absurd (omega (arith, lt))
get_front (x ∷ xs) y zero lt = refl
get_front (x ∷ xs) y (suc j) lt = get_front xs y j (omega (arith, lt))

get_last : (xs : List (Option ℕ)) (y : Option ℕ) (j : ℕ) → j ≡ length xs → slice_get (xs ++ y ∷ []) j ≡ Some y
get_last [] y zero e = refl
get_last [] y (suc j) e = absurd (omega (arith, e))
get_last (x ∷ xs) y zero e = absurd (omega (arith, e))
get_last (x ∷ xs) y (suc j) e = get_last xs y j (omega (arith, e))

-- so many parts have their numbers
pub record Facing (ps : List CodePart) (i next : ℕ) (numbers : List (Option ℕ)) : Type 0 where
  pub few : next ≤ i
  pub count : next ≡ faces_before ps i
  pub size : length numbers ≡ i
  pub each : (j : ℕ) → j < i → held (slice_get numbers j) ≡ face_number ps j

pub faces_begin : (ps : List CodePart) (numbers : List (Option ℕ)) → numbers ≡ [] → Facing ps 0 0 numbers
faces_begin ps numbers is = record { few = omega arith; count = refl; size = ap length is; each = λ j lt. absurd (omega (arith, lt)) }

pub at_most : (next i more : ℕ) (b : Bool) → next ≤ i → more ≡ next + cond b 1 0 → more ≤ i + 1
at_most next i more true le e = omega (arith, le, e)
at_most next i more false le e = omega (arith, le, e)

face_next : (ps : List CodePart) (i next : ℕ) (one : CodePart) (numbers : List (Option ℕ)) → Facing ps i next numbers → slice_get ps i ≡ Some one → (j : ℕ) → j < i + 1 → (j ≡ i) ⊎ (j ≡ i → ⊥) → held (slice_get (numbers ++ number_if (is_face one) next ∷ []) j) ≡ face_number ps j
face_next ps i next one numbers F at j lt (inl same) =
    let size = F.size in
    ap held (get_last numbers (number_if (is_face one) next) j (omega (arith, same, size)))
    ∙ ap (number_if (is_face one)) F.count
    ∙ sym (ap (face_number ps) same ∙ ap (number_of_part (faces_before ps i)) at)
face_next ps i next one numbers F at j lt (inr apart) =
    let size = F.size in
    let less : j < i = below j i lt apart in
    ap held (get_front numbers (number_if (is_face one) next) j (omega (arith, less, size))) ∙ F.each j less
  where
    below : (j i : ℕ) → j < i + 1 → (j ≡ i → ⊥) → j < i
    below j i lt apart = elim (cases_lt j i) [ inl l ↦ l | inr g ↦ absurd (apart (omega (arith, lt, g))) ]

pub faces_next : (ps : List CodePart) (i next more : ℕ) (one : CodePart) (face : Bool) (number : Option ℕ) (old new : List (Option ℕ)) → i < length ps → one ≡ get_or ps i one → face ≡ is_face one → number ≡ number_if face next → new ≡ old ++ number ∷ [] → more ≡ next + cond face 1 0
    → Facing ps i next old → Facing ps (i + 1) more new
faces_next ps i next more one face number old new lt is test given pushed past F =
    let at : slice_get ps i ≡ Some one = slice_get_read ps (length ps) i one refl lt is in
    let few = F.few in
    let count = F.count in
    let size = F.size in
    let counted : faces_before ps (i + 1) ≡ faces_before ps i + cond (is_face one) 1 0 = length-filter_more is_face ps i one lt ∙ ap (λ (x : CodePart). faces_before ps i + cond (is_face x) 1 0) (sym is) in
    let step : next + cond face 1 0 ≡ faces_before ps i + cond (is_face one) 1 0 = ap (λ (b : Bool). next + cond b 1 0) test ∙ ap (λ (n : ℕ). n + cond (is_face one) 1 0) count in
    let whole : new ≡ old ++ number_if (is_face one) next ∷ [] = pushed ∙ ap (λ (o : Option ℕ). old ++ o ∷ []) (given ∙ ap (λ (b : Bool). number_if b next) test) in
    record {
      few = at_most next i more face few past;
      count = past ∙ step ∙ sym counted;
      size = ap length pushed ∙ length-append old (number ∷ []) ∙ ap (λ (n : ℕ). n + 1) size;
      each = λ j less. ap (λ (xs : List (Option ℕ)). held (slice_get xs j)) whole ∙ face_next ps i next one old F at j less (cases_eq j i);
    }

pub faces_end : (ps : List CodePart) (i next : ℕ) (numbers : List (Option ℕ)) → length ps ≤ i → Facing ps i next numbers → AreFaces ps numbers
faces_end ps i next numbers le F j = elim (cases_lt j i) [
  | inl lt ↦ F.each j lt
  | inr ge ↦
      let size = F.size in
      let none : slice_get numbers j ≡ None = slice_get_past numbers j (omega (arith, size, ge)) in
      let no_part : slice_get ps j ≡ None = slice_get_past ps j (omega (arith, le, ge)) in
      ap held none ∙ sym (ap (number_of_part (faces_before ps j)) no_part)
]
