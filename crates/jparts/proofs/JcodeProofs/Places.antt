-- Where instructions stand: places rise, a search finds them, and none stands behind the end.
use Rattle.std.proofs.Common.{◌≡◌, ℕ, zero, suc, ◌+◌, ◌-◌, ◌<◌, ◌≤◌, ℤ, pos, negsuc, Bool, true, false, eqb, ltb, List, [], ◌∷◌, map, ◌++◌, length, get_or, Option, Some, None, Result, Ok, Err, is_ok, refl, sym, ap, ◌∙◌, arith, inl, inr}
use Rattle.std.specs.Prelude.{IsTrue, ◌<ℤ◌}
use Rattle.std.specs.List.{flat_map, list_all, position, position_or_len}
use Rattle.std.specs.List.Sorted.{IsSearchInRange, IsBinarySearchResult, IsNonDecreasingBy}
use Rattle.std.specs.Ordering.{int_cmp, int_eq, ordering_index}
use Rattle.std.proofs.lemmas.Bool.{cases_Bool, cases_lt, lt-ltb, le-ltb}
use Rattle.std.proofs.lemmas.List.Sums.{position_or_len_is}
use Rattle.std.proofs.lemmas.Bool.Decides.{Decides-int_eq, nat_tests}
use Rattle.std.proofs.lemmas.Int.{ints}
use Rattle.std.proofs.lemmas.Cmp.{int_ranked}
use Rattle.std.proofs.lemmas.List.{length-append}
use Rattle.std.proofs.lemmas.List.Concat.{flat_map-cons}
use Rattle.std.proofs.lemmas.List.Folds.{list_any_at, list_all-map}
use Rattle.std.proofs.lemmas.List.Sorted.{IsNonDecreasingBy-from_default}
use Rattle.jground.specs.jbase.FirstFaults.{first_some}
use Rattle.jground.specs.declared.jbase.fault_or_memory.FaultOrMemory.{FaultOrMemory}
use Rattle.jground.specs.jbase.MemoryFailures.{Fails}
use Rattle.jground.specs.declared.jformat.error.Fault.{Fault}
use Rattle.jground.specs.jformat.Format.{IsBytes, unless_fault}
use Rattle.jground.specs.jformat.StatefulFormats.{fits_from, spell_from}
use Rattle.jground.proofs.JformatProofs.ReadingSteps.{both, first_true, second_true}
use Rattle.jparts.specs.declared.jcode.fault.CodeFault.{CodeFault}
use Rattle.jparts.specs.declared.jcode.fault.CodeFault.TheVariants.{BadTarget}
use Rattle.jparts.specs.declared.jcode.op.Op.{Op}
use Rattle.jparts.specs.declared.jcode.op.Op.TheVariants as ops
use Rattle.jparts.specs.declared.jcode.op.Case.{Case}
use Rattle.jparts.specs.declared.jcode.op.Placed.{Placed}
use Rattle.jparts.specs.jcode.Instructions.{instruction, size, placed, placed_at, place_behind, instructions, place_of, is_place, leads, first_lost, lost_fault, code, Rises}
use Rattle.jparts.specs.ProofNames.{lost}
use Rattle.jparts.proofs.JcodeProofs.FaultPropagation.{fails_on}
use Rattle.jparts.proofs.JcodeProofs.CodeLaws.{instruction_law, fits_at, instructions_law, code_law}

-- ---- the next place

pub record Goes (at total : ℕ) (op : Op) (after : List ℕ) : Type 0 where
  pub bytes : IsBytes after
  pub inside : length after ≤ total
  pub place : total - length after ≡ at + size at op

pub goes : (at total : ℕ) (rest after : List ℕ) (op : Op) → IsBytes rest → length rest ≤ total → at ≡ total - length rest → (instruction at).read rest ≡ Ok (op, after) → Goes at total op after
unfolding size
goes at total rest after op fits le is e =
    let t = (instruction_law at).takes rest (op, after) fits e in
    let len : length rest ≡ length ((instruction at).spell op) + length after = ap length t.parts ∙ length-append ((instruction at).spell op) after in
    record { bytes = t.rest_fits; inside = omega arith; place = omega arith }

pub reads_placed : (at : ℕ) (rest after : List ℕ) (op : Op) → (instruction at).read rest ≡ Ok (op, after) → (placed at).read rest ≡ Ok (placed_at at op, after)
reads_placed at rest after op e = rw e refl

pub stops_placed : (at : ℕ) (stop : FaultOrMemory (Fault CodeFault)) (rest : List ℕ) → Fails stop ((instruction at).read rest) → Fails stop ((placed at).read rest)
stops_placed at stop rest h = fails_on stop ((instruction at).read rest) (λ x. Ok (placed_at at x.0, x.1)) h

-- ---- places rise

above : (s : ℕ) (ps : List Placed) (j : ℕ) (d : Placed) → IsTrue (fits_from (λ t. (placed t).fits) place_behind s ps) → j < length ps → s ≤ (get_or ps j d).at
unfolding fits_from
above s [] j d fit lt = absurd (omega arith)
above s (p ∷ ps) zero d fit lt = let f = fits_at s p (first_true ((placed s).fits p) (fits_from (λ t. (placed t).fits) place_behind (place_behind s p) ps) fit) in omega (arith, f.0)
above s (p ∷ ps) (suc j) d fit lt =
    let more : s + size s p.op ≤ (get_or ps j d).at = above (place_behind s p) ps j d (second_true ((placed s).fits p) (fits_from (λ t. (placed t).fits) place_behind (place_behind s p) ps) fit) (omega arith) in
    omega arith

size_some : (at : ℕ) (op : Op) → 0 < size at op
unfolding size instruction
size_some at op = omega arith

pub rises_from : (s : ℕ) (ps : List Placed) → IsTrue (fits_from (λ t. (placed t).fits) place_behind s ps) → Rises ps
unfolding fits_from
rises_from s [] fit i j d below lt = absurd (omega arith)
rises_from s (p ∷ ps) fit zero zero d below lt = absurd (omega arith)
rises_from s (p ∷ ps) fit zero (suc j) d below lt =
    let f = fits_at s p (first_true ((placed s).fits p) (fits_from (λ t. (placed t).fits) place_behind (place_behind s p) ps) fit) in
    let more : s + size s p.op ≤ (get_or ps j d).at = above (place_behind s p) ps j d (second_true ((placed s).fits p) (fits_from (λ t. (placed t).fits) place_behind (place_behind s p) ps) fit) (omega arith) in
    omega (arith, f.0, size_some s p.op)
rises_from s (p ∷ ps) fit (suc i) zero d below lt = absurd (omega arith)
rises_from s (p ∷ ps) fit (suc i) (suc j) d below lt = rises_from (place_behind s p) ps (second_true ((placed s).fits p) (fits_from (λ t. (placed t).fits) place_behind (place_behind s p) ps) fit) i j d (omega arith) (omega arith)

pub rises : (ps : List Placed) → IsTrue (instructions.fits ps) → Rises ps
unfolding instructions
rises ps fit = rises_from 0 ps fit

-- what is code rises
pub fit_rises : (ps : List Placed) → IsTrue (code.fits ps) → Rises ps
unfolding code
fit_rises ps fit = rises ps (first_true (instructions.fits ps) (list_all (leads ps) ps) fit)

-- ---- none stands behind the end

within_from : (all : List Placed) (s : ℕ) (ps : List Placed) (at : ℕ) → IsTrue (fits_from (λ t. (placed t).fits) place_behind s ps) → first_some (lost all) ps ≡ Some at → at ≤ s + length (spell_from (λ t. (placed t).spell) place_behind s ps)
unfolding fits_from spell_from first_some size
within_from all s [] at fit e = absurd cc
within_from all s (p ∷ ps) at fit e =
    let f = fits_at s p (first_true ((placed s).fits p) (fits_from (λ t. (placed t).fits) place_behind (place_behind s p) ps) fit) in
    let tail = spell_from (λ t. (placed t).spell) place_behind (place_behind s p) ps in
    let len : length ((placed s).spell p ++ tail) ≡ length ((placed s).spell p) + length tail = length-append ((placed s).spell p) tail in
    let one : length ((placed s).spell p) ≡ size s p.op = ap length f.2 in
    elim (cases_Bool (leads all p)) [
      | inl good ↦
          let e' : first_some (lost all) ps ≡ Some at = rw good at e in
          let more : at ≤ s + size s p.op + length tail = within_from all (place_behind s p) ps at (second_true ((placed s).fits p) (fits_from (λ t. (placed t).fits) place_behind (place_behind s p) ps) fit) e' in
          omega arith
      | inr bad ↦
          let e' : Some p.at ≡ Some at = rw bad at e in
          let same : p.at ≡ at = cc in
          omega (arith, f.0)
    ]

pub lost_within : (bytes : List ℕ) (ps : List Placed) (at : ℕ) → IsTrue (instructions.fits ps) → bytes ≡ instructions.spell ps → first_lost ps ≡ Some at → at ≤ length bytes
unfolding instructions first_lost
lost_within bytes ps at fit e lost_at =
    let le : at ≤ 0 + length (spell_from (λ t. (placed t).spell) place_behind 0 ps) = within_from ps 0 ps at fit lost_at in
    let len : length bytes ≡ length (spell_from (λ t. (placed t).spell) place_behind 0 ps) = ap length e in
    omega arith

-- ---- a search finds places

none_is_place : (ps : List Placed) (t : ℤ) → ((j : ℕ) (d : Placed) → j < length ps → int_eq (pos (get_or ps j d).at) t ≡ false) → is_place ps t ≡ false
none_is_place [] t none = refl
none_is_place (p ∷ ps) t none = let here = none 0 p (omega arith) in rw here (none_is_place ps t (λ j d lt. none (suc j) d (omega arith)))

first_op : Placed
first_op = record { at = 0; op = ops.Nop }

differs : (a t : ℤ) → (a ≡ t → ⊥) → int_eq a t ≡ false
differs a t other = elim (cases_Bool (int_eq a t)) [ inl hit ↦ absurd (other ((Decides-int_eq a t).0 hit)) | inr miss ↦ miss ]

below_differs : (a t : ℤ) → a <ℤ t → int_eq a t ≡ false
below_differs a t lt = differs a t (λ same. omega (arith, ints))

above_differs : (a t : ℤ) → t <ℤ a → int_eq a t ≡ false
above_differs a t lt = differs a t (λ same. omega (arith, ints))

cmp_rises : (a b : ℕ) (t : ℤ) → a ≤ b → ordering_index (int_cmp (pos a) t) ≤ ordering_index (int_cmp (pos b) t)
cmp_rises a b (pos n) le = grind (arith, nat_tests)
cmp_rises a b (negsuc n) le = omega arith

comparisons_rise : (ps : List Placed) (t : ℤ) → Rises ps → IsNonDecreasingBy (λ p. ordering_index (int_cmp (pos p.at) t)) ps
comparisons_rise ps t rise = IsNonDecreasingBy-from_default (λ p. ordering_index (int_cmp (pos p.at) t)) ps first_op (λ i j le lt.
    let places : (get_or ps i first_op).at ≤ (get_or ps j first_op).at = grind (arith, rise i j first_op, λ (same : i ≡ j). ap (λ (k : ℕ). (get_or ps k first_op).at) same) in
    cmp_rises (get_or ps i first_op).at (get_or ps j first_op).at t places)

pub searched : (ps : List Placed) (t : ℤ) (r : Result ℕ ℕ) → Rises ps → IsSearchInRange r (length ps) → IsBinarySearchResult (λ p. int_cmp (pos p.at) t) ps r → is_ok r ≡ is_place ps t
searched ps t (Ok at) rise in_range equal =
    let same : pos (get_or ps at first_op).at ≡ t = int_ranked _ t _ (sym (equal first_op)) in
    sym (list_any_at (λ p. int_eq (pos p.at) t) ps at first_op in_range ((Decides-int_eq _ t).1 same))
searched ps t (Err at) rise in_range parted = sym (none_is_place ps t (λ j d lt. elim (cases_lt j at) [
  | inl before ↦ below_differs (pos (get_or ps j d).at) t (int_ranked (pos (get_or ps j d).at) t _ (sym ((parted (comparisons_rise ps t rise)).0 j d (omega arith) before)))
  | inr behind ↦ above_differs (pos (get_or ps j d).at) t (int_ranked (pos (get_or ps j d).at) t _ (sym ((parted (comparisons_rise ps t rise)).1 j d behind lt)))
]))

first_is : (p : Placed → Bool) (ps : List Placed) (i : ℕ) (d : Placed) → i < length ps → p (get_or ps i d) ≡ true → ((k : ℕ) → k < i → p (get_or ps k d) ≡ false) → position p ps ≡ Some i
first_is p ps i d lt here before =
    let e : position_or_len p ps ≡ i = position_or_len_is p ps i d (omega arith) before (λ _. here) in
    let t : ltb i (length ps) ≡ true = lt-ltb i (length ps) lt in
    rw (e, t) refl

none_is : (p : Placed → Bool) (ps : List Placed) (d : Placed) → ((k : ℕ) → k < length ps → p (get_or ps k d) ≡ false) → position p ps ≡ None
none_is p ps d none =
    let e : position_or_len p ps ≡ length ps = position_or_len_is p ps (length ps) d (omega arith) none (λ lt. absurd (omega arith)) in
    let t : ltb (length ps) (length ps) ≡ false = le-ltb (length ps) (length ps) (omega arith) in
    rw (e, t) refl

-- a search's result, as the number that it found
abbrev pub found : Result ℕ ℕ → Option ℕ
found (Ok i) = Some i
found (Err i) = None

pub numbered : (ps : List Placed) (at : ℕ) (t : ℤ) (r : Result ℕ ℕ) → Rises ps → IsSearchInRange r (length ps) → IsBinarySearchResult (λ p. int_cmp (pos p.at) t) ps r → t ≡ pos at → found r ≡ place_of ps at
numbered ps at t (Ok i) rise in_range equal is =
    let same : pos (get_or ps i first_op).at ≡ t = int_ranked _ t _ (sym (equal first_op)) in
    let even : (get_or ps i first_op).at ≡ at = omega (arith, ints) in
    let here : eqb (get_or ps i first_op).at at ≡ true = grind arith in
    let before : (k : ℕ) → k < i → eqb (get_or ps k first_op).at at ≡ false = λ k lt. let less = rise k i first_op lt in_range in grind arith in
    sym (first_is (λ p. eqb p.at at) ps i first_op in_range here before)
numbered ps at t (Err i) rise in_range parted is = sym (none_is (λ p. eqb p.at at) ps first_op (λ k lt. elim (cases_lt k i) [
  | inl before ↦
      let less : pos (get_or ps k first_op).at <ℤ t = int_ranked (pos (get_or ps k first_op).at) t _ (sym ((parted (comparisons_rise ps t rise)).0 k first_op (omega arith) before)) in
      let n : (get_or ps k first_op).at < at = omega (arith, ints) in
      grind arith
  | inr behind ↦
      let more : t <ℤ pos (get_or ps k first_op).at = int_ranked (pos (get_or ps k first_op).at) t _ (sym ((parted (comparisons_rise ps t rise)).1 k first_op behind lt)) in
      let n : at < (get_or ps k first_op).at = omega (arith, ints) in
      grind arith
]))

-- ---- branches of cases

pub cases_all : (leads : ℤ → Bool) (cases : List Case) → list_all leads (map (λ c. c.branch) cases) ≡ list_all (λ c. leads c.branch) cases
cases_all leads cases = list_all-map leads (λ c. c.branch) cases

-- ---- what code gives

pub good : (bytes : List ℕ) (ps : List Placed) → instructions.read bytes ≡ Ok ps → first_lost ps ≡ None → code.read bytes ≡ Ok ps
unfolding code
good bytes ps e none = rw (e, none) refl

pub lost_one : (bytes : List ℕ) (ps : List Placed) (at : ℕ) → IsBytes bytes → instructions.read bytes ≡ Ok ps → first_lost ps ≡ Some at → (at ≤ length bytes) × (code.read bytes ≡ Err (record { left = length bytes - at; kind = BadTarget }))
unfolding code
lost_one bytes ps at fits e none =
    let t = instructions_law.takes bytes ps fits e in
    (lost_within bytes ps at t.0 t.1 none, rw (e, none) refl)

-- where instructions have a fault, code has it
pub faulty : (bytes : List ℕ) (stop : FaultOrMemory (Fault CodeFault)) → Fails stop (instructions.read bytes) → Fails stop (code.read bytes)
unfolding code
faulty bytes stop h = fails_on stop (instructions.read bytes) (λ ps. unless_fault ps (lost_fault bytes (first_lost ps))) h

pub read_rises : (bytes : List ℕ) (ps : List Placed) → IsBytes bytes → instructions.read bytes ≡ Ok ps → Rises ps
read_rises bytes ps fits e = let t = instructions_law.takes bytes ps fits e in rises ps t.0

-- what is spelled so can only be read as this
pub read_is : (bytes : List ℕ) (ps : List Placed) → IsTrue (code.fits ps) → bytes ≡ code.spell ps → code.read bytes ≡ Ok ps
read_is bytes ps fit e = ap code.read e ∙ code_law.again ps fit

-- ---- writing

each_fits : (s : ℕ) (ps : List Placed) → IsTrue (fits_from (λ t. (placed t).fits) place_behind s ps) → IsTrue (list_all (λ p. (instruction p.at).fits p.op) ps)
unfolding fits_from
each_fits s [] fit = refl
each_fits s (p ∷ ps) fit =
    let f = fits_at s p (first_true ((placed s).fits p) (fits_from (λ t. (placed t).fits) place_behind (place_behind s p) ps) fit) in
    let here : IsTrue ((instruction p.at).fits p.op) = rw f.0 f.1 in
    both _ _ here (each_fits (place_behind s p) ps (second_true ((placed s).fits p) (fits_from (λ t. (placed t).fits) place_behind (place_behind s p) ps) fit))

each_spelled : (s : ℕ) (ps : List Placed) → IsTrue (fits_from (λ t. (placed t).fits) place_behind s ps) → flat_map (λ p. (instruction p.at).spell p.op) ps ≡ spell_from (λ t. (placed t).spell) place_behind s ps
unfolding fits_from spell_from
each_spelled s [] fit = refl
each_spelled s (p ∷ ps) fit =
    let f = fits_at s p (first_true ((placed s).fits p) (fits_from (λ t. (placed t).fits) place_behind (place_behind s p) ps) fit) in
    let here : (instruction p.at).spell p.op ≡ (placed s).spell p = ap (λ (n : ℕ). (instruction n).spell p.op) f.0 ∙ sym f.2 in
    rw (flat_map-cons (λ p. (instruction p.at).spell p.op) p ps, here, each_spelled (place_behind s p) ps (second_true ((placed s).fits p) (fits_from (λ t. (placed t).fits) place_behind (place_behind s p) ps) fit)) refl

pub written_fits : (ps : List Placed) → IsTrue (code.fits ps) → IsTrue (list_all (λ p. (instruction p.at).fits p.op) ps)
unfolding code instructions
written_fits ps fit = each_fits 0 ps (first_true (instructions.fits ps) (list_all (leads ps) ps) fit)

pub written_is : (ps : List Placed) → IsTrue (code.fits ps) → flat_map (λ p. (instruction p.at).spell p.op) ps ≡ code.spell ps
unfolding code instructions
written_is ps fit = each_spelled 0 ps (first_true (instructions.fits ps) (list_all (leads ps) ps) fit)
