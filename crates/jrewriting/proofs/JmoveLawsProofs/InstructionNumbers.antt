-- Which instruction of moved code stands at a number.
use Rattle.std.proofs.Common.{◌≡◌, ◌≢◌, ℕ, zero, suc, ◌+◌, ◌≤◌, List, [], ◌∷◌, ◌++◌, map, length, Some, refl, ap, ◌∙◌, sym, subst, arith, ◌<◌, ◌-◌, ◌⊎◌, inl, inr}
use Rattle.std.specs.Prelude.{slice_get}
use Rattle.jparts.specs.declared.jcode.op.Op.{Op}
use Rattle.jparts.specs.declared.jcode.op.Placed.{Placed}
use Rattle.jparts.specs.jcode.Instructions.{size, code}
use Rattle.jmove.specs.declared.method.Expand.{Expand}
use Rattle.jmove.specs.declared.method.Setting.{Setting}
use Rattle.jmove.specs.AssemblyLines.{Line, Label, Do, reach, place_of, placed, Laid}
use Rattle.jmove.specs.MethodExpansion.{expansion, expansions, lines}
use Rattle.jmove.proofs.LineSequences.{place_skip}
use Rattle.jmove.proofs.CodeLayout.{code_laid}
use Rattle.jmove.proofs.LabelTables.{label_here, passed}
use Rattle.jmove.proofs.Sizes.{size_some}
use Rattle.jrewriting.specs.jmove_laws.InstructionNumbers.{IsNth, moved, Covered, length_of, standing, Begun, Next, Counted, Fetched}

-- ---- instructions among lines

pub in_block : (f : ℕ → ℕ) (at q : ℕ) (os : List Op) (ys : List Line) (j : ℕ) (op : Op) → slice_get os j ≡ Some op → slice_get (placed f at (map (Do q) os ++ ys)) j ≡ Some (standing f q at os j op)
in_block f at q [] ys j op e = absurd cc
in_block f at q (o ∷ os) ys zero op e = let same : o ≡ op = cc in ap (λ (x : Op). Some (standing f q at (o ∷ os) zero x)) same
in_block f at q (o ∷ os) ys (suc j) op e = in_block f (at + size at o) q os ys j op e

pub behind_block : (f : ℕ → ℕ) (at q : ℕ) (os : List Op) (ys : List Line) (m : ℕ) → slice_get (placed f at (map (Do q) os ++ ys)) (length os + m) ≡ slice_get (placed f (reach at os) ys) m
behind_block f at q [] ys m = let none : 0 + m ≡ m = omega arith in ap (slice_get (placed f at ys)) none
behind_block f at q (o ∷ os) ys m =
    let all = placed f at (map (Do q) (o ∷ os) ++ ys) in
    let more : length (o ∷ os) + m ≡ suc (length os + m) = omega arith in
    ap (slice_get all) more ∙ behind_block f (at + size at o) q os ys m

block_length : (f : ℕ → ℕ) (at q : ℕ) (os : List Op) (ys : List Line) → length (placed f at (map (Do q) os ++ ys)) ≡ length os + length (placed f (reach at os) ys)
block_length f at q [] ys = omega arith
block_length f at q (o ∷ os) ys = omega (arith, block_length f (at + size at o) q os ys)

-- ---- old instructions

pub from_on : (from to : ℕ) (is : List Placed) (n : ℕ) (i : Placed) → Laid from is to → slice_get is n ≡ Some i → from ≤ i.at
from_on from to [] n i h e = absurd cc
from_on from to (x ∷ is) zero i h e = let same : x ≡ i = cc in omega (arith, h.0, ap (λ (y : Placed). y.at) same)
from_on from to (x ∷ is) (suc n) i h e = omega (arith, from_on (from + size from x.op) to is n i h.1 e)

-- an instruction behind the first stands at another place
pub not_first : (from to : ℕ) (x : Placed) (is : List Placed) (n : ℕ) (i : Placed) → Laid from (x ∷ is) to → slice_get is n ≡ Some i → i.at ≢ x.at
not_first from to x is n i h e = omega (arith, h.0, size_some from x.op, from_on (from + size from x.op) to is n i h.1 e)

-- ---- expansions

fetched_from : (f : ℕ → ℕ) (s : Setting) (ks : List Expand) (is : List Placed) (at from to n j : ℕ) (k : Expand) (i : Placed) (op : Op) → Laid from is to
    → slice_get ks n ≡ Some k → slice_get is n ≡ Some i → slice_get (expansion s k i.op) j ≡ Some op
    → slice_get (placed f at (expansions s ks is)) (length_of s ks is n + j) ≡ Some (standing f i.at (place_of i.at at (expansions s ks is)) (expansion s k i.op) j op)
fetched_from f s [] is at from to n j k i op h is_k is_i e = absurd cc
fetched_from f s (k' ∷ ks) [] at from to n j k i op h is_k is_i e = absurd cc
fetched_from f s (k' ∷ ks) (i' ∷ is) at from to zero j k i op h is_k is_i e =
    let same_k : k' ≡ k = cc in
    let same_i : i' ≡ i = cc in
    let os = expansion s k i.op in
    let rest = expansions s ks is in
    let none : 0 + j ≡ j = omega arith in
    let here : slice_get (placed f at (map (Do i.at) os ++ rest)) j ≡ Some (standing f i.at (place_of i.at at (Label i.at ∷ (map (Do i.at) os ++ rest))) os j op) =
    in_block f at i.at os rest j op e ∙ ap (λ (p : ℕ). Some (standing f i.at p os j op)) (sym (label_here i.at at (map (Do i.at) os ++ rest))) in
    ap (slice_get (placed f at (expansions s (k' ∷ ks) (i' ∷ is)))) none
    ∙ subst (λ (y : Placed). slice_get (placed f at (expansions s (k' ∷ ks) (y ∷ is))) j ≡ Some (standing f i.at (place_of i.at at (expansions s (k' ∷ ks) (y ∷ is))) os j op)) (sym same_i)
    (subst (λ (y : Expand). slice_get (placed f at (expansions s (y ∷ ks) (i ∷ is))) j ≡ Some (standing f i.at (place_of i.at at (expansions s (y ∷ ks) (i ∷ is))) os j op)) (sym same_k) here)
fetched_from f s (k' ∷ ks) (i' ∷ is) at from to (suc n) j k i op h is_k is_i e =
    let first = expansion s k' i'.op in
    let rest = expansions s ks is in
    let os = expansion s k i.op in
    let sum : length first + length_of s ks is n + j ≡ length first + (length_of s ks is n + j) = omega arith in
    let other : i.at ≢ i'.at = not_first from to i' is n i h is_i in
    ap (slice_get (placed f at (map (Do i'.at) first ++ rest))) sum
    ∙ behind_block f at i'.at first rest (length_of s ks is n + j)
    ∙ fetched_from f s ks is (reach at first) (from + size from i'.op) to n j k i op h.1 is_k is_i e
    ∙ ap (λ (p : ℕ). Some (standing f i.at p os j op)) (sym (passed i.at at s k' i' rest other))

next_from : (s : Setting) (ks : List Expand) (is : List Placed) (n : ℕ) (k : Expand) (i : Placed) → slice_get ks n ≡ Some k → slice_get is n ≡ Some i
    → length_of s ks is (n + 1) ≡ length_of s ks is n + length (expansion s k i.op)
next_from s [] is n k i is_k is_i = absurd cc
next_from s (k' ∷ ks) [] n k i is_k is_i = absurd cc
next_from s (k' ∷ ks) (i' ∷ is) zero k i is_k is_i =
    let same_k : k' ≡ k = cc in
    let same_i : i' ≡ i = cc in
    let alike : length (expansion s k' i'.op) ≡ length (expansion s k i.op) = ap (λ (y : Expand). length (expansion s y i'.op)) same_k ∙ ap (λ (y : Placed). length (expansion s k y.op)) same_i in
    let one : length_of s (k' ∷ ks) (i' ∷ is) (0 + 1) ≡ length (expansion s k' i'.op) + 0 = refl in
    omega (arith, one, alike)
next_from s (k' ∷ ks) (i' ∷ is) (suc n) k i is_k is_i =
    let first = length (expansion s k' i'.op) in
    let more : suc n + 1 ≡ suc (n + 1) = omega arith in
    let sum : first + (length_of s ks is n + length (expansion s k i.op)) ≡ first + length_of s ks is n + length (expansion s k i.op) = omega arith in
    ap (length_of s (k' ∷ ks) (i' ∷ is)) more ∙ ap (λ (x : ℕ). first + x) (next_from s ks is n k i is_k is_i) ∙ sum

counted_from : (f : ℕ → ℕ) (s : Setting) (ks : List Expand) (is : List Placed) (at : ℕ) → length (placed f at (expansions s ks is)) ≡ length_of s ks is (length is)
counted_from f s [] [] at = refl
counted_from f s [] (i ∷ is) at = refl
counted_from f s (k ∷ ks) [] at = refl
counted_from f s (k ∷ ks) (i ∷ is) at =
    let os = expansion s k i.op in
    block_length f at i.at os (expansions s ks is) ∙ ap (λ (n : ℕ). length os + n) (counted_from f s ks is (reach at os))

-- ---- laws

pub begun : Begun
begun begin s ks is j op e = in_block (λ old. place_of old 0 (lines begin s ks is)) 0 0 begin (expansions s ks is) j op e

pub next : Next
next begin s ks is n k i nth = omega (arith, next_from s ks is n k i nth.kind nth.old)

pub counted : Counted
counted begin s ks is =
    let f : ℕ → ℕ = λ old. place_of old 0 (lines begin s ks is) in
    block_length f 0 0 begin (expansions s ks is) ∙ ap (λ (n : ℕ). length begin + n) (counted_from f s ks is (reach 0 begin))

pub fetched : Fetched
fetched begin s ks is fits n j k i op nth e =
    let f : ℕ → ℕ = λ old. place_of old 0 (lines begin s ks is) in
    let rest = expansions s ks is in
    let os = expansion s k i.op in
    let sum : length begin + length_of s ks is n + j ≡ length begin + (length_of s ks is n + j) = omega arith in
    ap (slice_get (placed f 0 (map (Do 0) begin ++ rest))) sum
    ∙ behind_block f 0 0 begin rest (length_of s ks is n + j)
    ∙ fetched_from f s ks is (reach 0 begin) 0 (length (code.spell is)) n j k i op (code_laid is fits) nth.kind nth.old e
    ∙ ap (λ (p : ℕ). Some (standing f i.at p os j op)) (sym (place_skip i.at 0 0 begin rest))

-- ---- no others

record Among (s : Setting) (ks : List Expand) (is : List Placed) (number : ℕ) : Type 0 where
  pub n : ℕ
  pub j : ℕ
  pub kind : Expand
  pub old : Placed
  pub nth : IsNth ks is n kind old
  pub within : j < length (expansion s kind old.op)
  pub is_number : number ≡ length_of s ks is n + j

either : (a b : ℕ) → (a < b) ⊎ (b ≤ a)
either a b = grind arith

among : (s : Setting) (ks : List Expand) (is : List Placed) (number : ℕ) → number < length_of s ks is (length is) → Among s ks is number
among s [] [] number lt = absurd (omega arith)
among s [] (i ∷ is) number lt = absurd (omega arith)
among s (k ∷ ks) [] number lt = absurd (omega arith)
among s (k ∷ ks) (i ∷ is) number lt =
    let first = length (expansion s k i.op) in
    let whole : number < first + length_of s ks is (length is) = lt in
    elim (either number first) [
      | inl here ↦ record { n = 0; j = number; kind = k; old = i; nth = record { kind = refl; old = refl }; within = here; is_number = omega arith }
      | inr behind ↦
          let r = among s ks is (number - first) (omega arith) in
          record {
            n = suc r.n;
            j = r.j;
            kind = r.kind;
            old = r.old;
            nth = record { kind = r.nth.kind; old = r.nth.old };
            within = r.within;
            is_number = (let e : number - first ≡ length_of s ks is r.n + r.j = r.is_number in omega arith);
          }
    ]

pub covered : Covered
covered begin s ks is number lt = elim (either number (length begin)) [
  | inl here ↦ inl here
  | inr behind ↦
      let all : length (moved begin s ks is) ≡ length begin + length_of s ks is (length is) = counted begin s ks is in
      let r = among s ks is (number - length begin) (omega arith) in
      let e : number - length begin ≡ length_of s ks is r.n + r.j = r.is_number in
      inr (record { n = r.n; j = r.j; kind = r.kind; old = r.old; nth = r.nth; within = r.within; is_number = omega arith })
]
