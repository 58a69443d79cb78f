-- Which old places went where in moved code: no two instructions to one place, and none into an expansion.
use Rattle.std.proofs.Common.{◌≡◌, ◌≢◌, ◌⊎◌, inl, inr, ℕ, zero, suc, ◌+◌, ◌<◌, ◌≤◌, pos, Bool, true, false, cond, List, [], ◌∷◌, length, take, Some, refl, ap, ◌∙◌, sym, subst, arith}
use Rattle.std.specs.Prelude.{IsTrue, slice_get, ◌==◌, ◌&&◌, ◌||◌, nat_le, nat_lt}
use Rattle.std.specs.List.{list_any}
use Rattle.std.specs.Ordering.{int_eq}
use Rattle.std.proofs.lemmas.Bool.{cases_Bool, eqb-true, eq-eqb, ne_eqb, le-leb, leb-true, lt-ltb, ltb-true}
use Rattle.std.proofs.lemmas.Bool.Decides.{Decides-int_eq}
use Rattle.jground.proofs.JformatProofs.ReadingSteps.{first_true, second_true}
use Rattle.jparts.specs.declared.jcode.op.Op.{Op}
use Rattle.jparts.specs.declared.jcode.op.Handler.{Handler}
use Rattle.jparts.specs.declared.jcode.op.Placed.{Placed}
use Rattle.jparts.specs.jcode.Instructions.{code, covers, is_place, size}
use Rattle.jmove.specs.declared.method.Expand.{Expand}
use Rattle.jmove.specs.declared.method.Setting.{Setting}
use Rattle.jmove.specs.AssemblyLines.{Line, Label, Do, end_of, place_of, reach}
use Rattle.jmove.specs.MethodExpansion.{expansion, expansions, lines, moved_handler}
use Rattle.jmove.proofs.LineSequences.{end_reach, place_skip}
use Rattle.jmove.proofs.LabelTables.{passed, place_within}
use Rattle.jmove.proofs.Sizes.{size_some}
use Rattle.jrewriting.specs.jmove_laws.InstructionNumbers.{IsNth, index_of, moved, new_place, standing}
use Rattle.jrewriting.specs.jmove_laws.HandlerRanges.{Covers, IsRange}
use Rattle.jrewriting.proofs.JmoveLawsProofs.BranchTargets.{first_of, within}
use Rattle.jrewriting.proofs.JmoveLawsProofs.InstructionNumbers.{fetched}
use Rattle.jrewriting.proofs.JmoveLawsProofs.CodePlaces.{ends, rise}
use Rattle.jrewriting.proofs.JmoveLawsProofs.HandlerRanges.{at_label, labelled, ranges, there}
use Rattle.jmoved_laws.specs.types.RenamedPlaces.{IsApart}

-- ---- places by themselves

le_or : (a b : ℕ) → (a < b) ⊎ (b ≤ a)
le_or a b = grind arith

either : (a b : ℕ) → a ≢ b → (a < b) ⊎ (b < a)
either a b h = grind (arith, h)

-- instructions take bytes
pub reach_more : (at : ℕ) (os : List Op) → at + length os ≤ reach at os
reach_more at [] = omega arith
reach_more at (o ∷ os) = omega (arith, size_some at o, reach_more (at + size at o) os)

cond_low : (b : Bool) (x y z : ℕ) → z ≤ x → z ≤ y → z ≤ cond b x y
cond_low true x y z h k = h
cond_low false x y z h k = k

low : (old at : ℕ) (ls : List Line) → at ≤ place_of old at ls
low old at [] = omega arith
low old at (Label q ∷ ls) = cond_low (old == q) at (place_of old at ls) at (omega arith) (low old at ls)
low old at (Do from op ∷ ls) = omega (arith, low old (at + size at op) ls)

pub stands_there : (is : List Placed) (n : ℕ) (i : Placed) → slice_get is n ≡ Some i → is_place is (pos i.at) ≡ true
stands_there [] n i h = absurd cc
stands_there (x ∷ is) zero i h =
    let same : x ≡ i = cc in
    let hit : int_eq (pos x.at) (pos i.at) ≡ true = (Decides-int_eq (pos x.at) (pos i.at)).1 (ap (λ (y : Placed). pos y.at) same) in
    ap (λ (b : Bool). b || list_any (λ p. int_eq (pos p.at) (pos i.at)) is) hit
stands_there (x ∷ is) (suc n) i h = or_true (int_eq (pos x.at) (pos i.at)) (is_place is (pos i.at)) (stands_there is n i h)
  where
    or_true : (a b : Bool) → b ≡ true → (a || b) ≡ true
    or_true true b e = refl
    or_true false b e = e

-- a place of no instruction went to the end
missed : (s : Setting) (ks : List Expand) (is : List Placed) (at o : ℕ) → is_place is (pos o) ≡ false → place_of o at (expansions s ks is) ≡ end_of at (expansions s ks is)
missed s [] is at o h = refl
missed s (k ∷ ks) [] at o h = refl
missed s (k ∷ ks) (i ∷ is) at o h =
    let rest = expansions s ks is in
    let ne : o ≢ i.at = λ e. no (int_eq (pos i.at) (pos o)) (is_place is (pos o)) h ((Decides-int_eq (pos i.at) (pos o)).1 (ap (λ (x : ℕ). pos x) (sym e))) in
    passed o at s k i rest ne ∙ missed s ks is (reach at (expansion s k i.op)) o (later (int_eq (pos i.at) (pos o)) (is_place is (pos o)) h)
    ∙ sym (end_reach at i.at (expansion s k i.op) rest)
  where
    no : (a b : Bool) → (a || b) ≡ false → a ≡ true → ⊥
    no true b e h = absurd cc
    no false b e h = absurd cc

    later : (a b : Bool) → (a || b) ≡ false → b ≡ false
    later true b e = absurd cc
    later false b e = e

-- ---- tests that agree

covering : (h : Handler) (at : ℕ) → covers at h ≡ true → Covers h at
covering h at e = (leb-true h.start at (first_true (nat_le h.start at) (nat_lt at h.end) e), ltb-true at h.end (second_true (nat_le h.start at) (nat_lt at h.end) e))

both_true : (a b : Bool) → a ≡ true → b ≡ true → (a && b) ≡ true
both_true true b h k = k
both_true false b h k = absurd cc

covered : (h : Handler) (at : ℕ) → Covers h at → covers at h ≡ true
covered h at e = both_true (nat_le h.start at) (nat_lt at h.end) (le-leb h.start at e.0) (lt-ltb at h.end e.1)

agreed : (a b : Bool) → (a ≡ true → b ≡ true) → (b ≡ true → a ≡ true) → a ≡ b
agreed true b h k = sym (h refl)
agreed false true h k = k refl
agreed false false h k = refl

-- ---- in moved code

module _ (begin : List Op) (s : Setting) (ks : List Expand) (is : List Placed) (each : length ks ≡ length is) (fits : IsTrue (code.fits is)) where
  abbrev to : ℕ → ℕ
  to = new_place begin s ks is

  -- nothing went into what moved code begins with
  pub above : (o : ℕ) → reach 0 begin ≤ to o
  above o =
      let rest = expansions s ks is in
      subst (λ (n : ℕ). reach 0 begin ≤ n) (sym (place_skip o 0 0 begin rest)) (low o (reach 0 begin) rest)

  -- what is no place of an instruction went to the end
  pub missed_end : (o : ℕ) → is_place is (pos o) ≡ false → to o ≡ end_of 0 (lines begin s ks is)
  missed_end o miss =
      let rest = expansions s ks is in
      place_skip o 0 0 begin rest ∙ missed s ks is (reach 0 begin) o miss ∙ sym (end_reach 0 0 begin rest)

  module _ (n : ℕ) (k : Expand) (i : Placed) (nth : IsNth ks is n k i) where
    abbrev os : List Op
    os = expansion s k i.op

    some : 0 < length (expansion s k i.op)
    some = let one = first_of s k i.op in within (expansion s k i.op) 0 one.0 one.1

    inside : to i.at < end_of 0 (lines begin s ks is)
    inside =
        let e = ends begin s ks is fits n k i nth in
        let more = reach_more (to i.at) os in
        let few = place_within (i.at + size i.at i.op) 0 (lines begin s ks is) in
        omega (arith, some)

    other : (o : ℕ) → o ≢ i.at → to o ≢ to i.at
    other o ne = elim (cases_Bool (is_place is (pos o))) [
      | inl hit ↦ elim (either o i.at ne) [
        | inl less ↦ let l = rise begin s ks is each fits o i.at hit (stands_there is n i nth.old) less in omega (arith, l)
        | inr more ↦ let l = rise begin s ks is each fits i.at o (stands_there is n i nth.old) hit more in omega (arith, l)
      ]
      | inr miss ↦
          let rest = expansions s ks is in
          let last : to o ≡ end_of 0 (lines begin s ks is) = place_skip o 0 0 begin rest ∙ missed s ks is (reach 0 begin) o miss ∙ sym (end_reach 0 0 begin rest) in
          omega (arith, last, inside)
    ]

    -- no two went to one place
    pub apart : IsApart to i.at
    apart o = elim (cases_Bool (o == i.at)) [
      | inl hit ↦ eq-eqb (to o) (to i.at) (ap to (eqb-true o i.at hit)) ∙ sym hit
      | inr miss ↦ ne_eqb (to o) (to i.at) (other o (λ e. absurd (let h : (o == i.at) ≡ true = eq-eqb o i.at e in cc))) ∙ sym miss
    ]

    module _ (j : ℕ) (lt : j < length (expansion s k i.op)) where
      -- where an instruction of an expansion stands
      abbrev at : ℕ
      at = reach (to i.at) (take j (expansion s k i.op))

      abbrev x : Placed
      x = standing to i.at (to i.at) (expansion s k i.op) j (there (expansion s k i.op) j lt).0

      is_x : slice_get (moved begin s ks is) (index_of begin s ks is n + j) ≡ Some x
      is_x = let op = there (expansion s k i.op) j lt in fetched begin s ks is fits n j k i op.0 nth op.1

      -- it is covered where its old instruction was
      pub same_covers : (h : Handler) → IsRange is h → covers (reach (to i.at) (take j (expansion s k i.op))) (moved_handler to h) ≡ covers i.at h
      same_covers h range =
          let iff = ranges begin s ks is each fits h range n j k i x nth lt is_x in
          agreed (covers x.at (moved_handler to h)) (covers i.at h)
          (λ e. covered h i.at (iff.0 (covering (moved_handler to h) x.at e))) (λ e. covered (moved_handler to h) x.at (iff.1 (covering h i.at e)))

    take_some : (xs : List Op) (j : ℕ) → 0 < j → j < length xs → 0 < length (take j xs)
    take_some [] j h lt = absurd (omega arith)
    take_some (y ∷ xs) zero h lt = absurd (omega arith)
    take_some (y ∷ xs) (suc j) h lt = omega arith

    -- no instruction went behind its first
    pub nowhere : (j : ℕ) → 0 < j → j < length (expansion s k i.op) → (o : ℕ) → is_place is (pos o) ≡ true → (to o == reach (to i.at) (take j (expansion s k i.op))) ≡ false
    nowhere j some_j lt o hit =
        let b = labelled ks is o each hit in
        let here = at_label begin s ks is fits n j k i (x j lt) nth lt (is_x j lt) b.number b.kind b.one b.nth in
        let first = at_label begin s ks is fits n 0 k i (x 0 some) nth some (is_x 0 some) b.number b.kind b.one b.nth in
        let more : to i.at < reach (to i.at) (take j os) = omega (arith, reach_more (to i.at) (take j os), take_some os j some_j lt) in
        let ne : to b.one.at ≢ reach (to i.at) (take j os) = elim (le_or i.at b.one.at) [
          | inl less ↦ let l = here.high less in omega (arith, l)
          | inr le ↦ let l = first.low le in omega (arith, l)
        ] in
        subst (λ (q : ℕ). (to q == reach (to i.at) (take j os)) ≡ false) b.place (ne_eqb (to b.one.at) (reach (to i.at) (take j os)) ne)

  -- no handler covers what moved code begins with
  pub uncovered : (h : Handler) (at : ℕ) → at < reach 0 begin → covers at (moved_handler to h) ≡ false
  uncovered h at lt = agreed (covers at (moved_handler to h)) false
      (λ e. absurd (let c = (covering (moved_handler to h) at e).0 in omega (arith, above h.start, c))) (λ e. absurd cc)
