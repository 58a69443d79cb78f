-- Where old places lie in moved code.
use Rattle.std.proofs.Common.{◌≡◌, ◌≢◌, ℕ, zero, suc, ◌+◌, ◌<◌, List, [], ◌∷◌, ◌++◌, map, length, Some, refl, ap, ◌∙◌, sym, subst, arith}
use Rattle.std.specs.Prelude.{slice_get}
use Rattle.jparts.specs.declared.jcode.op.Placed.{Placed}
use Rattle.jparts.specs.jcode.Instructions.{size, code}
use Rattle.jmove.specs.declared.method.Expand.{Expand}
use Rattle.jmove.specs.declared.method.Setting.{Setting}
use Rattle.jmove.specs.AssemblyLines.{Label, Do, reach, place_of, Laid}
use Rattle.jmove.specs.MethodExpansion.{expansion, expansions}
use Rattle.jmove.proofs.LineSequences.{place_skip}
use Rattle.jmove.proofs.CodeLayout.{code_laid}
use Rattle.jmove.proofs.LabelTables.{label_here, passed}
use Rattle.jmove.proofs.Sizes.{size_some}
use Rattle.jrewriting.specs.jmove_laws.InstructionNumbers.{new_place, standing}
use Rattle.jrewriting.specs.jmove_laws.PlaceOrder.{First, Ends, Rise}
use Rattle.jrewriting.proofs.JmoveLawsProofs.BranchTargets.{first_of, within}
use Rattle.jrewriting.proofs.JmoveLawsProofs.InstructionNumbers.{fetched, from_on, not_first}
use Rattle.jrewriting.proofs.JmoveLawsProofs.HandlerRanges.{at_label, labelled}

-- ---- beginnings and ends

-- where old code begins, its first expansion does
at_front : (s : Setting) (ks : List Expand) (is : List Placed) (at from to : ℕ) → Laid from is to → place_of from at (expansions s ks is) ≡ at
at_front s [] is at from to h = refl
at_front s (k ∷ ks) [] at from to h = refl
at_front s (k ∷ ks) (i ∷ is) at from to h =
    let rest = map (Do i.at) (expansion s k i.op) ++ expansions s ks is in
    subst (λ (q : ℕ). place_of q at (Label i.at ∷ rest) ≡ at) h.0 (label_here i.at at rest)

pub first : First
first begin s ks is fits = place_skip 0 0 0 begin (expansions s ks is) ∙ at_front s ks is (reach 0 begin) 0 (length (code.spell is)) (code_laid is fits)

ends_from : (s : Setting) (ks : List Expand) (is : List Placed) (at from to n : ℕ) (k : Expand) (i : Placed) → Laid from is to → slice_get ks n ≡ Some k → slice_get is n ≡ Some i
    → reach (place_of i.at at (expansions s ks is)) (expansion s k i.op) ≡ place_of (i.at + size i.at i.op) at (expansions s ks is)
ends_from s [] is at from to n k i h is_k is_i = absurd cc
ends_from s (k' ∷ ks) [] at from to n k i h is_k is_i = absurd cc
ends_from s (k' ∷ ks) (i' ∷ is) at from to zero k i h is_k is_i =
    let same_k : k' ≡ k = cc in
    let same_i : i' ≡ i = cc in
    let os = expansion s k' i'.op in
    let rest = expansions s ks is in
    let behind = i'.at + size i'.at i'.op in
    let other : behind ≢ i'.at = omega (arith, size_some i'.at i'.op) in
    let next : Laid behind is to = subst (λ (q : ℕ). Laid (q + size q i'.op) is to) (sym h.0) h.1 in
    let here : reach (place_of i'.at at (expansions s (k' ∷ ks) (i' ∷ is))) os ≡ place_of behind at (expansions s (k' ∷ ks) (i' ∷ is)) =
    ap (λ (p : ℕ). reach p os) (label_here i'.at at (map (Do i'.at) os ++ rest)) ∙ sym (passed behind at s k' i' rest other ∙ at_front s ks is (reach at os) behind to next) in
    subst (λ (y : Placed). reach (place_of y.at at (expansions s (k' ∷ ks) (i' ∷ is))) (expansion s k y.op) ≡ place_of (y.at + size y.at y.op) at (expansions s (k' ∷ ks) (i' ∷ is))) same_i
    (subst (λ (y : Expand). reach (place_of i'.at at (expansions s (k' ∷ ks) (i' ∷ is))) (expansion s y i'.op) ≡ place_of behind at (expansions s (k' ∷ ks) (i' ∷ is))) same_k here)
ends_from s (k' ∷ ks) (i' ∷ is) at from to (suc n) k i h is_k is_i =
    let rest = expansions s ks is in
    let old : i.at ≢ i'.at = not_first from to i' is n i h is_i in
    let later = from_on (from + size from i'.op) to is n i h.1 is_i in
    let behind : i.at + size i.at i.op ≢ i'.at = omega (arith, h.0, size_some from i'.op) in
    ap (λ (p : ℕ). reach p (expansion s k i.op)) (passed i.at at s k' i' rest old)
    ∙ ends_from s ks is (reach at (expansion s k' i'.op)) (from + size from i'.op) to n k i h.1 is_k is_i
    ∙ sym (passed (i.at + size i.at i.op) at s k' i' rest behind)

pub ends : Ends
ends begin s ks is fits n k i nth =
    let rest = expansions s ks is in
    ap (λ (p : ℕ). reach p (expansion s k i.op)) (place_skip i.at 0 0 begin rest)
    ∙ ends_from s ks is (reach 0 begin) 0 (length (code.spell is)) n k i (code_laid is fits) nth.kind nth.old
    ∙ sym (place_skip (i.at + size i.at i.op) 0 0 begin rest)

-- ---- places rise

pub rise : Rise
rise begin s ks is e fits p q is_p is_q lt =
    let to = new_place begin s ks is in
    let a = labelled ks is p e is_p in
    let b = labelled ks is q e is_q in
    let one = first_of s a.kind a.one.op in
    let some : 0 < length (expansion s a.kind a.one.op) = within (expansion s a.kind a.one.op) 0 one.0 one.1 in
    let stands = fetched begin s ks is fits a.number 0 a.kind a.one one.0 a.nth one.1 in
    let parts = at_label begin s ks is fits a.number 0 a.kind a.one (standing to a.one.at (to a.one.at) (expansion s a.kind a.one.op) 0 one.0) a.nth some stands b.number b.kind b.one b.nth in
    let higher : to a.one.at < to b.one.at = parts.high (omega (arith, a.place, b.place)) in
    subst (λ (x : ℕ). to x < to q) a.place (subst (λ (x : ℕ). to a.one.at < to x) b.place higher)
