-- The handlers of moved code: their places are places of it, and what they catch is there.
use Rattle.std.proofs.Common.{◌≡◌, ℕ, zero, suc, ◌+◌, ◌≤◌, ◌<◌, pos, true, ◌&&◌, List, [], ◌∷◌, length, map, Some, refl, sym, ap, subst, ◌∙◌, arith, inl, inr}
use Rattle.std.specs.Prelude.{IsTrue, slice_get, nat_lt, ◌==◌}
use Rattle.std.specs.List.{list_all}
use Rattle.std.specs.Ordering.{int_eq}
use Rattle.std.proofs.lemmas.Bool.{cases_Bool, eq-eqb, eqb-true, lt-ltb, ltb-true}
use Rattle.std.proofs.lemmas.Bool.Decides.{Decides-int_eq}
use Rattle.jground.specs.jformat.Format.{◌·◌, is_good}
use Rattle.jground.proofs.JformatProofs.ReadingSteps.{both, first_true, second_true}
use Rattle.jparts.specs.declared.jpool.entry.Entry.{Entry}
use Rattle.jparts.specs.declared.jcode.names.Access.TheVariants.{Load}
use Rattle.jparts.specs.declared.jcode.op.Handler.{Handler}
use Rattle.jparts.specs.declared.jcode.op.Op.{Op}
use Rattle.jparts.specs.declared.jcode.op.Placed.{Placed}
use Rattle.jparts.specs.jcode.Instructions as jcode
use Rattle.jparts.specs.jcode.Instructions.{is_place, size}
use Rattle.jclass.specs.declared.fault.ClassFault.TheVariants.{Target}
use Rattle.jclass.specs.IndexFormats.{index, u2}
use Rattle.jclass.specs.CodeFormat.{begins, ends, handler, handler_parts, target_fault}
use Rattle.jclass.specs.FlagRules.{names_caught}
use Rattle.jmove.specs.declared.method.Expand.{Expand}
use Rattle.jmove.specs.declared.method.Expand.TheVariants.{Same, Call, Check, Snapshot, Privileged, PrivilegedWith, PrivilegedLimited}
use Rattle.jmove.specs.declared.method.Setting.{Setting}
use Rattle.jmove.specs.PoolAdditions.{IsFront}
use Rattle.jmove.specs.AssemblyLines.{Laid, end_of, reach}
use Rattle.jmove.specs.MethodExpansion.{call_static, calling, expansion, lines, move_ref, moved_handler, push_int}
use Rattle.jmove.proofs.CodeLayout.{code_laid}
use Rattle.jmove.proofs.LabelTables.{place_within}
use Rattle.jmove.proofs.Sizes.{size_some}
use Rattle.jrewriting.specs.jmove_laws.InstructionNumbers.{index_of, moved, new_place, standing}
use Rattle.jrewriting.proofs.JmoveLawsProofs.BranchTargets.{ended, first_of}
use Rattle.jrewriting.proofs.JmoveLawsProofs.InstructionNumbers.{fetched}
use Rattle.jrewriting.proofs.JmoveLawsProofs.CodePlaces as placing
use Rattle.jrewriting.proofs.JmoveLawsProofs.HandlerRanges.{labelled}
use Rattle.jrewriting.proofs.JmoveLawsProofs.InstructionSizes.{laid_placed}
use Rattle.jmoveclass.proofs.DemandPreservation.{good_is, index_on, is_good_of, names_caught_on}
use Rattle.jrewriting.proofs.JmoveclassLawsProofs.PoolFormat.{or_first}
use Rattle.jrewriting.proofs.JmoveclassLawsProofs.Texts.{or_second}

-- ---- the end of code

one_end : (from a b : ℕ) (ps : List Placed) → Laid from ps a → Laid from ps b → a ≡ b
one_end from a b [] h k = sym h ∙ k
one_end from a b (p ∷ ps) h k = one_end (from + size from p.op) a b ps h.1 k.1

-- moved code is as long as its lines say
pub moved_bytes : (begin : List Op) (s : Setting) (ks : List Expand) (is : List Placed) → IsTrue (jcode.code.fits (moved begin s ks is)) → length (jcode.code.spell (moved begin s ks is)) ≡ end_of 0 (lines begin s ks is)
moved_bytes begin s ks is fits =
    let ls = lines begin s ks is in
    one_end 0 (length (jcode.code.spell (moved begin s ks is))) (end_of 0 ls) (moved begin s ks is) (code_laid (moved begin s ks is) fits) (laid_placed (new_place begin s ks is) 0 ls)

above : (at : ℕ) (os : List Op) → at ≤ reach at os
above at [] = omega arith
above at (o ∷ os) = omega (arith, above (at + size at o) os)

past : (at : ℕ) (o : Op) (os : List Op) → at < reach at (o ∷ os)
past at o os = omega (arith, size_some at o, above (at + size at o) os)

past_all : (s : Setting) (k : Expand) (o : Op) (at : ℕ) → at < reach at (expansion s k o)
past_all s Same o at = past at o []
past_all s (Call n) o at = past at (move_ref Load s.local) (calling n o ∷ [])
past_all s (Check n) o at = past at (move_ref Load s.local) (call_static n ∷ [])
past_all s (Snapshot n) o at = past at (move_ref Load s.local) (call_static n ∷ [])
past_all s (Privileged n) o at = past at (push_int s.domain) (call_static n ∷ [])
past_all s (PrivilegedWith n) o at = past at (push_int s.domain) (call_static n ∷ [])
past_all s (PrivilegedLimited n) o at = past at (move_ref Load s.local) (push_int s.domain ∷ call_static n ∷ [])

-- ---- places

is_at : (ps : List Placed) (n : ℕ) (x : Placed) → slice_get ps n ≡ Some x → IsTrue (is_place ps (pos x.at))
is_at [] n x e = absurd cc
is_at (p ∷ ps) zero x e =
    let one : p ≡ x = cc in
    let hit : int_eq (pos p.at) (pos x.at) ≡ true = (Decides-int_eq (pos p.at) (pos x.at)).1 (ap (λ (y : Placed). pos y.at) one) in
    rw hit refl
is_at (p ∷ ps) (suc n) x e = or_second (int_eq (pos p.at) (pos x.at)) (is_place ps (pos x.at)) (is_at ps n x e)

-- what is asked of old code and what moved code is
pub record Moves (begin : List Op) (s : Setting) (ks : List Expand) (is : List Placed) : Type 0 where
  pub each : length ks ≡ length is
  pub old : IsTrue (jcode.code.fits is)
  pub new : IsTrue (jcode.code.fits (moved begin s ks is))
  pub near : end_of 0 (lines begin s ks is) ≤ 32767

-- the new place of an instruction is one of moved code, below its end
pub new_begins : (begin : List Op) (s : Setting) (ks : List Expand) (is : List Placed) → Moves begin s ks is → (q : ℕ) → IsTrue (is_place is (pos q))
    → IsTrue (is_place (moved begin s ks is) (pos (new_place begin s ks is q))) × (new_place begin s ks is q < end_of 0 (lines begin s ks is))
new_begins begin s ks is m q h =
    let to = new_place begin s ks is in
    let last = end_of 0 (lines begin s ks is) in
    let a = labelled ks is q m.each h in
    let one = first_of s a.kind a.one.op in
    let stands = fetched begin s ks is m.old a.number 0 a.kind a.one one.0 a.nth one.1 in
    let x : Placed = standing to a.one.at (to a.one.at) (expansion s a.kind a.one.op) 0 one.0 in
    let less : to a.one.at < reach (to a.one.at) (expansion s a.kind a.one.op) = past_all s a.kind a.one.op (to a.one.at) in
    let even : reach (to a.one.at) (expansion s a.kind a.one.op) ≡ to (a.one.at + size a.one.at a.one.op) = placing.ends begin s ks is m.old a.number a.kind a.one a.nth in
    let inside : to (a.one.at + size a.one.at a.one.op) ≤ last = place_within (a.one.at + size a.one.at a.one.op) 0 (lines begin s ks is) in
    let below : to a.one.at < last = omega arith in
    subst (λ (p : ℕ). IsTrue (is_place (moved begin s ks is) (pos (to p))) × (to p < last)) a.place (is_at (moved begin s ks is) (index_of begin s ks is a.number + 0) x stands, below)

-- ---- one handler

small : (n : ℕ) → n ≤ 32767 → IsTrue (u2.fits n)
small n h = lt-ltb n 65536 (omega arith)

-- where it ends
end_parts : (begin : List Op) (s : Setting) (ks : List Expand) (is : List Placed) → Moves begin s ks is → (p q : ℕ) → IsTrue (begins is p) → p < q → IsTrue (ends is q)
    → (new_place begin s ks is p < new_place begin s ks is q) × IsTrue (ends (moved begin s ks is) (new_place begin s ks is q))
end_parts begin s ks is m p q start less h =
    let to = new_place begin s ks is in
    let ps = moved begin s ks is in
    let last = end_of 0 (lines begin s ks is) in
    let long : length (jcode.code.spell ps) ≡ last = moved_bytes begin s ks is m.new in
    elim (cases_Bool (q == length (jcode.code.spell is))) [
      | inl hit ↦
          let old : q ≡ length (jcode.code.spell is) = eqb-true q (length (jcode.code.spell is)) hit in
          let there : to q ≡ last = ap to old ∙ ended begin s ks is m.old in
          let below : to p < last = (new_begins begin s ks is m p start).1 in
          let whole : to q ≡ length (jcode.code.spell ps) = there ∙ sym long in
          (omega arith, or_first (to q == length (jcode.code.spell ps)) (begins ps (to q)) (eq-eqb (to q) (length (jcode.code.spell ps)) whole))
      | inr miss ↦
          let there : IsTrue (begins is q) = rw miss at h in
          (placing.rise begin s ks is m.each m.old p q start there less, or_second (to q == length (jcode.code.spell ps)) (begins ps (to q)) (new_begins begin s ks is m q there).0)
    ]

handler_fits : (base whole : List Entry) → IsFront base whole → (begin : List Op) (s : Setting) (ks : List Expand) (is : List Placed) → Moves begin s ks is → (h : Handler) → IsTrue ((handler base is).fits h)
    → IsTrue ((handler whole (moved begin s ks is)).fits (moved_handler (new_place begin s ks is) h))
unfolding handler
handler_fits base whole front begin s ks is m h fit =
    let to = new_place begin s ks is in
    let ps = moved begin s ks is in
    let near : (q : ℕ) → IsTrue (u2.fits (to q)) = λ q. small (to q) (let inside : to q ≤ end_of 0 (lines begin s ks is) = place_within q 0 (lines begin s ks is) in let less : end_of 0 (lines begin s ks is) ≤ 32767 = m.near in omega arith) in
    let numbers = first_true ((u2 · u2 · u2 · index (names_caught base)).fits (handler_parts h)) (is_good (target_fault is (handler_parts h))) fit in
    let good = second_true ((u2 · u2 · u2 · index (names_caught base)).fits (handler_parts h)) (is_good (target_fault is (handler_parts h))) fit in
    let caught = second_true (u2.fits h.at) ((index (names_caught base)).fits h.class)
    (second_true (u2.fits h.end) ((u2 · index (names_caught base)).fits (h.at, h.class)) (second_true (u2.fits h.start) ((u2 · u2 · index (names_caught base)).fits (h.end, (h.at, h.class))) numbers)) in
    let all = good_is (nat_lt h.start h.end && (begins is h.start && (ends is h.end && begins is h.at))) Target good in
    let less = ltb-true h.start h.end (first_true (nat_lt h.start h.end) (begins is h.start && (ends is h.end && begins is h.at)) all) in
    let places = second_true (nat_lt h.start h.end) (begins is h.start && (ends is h.end && begins is h.at)) all in
    let start = first_true (begins is h.start) (ends is h.end && begins is h.at) places in
    let others = second_true (begins is h.start) (ends is h.end && begins is h.at) places in
    let past = first_true (ends is h.end) (begins is h.at) others in
    let at = second_true (ends is h.end) (begins is h.at) others in
    let range = end_parts begin s ks is m h.start h.end start less past in
    let good_now = both (nat_lt (to h.start) (to h.end)) (begins ps (to h.start) && (ends ps (to h.end) && begins ps (to h.at))) (lt-ltb (to h.start) (to h.end) range.0)
    (both (begins ps (to h.start)) (ends ps (to h.end) && begins ps (to h.at)) (new_begins begin s ks is m h.start start).0
    (both (ends ps (to h.end)) (begins ps (to h.at)) range.1 (new_begins begin s ks is m h.at at).0)) in
    let numbers_now = both (u2.fits (to h.start)) _ (near h.start) (both (u2.fits (to h.end)) _ (near h.end) (both (u2.fits (to h.at)) _ (near h.at) (index_on (names_caught base) (names_caught whole) h.class (names_caught_on base whole front h.class) caught))) in
    both ((u2 · u2 · u2 · index (names_caught whole)).fits (handler_parts (moved_handler to h))) (is_good (target_fault ps (handler_parts (moved_handler to h)))) numbers_now
    (is_good_of (nat_lt (to h.start) (to h.end) && (begins ps (to h.start) && (ends ps (to h.end) && begins ps (to h.at)))) Target good_now)

pub handlers_fit : (base whole : List Entry) → IsFront base whole → (begin : List Op) (s : Setting) (ks : List Expand) (is : List Placed) → Moves begin s ks is → (hs : List Handler) → IsTrue (list_all (handler base is).fits hs)
    → IsTrue (list_all (handler whole (moved begin s ks is)).fits (map (moved_handler (new_place begin s ks is)) hs))
handlers_fit base whole front begin s ks is m [] fit = refl
handlers_fit base whole front begin s ks is m (h ∷ hs) fit =
    let f = (handler base is).fits in
    let g = (handler whole (moved begin s ks is)).fits in
    let to = moved_handler (new_place begin s ks is) in
    both (g (to h)) (list_all g (map to hs)) (handler_fits base whole front begin s ks is m h (first_true (f h) (list_all f hs) fit)) (handlers_fit base whole front begin s ks is m hs (second_true (f h) (list_all f hs) fit))
