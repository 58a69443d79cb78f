-- Moved code has a spelling, and its branches lead to instructions.
use Rattle.std.proofs.Common.{◌≡◌, ℕ, zero, suc, ◌+◌, ◌≤◌, ℤ, pos, ◌+ℤ◌, Bool, true, false, cond, ◌||◌, List, [], ◌∷◌, ◌++◌, map, length, Some, refl, ap, ◌∙◌, sym, subst, arith, nat_lt}
use Rattle.std.specs.Prelude.{FitsSigned, IsTrue, slice_get}
use Rattle.std.specs.List.{list_all}
use Rattle.std.specs.Int.{w16}
use Rattle.std.specs.Ordering.{int_eq}
use Rattle.std.proofs.lemmas.Bool.{eq-eqb}
use Rattle.std.proofs.lemmas.Bool.Decides.{Decides-int_eq}
use Rattle.jground.specs.jformat.StatefulFormats.{fits_from}
use Rattle.jground.proofs.JformatProofs.ReadingSteps.{both, first_true, second_true}
use Rattle.jparts.specs.declared.jcode.names.Access.{Access}
use Rattle.jparts.specs.declared.jcode.names.Access.TheVariants.{Load, Store}
use Rattle.jparts.specs.declared.jcode.names.LocalKind.TheVariants.{Ref}
use Rattle.jparts.specs.declared.jcode.op.Op.{Op}
use Rattle.jparts.specs.declared.jcode.op.Op.TheVariants as ops
use Rattle.jparts.specs.declared.jcode.op.LocalOp.TheVariants.{At}
use Rattle.jparts.specs.declared.jcode.op.Wide.TheVariants.{Local}
use Rattle.jparts.specs.declared.jcode.op.Placed.{Placed}
use Rattle.jparts.specs.jcode.InstructionForms.{form, branches}
use Rattle.jparts.specs.jcode.Instructions as jcode
use Rattle.jparts.specs.jcode.Instructions.{size, instruction, behind_fits, placed_at, place_behind, is_place, lands, leads, instructions, code}
use Rattle.jparts.proofs.JcodeProofs.CodeLaws.{fits_at}
use Rattle.jmove.specs.declared.method.Expand.{Expand}
use Rattle.jmove.specs.declared.method.Expand.TheVariants.{Same, Call, Check, Snapshot, Privileged, PrivilegedWith, PrivilegedLimited}
use Rattle.jmove.specs.declared.method.Setting.{Setting}
use Rattle.jmove.specs.AssemblyLines.{Line, Label, Do, end_of, with_branches, led, placed}
use Rattle.jmove.specs.ProofNames.{distance}
use Rattle.jmove.specs.MethodExpansion.{move_ref, push_int, call_static, calling, prologue, expansion, expansions, lines}
use Rattle.jmove.proofs.LineSequences.{end_above}
use Rattle.jmove.proofs.Sizes.{led_move}
use Rattle.jrewriting.specs.jmove_laws.InstructionNumbers.{index_of, moved, new_place}
use Rattle.jrewriting.specs.jmove_laws.SpelledCode.{named, Spelled}
use Rattle.jrewriting.proofs.JmoveLawsProofs.InstructionEncodings.{op_fits, push_fits, call_fits, move_fits, calling_fits}
use Rattle.jrewriting.proofs.JmoveLawsProofs.BranchTargets.{each_branch, first_of}
use Rattle.jrewriting.proofs.JmoveLawsProofs.BranchTargets as leading
use Rattle.jrewriting.proofs.JmoveLawsProofs.BranchDistances.{near}
use Rattle.jrewriting.proofs.JmoveLawsProofs.InstructionNumbers.{fetched}
use Rattle.jrewriting.proofs.JmoveLawsProofs.HandlerRanges.{somewhere, there}
use Rattle.jrewriting.proofs.JmoveLawsProofs.InstructionSizes.{size_same}

-- ---- good instructions and lines

record Good (ps : List Placed) (f : ℕ → ℕ) (last q : ℕ) (op : Op) : Type 0 where
  pub fits : (at : ℕ) → at ≤ last → IsTrue (behind_fits at (led f q at op))
  pub leads : (at : ℕ) → IsTrue (list_all (lands ps at) (branches (form (led f q at op))))

abbrev Goods : List Placed → (ℕ → ℕ) → ℕ → List Line → Type 0
Goods ps f last [] = Unit {0}
Goods ps f last (Label q ∷ rest) = Goods ps f last rest
Goods ps f last (Do q op ∷ rest) = Good ps f last q op × Goods ps f last rest

all_fit : (ps : List Placed) (f : ℕ → ℕ) (last at : ℕ) (ls : List Line) → Goods ps f last ls → end_of at ls ≤ last → IsTrue (fits_from (λ t. (jcode.placed t).fits) place_behind at (placed f at ls))
unfolding fits_from instruction
all_fit ps f last at [] g h = refl
all_fit ps f last at (Label q ∷ rest) g h = all_fit ps f last at rest g h
all_fit ps f last at (Do q op ∷ rest) g h =
    let one = placed_at at (led f q at op) in
    let inside : at ≤ last = omega (arith, end_above (at + size at op) rest) in
    let here : IsTrue ((jcode.placed at).fits one) = rw (eq-eqb at at refl) (g.0.fits at inside) in
    let next : at + size at op ≡ place_behind at one = ap (λ (n : ℕ). at + n) (sym (size_same (distance f q at) at op)) in
    let later : IsTrue (fits_from (λ t. (jcode.placed t).fits) place_behind (place_behind at one) (placed f (at + size at op) rest)) =
    subst (λ (p : ℕ). IsTrue (fits_from (λ t. (jcode.placed t).fits) place_behind p (placed f (at + size at op) rest))) next (all_fit ps f last (at + size at op) rest g.1 h) in
    both ((jcode.placed at).fits one) (fits_from (λ t. (jcode.placed t).fits) place_behind (place_behind at one) (placed f (at + size at op) rest)) here later

all_lead : (ps : List Placed) (f : ℕ → ℕ) (last at : ℕ) (ls : List Line) → Goods ps f last ls → IsTrue (list_all (leads ps) (placed f at ls))
all_lead ps f last at [] g = refl
all_lead ps f last at (Label q ∷ rest) g = all_lead ps f last at rest g
all_lead ps f last at (Do q op ∷ rest) g = both (leads ps (placed_at at (led f q at op))) (list_all (leads ps) (placed f (at + size at op) rest)) (g.0.leads at) (all_lead ps f last (at + size at op) rest g.1)

-- ---- instructions without branches

bare : (ps : List Placed) (f : ℕ → ℕ) (last q : ℕ) (op : Op) → ((g : ℤ → ℤ) → with_branches g op ≡ op) → branches (form op) ≡ [] → ((at : ℕ) → IsTrue (behind_fits at op)) → Good ps f last q op
bare ps f last q op same none fits = record {
  fits = λ at le. subst (λ (o : Op). IsTrue (behind_fits at o)) (sym (same (distance f q at))) (fits at);
  leads = λ at. subst (λ (o : Op). IsTrue (list_all (lands ps at) (branches (form o)))) (sym (same (distance f q at)))
      (subst (λ (bs : List ℤ). IsTrue (list_all (lands ps at) bs)) (sym none) refl);
}

move_bare : (access : Access) (n : ℕ) (b : Bool) → branches (form (cond b (ops.RefLocal (At access n)) (ops.Wide (Local Ref access n)))) ≡ []
unfolding form branches
move_bare access n true = refl
move_bare access n false = refl

push_bare : (n : ℕ) → branches (form (push_int n)) ≡ []
unfolding form branches
push_bare n = refl

call_bare : (n : ℕ) → branches (form (call_static n)) ≡ []
unfolding form branches
call_bare n = refl

move_good : (ps : List Placed) (f : ℕ → ℕ) (last q : ℕ) (access : Access) (n : ℕ) → n ≤ 0xffff → Good ps f last q (move_ref access n)
move_good ps f last q access n h = bare ps f last q (move_ref access n) (λ g. led_move g access n) (move_bare access n (nat_lt n 256)) (λ at. move_fits at access n h)

push_good : (ps : List Placed) (f : ℕ → ℕ) (last q n : ℕ) → n ≤ 0x7fff → Good ps f last q (push_int n)
push_good ps f last q n h = bare ps f last q (push_int n) (λ g. refl) (push_bare n) (λ at. push_fits at n h)

call_good : (ps : List Placed) (f : ℕ → ℕ) (last q n : ℕ) → n ≤ 0xffff → Good ps f last q (call_static n)
call_good ps f last q n h = bare ps f last q (call_static n) (λ g. refl) (call_bare n) (λ at. call_fits at n h)

-- ---- old instructions

-- what leads to an instruction of old code leads to one of moved code
abbrev Kept : List Placed → List Placed → (ℕ → ℕ) → Type 0
Kept is ps f = (q at : ℕ) (by : ℤ) → IsTrue (lands is q by) → IsTrue (lands ps at (distance f q at by))

lead_on : (is ps : List Placed) (f : ℕ → ℕ) (q at : ℕ) (bs : List ℤ) → Kept is ps f → IsTrue (list_all (lands is q) bs) → IsTrue (list_all (lands ps at) (map (distance f q at) bs))
lead_on is ps f q at [] kept h = refl
lead_on is ps f q at (b ∷ bs) kept h =
    both (lands ps at (distance f q at b)) (list_all (lands ps at) (map (distance f q at) bs))
    (kept q at b (first_true (lands is q b) (list_all (lands is q) bs) h)) (lead_on is ps f q at bs kept (second_true (lands is q b) (list_all (lands is q) bs) h))

-- distances that count from places of the code are near
abbrev Nears : (ℕ → ℕ) → ℕ → Type 0
Nears f last = (q at : ℕ) (by : ℤ) → at ≤ last → FitsSigned w16 (distance f q at by)

old_good : (is ps : List Placed) (f : ℕ → ℕ) (last q : ℕ) (op : Op) → Kept is ps f → Nears f last → IsTrue (behind_fits q op) → IsTrue (list_all (lands is q) (branches (form op))) → Good ps f last q op
old_good is ps f last q op kept nears fits lead = record {
  fits = λ at le. op_fits (distance f q at) q at op (λ by. nears q at by le) fits;
  leads = λ at. subst (λ (bs : List ℤ). IsTrue (list_all (lands ps at) bs)) (sym (each_branch (distance f q at) op)) (lead_on is ps f q at (branches (form op)) kept lead);
}

-- ---- expansions

row : (is ps : List Placed) (f : ℕ → ℕ) (last : ℕ) (s : Setting) (k : Expand) (q : ℕ) (op : Op) (rest : List Line) → s.local ≤ 0xffff → s.domain ≤ 0x7fff → named k ≤ 0xffff → Kept is ps f → Nears f last
    → IsTrue (behind_fits q op) → IsTrue (list_all (lands is q) (branches (form op))) → Goods ps f last rest → Goods ps f last (map (Do q) (expansion s k op) ++ rest)
row is ps f last s Same q op rest local domain number kept nears fits lead g = (old_good is ps f last q op kept nears fits lead, g)
row is ps f last s (Call n) q op rest local domain number kept nears fits lead g =
    let c = calling_fits is q n op number fits lead in
    (move_good ps f last q Load s.local local, (old_good is ps f last q (calling n op) kept nears c.0 c.1, g))
row is ps f last s (Check n) q op rest local domain number kept nears fits lead g = (move_good ps f last q Load s.local local, (call_good ps f last q n number, g))
row is ps f last s (Snapshot n) q op rest local domain number kept nears fits lead g = (move_good ps f last q Load s.local local, (call_good ps f last q n number, g))
row is ps f last s (Privileged n) q op rest local domain number kept nears fits lead g = (push_good ps f last q s.domain domain, (call_good ps f last q n number, g))
row is ps f last s (PrivilegedWith n) q op rest local domain number kept nears fits lead g = (push_good ps f last q s.domain domain, (call_good ps f last q n number, g))
row is ps f last s (PrivilegedLimited n) q op rest local domain number kept nears fits lead g =
    (move_good ps f last q Load s.local local, (push_good ps f last q s.domain domain, (call_good ps f last q n number, g)))

rows : (all ps : List Placed) (f : ℕ → ℕ) (last : ℕ) (s : Setting) (from : ℕ) (ks : List Expand) (is : List Placed) → s.local ≤ 0xffff → s.domain ≤ 0x7fff
    → ((n : ℕ) (k : Expand) → slice_get ks n ≡ Some k → named k ≤ 0xffff) → Kept all ps f → Nears f last
    → IsTrue (fits_from (λ t. (jcode.placed t).fits) place_behind from is) → IsTrue (list_all (leads all) is) → Goods ps f last (expansions s ks is)
unfolding fits_from instruction
rows all ps f last s from [] is local domain number kept nears fits lead = tt
rows all ps f last s from (k ∷ ks) [] local domain number kept nears fits lead = tt
rows all ps f last s from (k ∷ ks) (i ∷ is) local domain number kept nears fits lead =
    let t = fits_at from i (first_true ((jcode.placed from).fits i) (fits_from (λ t. (jcode.placed t).fits) place_behind (place_behind from i) is) fits) in
    let here : IsTrue (behind_fits i.at i.op) = subst (λ (p : ℕ). IsTrue (behind_fits p i.op)) (sym t.0) t.1 in
    row all ps f last s k i.at i.op (expansions s ks is) local domain (number 0 k refl) kept nears here (first_true (leads all i) (list_all (leads all) is) lead)
    (rows all ps f last s (place_behind from i) ks is local domain (λ n c e. number (suc n) c e) kept nears
    (second_true ((jcode.placed from).fits i) (fits_from (λ t. (jcode.placed t).fits) place_behind (place_behind from i) is) fits) (second_true (leads all i) (list_all (leads all) is) lead))

-- ---- branches lead to instructions

either_true : (a b : Bool) → IsTrue b → IsTrue (a || b)
either_true true b h = refl
either_true false b h = h

stands_there : (ps : List Placed) (n : ℕ) (x : Placed) (z : ℤ) → slice_get ps n ≡ Some x → pos x.at ≡ z → IsTrue (is_place ps z)
stands_there [] n x z e same = absurd cc
stands_there (p ∷ ps) zero x z e same =
    let one : p ≡ x = cc in
    let hit : int_eq (pos p.at) z ≡ true = (Decides-int_eq (pos p.at) z).1 (ap (λ (y : Placed). pos y.at) one ∙ same) in
    rw hit refl
stands_there (p ∷ ps) (suc n) x z e same = either_true (int_eq (pos p.at) z) (is_place ps z) (stands_there ps n x z e same)

keeps : (begin : List Op) (s : Setting) (ks : List Expand) (is : List Placed) → length ks ≡ length is → IsTrue (code.fits is) → Kept is (moved begin s ks is) (new_place begin s ks is)
keeps begin s ks is e fits q at by hit =
    let f = new_place begin s ks is in
    let r = somewhere (λ p. int_eq (pos p.at) (pos q +ℤ by)) is hit in
    let target : pos r.one.at ≡ pos q +ℤ by = (Decides-int_eq (pos r.one.at) (pos q +ℤ by)).0 r.hit in
    let k = there ks r.number (omega (arith, leading.within is r.number r.one r.stands)) in
    let one = first_of s k.0 r.one.op in
    let stands = fetched begin s ks is fits r.number 0 k.0 r.one one.0 (record { kind = k.1; old = r.stands }) one.1 in
    stands_there (moved begin s ks is) (index_of begin s ks is r.number + 0) _ (pos at +ℤ distance f q at by) stands (sym (leading.leads f q at r.one.at by (sym target)))

-- ---- the law

pub spelled : Spelled
unfolding code instructions
spelled slots enter s ks is e fits range small =
    let begin = prologue slots s enter in
    let f = new_place begin s ks is in
    let ls = lines begin s ks is in
    let ps = moved begin s ks is in
    let last = end_of 0 ls in
    let goods : Goods ps f last ls = (
      move_good ps f last 0 Load slots range.place,
      (
        push_good ps f last 0 s.domain range.domain,
        (
          call_good ps f last 0 enter range.call,
          (
            move_good ps f last 0 Store s.local range.local,
            rows is ps f last s 0 ks is range.local range.domain range.calls (keeps begin s ks is e fits) (λ q at by le. near begin s ks is small q at by le)
                (first_true (instructions.fits is) (list_all (leads is) is) fits) (second_true (instructions.fits is) (list_all (leads is) is) fits),
          ),
        ),
      ),
    ) in
    both (instructions.fits ps) (list_all (leads ps) ps) (all_fit ps f last 0 ls goods (omega arith)) (all_lead ps f last 0 ls goods)
