-- Branches of moved code lead to where expansions begin.
use Rattle.std.proofs.Common.{◌≡◌, ◌≢◌, ℕ, zero, suc, ◌+◌, ◌<◌, ℤ, pos, ◌+ℤ◌, ◌-ℤ◌, true, false, eqb, ltb, List, [], ◌∷◌, map, length, Some, refl, ap, ◌∙◌, sym, arith}
use Rattle.std.specs.Prelude.{slice_get, unsigned_abs}
use Rattle.std.specs.List.{position_or_len}
use Rattle.std.proofs.lemmas.Bool.{eq-eqb, ne_eqb, lt-ltb}
use Rattle.std.proofs.lemmas.Int.{ints}
use Rattle.jparts.specs.declared.jcode.names.ObjectOp.TheVariants.{ArrayLength, Throw}
use Rattle.jparts.specs.declared.jcode.op.Op.{Op}
use Rattle.jparts.specs.declared.jcode.op.Op.TheVariants as ops
use Rattle.jparts.specs.declared.jcode.op.Goto.TheVariants as gotos
use Rattle.jparts.specs.declared.jcode.op.NewOp.TheVariants as news
use Rattle.jparts.specs.declared.jcode.op.Switch.TheVariants as switches
use Rattle.jparts.specs.declared.jcode.op.Case.{Case}
use Rattle.jparts.specs.declared.jcode.op.Placed.{Placed}
use Rattle.jparts.specs.jcode.InstructionForms.{form, branches}
use Rattle.jparts.specs.jcode.Instructions as jcode
use Rattle.jparts.specs.jcode.Instructions.{size}
use Rattle.jmove.specs.declared.method.Expand.{Expand}
use Rattle.jmove.specs.declared.method.Expand.TheVariants.{Same, Call, Check, Snapshot, Privileged, PrivilegedWith, PrivilegedLimited}
use Rattle.jmove.specs.declared.method.Setting.{Setting}
use Rattle.jmove.specs.AssemblyLines.{reach, end_of, place_of, Laid}
use Rattle.jmove.specs.ProofNames.{case_with, distance}
use Rattle.jmove.specs.MethodExpansion.{expansion, expansions, lines}
use Rattle.jmove.proofs.LineSequences.{place_skip, end_reach}
use Rattle.jmove.proofs.Bounds.{laid_above}
use Rattle.jmove.proofs.CodeLayout.{code_laid}
use Rattle.jmove.proofs.LabelTables.{passed}
use Rattle.jmove.proofs.Sizes.{size_some}
use Rattle.jrewriting.specs.jmove_laws.Branches.{EachBranch, Leads, Jumps, Ended}
use Rattle.jrewriting.specs.jmove_laws.InstructionNumbers.{index_of, standing, moved}
use Rattle.jrewriting.proofs.JmoveLawsProofs.InstructionNumbers.{not_first, fetched}
use Rattle.jrewriting.proofs.JmoveLawsProofs.InstructionSizes.{laid_placed}

-- ---- branches by themselves

cases_same : (f : ℤ → ℤ) (cs : List Case) → map (λ c. c.branch) (map (case_with f) cs) ≡ map f (map (λ c. c.branch) cs)
cases_same f [] = refl
cases_same f (c ∷ cs) = ap (λ (l : List ℤ). f c.branch ∷ l) (cases_same f cs)

pub each_branch : EachBranch
unfolding form branches
each_branch f ops.Nop = refl
each_branch f ops.AconstNull = refl
each_branch f (ops.IntConst c) = refl
each_branch f (ops.LongConst c) = refl
each_branch f (ops.Ldc op) = refl
each_branch f (ops.Ldc2 m) = refl
each_branch f (ops.IntLocal op) = refl
each_branch f (ops.LongLocal op) = refl
each_branch f (ops.RefLocal op) = refl
each_branch f (ops.ArrayLoad element) = refl
each_branch f (ops.ArrayStore element) = refl
each_branch f (ops.Stack op) = refl
each_branch f (ops.Two op) = refl
each_branch f (ops.Divide op) = refl
each_branch f (ops.One op) = refl
each_branch f (ops.Iinc m by) = refl
each_branch f (ops.If test by) = refl
each_branch f (ops.IfInt test by) = refl
each_branch f (ops.IfRef test by) = refl
each_branch f (ops.Goto (gotos.Narrow by)) = refl
each_branch f (ops.Goto (gotos.Wide by)) = refl
each_branch f (ops.Switch (switches.Table s)) = refl
each_branch f (ops.Switch (switches.Lookup s)) = ap (λ (l : List ℤ). f s.default ∷ l) (cases_same f s.cases)
each_branch f (ops.Return kind) = refl
each_branch f (ops.Field op m) = refl
each_branch f (ops.Call op m) = refl
each_branch f (ops.CallInterface m slots) = refl
each_branch f (ops.New (news.Object n)) = refl
each_branch f (ops.New (news.Array element)) = refl
each_branch f (ops.New (news.RefArray n)) = refl
each_branch f (ops.Object ArrayLength) = refl
each_branch f (ops.Object Throw) = refl
each_branch f (ops.Cast op m) = refl
each_branch f (ops.Wide op) = refl

pub leads : Leads
leads to from at old by e =
    let same : unsigned_abs (pos from +ℤ by) ≡ old = ap unsigned_abs e in
    let there : distance to from at by ≡ pos (to old) -ℤ pos at = ap (λ (n : ℕ). pos (to n) -ℤ pos at) same in
    omega (arith, ints)

-- ---- places and numbers

pub within : {A : Type 0} (ps : List A) (n : ℕ) (x : A) → slice_get ps n ≡ Some x → n < length ps
within [] n x e = absurd cc
within (p ∷ ps) zero x e = omega arith
within (p ∷ ps) (suc n) x e = omega (arith, within ps n x e)

numbered_from : (from to : ℕ) (ps : List Placed) (n : ℕ) (x : Placed) → Laid from ps to → slice_get ps n ≡ Some x → position_or_len (λ p. eqb p.at x.at) ps ≡ n
numbered_from from to [] n x h e = absurd cc
numbered_from from to (p ∷ ps) zero x h e =
    let same : p ≡ x = cc in
    let hit : eqb p.at x.at ≡ true = eq-eqb p.at x.at (ap (λ (y : Placed). y.at) same) in
    rw hit refl
numbered_from from to (p ∷ ps) (suc n) x h e =
    let other : x.at ≢ p.at = not_first from to p ps n x h e in
    let miss : eqb p.at x.at ≡ false = ne_eqb p.at x.at (λ same. other (sym same)) in
    let later = numbered_from (from + size from p.op) to ps n x h.1 e in
    rw miss (omega (arith, later))

pub numbered : (to : ℕ) (ps : List Placed) (n : ℕ) (x : Placed) → Laid 0 ps to → slice_get ps n ≡ Some x → jcode.place_of ps x.at ≡ Some n
numbered to ps n x h e =
    let at = numbered_from 0 to ps n x h e in
    let lt : ltb n (length ps) ≡ true = lt-ltb n (length ps) (within ps n x e) in
    rw (at, lt) refl

pub first_of : (s : Setting) (k : Expand) (o : Op) → (op : Op) × (slice_get (expansion s k o) 0 ≡ Some op)
first_of s Same o = (_, refl)
first_of s (Call n) o = (_, refl)
first_of s (Check n) o = (_, refl)
first_of s (Snapshot n) o = (_, refl)
first_of s (Privileged n) o = (_, refl)
first_of s (PrivilegedWith n) o = (_, refl)
first_of s (PrivilegedLimited n) o = (_, refl)

pub jumps : Jumps
jumps begin s ks is fits n k i nth =
    let f : ℕ → ℕ = λ old. place_of old 0 (lines begin s ks is) in
    let one = first_of s k i.op in
    let none : index_of begin s ks is n + 0 ≡ index_of begin s ks is n = omega arith in
    let stands = sym (ap (slice_get (moved begin s ks is)) none) ∙ fetched begin s ks is fits n 0 k i one.0 nth one.1 in
    numbered (end_of 0 (lines begin s ks is)) (moved begin s ks is) (index_of begin s ks is n) (standing f i.at (f i.at) (expansion s k i.op) 0 one.0) (laid_placed f 0 (lines begin s ks is)) stands

-- ---- the end

last_place : (s : Setting) (ks : List Expand) (is : List Placed) (at from to : ℕ) → Laid from is to → place_of to at (expansions s ks is) ≡ end_of at (expansions s ks is)
last_place s [] is at from to h = refl
last_place s (k ∷ ks) [] at from to h = refl
last_place s (k ∷ ks) (i ∷ is) at from to h =
    let os = expansion s k i.op in
    let rest = expansions s ks is in
    let ne : to ≢ i.at = omega (arith, h.0, size_some from i.op, laid_above (from + size from i.op) to is h.1) in
    passed to at s k i rest ne ∙ last_place s ks is (reach at os) (from + size from i.op) to h.1 ∙ sym (end_reach at i.at os rest)

pub ended : Ended
ended begin s ks is fits =
    let rest = expansions s ks is in
    let long = length (jcode.code.spell is) in
    place_skip long 0 0 begin rest ∙ last_place s ks is (reach 0 begin) 0 long (code_laid is fits) ∙ sym (end_reach 0 0 begin rest)
