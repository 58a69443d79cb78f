-- Jumps.
use Rattle.std.proofs.Common.{◌≡◌, ℕ, ℤ, pos, ◌+◌, ◌≤◌, Bool, true, false, List, [], ◌∷◌, length, drop, Option, Some, None, refl, ap, arith, rules}
use Rattle.std.specs.Prelude.{IsSome, slice_get, if◌then◌else◌}
use Rattle.jvalues.specs.declared.jnames.kinds.Kind.TheVariants as kinds
use Rattle.jvalues.specs.declared.jnames.names.Compare.{Compare}
use Rattle.jvalues.specs.declared.jnames.names.Compare.TheVariants as compare
use Rattle.jvalues.specs.declared.jops.value.Value.{Value}
use Rattle.jvalues.specs.declared.jops.value.Value.TheVariants.{Int, Long, Ref, Ctx}
use Rattle.jvalues.specs.jops.ValueKinds.{is_of}
use Rattle.jvalues.specs.jops.Operations.{test}
use Rattle.jtyping.specs.jrule.StackEffects.{Of, Want}
use Rattle.jresolution.specs.juses.IndexedInstructions.{Always, If, IfInt, Jump, Switch}
use Rattle.jsemantics.specs.jmachine.MachineStates.{FrameOf}
use Rattle.jsemantics.specs.jmachine.InstructionActions.{doing}
use Rattle.jsemantics.specs.jmachine.FrameOperations.{standing}
use Rattle.jsemantics.specs.jmachine.TakenOperands.{taken}
use Rattle.jsemantics.specs.jmachine.Store.{Store}
use Rattle.jsemantics.specs.jmachine.BasicInstructions.{case_of, jump, switch}
use Rattle.jsemantics.specs.jmachine.World.{World}
use Rattle.jrows.specs.jacts.RowOutcomes.{Does, NoKey, branched, int_in}
use Rattle.jrows.specs.declared.jacts.way.Way.TheVariants as ways
use Rattle.jrows.proofs.JactsProofs.Costs.{at_no_cost}
use Rattle.jrows.proofs.JactsProofs.NumberOperands.{front_one, front_two, none_of, one_taken, serves_by, two_taken}

pub compares : (c : Compare) (x y : ℤ) → IsSome (test {K = ℕ} c (Int x) (Int y))
compares compare.Eq x y = search rules
compares compare.Ne x y = search rules
compares compare.Lt x y = search rules
compares compare.Ge x y = search rules
compares compare.Gt x y = search rules
compares compare.Le x y = search rules

-- ---- ints that are there

there : (v : Option (Value ℕ)) (x : ℤ) → Some x ≡ int_in v → Some (Int x) ≡ v
there None x h = cc
there (Some (Int y)) x h = let e : x ≡ y = cc in ap (λ z. Some (Int z)) e
there (Some (Long y)) x h = cc
there (Some (Ref n)) x h = cc
there (Some (Ctx k)) x h = cc

isnt : (v : Value ℕ) → int_in (Some v) ≡ None → is_of kinds.Int v ≡ false
isnt (Int x) h = cc
isnt (Long x) h = refl
isnt (Ref n) h = refl
isnt (Ctx k) h = refl

pub has_one : (operands : List (Value ℕ)) (x : ℤ) → Some x ≡ int_in (slice_get operands 0) → 1 ≤ length operands
has_one [] x h = cc
has_one (v ∷ rest) x h = omega arith

pub has_two : (operands : List (Value ℕ)) (x : ℤ) → Some x ≡ int_in (slice_get operands 1) → 2 ≤ length operands
has_two [] x h = cc
has_two (v ∷ []) x h = cc
has_two (v ∷ u ∷ rest) x h = omega arith

pub no_int : (w : World) (s : Store ℕ) (wants : List Want) (operands : List (Value ℕ)) → int_in (slice_get operands 0) ≡ None → taken w s (Of kinds.Int ∷ wants) operands ≡ None
unfolding taken
no_int w s wants [] h = refl
no_int w s wants (v ∷ rest) h = rw (serves_by w s kinds.Int tt v, isnt v h) refl

pub one_int : (w : World) (s : Store ℕ) (operands : List (Value ℕ)) (x : ℤ) → Some x ≡ int_in (slice_get operands 0)
    → taken w s (Of kinds.Int ∷ []) operands ≡ Some (one_taken (Int x) (drop 1 operands))
unfolding taken
one_int w s operands x h = ap (taken w s (Of kinds.Int ∷ [])) (front_one operands (Int x) (there (slice_get operands 0) x h))

two_ints : (w : World) (s : Store ℕ) (operands : List (Value ℕ)) (x y : ℤ) → Some y ≡ int_in (slice_get operands 0) → Some x ≡ int_in (slice_get operands 1)
    → taken w s (Of kinds.Int ∷ Of kinds.Int ∷ []) operands ≡ Some (two_taken (Int x) (Int y) (drop 2 operands))
unfolding taken
two_ints w s operands x y h g =
    ap (taken w s (Of kinds.Int ∷ Of kinds.Int ∷ [])) (front_two operands (Int x) (Int y) (there (slice_get operands 0) y h) (there (slice_get operands 1) x g))

no_second : (w : World) (s : Store ℕ) (operands : List (Value ℕ)) → int_in (slice_get operands 1) ≡ None → taken w s (Of kinds.Int ∷ Of kinds.Int ∷ []) operands ≡ None
unfolding taken
no_second w s [] h = refl
no_second w s (v ∷ []) h = rw (serves_by w s kinds.Int tt v) (lost (is_of kinds.Int v))
  where
    lost : {A : Type 0} (b : Bool) → (if b then none_of A else none_of A) ≡ none_of A
    lost true = refl
    lost false = refl
no_second w s (v ∷ u ∷ rest) h = rw (serves_by w s kinds.Int tt v, serves_by w s kinds.Int tt u, isnt u h) (lost (is_of kinds.Int v))
  where
    lost : {A : Type 0} (b : Bool) → (if b then none_of A else none_of A) ≡ none_of A
    lost true = refl
    lost false = refl

module _ {E : Type 0} (f : FrameOf ℕ E) where
  pub always : (to : ℕ) → Does (Jump Always to) f ways.Went (standing f to f.operands)
  unfolding doing taken jump
  always to r at own s entries inherited = (refl, refl)

  pub if_done : (c : Compare) (x : ℤ) (to : ℕ) (b : Bool) → Some x ≡ int_in (slice_get f.operands 0) → Some b ≡ test {K = ℕ} c (Int x) (Int (pos 0))
      → Does (Jump (If c) to) f ways.Went (branched b to f (drop 1 f.operands))
  unfolding doing jump
  if_done c x to true h is r at own s entries inherited = rw (one_int at.world s f.operands x h, ← is) (refl, refl)
  if_done c x to false h is r at own s entries inherited = rw (one_int at.world s f.operands x h, ← is) (at_no_cost f s [] (standing f (f.place + 1) (drop 1 f.operands)))

  pub if_stuck : (c : Compare) (to : ℕ) (g : FrameOf ℕ E) → int_in (slice_get f.operands 0) ≡ None → Does (Jump (If c) to) f ways.Stuck g
  unfolding doing jump
  if_stuck c to g h r at own s entries inherited = rw (no_int at.world s [] f.operands h) refl

  pub if_int_done : (c : Compare) (x y : ℤ) (to : ℕ) (b : Bool) → Some y ≡ int_in (slice_get f.operands 0) → Some x ≡ int_in (slice_get f.operands 1) → Some b ≡ test {K = ℕ} c (Int x) (Int y)
      → Does (Jump (IfInt c) to) f ways.Went (branched b to f (drop 2 f.operands))
  unfolding doing jump
  if_int_done c x y to true h g is r at own s entries inherited = rw (two_ints at.world s f.operands x y h g, ← is) (refl, refl)
  if_int_done c x y to false h g is r at own s entries inherited = rw (two_ints at.world s f.operands x y h g, ← is) (at_no_cost f s [] (standing f (f.place + 1) (drop 2 f.operands)))

  pub if_int_alone : (c : Compare) (to : ℕ) (g : FrameOf ℕ E) → int_in (slice_get f.operands 0) ≡ None → Does (Jump (IfInt c) to) f ways.Stuck g
  unfolding doing jump
  if_int_alone c to g h r at own s entries inherited = rw (no_int at.world s (Of kinds.Int ∷ []) f.operands h) refl

  pub if_int_stuck : (c : Compare) (to : ℕ) (g : FrameOf ℕ E) → int_in (slice_get f.operands 1) ≡ None → Does (Jump (IfInt c) to) f ways.Stuck g
  unfolding doing jump
  if_int_stuck c to g h r at own s entries inherited = rw (no_second at.world s f.operands h) refl

  pub switched : (key : ℤ) (cases : List (ℤ × ℕ)) (other to : ℕ) → Some key ≡ int_in (slice_get f.operands 0) → to ≡ case_of key cases other
      → Does (Switch cases other) f ways.Went (standing f to (drop 1 f.operands))
  unfolding doing switch
  switched key cases other to h e r at own s entries inherited = rw (one_int at.world s f.operands key h, e) (refl, refl)

pub no_key : {E : Type 0} → NoKey E
unfolding doing switch
no_key cases other f g h r at own s entries inherited = rw (no_int at.world s [] f.operands h) refl
