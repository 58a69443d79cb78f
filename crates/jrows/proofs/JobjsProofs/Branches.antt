-- Branches that test references.
use Rattle.std.proofs.Common.{◌≡◌, ◌∙◌, ℕ, ◌+◌, ◌≤◌, Bool, true, false, List, [], ◌∷◌, drop, length, Option, Some, None, refl, sym, ap, ap₂, arith}
use Rattle.std.specs.Prelude.{is_some, slice_get}
use Rattle.jparts.specs.declared.jcode.names.RefTest.{RefTest}
use Rattle.jparts.specs.jcode.InstructionForms as forms
use Rattle.jvalues.specs.declared.jnames.kinds.Kind.TheVariants as kinds
use Rattle.jvalues.specs.declared.jops.value.Value.{Value}
use Rattle.jvalues.specs.declared.jops.value.Value.TheVariants.{Int, Long, Ref, Ctx}
use Rattle.jresolution.specs.declared.jprogram.member.Member.{Member}
use Rattle.jtyping.specs.jrule.StackEffects.{Of, Want, of_kinds}
use Rattle.jresolution.specs.juses.IndexedInstructions.{IfRef, Jump}
use Rattle.jsemantics.specs.jmachine.MachineStates.{FrameOf}
use Rattle.jsemantics.specs.jmachine.InstructionActions.{doing}
use Rattle.jsemantics.specs.jmachine.FrameOperations.{standing}
use Rattle.jsemantics.specs.jmachine.TakenOperands.{serves, taken}
use Rattle.jsemantics.specs.jmachine.Security.{Rules}
use Rattle.jsemantics.specs.jmachine.InstructionSites.{Site}
use Rattle.jsemantics.specs.jmachine.Store.{Store}
use Rattle.jsemantics.specs.ProofNames
use Rattle.jsemantics.specs.jmachine.BasicInstructions.{jump}
use Rattle.jsemantics.specs.jmachine.World.{World}
use Rattle.jrows.specs.jacts.RowOutcomes.{ActsWhere, Comes, GoesFree, branched, leaves}
use Rattle.jrows.specs.declared.jacts.way.Way.TheVariants as ways
use Rattle.jrows.specs.jobjs.ReferenceBranches.{ServeTest, null_test, ref_in, same_test}
use Rattle.jrows.proofs.JobjsProofs.FieldWrites.{are_served, next}
use Rattle.jrows.proofs.JobjsProofs.ServedOperands.{front_one, has_front, not_served, serves_one, taken_front}

-- ---- references that are there

ref_there : (v : Option (Value ℕ)) (n : ℕ) → Some n ≡ ref_in v → Some (Ref n) ≡ v
ref_there None n h = cc
ref_there (Some (Int x)) n h = cc
ref_there (Some (Long x)) n h = cc
ref_there (Some (Ref m)) n h = let e : n ≡ m = cc in ap (λ k. Some (Ref k)) e
ref_there (Some (Ctx k)) n h = cc

pub has_one : (operands : List (Value ℕ)) (n : ℕ) → Some n ≡ ref_in (slice_get operands 0) → 1 ≤ length operands
has_one [] n h = cc
has_one (v ∷ rest) n h = omega arith

pub has_two : (operands : List (Value ℕ)) (n : ℕ) → Some n ≡ ref_in (slice_get operands 1) → 2 ≤ length operands
has_two [] n h = cc
has_two (v ∷ []) n h = cc
has_two (v ∷ u ∷ rest) n h = omega arith

-- what serves as a reference is one
no_other : {A : Type 0} (w : World) (s : Store ℕ) (v : Value ℕ) → serves w s (Of kinds.Ref) v ≡ true → ref_in (Some v) ≡ None → A
no_other w s (Int x) serve none = cc
no_other w s (Long x) serve none = cc
no_other w s (Ref n) serve none = cc
no_other w s (Ctx k) serve none = cc

one_wanted : (null : Bool) → of_kinds (forms.compared (null_test null)) ≡ Of kinds.Ref ∷ []
one_wanted true = refl
one_wanted false = refl

two_wanted : (same : Bool) → of_kinds (forms.compared (same_test same)) ≡ Of kinds.Ref ∷ Of kinds.Ref ∷ []
two_wanted true = refl
two_wanted false = refl

no_second : (same : Bool) (b : ℕ) (u : Value ℕ) → ref_in (Some u) ≡ None → ProofNames.compared (same_test same) (Ref b ∷ u ∷ []) ≡ None
no_second true b (Int x) none = refl
no_second true b (Long x) none = refl
no_second true b (Ref n) none = cc
no_second true b (Ctx k) none = refl
no_second false b (Int x) none = refl
no_second false b (Long x) none = refl
no_second false b (Ref n) none = cc
no_second false b (Ctx k) none = refl

module _ {E : Type 0} (f : FrameOf ℕ E) (s : Store ℕ) (to : ℕ) where
  -- ---- all tests

  module _ (test : RefTest) (g : FrameOf ℕ E) (r : Rules ℕ E) (at : Site) (own : Member → Bool) (entries : List E) (inherited : Option ℕ) where
    not_taken : taken at.world s (of_kinds (forms.compared test)) f.operands ≡ None → Comes f s (doing r at own s entries inherited (Jump (IfRef test) to) f) (leaves ways.Stuck [] g s)
    unfolding doing jump
    not_taken none = rw none refl

    module _ (values rest : List (Value ℕ)) (took : taken at.world s (of_kinds (forms.compared test)) f.operands ≡ Some (record { values = values; below = rest })) where
      not_tested : ProofNames.compared test values ≡ None → Comes f s (doing r at own s entries inherited (Jump (IfRef test) to) f) (leaves ways.Stuck [] g s)
      unfolding doing jump
      not_tested none = rw (took, none) refl

      tested : GoesFree E → (b : Bool) → ProofNames.compared test values ≡ Some b → Comes f s (doing r at own s entries inherited (Jump (IfRef test) to) f) (leaves ways.Went [] (branched b to f rest) s)
      unfolding doing jump
      tested free true is = rw (took, is) (refl, refl)
      tested free false is = rw (took, is) (free f s s [] (standing f (f.place + 1) rest))

  pub test_not : (test : RefTest) (g : FrameOf ℕ E) → ActsWhere (λ (at : Site) (own : Member → Bool). ServeTest at s test f.operands false) (Jump (IfRef test) to) f s (leaves ways.Stuck [] g s)
  test_not test g r at own entries inherited told = not_taken test g r at own entries inherited (not_served (taken at.world s (of_kinds (forms.compared test)) f.operands) told)

  -- ---- ifnull, ifnonnull

  module _ (null : Bool) where
    abbrev OfOne : Site → (Member → Bool) → Type 0
    OfOne at own = ServeTest at s (null_test null) f.operands true

    one_serves : (at : Site) → ServeTest at s (null_test null) f.operands true → is_some (taken at.world s (Of kinds.Ref ∷ []) f.operands) ≡ true
    one_serves at told = ap (λ (wants : List Want). is_some (taken at.world s wants f.operands)) (sym (one_wanted null)) ∙ told

    pub null_none : (g : FrameOf ℕ E) → ref_in (slice_get f.operands 0) ≡ None → ActsWhere OfOne (Jump (IfRef (null_test null)) to) f s (leaves ways.Stuck [] g s)
    null_none g none r at own entries inherited told =
        let serve = one_serves at told in
        let front = has_front at.world s (Of kinds.Ref) f.operands serve in
        let all = front_one f.operands front.value front.newest in
        no_other at.world s front.value (serves_one at.world s (Of kinds.Ref) front.value (drop 1 f.operands) (ap (λ xs. is_some (taken at.world s (Of kinds.Ref ∷ []) xs)) (sym all) ∙ serve))
        (ap ref_in front.newest ∙ none)

    pub null_done : GoesFree E → (b : Bool) (n : ℕ) → Some n ≡ ref_in (slice_get f.operands 0) → Some b ≡ ProofNames.compared {K = ℕ} (null_test null) (Ref n ∷ [])
        → ActsWhere OfOne (Jump (IfRef (null_test null)) to) f s (leaves ways.Went [] (branched b to f (drop 1 f.operands)) s)
    null_done free b n newest is r at own entries inherited told =
        let took = ap (λ (wants : List Want). taken at.world s wants f.operands) (one_wanted null)
        ∙ taken_front at.world s (Of kinds.Ref) f.operands (Ref n) (ref_there (slice_get f.operands 0) n newest) (one_serves at told) in
        tested (null_test null) f r at own entries inherited (Ref n ∷ []) (drop 1 f.operands) took free b (sym is)

  -- ---- if_acmpeq, if_acmpne

  module _ (same : Bool) where
    abbrev OfTwo : Site → (Member → Bool) → Type 0
    OfTwo at own = ServeTest at s (same_test same) f.operands true

    two_serve : (at : Site) → ServeTest at s (same_test same) f.operands true → is_some (taken at.world s (Of kinds.Ref ∷ Of kinds.Ref ∷ []) f.operands) ≡ true
    two_serve at told = ap (λ (wants : List Want). is_some (taken at.world s wants f.operands)) (sym (two_wanted same)) ∙ told

    pub same_alone : (g : FrameOf ℕ E) → ref_in (slice_get f.operands 0) ≡ None → ActsWhere OfTwo (Jump (IfRef (same_test same)) to) f s (leaves ways.Stuck [] g s)
    same_alone g none r at own entries inherited told =
        let two = are_served at.world s (Of kinds.Ref) (Of kinds.Ref) f.operands (two_serve at told) in
        no_other at.world s two.value two.serve (ap (λ xs. ref_in (slice_get xs 0)) (sym two.front) ∙ none)

    both_taken : (at : Site) (y : ℕ) (u : Value ℕ) → ServeTest at s (same_test same) f.operands true → Some y ≡ ref_in (slice_get f.operands 0) → Some u ≡ slice_get f.operands 1
        → taken at.world s (of_kinds (forms.compared (same_test same))) f.operands ≡ Some (record { values = Ref y ∷ u ∷ []; below = drop 2 f.operands })
    both_taken at y u told newer older =
        let two = are_served at.world s (Of kinds.Ref) (Of kinds.Ref) f.operands (two_serve at told) in
        let value : Some (Ref y) ≡ Some two.value = ref_there (slice_get f.operands 0) y newer ∙ ap (λ xs. slice_get xs 0) two.front in
        let object : Some u ≡ Some two.object = older ∙ next f.operands ∙ ap (λ xs. slice_get xs 0) two.second in
        let first : two.value ≡ Ref y = cc in
        let second : two.object ≡ u = cc in
        ap (λ (wants : List Want). taken at.world s wants f.operands) (two_wanted same) ∙ two.all
        ∙ ap₂ (λ (v : Value ℕ) (x : Value ℕ). Some (record { values = v ∷ x ∷ []; below = drop 2 f.operands })) first second

    pub same_none : (g : FrameOf ℕ E) (y : ℕ) → Some y ≡ ref_in (slice_get f.operands 0) → ref_in (slice_get f.operands 1) ≡ None → ActsWhere OfTwo (Jump (IfRef (same_test same)) to) f s (leaves ways.Stuck [] g s)
    same_none g y newer none r at own entries inherited told =
        let two = are_served at.world s (Of kinds.Ref) (Of kinds.Ref) f.operands (two_serve at told) in
        let object : slice_get f.operands 1 ≡ Some two.object = next f.operands ∙ ap (λ xs. slice_get xs 0) two.second in
        not_tested (same_test same) g r at own entries inherited (Ref y ∷ two.object ∷ []) (drop 2 f.operands) (both_taken at y two.object told newer (sym object))
        (no_second same y two.object (ap ref_in (sym object) ∙ none))

    pub same_done : GoesFree E → (b : Bool) (x y : ℕ) → Some y ≡ ref_in (slice_get f.operands 0) → Some x ≡ ref_in (slice_get f.operands 1)
        → Some b ≡ ProofNames.compared {K = ℕ} (same_test same) (Ref y ∷ Ref x ∷ []) → ActsWhere OfTwo (Jump (IfRef (same_test same)) to) f s (leaves ways.Went [] (branched b to f (drop 2 f.operands)) s)
    same_done free b x y newer older is r at own entries inherited told =
        tested (same_test same) f r at own entries inherited (Ref y ∷ Ref x ∷ []) (drop 2 f.operands) (both_taken at y (Ref x) told newer (ref_there (slice_get f.operands 1) x older)) free b (sym is)
