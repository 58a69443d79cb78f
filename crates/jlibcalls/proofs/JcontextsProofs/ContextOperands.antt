-- What calls ask of which the operands tell a context.
use Rattle.std.proofs.Common.{◌≡◌, ℕ, zero, suc, ◌≤◌, List, [], ◌∷◌, length, drop, take, Option, Some, None, refl, sym, ap, subst, arith}
use Rattle.std.specs.Prelude.{OnOk, Ok, Err, Result, slice_get}
use Rattle.std.proofs.Math.Dec.{leb-zero}
use Rattle.jlib.specs.declared.side.Side.{Side}
use Rattle.jlib.specs.declared.side.Side.TheVariants.{Source, Passing}
use Rattle.jvalues.specs.declared.jops.value.Value.{Value}
use Rattle.jvalues.specs.declared.jops.value.Value.TheVariants.{Int, Long, Ref, Ctx}
use Rattle.jsemantics.specs.jmachine.AccessQueries.{controller_asks, rt_asks}
use Rattle.jsemantics.specs.jmachine.AccessCallRows.{controller_row, rt_row}
use Rattle.jsemantics.specs.jmachine.FrameOperations.{onward}
use Rattle.jsemantics.specs.jmachine.MachineSteps.{acted, applied, went}
use Rattle.jruntime.specs.jstate.FrameLists.{Framed, holding, with_newest}
use Rattle.jrows.proofs.JactsProofs.Costs.{unpaid}
use Rattle.jrows.specs.jcalls.Throws.{LeavesStanding}
use Rattle.jlibcalls.specs.declared.jcontexts.entering.Entering.{Entering}
use Rattle.jlibcalls.specs.jcontexts.ActionCalls.{GivesOne}
use Rattle.jlibcalls.specs.jcontexts.DomainEntries.{EntersWith, SnapshotsWith, entering_with, snapshot_with}
use Rattle.jlibcalls.specs.jcontexts.PrivilegeRequests.{context_in, domain_in}

-- ---- a method that is entered

pub told_so : (values : List (Value ℕ)) (d k : Value ℕ) (n c : ℕ) → 2 ≤ length values → Some d ≡ slice_get values 0 → Some n ≡ domain_in d
    → Some k ≡ slice_get values 1 → Some c ≡ context_in k → Some (record { ctx = c; domain = n }) ≡ entering_with (take 2 values)
told_so [] d k n c few at told second given = absurd (omega (arith, few))
told_so (x ∷ []) d k n c few at told second given = absurd (omega (arith, few))
told_so (x ∷ y ∷ rest) d k n c few at told second given = let same : x ≡ d = cc in let also : y ≡ k = cc in rw (same, also, ← told, ← given) refl

pub untold : (values : List (Value ℕ)) (d : Value ℕ) → 2 ≤ length values → Some d ≡ slice_get values 0 → None ≡ domain_in d → None ≡ entering_with (take 2 values)
untold [] d few at none = absurd (omega (arith, few))
untold (x ∷ []) d few at none = absurd (omega (arith, few))
untold (x ∷ y ∷ rest) d few at none = let same : x ≡ d = cc in rw (same, ← none) refl

pub without : (values : List (Value ℕ)) (d k : Value ℕ) (n : ℕ) → 2 ≤ length values → Some d ≡ slice_get values 0 → Some n ≡ domain_in d
    → Some k ≡ slice_get values 1 → None ≡ context_in k → None ≡ entering_with (take 2 values)
without [] d k n few at told second none = absurd (omega (arith, few))
without (x ∷ []) d k n few at told second none = absurd (omega (arith, few))
without (x ∷ y ∷ rest) d k n few at told second none = let same : x ≡ d = cc in let also : y ≡ k = cc in rw (same, also, ← told, ← none) refl

pub others_untold : (values : List (Value ℕ)) (count : ℕ) → count ≤ length values → (count ≡ 2 → ⊥) → None ≡ entering_with (take count values)
others_untold values zero few other = refl
others_untold [] (suc n) few other = absurd (omega (arith, few))
others_untold (x ∷ values) (suc zero) few other = refl
others_untold (x ∷ []) (suc (suc n)) few other = absurd (omega (arith, few))
others_untold (x ∷ y ∷ values) (suc (suc zero)) few other = absurd (other refl)
others_untold (x ∷ y ∷ []) (suc (suc (suc n))) few other = absurd (omega (arith, few))
others_untold (x ∷ y ∷ z ∷ values) (suc (suc (suc n))) few other = refl

enters_so : (E : Type 0) (values : List (Value ℕ)) → EntersWith E values (entering_with values)
unfolding rt_row rt_asks
enters_so E [] = record { row = λ r at own s entries inherited. refl; asked = λ side at s. refl }
enters_so E (Int d ∷ []) = record { row = λ r at own s entries inherited. refl; asked = λ side at s. refl }
enters_so E (Int d ∷ Ctx k ∷ []) = record { row = λ r at own s entries inherited. refl; asked = λ side at s. refl }
enters_so E (Int d ∷ Int k ∷ []) = record { row = λ r at own s entries inherited. refl; asked = λ side at s. refl }
enters_so E (Int d ∷ Long k ∷ []) = record { row = λ r at own s entries inherited. refl; asked = λ side at s. refl }
enters_so E (Int d ∷ Ref k ∷ []) = record { row = λ r at own s entries inherited. refl; asked = λ side at s. refl }
enters_so E (Int d ∷ Ctx k ∷ x ∷ rest) = record { row = λ r at own s entries inherited. refl; asked = λ side at s. refl }
enters_so E (Int d ∷ Int k ∷ x ∷ rest) = record { row = λ r at own s entries inherited. refl; asked = λ side at s. refl }
enters_so E (Int d ∷ Long k ∷ x ∷ rest) = record { row = λ r at own s entries inherited. refl; asked = λ side at s. refl }
enters_so E (Int d ∷ Ref k ∷ x ∷ rest) = record { row = λ r at own s entries inherited. refl; asked = λ side at s. refl }
enters_so E (Long d ∷ []) = record { row = λ r at own s entries inherited. refl; asked = λ side at s. refl }
enters_so E (Long d ∷ x ∷ []) = record { row = λ r at own s entries inherited. refl; asked = λ side at s. refl }
enters_so E (Long d ∷ x ∷ y ∷ rest) = record { row = λ r at own s entries inherited. refl; asked = λ side at s. refl }
enters_so E (Ref d ∷ []) = record { row = λ r at own s entries inherited. refl; asked = λ side at s. refl }
enters_so E (Ref d ∷ x ∷ []) = record { row = λ r at own s entries inherited. refl; asked = λ side at s. refl }
enters_so E (Ref d ∷ x ∷ y ∷ rest) = record { row = λ r at own s entries inherited. refl; asked = λ side at s. refl }
enters_so E (Ctx d ∷ []) = record { row = λ r at own s entries inherited. refl; asked = λ side at s. refl }
enters_so E (Ctx d ∷ x ∷ []) = record { row = λ r at own s entries inherited. refl; asked = λ side at s. refl }
enters_so E (Ctx d ∷ x ∷ y ∷ rest) = record { row = λ r at own s entries inherited. refl; asked = λ side at s. refl }

pub enters_with : (E : Type 0) (values : List (Value ℕ)) (found : Option Entering) → found ≡ entering_with values → EntersWith E values found
enters_with E values found is = subst (λ o. EntersWith E values o) (sym is) (enters_so E values)

-- ---- getContext

pub no_operands : (values : List (Value ℕ)) (count : ℕ) → count ≡ 0 → Some None ≡ snapshot_with Source (take count values)
no_operands values count is = rw is refl

pub source_others : (values : List (Value ℕ)) (count : ℕ) → count ≤ length values → (count ≡ 0 → ⊥) → None ≡ snapshot_with Source (take count values)
source_others values zero few other = absurd (other refl)
source_others [] (suc n) few other = absurd (omega (arith, few))
source_others (x ∷ values) (suc n) few other = refl

pub passing_others : (values : List (Value ℕ)) (count : ℕ) → count ≤ length values → (count ≡ 1 → ⊥) → None ≡ snapshot_with Passing (take count values)
passing_others values zero few other = refl
passing_others [] (suc n) few other = absurd (omega (arith, few))
passing_others (x ∷ values) (suc zero) few other = absurd (other refl)
passing_others (x ∷ []) (suc (suc n)) few other = absurd (omega (arith, few))
passing_others (x ∷ y ∷ values) (suc (suc n)) few other = refl

pub some_operand : (values : List (Value ℕ)) (k : Value ℕ) (n : ℕ) → Some k ≡ slice_get values 0 → Some n ≡ context_in k
    → Some (Some n) ≡ snapshot_with Passing (take 1 values)
some_operand [] k n at is = cc
some_operand (x ∷ values) k n at is = let same : x ≡ k = cc in rw (same, ← is) refl

pub no_context : (values : List (Value ℕ)) (k : Value ℕ) → Some k ≡ slice_get values 0 → None ≡ context_in k → None ≡ snapshot_with Passing (take 1 values)
no_context [] k at is = cc
no_context (x ∷ values) k at is = let same : x ≡ k = cc in rw (same, ← is) refl

snapshots_so : (E : Type 0) (side : Side) (values : List (Value ℕ)) → SnapshotsWith E side values (snapshot_with side values)
unfolding controller_row rt_row controller_asks rt_asks
snapshots_so E Source [] = record { row = λ r at own s entries inherited. refl; asked = λ side at s. refl }
snapshots_so E Source (x ∷ values) = record { row = λ r at own s entries inherited. refl; asked = λ side at s. refl }
snapshots_so E Passing [] = record { row = λ r at own s entries inherited. refl; asked = λ side at s. refl }
snapshots_so E Passing (Int k ∷ []) = record { row = λ r at own s entries inherited. refl; asked = λ side at s. refl }
snapshots_so E Passing (Long k ∷ []) = record { row = λ r at own s entries inherited. refl; asked = λ side at s. refl }
snapshots_so E Passing (Ref k ∷ []) = record { row = λ r at own s entries inherited. refl; asked = λ side at s. refl }
snapshots_so E Passing (Ctx k ∷ []) = record { row = λ r at own s entries inherited. refl; asked = λ side at s. refl }
snapshots_so E Passing (Int k ∷ x ∷ rest) = record { row = λ r at own s entries inherited. refl; asked = λ side at s. refl }
snapshots_so E Passing (Long k ∷ x ∷ rest) = record { row = λ r at own s entries inherited. refl; asked = λ side at s. refl }
snapshots_so E Passing (Ref k ∷ x ∷ rest) = record { row = λ r at own s entries inherited. refl; asked = λ side at s. refl }
snapshots_so E Passing (Ctx k ∷ x ∷ rest) = record { row = λ r at own s entries inherited. refl; asked = λ side at s. refl }

pub snapshots_with : (E : Type 0) (side : Side) (values : List (Value ℕ)) (found : Option (Option ℕ)) → found ≡ snapshot_with side values
    → SnapshotsWith E side values found
snapshots_with E side values found is = subst (λ o. SnapshotsWith E side values o) (sym is) (snapshots_so E side values)

-- ---- what is given

pub gives_one : {E : Type 0} (v : Value ℕ) (count : ℕ) (f g : Framed E)
    → g ≡ with_newest (onward (holding (drop count f.newest.operands) f).newest (v ∷ [])) f → GivesOne v count f g
unfolding applied acted
gives_one v count f g on r p plan s row is =
    rw (is, leb-zero s.store.left, on) (ap (λ t. went r p plan s (onward (holding (drop count f.newest.operands) f).newest (v ∷ []) ∷ f.below) t []) (sym (unpaid s.store)))

pub all_give : {E A F : Type 0} (v : Value ℕ) (count : ℕ) (f g : Framed E) (r : Result A F)
    → OnOk r (g ≡ with_newest (onward (holding (drop count f.newest.operands) f).newest (v ∷ [])) f) → OnOk r (GivesOne v count f g)
all_give v count f g (Ok w) on = gives_one v count f g on
all_give v count f g (Err e) on = tt

pub given_stands : {E : Type 0} (v : Value ℕ) (count : ℕ) (f g : Framed E)
    → g ≡ with_newest (onward (holding (drop count f.newest.operands) f).newest (v ∷ [])) f → LeavesStanding f g
given_stands v count f g on classes stand = rw on (stand.0.class, stand.1)
