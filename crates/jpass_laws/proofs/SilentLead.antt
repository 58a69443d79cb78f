-- Two runs, of which one comes in four silent steps to a state that stands for the other's first: what it tells, in how many steps.
use Rattle.std.proofs.Common.{◌≡◌, ℕ, ◌+◌, ◌-◌, ◌*◌, ◌<◌, ◌≤◌, [], Some, None, refl, sym, ap, ◌∙◌, arith, inl, inr}
use Rattle.std.proofs.lemmas.Bool.{cases_lt}
use Rattle.joutput.specs.declared.jtrace.event.End.{End}
use Rattle.jsemantics.specs.jmachine.MachineStates.{Outcome}
use Rattle.jsemantics.specs.jmachine.RunTraces.{Run, run_from}
use Rattle.jsemantics.proofs.JmachineProofs.Courses.{later}
use Rattle.jsimulation_laws.specs.stuttering.StutteringRuns.{CountsAll, Ends, EndsAll, Follows, FollowsIn, IsUnstuck, Keeps, KeepsAll, Leads, Same, counted, going}
use Rattle.jsimulation_laws.proofs.StutteringProofs.StutterCounts.{no_more, none_yet}

module _ {S T : Type 0} (R : S → T → Type 0) (keeps : KeepsAll R) (ends : EndsAll R) (fast : S → Outcome S) (slow : T → Outcome T)
    (local : Follows R fast slow 7) (s : S) (t u : T) (lead : Leads slow 4 t [] u) (stands : R s u) where
  abbrev F : ℕ → Run S
  F k = run_from fast k (going [] s)

  abbrev L : ℕ → Run T
  L m = run_from slow m (going [] t)

  behind_lead : (m : ℕ) → L (4 + m) ≡ run_from slow m (going [] u)
  behind_lead m = later slow 4 m (4 + m) (going [] t) refl ∙ ap (λ (r : Run T). run_from slow m r) (lead.comes [])

  abbrev pub Near : ℕ → Type 0
  Near m = (k : ℕ) × (k ≤ m) × ((L m).events ≡ (F k).events) × ((L m).end ≡ (F k).end) × ((F k).end ≡ None → m ≤ 8 * k + 15)

  in_lead : (m : ℕ) → m < 4 → Near m
  in_lead m lt =
      let quiet = lead.before m lt [] in
      let none = none_yet fast (going [] s) in
      (0, omega arith, quiet.events ∙ sym (ap (λ (r : Run S). r.events) none), quiet.goes ∙ sym (ap (λ (r : Run S). r.end) none), λ e. omega arith)

  past_lead : (m : ℕ) → 4 ≤ m → IsUnstuck fast (going [] s) m → Near m
  past_lead m le free =
      let w : Keeps fast slow 7 (going [] s) (going [] u) (m - 4) = keeps fast slow 7 (omega arith) local (m - 4) [] s u stands (λ k within e none. free k (omega arith) e none) in
      let m-is : m ≡ 4 + (m - 4) = omega arith in
      let slow-is : L m ≡ run_from slow (m - 4) (going [] u) = ap L m-is ∙ behind_lead (m - 4) in
      let kept = w.within in
      (w.k, omega (arith, kept), ap (λ (r : Run T). r.events) slow-is ∙ w.events, ap (λ (r : Run T). r.end) slow-is ∙ w.end, λ e. (let n = w.near e in omega (arith, n)))

  pub near_all : (m : ℕ) → IsUnstuck fast (going [] s) m → Near m
  near_all m free =
      elim (cases_lt m 4) as (λ _. Near m) [
        | inl lt ↦ in_lead m lt
        | inr ge ↦ past_lead m ge free
      ]

  abbrev pub Told : ℕ → ℕ → Type 0
  Told n m = ((L m).events ≡ (F n).events) × ((L m).end ≡ (F n).end)

  -- where the one has ended the other has told it after enough steps
  pub told_all : (n m : ℕ) (end : End) → (F n).end ≡ Some end → IsUnstuck fast (going [] s) n → 8 * n + 8 ≤ m → Told n m
  told_all n m end e free le =
      let w : Ends fast slow 7 (going [] s) (going [] u) n = ends fast slow 7 local n [] s u end stands e free in
      let few = w.within in
      let m-is : m ≡ 4 + (m - 4) = omega arith in
      let k-is : m - 4 ≡ w.j + (m - 4 - w.j) = omega (arith, few, le) in
      let over = w.end ∙ e in
      let slow-is : L m ≡ run_from slow w.j (going [] u)
      = ap L m-is ∙ behind_lead (m - 4) ∙ later slow w.j (m - 4 - w.j) (m - 4) (going [] u) k-is ∙ no_more slow (m - 4 - w.j) (run_from slow w.j (going [] u)) end over in
      (ap (λ (r : Run T). r.events) slow-is ∙ w.events, ap (λ (r : Run T). r.end) slow-is ∙ w.end)

  -- where it is known how many steps answer each one, their sum behind the lead tells the same
  pub told_exactly : (count : S → Outcome S → ℕ) → CountsAll R → FollowsIn R fast slow count → (k : ℕ) → IsUnstuck fast (going [] s) k → Told k (4 + counted fast count k s)
  told_exactly count counts exact k free =
      let w : Same fast slow (going [] s) (going [] u) k (counted fast count k s) = counts fast slow count exact k [] s u stands free in
      let slow-is = behind_lead (counted fast count k s) in
      (ap (λ (r : Run T). r.events) slow-is ∙ w.events, ap (λ (r : Run T). r.end) slow-is ∙ w.end)
