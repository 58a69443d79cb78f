-- The laws of counting behind a lead.
use Rattle.std.proofs.Common.{◌≡◌, ℕ, ◌+◌, ◌-◌, ◌*◌, ◌<◌, ◌≤◌, List, [], append-nil, Some, sym, ap, ◌∙◌, arith, inl, inr}
use Rattle.std.proofs.lemmas.Bool.{cases_lt}
use Rattle.joutput.specs.declared.jtrace.event.Event.{Event}
use Rattle.joutput.specs.declared.jtrace.event.End.{End}
use Rattle.jsemantics.specs.jmachine.MachineStates.{Outcome}
use Rattle.jsemantics.specs.jmachine.RunTraces.{Run, run_from}
use Rattle.jsemantics.proofs.JmachineProofs.Courses.{later}
use Rattle.jsimulation_laws.specs.stuttering.StutteringRuns.{Ends, EndsBehindAll, Follows, IsUnstuck, Keeps, KeepsBehind, KeepsBehindAll, Leads, Same, going}
use Rattle.jsimulation_laws.proofs.StutteringProofs.StutterCounts.{ends_law, keeps_law, no_more, none_yet}

module _ {S T : Type 0} (R : S → T → Type 0) (fast : S → Outcome S) (slow : T → Outcome T) (most : ℕ) (local : Follows R fast slow most)
    (lead : ℕ) (told : List Event) (s : S) (t u : T) (leads : Leads slow lead t [] u) (stands : R s u) where
  abbrev F : ℕ → Run S
  F k = run_from fast k (going told s)

  abbrev L : ℕ → Run T
  L m = run_from slow m (going told t)

  behind_lead : (m : ℕ) → lead ≤ m → L m ≡ run_from slow (m - lead) (going told u)
  behind_lead m le =
      let m-is : m ≡ lead + (m - lead) = omega (arith, le) in
      later slow lead (m - lead) m (going told t) m-is
      ∙ ap (λ (r : Run T). run_from slow (m - lead) r) (leads.comes told)
      ∙ ap (λ (x : List Event). run_from slow (m - lead) (going x u)) (append-nil told)

  in_lead : (m : ℕ) → 0 < most → m < lead → KeepsBehind fast slow most lead (going told s) (going told t) m
  in_lead m pos lt =
      let quiet = leads.before m lt told in
      let none = none_yet fast (going told s) in
      record {
        k = 0;
        within = omega arith;
        events = quiet.events ∙ sym (ap (λ (r : Run S). r.events) none);
        end = quiet.goes ∙ sym (ap (λ (r : Run S). r.end) none);
        near = λ e. omega (arith, lt);
      }

  past_lead : (m : ℕ) → 0 < most → lead ≤ m → IsUnstuck fast (going told s) m → KeepsBehind fast slow most lead (going told s) (going told t) m
  past_lead m pos le free =
      let w : Keeps fast slow most (going told s) (going told u) (m - lead)
      = keeps_law R fast slow most pos local (m - lead) told s u stands (λ k within e. free k (omega (arith, within)) e) in
      let slow-is = behind_lead m le in
      record {
        k = w.k;
        within = (let a = w.within in omega (arith, a));
        events = ap (λ (r : Run T). r.events) slow-is ∙ w.events;
        end = ap (λ (r : Run T). r.end) slow-is ∙ w.end;
        near = λ e. (let n = w.near e in near_on w.k m n le);
      }
    where
      near_on : (k m : ℕ) → m - lead < most * (k + 1) → lead ≤ m → m < lead + most * (k + 1)
      near_on k m n le = omega (arith, n, le)

  pub keeps_behind : (m : ℕ) → 0 < most → IsUnstuck fast (going told s) m → KeepsBehind fast slow most lead (going told s) (going told t) m
  keeps_behind m pos free =
      elim (cases_lt m lead) as (λ _. KeepsBehind fast slow most lead (going told s) (going told t) m) [
        | inl lt ↦ in_lead m pos lt
        | inr ge ↦ past_lead m pos ge free
      ]

  pub ends_behind : (n m : ℕ) (end : End) → (F n).end ≡ Some end → IsUnstuck fast (going told s) n → lead + most * n ≤ m → Same fast slow (going told s) (going told t) n m
  ends_behind n m end e free le =
      let w : Ends fast slow most (going told s) (going told u) n = ends_law R fast slow most local n told s u end stands e free in
      let few = w.within in
      let past : lead ≤ m = omega (arith, le) in
      let rest : m - lead ≡ w.j + (m - lead - w.j) = omega (arith, few, le) in
      let slow-is : L m ≡ run_from slow w.j (going told u)
      = behind_lead m past
      ∙ later slow w.j (m - lead - w.j) (m - lead) (going told u) rest
      ∙ no_more slow (m - lead - w.j) (run_from slow w.j (going told u)) end (w.end ∙ e) in
      record { events = ap (λ (r : Run T). r.events) slow-is ∙ w.events; end = ap (λ (r : Run T). r.end) slow-is ∙ w.end }

pub keeps_behind_law : {S T : Type 0} (R : S → T → Type 0) → KeepsBehindAll R
keeps_behind_law R fast slow most pos local lead m told s t u leads stands free = keeps_behind R fast slow most local lead told s t u leads stands m pos free

pub ends_behind_law : {S T : Type 0} (R : S → T → Type 0) → EndsBehindAll R
ends_behind_law R fast slow most local lead n m told s t u end leads stands e free le = ends_behind R fast slow most local lead told s t u leads stands n m end e free le
