-- The runs of a program and of its moved program: by the local simulation, the moved one's lead, and the machines between.
use Rattle.std.proofs.Common.{◌≡◌, ℕ, ◌+◌, ◌*◌, ◌≤◌, Bool, true, false, [], Some, None, refl, sym, ap, ◌∙◌, subst, arith}
use Rattle.std.specs.Prelude.{nat_le, if◌then◌else◌}
use Rattle.jperm.specs.declared.permission.Permission.{Permission}
use Rattle.joutput.specs.declared.jtrace.event.End.{End}
use Rattle.joutput.specs.declared.jtrace.event.End.TheVariants as ends
use Rattle.jresolution.specs.jprogram.ProgramClasses.{Program}
use Rattle.jsemantics.specs.declared.jmachine.plan.Plan.{Plan}
use Rattle.jsemantics.specs.jmachine.Machine.{run}
use Rattle.jsemantics.specs.jmachine.OpeningState.{opening_charge, opening_state}
use Rattle.jsemantics.specs.jmachine.MachineStates.{NoStep, Outcome, Over, State, Went}
use Rattle.jsemantics.specs.jmachine.StateMaps.{outcome_map}
use Rattle.jsemantics.specs.jmachine.RunTraces.{Run, run_from}
use Rattle.jsemantics.specs.jmachine.MachineSteps.{step}
use Rattle.jdomain.specs.DomainStacks.{Stack}
use Rattle.jctx.specs.Contexts as contexts
use Rattle.jsemantics.specs.jrules.InspectingRules as inspecting
use Rattle.jsemantics.specs.jrules.InspectingRules.{Carried}
use Rattle.jsimulation_laws.specs.between.MachineAgreement.{ShadowedRuns, SourcedRuns, SourcedSteps, state_along}
use Rattle.jsimulation_laws.specs.between.BetweenMachines.{noted_along, shadowed, sourced}
use Rattle.jsimulation_laws.specs.stuttering.StutteringRuns.{CountsAll, EndsAll, Follows, FollowsIn, IsUnstuck, KeepsAll, Leads, counted}
use Rattle.jsimulation_laws.proofs.StutteringProofs.StutterCounts.{no_more}
use Rattle.jsimulation_laws.specs.relation.StateRelation.{FollowsInFew, LocallyFollows, Point, Stands, before, behind}
use Rattle.jsimulation_laws.specs.relation.StepCounts as relation
use Rattle.jsimulation_laws.specs.local.InitialStates.{BeginsInFour, first, first_moved}
use Rattle.jpass_laws.specs.PassSimulation.{Complete, PassTheorem, PassesUnstuck, Simulated, UnstuckFor, inspected, passed, steps_taken}
use Rattle.jpass_laws.proofs.SilentLead.{near_all, told_all, told_exactly}
use Rattle.jpass_laws.proofs.MappedCounts.{counted_same}

some_end : {P : Type 0} (end : End) → Some end ≡ None → P
some_end end e = absurd cc

stuck_along : (o : Outcome (State Stack Carried)) → outcome_map state_along o ≡ NoStep → o ≡ NoStep
stuck_along (Went s events) e = absurd (let a = e in cc)
stuck_along (Over s events end) e = absurd (let a = e in cc)
stuck_along NoStep e = refl

module _ (has : ℕ → Permission → Bool) (p q : Program) (plan : Plan) (charge : opening_charge q ≡ opening_charge p)
    (along : SourcedRuns) (steps : SourcedSteps) (left : ShadowedRuns)
    (keeps : KeepsAll (Stands p q)) (ends_too : EndsAll (Stands p q)) (local : Follows (Stands p q) (before has p plan) (behind has q plan) 7)
    (counts : CountsAll (Stands p q)) (exactly : FollowsIn (Stands p q) (before has p plan) (behind has q plan) (relation.steps p))
    (u : Point) (lead : Leads (behind has q plan) 4 (first_moved has q plan) [] u) (stands : Stands p q (first has p plan) u) where
  abbrev a : Point
  a = first has p plan

  abbrev b : Point
  b = first_moved has q plan

  abbrev begun : Point → Bool → Run Point
  begun s fits = record { state = s; events = []; end = if fits then None else Some ends.HeapFull }

  abbrev fits : Bool
  fits = nat_le (opening_charge p) plan.heap

  before_run : (k : ℕ) → run (sourced has) p plan k ≡ run_from (before has p plan) k (begun a fits)
  unfolding run
  before_run k = refl

  behind_run : (m : ℕ) → run (shadowed has) q plan m ≡ run_from (behind has q plan) m (begun b fits)
  unfolding run
  behind_run m = ap (λ n. run_from (behind has q plan) m (begun b (nat_le n plan.heap))) charge

  -- by whether the heap has the cells to open
  abbrev Simulates : ℕ → Bool → Type 0
  Simulates m fits = (k : ℕ) × (k ≤ m) × ((run_from (behind has q plan) m (begun b fits)).events ≡ (run_from (before has p plan) k (begun a fits)).events)
      × ((run_from (behind has q plan) m (begun b fits)).end ≡ (run_from (before has p plan) k (begun a fits)).end)
      × ((run_from (before has p plan) k (begun a fits)).end ≡ None → m ≤ 8 * k + 15)

  simulates : (m : ℕ) (fits : Bool) → IsUnstuck (before has p plan) (begun a fits) m → Simulates m fits
  simulates m true free =
      let w = near_all (Stands p q) keeps ends_too (before has p plan) (behind has q plan) local a b u lead stands m free in
      w
  simulates m false free =
      let x = no_more (before has p plan) 0 (begun a false) ends.HeapFull refl in
      let y = no_more (behind has q plan) m (begun b false) ends.HeapFull refl in (
        0,
        omega arith,
        ap (λ (r : Run Point). r.events) y ∙ sym (ap (λ (r : Run Point). r.events) x),
        ap (λ (r : Run Point). r.end) y ∙ sym (ap (λ (r : Run Point). r.end) x),
        λ e. some_end ends.HeapFull (sym (ap (λ (r : Run Point). r.end) x) ∙ e),
      )

  -- what the inspecting run tells is what the first machine between tells, and what the plain one tells is what the second one does
  told_before : (k : ℕ) → (inspected has p plan k).events ≡ (run_from (before has p plan) k (begun a fits)).events
  told_before k = ap (λ (r : Run Point). r.events) (along has p plan k) ∙ ap (λ (r : Run Point). r.events) (before_run k)

  ends_before : (k : ℕ) → (inspected has p plan k).end ≡ (run_from (before has p plan) k (begun a fits)).end
  ends_before k = ap (λ (r : Run Point). r.end) (along has p plan k) ∙ ap (λ (r : Run Point). r.end) (before_run k)

  told_behind : (m : ℕ) → (passed has q plan m).events ≡ (run_from (behind has q plan) m (begun b fits)).events
  told_behind m = sym (ap (λ r. r.events) (left has q plan m)) ∙ ap (λ (r : Run Point). r.events) (behind_run m)

  ends_behind : (m : ℕ) → (passed has q plan m).end ≡ (run_from (behind has q plan) m (begun b fits)).end
  ends_behind m = sym (ap (λ r. r.end) (left has q plan m)) ∙ ap (λ (r : Run Point). r.end) (behind_run m)

  -- where the inspecting run has a next step, so has the first machine between
  unstuck_before : (n : ℕ) → UnstuckFor has p plan n → IsUnstuck (before has p plan) (begun a fits) n
  unstuck_before n free k lt ends none =
      let s = (inspected has p plan k).state in
      let same : state_along s ≡ (run_from (before has p plan) k (begun a fits)).state
      = ap (λ (r : Run Point). r.state) (along has p plan k) ∙ ap (λ (r : Run Point). r.state) (before_run k) in
      free k lt (ends_before k ∙ ends) (stuck_along (step (inspecting.rules has) p plan s) (steps has p plan s ∙ ap (before has p plan) same ∙ none))

  simulated : (m : ℕ) → UnstuckFor has p plan m → Simulated has p q plan m
  simulated m free =
      let w = simulates m fits (unstuck_before m free) in
      record {
        k = w.0;
        within = w.1;
        events = told_behind m ∙ w.2 ∙ sym (told_before w.0);
        end = ends_behind m ∙ w.3 ∙ sym (ends_before w.0);
        near = λ e. w.4 (sym (ends_before w.0) ∙ e);
      }

  abbrev Completes : ℕ → ℕ → Bool → Type 0
  Completes n m fits = ((run_from (behind has q plan) m (begun b fits)).events ≡ (run_from (before has p plan) n (begun a fits)).events)
      × ((run_from (behind has q plan) m (begun b fits)).end ≡ (run_from (before has p plan) n (begun a fits)).end)

  completes : (n m : ℕ) (fits : Bool) (end : End) → (run_from (before has p plan) n (begun a fits)).end ≡ Some end → IsUnstuck (before has p plan) (begun a fits) n → 8 * n + 8 ≤ m
      → Completes n m fits
  completes n m true end e free le =
      let w = told_all (Stands p q) keeps ends_too (before has p plan) (behind has q plan) local a b u lead stands n m end e free le in
      w
  completes n m false end e free le =
      let x = no_more (before has p plan) n (begun a false) ends.HeapFull refl in
      let y = no_more (behind has q plan) m (begun b false) ends.HeapFull refl in
      (ap (λ (r : Run Point). r.events) y ∙ sym (ap (λ (r : Run Point). r.events) x), ap (λ (r : Run Point). r.end) y ∙ sym (ap (λ (r : Run Point). r.end) x))

  complete : (n m : ℕ) (end : End) → UnstuckFor has p plan n → (inspected has p plan n).end ≡ Some end → 8 * n + 8 ≤ m → Complete has p q plan n m
  complete n m end free e le =
      let w = completes n m fits end (sym (ends_before n) ∙ e) (unstuck_before n free) le in
      record { events = told_behind m ∙ w.0 ∙ sym (told_before n); end = ends_behind m ∙ w.1 ∙ sym (ends_before n) }

  -- ---- the sum of the steps of each

  abbrev start : State Stack Carried
  start = opening_state (inspecting.rules has) p plan.main plan.heap

  start_same : state_along start ≡ a
  unfolding run run_from
  start_same = ap (λ (r : Run Point). r.state) (along has p plan 0)

  sum_same : (k : ℕ) → steps_taken has p plan k ≡ 4 + counted (before has p plan) (relation.steps p) k a
  sum_same k =
      ap (λ n. 4 + n) (sym (counted_same contexts.along noted_along p (step (inspecting.rules has) p plan) (before has p plan) (λ s. steps has p plan s) k start))
      ∙ ap (λ (s : Point). 4 + counted (before has p plan) (relation.steps p) k s) start_same

  abbrev sum : ℕ → ℕ
  sum k = 4 + counted (before has p plan) (relation.steps p) k a

  told_by : (k : ℕ) (fits : Bool) → IsUnstuck (before has p plan) (begun a fits) k → Completes k (sum k) fits
  told_by k true free = told_exactly (Stands p q) keeps ends_too (before has p plan) (behind has q plan) local a b u lead stands (relation.steps p) counts exactly k free
  told_by k false free =
      let x = no_more (before has p plan) k (begun a false) ends.HeapFull refl in
      let y = no_more (behind has q plan) (sum k) (begun b false) ends.HeapFull refl in
      (ap (λ (r : Run Point). r.events) y ∙ sym (ap (λ (r : Run Point). r.events) x), ap (λ (r : Run Point). r.end) y ∙ sym (ap (λ (r : Run Point). r.end) x))

  exact : (k : ℕ) → UnstuckFor has p plan k → Complete has p q plan k (steps_taken has p plan k)
  exact k free =
      let w = told_by k fits (unstuck_before k free) in
      subst (λ m. Complete has p q plan k m) (sym (sum_same k))
      (record { events = told_behind (sum k) ∙ w.0 ∙ sym (told_before k); end = ends_behind (sum k) ∙ w.1 ∙ sym (ends_before k) })

  pub passes : PassesUnstuck has p q plan
  passes = record { simulated = simulated; complete = complete; exact = exact }

pub pass_theorem : SourcedRuns → SourcedSteps → ShadowedRuns → ((p q : Program) → KeepsAll (Stands p q)) → ((p q : Program) → EndsAll (Stands p q)) → FollowsInFew
    → ((p q : Program) → CountsAll (Stands p q)) → LocallyFollows → BeginsInFour → PassTheorem
pass_theorem along steps left keeps ends_too local counts exactly begins has p q plan name moves is =
    let w = begins has p q plan name moves is in
    passes has p q plan moves.charge along steps left (keeps p q) (ends_too p q) (local has p q plan moves) (counts p q)
    (exactly has p q plan moves) w.0 w.1 w.2
