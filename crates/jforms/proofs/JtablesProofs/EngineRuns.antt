-- How the run of an engine begins, and where a step leaves it.
use Rattle.std.proofs.Common.{◌≡◌, ◌∙◌, ℕ, Bool, false, map, length, Option, Some, None, refl, sym, ap, subst, arith, rules}
use Rattle.std.specs.Prelude.{nat_le, if◌then◌else◌}
use Rattle.std.proofs.lemmas.List.{length-map, length-set, length-take-le}
use Rattle.joutput.specs.declared.jtrace.event.End.TheVariants as ends
use Rattle.jresolution.specs.jprogram.ProgramClasses.{Program}
use Rattle.jsemantics.specs.declared.jmachine.plan.Plan.{Plan}
use Rattle.jsemantics.specs.jmachine.MachineStates.{Outcome, State}
use Rattle.jsemantics.specs.jmachine.Machine.{opening}
use Rattle.jsemantics.specs.jmachine.StateMaps.{guest_map}
use Rattle.jsemantics.specs.jmachine.OpeningState.{opening_charge, opening_state}
use Rattle.jsemantics.specs.jmachine.Security.{Rules}
use Rattle.jsemantics.specs.jmachine.MachineSteps.{step}
use Rattle.jsemantics.specs.jmachine.Store.{Store}
use Rattle.jsemantics.specs.jmachine.ThreadTurns.{thread_of}
use Rattle.jruntime.specs.declared.jguests.guests.Guests.{Guests}
use Rattle.jruntime.specs.jguests.GuestThreads.{AreGuests, IsLive, Lives, guest_by, guests_of, state_by}
use Rattle.jguard.specs.NumberMeanings.{StandsFor}
use Rattle.jruntime.specs.jrun.StepOutcomes.{ComesTo, WhereWent, came_as}
use Rattle.jruntime.specs.declared.jrun.stepping.Stepped.{Stepped}
use Rattle.jruntime.specs.declared.jrun.stepping.Stepped.TheVariants as done
use Rattle.jstepping.specs.declared.jcore.machine.Machine.{Machine}
use Rattle.jstepping.specs.jcore.MachineInvariants.{state_of, store_of}
use Rattle.jforms.specs.declared.jtables.course.Course.{Course}
use Rattle.jforms.specs.declared.jtables.course.Course.TheVariants as course
use Rattle.jforms.specs.jtables.RunPositions.{AreLive, Holds, Runs, Stands, course_of, end_in, end_of, is_lost, left_by, steps}
use Rattle.jforms.specs.jtables.RunTables.{StartsOr}

-- ---- the beginning

module _ {M K E : Type 0} (kept : ℕ → Option K) (entry : M → Option E) (mark : ℕ → M) (rules_by : Rules K E) (p : Program) (plan : Plan) where
  pub holds_first : (o : Option (Machine M)) → StartsOr kept entry mark rules_by p plan o → Holds kept entry mark rules_by (course_of o)
  holds_first None few = tt
  holds_first (Some m) starts = starts.engine

  pub stands_first : (o : Option (Machine M)) → StartsOr kept entry mark rules_by p plan o → end_of (course_of o) ≡ None
      → Stands kept entry (course_of o) (opening_state rules_by p plan.main plan.heap)
  stands_first None few goes = absurd (let a = goes in cc)
  stands_first (Some m) starts goes = starts.begins.state

  pub steps_first : (o : Option (Machine M)) → StartsOr kept entry mark rules_by p plan o → end_of (course_of o) ≡ None
      → steps rules_by (course_of o) ≡ step rules_by p plan
  steps_first None few goes = absurd (let a = goes in cc)
  steps_first (Some m) starts goes = starts.steps

  pub ended_first : (o : Option (Machine M)) → StartsOr kept entry mark rules_by p plan o → end_of (course_of o) ≡ (opening rules_by p plan).end
  ended_first None few =
      let short : nat_le (opening_charge p) plan.heap ≡ false = search rules in
      sym (ap (λ (b : Bool). if b then None else Some ends.HeapFull) short)
  ended_first (Some m) starts = sym starts.begins.end

pub found_first : {M : Type 0} (o : Option (Machine M)) → is_lost (course_of o) ≡ false
found_first None = refl
found_first (Some m) = refl

-- ---- its threads

at_of : {M : Type 0} (g : Guests M) (store : Store ℕ) → AreGuests g → thread_of (state_by g store) ≡ g.at
at_of g store are =
    let some = length-map g.others.items guest_by in
    let all = length-set (map guest_by g.others.items) g.at (guest_by g.running) in
    length-take-le g.at (guests_of g) (omega (arith, are.at, some, all))

live_by : {M K E : Type 0} (kept : ℕ → Option K) (entry : M → Option E) (g : Guests M) (store : Store ℕ) (s : State K E) → AreGuests g → Lives g
    → StandsFor kept entry (state_by g store) s → IsLive s.table (thread_of s)
live_by {M} {K} {E} kept entry g store s are lives stands =
    let table : s.table ≡ g.table = ap (λ (x : State (Option K) (Option E)). x.table) (sym stands) in
    let at : thread_of s ≡ g.at =
    sym (length-map s.earlier (guest_map Some Some)) ∙ ap (λ (x : State (Option K) (Option E)). length x.earlier) (sym stands)
    ∙ length-map (state_by g store).earlier (guest_map kept entry) ∙ at_of g store are in
    subst (λ ts. IsLive ts (thread_of s)) (sym table) (subst (λ n. IsLive g.table n) (sym at) lives)

-- in each state for which it stands they are as those of its machine
pub live_in : {M K E : Type 0} (kept : ℕ → Option K) (entry : M → Option E) (mark : ℕ → M) (rules_by : Rules K E) (c : Course M) → Holds kept entry mark rules_by c
    → AreLive kept entry c
live_in kept entry mark rules_by (course.Runs m) holds = λ s stands. live_by kept entry m.guests (store_of m) s holds.ready.machine.guests holds.ready.lives stands
live_in kept entry mark rules_by (course.Ended end) holds = λ s stands. absurd stands
live_in kept entry mark rules_by course.Lost holds = λ s stands. absurd stands

-- ---- a step

pub comes_left : {M K E : Type 0} (kept : ℕ → Option K) (entry : M → Option E) (c : Course M) (o : Outcome (State K E)) (came : Stepped)
    → ComesTo (λ t. Stands kept entry c t) o (came_as came) → ComesTo (λ t. Stands kept entry (left_by c came) t) o (came_as came)
comes_left kept entry c o (done.Went events) comes = comes
comes_left kept entry c o (done.Ended events end) comes = comes

pub holds_left : {M K E : Type 0} (kept : ℕ → Option K) (entry : M → Option E) (mark : ℕ → M) (rules_by : Rules K E) (c : Course M) (came : Stepped)
    → WhereWent (Holds kept entry mark rules_by c) (came_as came) → Holds kept entry mark rules_by (left_by c came)
holds_left kept entry mark rules_by c (done.Went events) holds = holds
holds_left kept entry mark rules_by c (done.Ended events end) holds = tt

pub same_left : {M K E : Type 0} (rules_by : Rules K E) (c : Course M) (came : Stepped) (before : State K E → Outcome (State K E))
    → steps rules_by c ≡ before → WhereWent (steps rules_by (left_by c came) ≡ before) (came_as came)
same_left rules_by c (done.Went events) before same = same
same_left rules_by c (done.Ended events end) before same = tt

goes_on : {M : Type 0} (c : Course M) → Runs c → end_of c ≡ None
goes_on (course.Runs m) runs = refl
goes_on (course.Ended end) runs = absurd runs
goes_on course.Lost runs = absurd runs

is_found : {M : Type 0} (c : Course M) → Runs c → is_lost c ≡ false
is_found (course.Runs m) runs = refl
is_found (course.Ended end) runs = absurd runs
is_found course.Lost runs = absurd runs

pub ended_left : {M : Type 0} (c : Course M) (came : Stepped) → Runs c → end_of (left_by c came) ≡ end_in came
ended_left c (done.Went events) runs = goes_on c runs
ended_left c (done.Ended events end) runs = refl

pub found_left : {M : Type 0} (c : Course M) (came : Stepped) → Runs c → is_lost (left_by c came) ≡ false
found_left c (done.Went events) runs = is_found c runs
found_left c (done.Ended events end) runs = refl

-- the step of one that goes on is its machine's
pub comes_on : {M K E : Type 0} (kept later : ℕ → Option K) (entry afterwards : M → Option E) (rules_by : Rules K E) (c : Course M) (m n : Machine M) (came : Stepped)
    → c ≡ course.Runs m
    → ((s : State K E) → StandsFor kept entry (state_of m) s → ComesTo (λ t. StandsFor later afterwards (state_of n) t) (step rules_by m.calls m.plan.now s) (came_as came))
    → (s : State K E) → Stands kept entry c s → ComesTo (λ t. Stands later afterwards (course.Runs n) t) (steps rules_by c s) (came_as came)
comes_on {M} kept later entry afterwards rules_by c m n came is comes s =
    subst (λ (x : Course M). Stands kept entry x s → ComesTo (λ t. Stands later afterwards (course.Runs n) t) (steps rules_by x s) (came_as came)) (sym is) (comes s)
