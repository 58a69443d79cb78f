-- Some steps of an engine, of which all but the last were quick to make.
use Rattle.std.proofs.Common.{◌≡◌, ◌∙◌, ℕ, zero, suc, [], Option, Some, None, refl, ap, subst, sym}
use Rattle.jsemantics.specs.jmachine.MachineStates.{Outcome, State}
use Rattle.jsemantics.specs.jmachine.Security.{Rules}
use Rattle.jsemantics.specs.jmachine.MachineSteps.{step}
use Rattle.jguard.specs.GuardLaws.{GuardedStep, StepKnown}
use Rattle.jguard.specs.NumberMeanings.{Keeps, StandsFor}
use Rattle.jruntime.specs.jrun.StepOutcomes.{ComesTo, Goes, Quietly, WhereWent, came_as}
use Rattle.jruntime.specs.declared.jrun.came.Came.{Came}
use Rattle.jruntime.specs.declared.jrun.came.Came.TheVariants as done
use Rattle.jruntime.specs.declared.jrun.stepping.Stepped.{Stepped}
use Rattle.jstepping.specs.declared.jcore.machine.Machine.{Machine}
use Rattle.jstepping.specs.jcore.AnsweredCalls.{Answered}
use Rattle.jstepping.specs.jcore.MachineOutcomes.{GoesOn}
use Rattle.jstepping.specs.jcore.MachineInvariants.{StaysFixed, state_of}
use Rattle.jcalling.specs.declared.jexecute.hastening.Hasty.{Hasty}
use Rattle.jcalling.specs.declared.jexecute.executing.Executed.{Executed}
use Rattle.jcalling.specs.jexecute.ThreadSteps.{CameTo, Executes}
use Rattle.jcalling.specs.jexecute.FastSteps.{Closes, Leads, Tries}
use Rattle.jsoundness_laws.specs.progress.TypedStates.{StatesStep}
use Rattle.jforms.specs.jtables.Engines.{IsEngine, asks_next, next_of}
use Rattle.jforms.proofs.JtablesProofs.StepAgreement.{engine_again, engine_steps, knows, never_stuck, same_steps}
use Rattle.jforms.proofs.JtablesProofs.GuardQuestions.{answers_none}
use Rattle.jforms.specs.jengine.ExecutedSteps.{WasExecuted}

module _ {M K E : Type 0} (kept : ℕ → Option K) (entry : M → Option E) (mark : ℕ → M) (rules : Rules K E) (law : GuardedStep M K E)
    (types : StatesStep K E) where
  kept_stays : Keeps kept kept
  kept_stays k x is = is

  entry_stays : Keeps entry entry
  entry_stays k x is = is

  -- what the machine is asked of is nothing
  answered : (m n : Machine M) (came : Came) → CameTo m came n → Answered kept kept entry entry rules m (asks_next m) (next_of m) came n
  answered m n came did = answers_none kept kept entry entry rules m n (asks_next m) (next_of m) came did.silent did.comes

  came_so : (m n : Machine M) (came : Came) → IsEngine kept entry mark rules m → CameTo m came n → (s : State K E) → StandsFor kept entry (state_of m) s
      → ComesTo (λ t. StandsFor kept entry (state_of n) t) (step rules m.calls m.plan.now s) came
  came_so m n came e did s stands =
      engine_steps kept kept entry entry mark rules m n came law kept_stays entry_stays e (answered m n came did) s stands

  went_again : (m n : Machine M) → IsEngine kept entry mark rules m → CameTo m (done.Went []) n → StaysFixed m n → IsEngine kept entry mark rules n
  went_again m n e did fixed =
      engine_again kept kept entry entry mark rules m n (done.Went []) law types kept_stays entry_stays e (answered m n (done.Went []) did) fixed did.ready

  -- quick steps lead to an engine
  pub leads_engine : (count : ℕ) (m n : Machine M) → Leads count m n → IsEngine kept entry mark rules m → IsEngine kept entry mark rules n
  unfolding Leads
  leads_engine zero m n same e = subst (IsEngine kept entry mark rules) (sym same) e
  leads_engine (suc count) m n (mid, before, went, fixed) e = went_again mid n (leads_engine count m mid before e) went fixed

  -- whose program and plan are the same
  pub leads_fixed : (count : ℕ) (m n : Machine M) → Leads count m n → StaysFixed m n
  unfolding Leads
  leads_fixed zero m n same = subst (λ (x : Machine M). StaysFixed m x) (sym same) (record { fixed = refl; plan = refl; side = refl; calls = refl })
  leads_fixed (suc count) m n (mid, before, went, fixed) =
      let first = leads_fixed count m mid before in
      record { fixed = fixed.fixed ∙ first.fixed; plan = fixed.plan ∙ first.plan; side = fixed.side ∙ first.side; calls = fixed.calls ∙ first.calls }

  -- so that the definition's steps are the same
  same_step : (m n : Machine M) → StaysFixed m n → (s : State K E) → step rules m.calls m.plan.now s ≡ step rules n.calls n.plan.now s
  same_step m n fixed s = ap (λ (go : State K E → Outcome (State K E)). go s) (sym (same_steps rules rules m n refl fixed))

  -- and they are steps of the definition that go on and tell nothing
  pub leads_quietly : (count : ℕ) (m n : Machine M) → Leads count m n → IsEngine kept entry mark rules m → (s : State K E) → StandsFor kept entry (state_of m) s
      → (t : State K E) × Quietly (step rules m.calls m.plan.now) count s t × StandsFor kept entry (state_of n) t
  unfolding Leads Quietly
  leads_quietly zero m n same e s stands = (s, refl, subst (λ (x : Machine M). StandsFor kept entry (state_of x) s) (sym same) stands)
  leads_quietly (suc count) m n (mid, before, went, fixed) e s stands =
      let led = leads_quietly count m mid before e s stands in
      let first = leads_fixed count m mid before in
      let came = came_so mid n (done.Went []) (leads_engine count m mid before e) went led.0 led.2 in
      (came.0, (led.0, led.1, same_step m mid first led.0 ∙ came.1), came.2)

  -- ---- some steps

  module _ (m n : Machine M) (most : ℕ) (made : Hasty) (tries : Tries most m made n) (e : IsEngine kept entry mark rules m) where
    abbrev there : IsEngine kept entry mark rules tries.behind
    there = leads_engine made.steps m tries.behind tries.leads e

    abbrev fixed : StaysFixed m tries.behind
    fixed = leads_fixed made.steps m tries.behind tries.leads

    -- the last one was executed
    module _ (found : Executed) (is : made.last ≡ Some found) (stays : StaysFixed m n) where
      last_executes : Executes tries.behind found n
      last_executes = subst (λ (o : Option Executed). Closes o tries.behind n) is tries.closes

      behind_fixed : StaysFixed tries.behind n
      behind_fixed = record {
        fixed = stays.fixed ∙ sym fixed.fixed;
        plan = stays.plan ∙ sym fixed.plan;
        side = stays.side ∙ sym fixed.side;
        calls = stays.calls ∙ sym fixed.calls;
      }

      pub executed : StepKnown M K E → WasExecuted kept entry mark found n
      executed known = record {
        before = tries.behind;
        executes = last_executes;
        fixed = behind_fixed;
        carry = there.carry;
        known = knows kept entry mark rules tries.behind known there;
      }

      module _ (new : ℕ → Option K) (new_marks : M → Option E) (after : Machine M) (came : Came) (keeps : Keeps kept new) (keeps_marks : Keeps entry new_marks)
          (all_answered : (before : Machine M) → Executes before found n → StaysFixed before n
          → Answered kept new entry new_marks rules before (asks_next before) (next_of before) came after) where
        answered_so : Answered kept new entry new_marks rules tries.behind (asks_next tries.behind) (next_of tries.behind) came after
        answered_so = all_answered tries.behind last_executes behind_fixed

        comes : (s : State K E) → StandsFor kept entry (state_of tries.behind) s
            → ComesTo (λ t. StandsFor new new_marks (state_of after) t) (step rules tries.behind.calls tries.behind.plan.now s) came
        comes s stands = engine_steps kept new entry new_marks mark rules tries.behind after came law keeps keeps_marks there answered_so s stands

        -- there is a step
        pub isnt_stuck : came ≡ done.Stuck → ⊥
        isnt_stuck stuck = never_stuck kept entry mark rules tries.behind came (λ t. StandsFor new new_marks (state_of after) t) types there comes stuck

        pub executed_goes : (last : Stepped) → came_as last ≡ came → (s : State K E) → StandsFor kept entry (state_of m) s
            → Goes (λ u. StandsFor new new_marks (state_of after) u) (step rules m.calls m.plan.now) s (record { quiet = made.steps; last = Some last })
        executed_goes last is_last s stands =
            let led = leads_quietly made.steps m tries.behind tries.leads e s stands in
            let same = sym (same_step m tries.behind fixed led.0) in
            let P : Came → Type 0 = λ c. ComesTo (λ u. StandsFor new new_marks (state_of after) u) (step rules tries.behind.calls tries.behind.plan.now led.0) c in (
              led.0,
              led.1,
              subst (λ (o : Outcome (State K E)). ComesTo (λ u. StandsFor new new_marks (state_of after) u) o (came_as last)) same
                  (subst P (sym is_last) (comes led.0 led.2)),
            )

        pub executed_engine : StaysFixed n after → GoesOn after came → WhereWent (IsEngine new new_marks mark rules after) came
        executed_engine later ready =
            engine_again kept new entry new_marks mark rules tries.behind after came law types keeps keeps_marks there answered_so
            (record {
              fixed = later.fixed ∙ behind_fixed.fixed;
              plan = later.plan ∙ behind_fixed.plan;
              side = later.side ∙ behind_fixed.side;
              calls = later.calls ∙ behind_fixed.calls;
            })
            ready

    module _ (none : made.last ≡ None) where
      abbrev same_machine : n ≡ tries.behind
      same_machine = subst (λ (o : Option Executed). Closes o tries.behind n) none tries.closes

      pub engine_then : IsEngine kept entry mark rules n
      engine_then = subst (IsEngine kept entry mark rules) (sym same_machine) there

      pub fixed_then : StaysFixed m n
      fixed_then = subst (λ (x : Machine M). StaysFixed m x) (sym same_machine) fixed

      pub quietly_then : (s : State K E) → StandsFor kept entry (state_of m) s
          → (t : State K E) × Quietly (step rules m.calls m.plan.now) made.steps s t × StandsFor kept entry (state_of n) t
      quietly_then s stands =
          subst (λ (x : Machine M). (t : State K E) × Quietly (step rules m.calls m.plan.now) made.steps s t × StandsFor kept entry (state_of x) t) (sym same_machine)
          (leads_quietly made.steps m tries.behind tries.leads e s stands)

      pub last_goes : (new : ℕ → Option K) (new_marks : M → Option E) (after : Machine M) (came : Stepped)
          → ((t : State K E) → StandsFor kept entry (state_of n) t → ComesTo (λ u. StandsFor new new_marks (state_of after) u) (step rules n.calls n.plan.now t) (came_as came))
          → (s : State K E) → StandsFor kept entry (state_of m) s
          → Goes (λ u. StandsFor new new_marks (state_of after) u) (step rules m.calls m.plan.now) s (record { quiet = made.steps; last = Some came })
      last_goes new new_marks after came comes s stands =
          let led = quietly_then s stands in
          let is = sym (same_step m n fixed_then led.0) in
          (led.0, led.1, subst (λ (o : Outcome (State K E)). ComesTo (λ u. StandsFor new new_marks (state_of after) u) o (came_as came)) is (comes led.0 led.2))
