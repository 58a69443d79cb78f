-- Where an engine stands in a run, a step more; and what has been counted.
use Rattle.std.proofs.Common.{◌≡◌, ℕ, ◌+◌, ◌≤◌, List, [], ◌++◌, Option, Some, None, sym, ap, subst, ◌∙◌, add-one}
use Rattle.std.specs.Prelude.{unwrap_or}
use Rattle.std.proofs.lemmas.List.Sums.{fold-append}
use Rattle.joutput.specs.declared.jtrace.event.Event.{Event}
use Rattle.joutput.specs.declared.jtrace.event.End.{End}
use Rattle.joutput.specs.declared.jtrace.event.End.TheVariants.{Bound}
use Rattle.joutput.specs.jtrace.TraceLines.{text}
use Rattle.jsemantics.specs.jmachine.MachineStates.{Outcome}
use Rattle.jsemantics.specs.jmachine.RunTraces.{next_at, Run, after, ended_by, ending, next, run_from, state_behind, told_by}
use Rattle.jsemantics.proofs.JmachineProofs.Courses as courses
use Rattle.jruntime.specs.declared.jrun.stepping.Stepped.{Stepped}
use Rattle.jruntime.specs.declared.jrun.stepping.Stepped.TheVariants as done
use Rattle.jruntime.specs.jrun.StepOutcomes.{ComesTo, WhereWent, came_as}
use Rattle.jruntime.specs.jrun.RunSegments.{told_in}
use Rattle.jforms.specs.jtables.RunPositions.{end_in}
use Rattle.joutput.specs.declared.jtally.counts.Counts.{Counts}
use Rattle.joutput.specs.jtally.LineTallies.{counts_in}
use Rattle.joutput.specs.jtally.EventCounts.{counted, none, with_event}
use Rattle.jforms.specs.jengine.EnginePositions.{IsAt}
use Rattle.jforms.specs.jengine.RunTallies.{tally_of}

-- ---- one step

module _ {S : Type 0} (stands later : S → Type 0) (steps further step : S → Outcome S) (r : Run S) where
  told_so : (came : Stepped) (o : Outcome S) → ComesTo later o (came_as came) → told_in came ≡ told_by o
  told_so (done.Went events) o (t, is, there) = ap told_by (sym is)
  told_so (done.Ended events end) o (t, is) = ap told_by (sym is)

  ends_so : (came : Stepped) (o : Outcome S) → ComesTo later o (came_as came) → ended_by o ≡ end_in came
  ends_so (done.Went events) o (t, is, there) = ap ended_by is
  ends_so (done.Ended events end) o (t, is) = ap ended_by is

  stands_so : (came : Stepped) (o : Outcome S) → ComesTo later o (came_as came) → end_in came ≡ None → later (state_behind r.state o)
  stands_so (done.Went events) o (t, is, there) goes = subst (λ (x : Outcome S). later (state_behind r.state x)) (sym is) there
  stands_so (done.Ended events end) o (t, is) goes = absurd (let no : Some end ≡ None = goes in cc)

  steps_so : (came : Stepped) → WhereWent (further ≡ steps) (came_as came) → end_in came ≡ None → further ≡ steps
  steps_so (done.Went events) same goes = same
  steps_so (done.Ended events end) same goes = absurd (let no : Some end ≡ None = goes in cc)

  module _ (ended : Option End) (goes : ended ≡ None) (at : IsAt ended stands steps step r) (came : Stepped) (comes : (s : S) → stands s → ComesTo later (steps s) (came_as came)) where
    here : ComesTo later (step r.state) (came_as came)
    here = subst (λ (f : S → Outcome S). ComesTo later (f r.state) (came_as came)) (at.same goes) (comes r.state (at.state goes))

    pub told_next : told_in came ≡ told_by (step r.state)
    told_next = told_so came (step r.state) here

    next_is : next step r ≡ after step r (step r.state)
    next_is = ap (next_at step r) (at.end ∙ goes)

    pub stands_next : (now : Option End) → now ≡ end_in came → WhereWent (further ≡ steps) (came_as came) → IsAt now later further step (next step r)
    stands_next now is same = record {
      end = ap (λ (x : Run S). x.end) next_is ∙ ends_so came (step r.state) here ∙ sym is;
      state = λ none. subst (λ (x : Run S). later x.state) (sym next_is) (stands_so came (step r.state) here (sym is ∙ none));
      same = λ none. steps_so came same (sym is ∙ none) ∙ at.same goes;
    }

-- ---- many

module _ {S : Type 0} (step : S → Outcome S) (first : Run S) where
  pub one_more : (k : ℕ) → run_from step (k + 1) first ≡ next step (run_from step k first)
  one_more k = ap (λ (n : ℕ). run_from step n first) (add-one k) ∙ courses.goes_on step first k

  pub counts_next : (k : ℕ) (before now : Counts) → (run_from step k first).end ≡ None → before ≡ counted none (run_from step k first).events
      → now ≡ counted before (told_by (step (run_from step k first).state)) → now ≡ counted none (run_from step (k + 1) first).events
  counts_next k before now goes so_far is =
      let r = run_from step k first in
      let told = told_by (step r.state) in
      let all : (run_from step (k + 1) first).events ≡ r.events ++ told =
      ap (λ (x : Run S). x.events) (one_more k ∙ ap (next_at step r) goes) in
      is ∙ ap (λ (n : Counts). counted n told) so_far ∙ sym (fold-append with_event none r.events told) ∙ ap (counted none) (sym all)

  pub stays : (k n : ℕ) (end : End) → k ≤ n → (run_from step k first).end ≡ Some end → run_from step n first ≡ run_from step k first
  stays k n end le h = courses.stays step first k n end le h

abbrev Law : Type 0
Law = (events : List Event) (end : End) → counts_in (text events end) ≡ counted none events

pub tallied : {S : Type 0} → Law → (r : Run S) (counts : Counts) (end : Option End) → counts ≡ counted none r.events → r.end ≡ end → record { counts = counts; end = unwrap_or end Bound } ≡ tally_of r
tallied law r counts end so_far is =
    ap (λ (n : Counts). record { counts = n; end = unwrap_or end Bound }) (so_far ∙ sym (law r.events (ending r)))
    ∙ ap (λ (e : Option End). record { counts = counts_in (text r.events (ending r)); end = unwrap_or e Bound }) (sym is)

-- ---- a loop

-- Whatever run an engine stood in at first, it stands in so many steps later, and its events are counted.
abbrev pub AreAt : {S : Type 0} → Option End → (S → Type 0) → (S → Outcome S) → ℕ → Counts → Option End → (S → Type 0) → (S → Outcome S) → Type 0
AreAt {S} old before by k counts now stands steps = (step : S → Outcome S) (first : Run S) → first.events ≡ [] → IsAt old before by step first
    → IsAt now stands steps step (run_from step k first) × (counts ≡ counted none (run_from step k first).events)

module _ {S : Type 0} (old : Option End) (before : S → Type 0) (by : S → Outcome S) where
  pub at_first : AreAt old before by 0 none old before by
  unfolding run_from
  at_first step first empty at = (at, ap (counted none) (sym empty))

  module _ (k : ℕ) (counts : Counts) (now : Option End) (stands : S → Type 0) (steps : S → Outcome S) (at : AreAt old before by k counts now stands steps) where
    -- one step more
    pub at_next : now ≡ None → (more : Counts) (then : Option End) (later : S → Type 0) (further : S → Outcome S)
        → ((step : S → Outcome S) (r : Run S) → IsAt now stands steps step r → more ≡ counted counts (told_by (step r.state)))
        → ((step : S → Outcome S) (r : Run S) → IsAt now stands steps step r → IsAt then later further step (next step r))
        → AreAt old before by (k + 1) more then later further
    at_next goes more then later further told stood step first empty is =
        let here = at step first empty is in
        let r = run_from step k first in (
          subst (λ (x : Run S). IsAt then later further step x) (sym (one_more step first k)) (stood step r here.0),
          counts_next step first k counts more (here.0.end ∙ goes) here.1 (told step r here.0),
        )

    -- it has ended
    pub at_end : Law → (most : ℕ) (end : End) → k ≤ most → now ≡ Some end → (step : S → Outcome S) (first : Run S) → first.events ≡ [] → IsAt old before by step first
        → record { counts = counts; end = end } ≡ tally_of (run_from step most first)
    at_end law most end le is step first empty begins =
        let here = at step first empty begins in
        tallied law (run_from step k first) counts (Some end) here.1 (here.0.end ∙ is) ∙ ap tally_of (sym (stays step first k most end le (here.0.end ∙ is)))

    -- all steps were made
    pub at_last : Law → (most : ℕ) → k ≡ most → (step : S → Outcome S) (first : Run S) → first.events ≡ [] → IsAt old before by step first
        → record { counts = counts; end = unwrap_or now Bound } ≡ tally_of (run_from step most first)
    at_last law most all step first empty begins =
        let here = at step first empty begins in
        tallied law (run_from step k first) counts now here.1 here.0.end ∙ ap (λ (n : ℕ). tally_of (run_from step n first)) all
