-- What holds of a machine that is run, between its steps.
use Rattle.std.proofs.Common.{◌≡◌, ℕ, zero, suc, ◌+◌, ◌≤◌, ◌<◌, List, [], ◌++◌, Option, Some, None, refl, sym, ap, subst, ◌∙◌, append_assoc, arith, add-one}
use Rattle.jground.specs.jbase.FaultCauses.{appended, IsCut}
use Rattle.jground.proofs.JbaseProofs.Cuts.{cut_then, then_whole}
use Rattle.std.proofs.lemmas.List.{append-nil}
use Rattle.std.proofs.lemmas.List.Concat.{flat_map-append}
use Rattle.joutput.specs.declared.jtrace.event.Event.{Event}
use Rattle.joutput.specs.declared.jtrace.event.End.{End}
use Rattle.joutput.specs.declared.jtrace.event.End.TheVariants as ends
use Rattle.joutput.specs.jtrace.TraceLines.{line, lines}
use Rattle.jsemantics.specs.jmachine.MachineStates.{Outcome}
use Rattle.jsemantics.specs.jmachine.RunTraces.{next_at, Run, after, ended_by, next, run_from, run_text, state_behind, told_by}
use Rattle.jsemantics.proofs.JmachineProofs.Courses as courses
use Rattle.jruntime.specs.declared.jrun.running.Written.{Written}
use Rattle.jruntime.specs.declared.jrun.stepping.Stepped.{Stepped}
use Rattle.jruntime.specs.declared.jrun.stepping.Stepped.TheVariants as done
use Rattle.jruntime.specs.declared.jrun.stepping.Stretch.{Stretch}
use Rattle.jruntime.specs.jrun.StepOutcomes.{AreFew, Begins, ComesTo, Goes, LastCame, Quietly, WhereGoes, WhereWent, came_as, count_of}
use Rattle.jruntime.specs.jrun.RunSegments.{Advances, end_by, run_at, told_in}
use Rattle.jruntime.proofs.JrunProofs.Courses as written

-- ---- the same run behind other events

abbrev pub behind : {S : Type 0} → List Event → Run S → Run S
behind es r = record { state = r.state; events = es ++ r.events; end = r.end }

module _ {S : Type 0} (step : S → Outcome S) where
  next_behind : (es : List Event) (r : Run S) → next step (behind es r) ≡ behind es (next step r)
  next_behind es r = by r.end
    where
      by : (end : Option End) → next_at step (record { state = r.state; events = es ++ r.events; end = end }) end
          ≡ behind es (next_at step (record { state = r.state; events = r.events; end = end }) end)
      by (Some end) = refl
      by None = ap (λ (all : List Event). record { state = state_behind r.state (step r.state); events = all; end = ended_by (step r.state) })
          (append_assoc es r.events (told_by (step r.state)))

  run_behind : (k : ℕ) (es : List Event) (r : Run S) → run_from step k (behind es r) ≡ behind es (run_from step k r)
  unfolding run_from
  run_behind zero es r = refl
  run_behind (suc k) es r = ap (run_from step k) (next_behind es r) ∙ run_behind k es (next step r)

  -- a run that has not ended goes on as one that begins at its state
  pub on_from : (n : ℕ) (r : Run S) → r.end ≡ None → run_from step n r ≡ behind r.events (run_from step n (run_at r.state))
  on_from n r goes = ap (run_from step n) (as_behind goes) ∙ run_behind n r.events (run_at r.state)
    where
      as_behind : r.end ≡ None → r ≡ behind r.events (run_at r.state)
      as_behind goes =
          ap (λ (end : Option End). record { state = r.state; events = r.events; end = end }) goes
          ∙ ap (λ (es : List Event). record { state = r.state; events = es; end = None }) (sym (append-nil r.events))

  -- ---- some steps

  quietly : (k : ℕ) (s t : S) → Quietly step k s t → run_from step k (run_at s) ≡ run_at t
  unfolding run_from Quietly
  quietly zero s t same = ap run_at (sym same)
  quietly (suc k) s t (u, before, went) =
      courses.goes_on step (run_at s) k
      ∙ ap (next step) (quietly k s u before)
      ∙ ap (after step (run_at u)) went

  module _ (stands : S → Type 0) (s : S) where
    -- where the last told nothing either
    pub quiet_advances : (k : ℕ) → (t : S) × Quietly step k s t × stands t → Advances stands step s (record { steps = k; end = None })
    quiet_advances k (t, quiet, there) = record {
      ends = ap (λ (r : Run S). r.end) (quietly k s t quiet);
      state = λ none. subst (λ (r : Run S). stands r.state) (sym (quietly k s t quiet)) there;
    }

    pub quiet_tells : (k : ℕ) → (t : S) × Quietly step k s t × stands t → [] ≡ (run_from step k (run_at s)).events
    quiet_tells k (t, quiet, there) = ap (λ (r : Run S). r.events) (sym (quietly k s t quiet))

    -- behind them
    last_is : (k : ℕ) (t : S) → Quietly step k s t → run_from step (k + 1) (run_at s) ≡ after step (run_at t) (step t)
    last_is k t quiet =
        ap (λ (n : ℕ). run_from step n (run_at s)) (add-one k) ∙ courses.goes_on step (run_at s) k ∙ ap (next step) (quietly k s t quiet)

    ends_so : (came : Stepped) (o : Outcome S) → ComesTo stands o (came_as came) → ended_by o ≡ end_by came
    ends_so (done.Went events) o (u, is, there) = ap ended_by is
    ends_so (done.Ended events end) o (u, is) = ap ended_by is

    tells_so : (came : Stepped) (o : Outcome S) → ComesTo stands o (came_as came) → told_in came ≡ told_by o
    tells_so (done.Went events) o (u, is, there) = ap told_by (sym is)
    tells_so (done.Ended events end) o (u, is) = ap told_by (sym is)

    stands_so : (came : Stepped) (t : S) (o : Outcome S) → ComesTo stands o (came_as came) → end_by came ≡ None → stands (state_behind t o)
    stands_so (done.Went events) t o (u, is, there) none = subst (λ (x : Outcome S). stands (state_behind t x)) (sym is) there
    stands_so (done.Ended events end) t o (u, is) none = absurd (let a : Some end ≡ None = none in cc)

    pub last_advances : (k : ℕ) (came : Stepped) (end : Option End) → end ≡ end_by came → (t : S) × Quietly step k s t × ComesTo stands (step t) (came_as came)
        → Advances stands step s (record { steps = k + 1; end = end })
    last_advances k came end is (t, quiet, comes) = record {
      ends = ap (λ (r : Run S). r.end) (last_is k t quiet) ∙ ends_so came (step t) comes ∙ sym is;
      state = λ none. subst (λ (r : Run S). stands r.state) (sym (last_is k t quiet)) (stands_so came t (step t) comes (sym is ∙ none));
    }

    pub last_tells : (k : ℕ) (came : Stepped) → (t : S) × Quietly step k s t × ComesTo stands (step t) (came_as came)
        → told_in came ≡ (run_from step (k + 1) (run_at s)).events
    last_tells k came (t, quiet, comes) = tells_so came (step t) comes ∙ ap (λ (r : Run S). r.events) (sym (last_is k t quiet))

-- ---- by what the last came to, if there was one

module _ {S : Type 0} (stands : S → Type 0) (step : S → Outcome S) (s : S) (made : Stretch) (goes : Goes stands step s made) where
  pub goes_none : made.last ≡ None → (t : S) × Quietly step made.quiet s t × stands t
  goes_none none = (goes.0, goes.1, subst (LastCame stands step goes.0) none goes.2)

  pub goes_some : (came : Stepped) → made.last ≡ Some came → (t : S) × Quietly step made.quiet s t × ComesTo stands (step t) (came_as came)
  goes_some came some = (goes.0, goes.1, subst (LastCame stands step goes.0) some goes.2)

pub few_none : (most : ℕ) (made : Stretch) → AreFew most made → made.last ≡ None → (0 < made.quiet) × (made.quiet ≤ most)
few_none most made few none =
    let all = subst (λ (l : Option Stepped). (0 < made.quiet + count_of l) × (made.quiet + count_of l ≤ most)) none few in
    (omega (arith, all), omega (arith, all))

pub few_some : (most : ℕ) (made : Stretch) (came : Stepped) → AreFew most made → made.last ≡ Some came → (0 < made.quiet + 1) × (made.quiet + 1 ≤ most)
few_some most made came few some =
    let all = subst (λ (l : Option Stepped). (0 < made.quiet + count_of l) × (made.quiet + count_of l ≤ most)) some few in
    (omega (arith, all), omega (arith, all))

pub ready_none : (P : Type 0) (made : Stretch) → WhereGoes P made.last → made.last ≡ None → P
ready_none P made ready none = subst (WhereGoes P) none ready

pub ready_some : (P : Type 0) (made : Stretch) (came : Stepped) (end : Option End) → WhereGoes P made.last → made.last ≡ Some came → end ≡ end_by came → end ≡ None → P
ready_some P made came end ready some is none = by came (subst (WhereGoes P) some ready) (sym is ∙ none)
  where
    by : (came : Stepped) → WhereWent P (came_as came) → end_by came ≡ None → P
    by (done.Went events) ready none = ready
    by (done.Ended events end) ready none = absurd (let a : Some end ≡ None = none in cc)

-- ---- runs

-- After so many steps of a run the machine stands for its state, it hasn't ended, and its lines have gone out.
pub record IsAt {S : Type 0} (step : S → Outcome S) (first : Run S) (k : ℕ) (stands : S → Type 0) (old out : Option (List ℕ)) : Type 0 where
  pub state : stands (run_from step k first).state
  pub goes : (run_from step k first).end ≡ None
  pub written : out ≡ appended old (lines (run_from step k first).events)

-- whatever run it is that begins so
abbrev pub AreAt : {S : Type 0} → (S → Outcome S) → (S → Type 0) → ℕ → (S → Type 0) → Option (List ℕ) → Option (List ℕ) → Type 0
AreAt {S} step begins k stands old out = (first : Run S) → Begins begins first → IsAt step first k stands old out

module _ {S : Type 0} (step : S → Outcome S) where
  pub begun : (begins : S → Type 0) (old : Option (List ℕ)) → AreAt step begins 0 begins old old
  unfolding run_from
  begun begins old first b = record { state = b.state; goes = b.end; written = written.opened_written step first old b.events }

  module _ (first : Run S) (k n : ℕ) (goes : (run_from step k first).end ≡ None) where
    abbrev here : Run S
    here = run_from step k first

    -- so many steps more
    pub further : run_from step (k + n) first ≡ behind here.events (run_from step n (run_at here.state))
    further = courses.later step k n (k + n) first refl ∙ on_from step n here goes

    further_lines : lines (run_from step (k + n) first).events ≡ lines here.events ++ lines (run_from step n (run_at here.state)).events
    further_lines =
        ap (λ (r : Run S). lines r.events) further ∙ flat_map-append line here.events (run_from step n (run_at here.state)).events

    pub further_written : (old mid new : Option (List ℕ)) → mid ≡ appended old (lines here.events)
        → new ≡ appended mid (lines (run_from step n (run_at here.state)).events) → new ≡ appended old (lines (run_from step (k + n) first).events)
    further_written old mid new m w =
        then_whole old mid new (lines here.events) (lines (run_from step n (run_at here.state)).events) m w ∙ ap (appended old) (sym further_lines)

    pub further_cut : (all : ℕ) (old mid new : Option (List ℕ)) → k + n ≤ all → mid ≡ appended old (lines here.events)
        → IsCut mid new (lines (run_from step n (run_at here.state)).events) → IsCut old new (run_text (run_from step all first))
    further_cut all old mid new few m w =
        written.cut_later step first (k + n) all old new few
        (subst (λ (x : List ℕ). IsCut old new x) (sym further_lines) (cut_then old mid new (lines here.events) (lines (run_from step n (run_at here.state)).events) m w))

    pub further_ends : (end : Option End) → (run_from step n (run_at here.state)).end ≡ end → (run_from step (k + n) first).end ≡ end
    further_ends end is = ap (λ (r : Run S). r.end) further ∙ is

  -- some steps more
  pub more : (begins stands after : S → Type 0) (k : ℕ) (done : Written) (old mid new : Option (List ℕ)) → AreAt step begins k stands old mid → done.end ≡ None
      → ((s : S) → stands s → Advances after step s done)
      → ((s : S) → stands s → new ≡ appended mid (lines (run_from step done.steps (run_at s)).events))
      → AreAt step begins (k + done.steps) after old new
  more begins stands after k done old mid new at none goes writes first b =
      let here = at first b in
      let s = (run_from step k first).state in
      let a = goes s here.state in
      record {
        state = subst (λ (r : Run S). after r.state) (sym (further first k done.steps here.goes)) (a.state none);
        goes = further_ends first k done.steps here.goes None (a.ends ∙ none);
        written = further_written first k done.steps here.goes old mid new here.written (writes s here.state);
      }
