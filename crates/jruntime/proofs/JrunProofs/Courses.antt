-- The course of a run: how a step goes on, and what has been written.
use Rattle.std.proofs.Common.{◌≡◌, ℕ, ◌+◌, ◌≤◌, ◌<◌, List, [], ◌++◌, Option, Some, None, sym, ap, subst, ◌∙◌, append_assoc, arith, add-one}
use Rattle.std.specs.Prelude.{unwrap_or, Result, Ok, Err, OnOk, OnErr, IfOk}
use Rattle.std.proofs.lemmas.List.Concat.{flat_map-append}
use Rattle.jground.specs.jbase.FaultCauses.{appended, IsCut}
use Rattle.jground.proofs.JbaseProofs.Cuts.{appended_nil, cut_then, cut_more, then_whole}
use Rattle.joutput.specs.declared.jtrace.event.Event.{Event}
use Rattle.joutput.specs.declared.jtrace.event.End.{End}
use Rattle.joutput.specs.declared.jtrace.event.End.TheVariants as ends
use Rattle.joutput.specs.jtrace.TraceLines.{lines, line, end_line}
use Rattle.jsemantics.specs.jmachine.MachineStates.{Outcome}
use Rattle.jsemantics.specs.jmachine.RunTraces.{next_at, Run, after, ended_by, ending, run_from, run_text, told_by}
use Rattle.jsemantics.proofs.JmachineProofs.Courses as courses

module _ {S : Type 0} (step : S → Outcome S) (first : Run S) where
  -- the run after so many steps
  abbrev pub run : ℕ → Run S
  run k = run_from step k first

  -- one more step of a run that has not ended
  pub goes : (i : ℕ) → (run i).end ≡ None → run (i + 1) ≡ after step (run i) (step (run i).state)
  goes i h = ap run (add-one i) ∙ courses.goes_on step first i ∙ ap (next_at step (run i)) h

  pub stays : (i n : ℕ) (end : End) → i ≤ n → (run i).end ≡ Some end → run n ≡ run i
  stays i n end le h = courses.stays step first i n end le h

  -- ---- what has been written

  -- a front of the lines of a run is a front of the text of a later one
  pub cut_later : (i n : ℕ) (old new : Option (List ℕ)) → i ≤ n → IsCut old new (lines (run i).events) → IsCut old new (run_text (run n))
  cut_later i n old new le h =
      let r = run i in
      let s = run n in
      let more = courses.grows step first i n le in
      let all : run_text s ≡ lines r.events ++ (lines more.0 ++ end_line (ending s)) =
      ap (λ (es : List Event). lines es ++ end_line (ending s)) more.1
      ∙ ap (λ (x : List ℕ). x ++ end_line (ending s)) (flat_map-append line r.events more.0)
      ∙ append_assoc (lines r.events) (lines more.0) (end_line (ending s)) in
      subst (λ (x : List ℕ). IsCut old new x) (sym all) (cut_more old new (lines r.events) (lines more.0 ++ end_line (ending s)) h)

  -- what a step tells
  abbrev told_at : ℕ → List Event
  told_at i = told_by (step (run i).state)

  lines_next : (i : ℕ) → (run i).end ≡ None → lines (run (i + 1)).events ≡ lines (run i).events ++ lines (told_at i)
  lines_next i h = ap (λ (r : Run S). lines r.events) (goes i h) ∙ flat_map-append line (run i).events (told_at i)

  pub written_next : (i : ℕ) (old mid new : Option (List ℕ)) → (run i).end ≡ None → mid ≡ appended old (lines (run i).events) → new ≡ appended mid (lines (told_at i)) → new ≡ appended old (lines (run (i + 1)).events)
  written_next i old mid new h m w = then_whole old mid new (lines (run i).events) (lines (told_at i)) m w ∙ ap (appended old) (sym (lines_next i h))

  pub cut_next : (i n : ℕ) (old mid new : Option (List ℕ)) → i < n → (run i).end ≡ None → mid ≡ appended old (lines (run i).events) → IsCut mid new (lines (told_at i)) → IsCut old new (run_text (run n))
  cut_next i n old mid new lt h m w =
      cut_later (i + 1) n old new (omega arith) (subst (λ (x : List ℕ). IsCut old new x) (sym (lines_next i h)) (cut_then old mid new (lines (run i).events) (lines (told_at i)) m w))

  -- ---- the end

  abbrev end_of : Option End → End
  end_of end = unwrap_or end ends.Bound

  -- the text of a run that has ended after these steps, or that has not ended after all
  text_ended : (i n : ℕ) (end : Option End) → run n ≡ run i → (run i).end ≡ end → run_text (run n) ≡ lines (run i).events ++ end_line (end_of end)
  text_ended i n end same h = ap run_text same ∙ ap (λ (e : Option End). lines (run i).events ++ end_line (end_of e)) h

  pub written_ended : (i n : ℕ) (end : Option End) (old mid new : Option (List ℕ)) → run n ≡ run i → (run i).end ≡ end → mid ≡ appended old (lines (run i).events) → new ≡ appended mid (end_line (end_of end)) → new ≡ appended old (run_text (run n))
  written_ended i n end old mid new same h m w =
      then_whole old mid new (lines (run i).events) (end_line (end_of end)) m w ∙ ap (appended old) (sym (text_ended i n end same h))

  pub cut_ended : (i n : ℕ) (end : Option End) (old mid new : Option (List ℕ)) → run n ≡ run i → (run i).end ≡ end → mid ≡ appended old (lines (run i).events) → IsCut mid new (end_line (end_of end)) → IsCut old new (run_text (run n))
  cut_ended i n end old mid new same h m w =
      subst (λ (x : List ℕ). IsCut old new x) (sym (text_ended i n end same h)) (cut_then old mid new (lines (run i).events) (end_line (end_of end)) m w)

  pub end_is : (i n : ℕ) (end : Option End) → run n ≡ run i → (run i).end ≡ end → end_of end ≡ ending (run n)
  end_is i n end same h = ap end_of (sym h) ∙ ap ending (sym same)

  -- a step that ends the run
  pub ends_next : (i : ℕ) (end : Option End) → (run i).end ≡ None → end ≡ ended_by (step (run i).state) → (run (i + 1)).end ≡ end
  ends_next i end h e = ap (λ (r : Run S). r.end) (goes i h) ∙ sym e

  -- ---- the beginning

  pub opened_written : (old : Option (List ℕ)) → first.events ≡ [] → old ≡ appended old (lines (run 0).events)
  unfolding run_from
  opened_written old none = sym (appended_nil old) ∙ ap (λ (es : List Event). appended old (lines es)) (sym none)

-- ---- clauses of an answer

pub on_ok : {T E : Type 0} (r : Result T E) {P Q : Type 0} → (P → Q) → OnOk r P → OnOk r Q
on_ok (Ok x) f h = f h
on_ok (Err e) f h = tt

pub on_err : {T E : Type 0} (r : Result T E) {P Q : Type 0} → (P → Q) → OnErr r P → OnErr r Q
on_err (Ok x) f h = tt
on_err (Err e) f h = f h

pub if_ok : {T E : Type 0} (r : Result T E) {P Q : T → Type 0} → ((x : T) → P x → Q x) → IfOk r P → IfOk r Q
if_ok (Ok x) f h = f x h
if_ok (Err e) f h = tt
