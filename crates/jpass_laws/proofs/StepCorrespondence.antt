-- Steps of two machines whose states correspond: what the steps of the one lead to, those of the other do.
use Rattle.std.proofs.Common.{◌≡◌, ℕ, zero, suc, List, ◌++◌, Option, Some, None, refl, sym, ap, ◌∙◌}
use Rattle.joutput.specs.declared.jtrace.event.Event.{Event}
use Rattle.joutput.specs.declared.jtrace.event.End.{End}
use Rattle.jsemantics.specs.jmachine.MachineStates.{Outcome, Went, Over, NoStep}
use Rattle.jsemantics.specs.jmachine.StateMaps.{outcome_map, run_map}
use Rattle.jsemantics.specs.jmachine.RunTraces.{next_at, Run, after, next, run_from}
use Rattle.jsimulation_laws.specs.stuttering.StutteringRuns.{HasEnded, IsSilent, Leads, LeadsOut, going}

module _ {S T : Type 0} (h : S → T) (one : S → Outcome S) (other : T → Outcome T) (alike : (s : S) → outcome_map h (one s) ≡ other (h s)) where
  after_alike : (r : Run S) (o : Outcome S) → run_map h (after one r o) ≡ after other (run_map h r) (outcome_map h o)
  after_alike r (Went s events) = refl
  after_alike r (Over s events end) = refl
  after_alike r NoStep = refl

  next_alike : (r : Run S) (end : Option End) → run_map h (next_at one r end) ≡ next_at other (run_map h r) end
  next_alike r (Some end) = refl
  next_alike r None = after_alike r (one r.state) ∙ ap (after other (run_map h r)) (alike r.state)

  course : (k : ℕ) (r : Run S) → run_map h (run_from one k r) ≡ run_from other k (run_map h r)
  unfolding run_from
  course zero r = refl
  course (suc k) r = course k (next one r) ∙ ap (run_from other k) (next_alike r r.end)

  silent : (i : ℕ) (s : S) (told : List Event) → IsSilent told (run_from one i (going told s)) → IsSilent told (run_from other i (going told (h s)))
  silent i s told quiet =
      let same = course i (going told s) in
      record { events = sym (ap (λ (r : Run T). r.events) same) ∙ quiet.events; goes = sym (ap (λ (r : Run T). r.end) same) ∙ quiet.goes }

  pub leads : (j : ℕ) (s u : S) (events : List Event) → Leads one j s events u → Leads other j (h s) events (h u)
  leads j s u events l = record {
    before = λ i lt told. silent i s told (l.before i lt told);
    comes = λ told. sym (course j (going told s)) ∙ ap (run_map h) (l.comes told);
  }

  pub leads_out : (j : ℕ) (s : S) (events : List Event) (end : End) → LeadsOut one j s events end → LeadsOut other j (h s) events end
  leads_out j s events end l = record {
    before = λ i lt told. silent i s told (l.before i lt told);
    comes = λ told. ended told (l.comes told);
  }
    where
      ended : (told : List Event) → HasEnded (told ++ events) end (run_from one j (going told s)) → HasEnded (told ++ events) end (run_from other j (going told (h s)))
      ended told e =
          let same = course j (going told s) in
          record { events = sym (ap (λ (r : Run T). r.events) same) ∙ e.events; ends = sym (ap (λ (r : Run T). r.end) same) ∙ e.ends }
