-- Steps that tell nothing, one behind the other, and the last one behind them.
use Rattle.std.proofs.Common.{◌≡◌, ℕ, zero, suc, ◌+◌, ◌≤◌, List, [], append-nil, sym, ap, ◌∙◌, subst, arith}
use Rattle.joutput.specs.declared.jtrace.event.Event.{Event}
use Rattle.joutput.specs.declared.jtrace.event.End.{End}
use Rattle.jsemantics.specs.jmachine.MachineStates.{Outcome, Went, Over}
use Rattle.jsemantics.specs.jmachine.RunTraces.{Run, after, next, run_from}
use Rattle.jsemantics.proofs.JmachineProofs.Courses.{goes_on}
use Rattle.jsimulation_laws.specs.stuttering.StutteringRuns.{IsSilent, Leads, LeadsOut, going}
use Rattle.jsimulation_laws.proofs.StutteringProofs.StutterCounts.{none_yet, one_more}

-- n steps that tell nothing
abbrev pub Silently : {T : Type 0} → (T → Outcome T) → ℕ → T → T → Type 0
Silently step zero t u = t ≡ u
Silently {T} step (suc n) t u = (v : T) × (step t ≡ Went v []) × Silently step n v u

module _ {T : Type 0} (step : T → Outcome T) where
  pub silent_run : (n : ℕ) (t u : T) → Silently step n t u → (told : List Event) → run_from step n (going told t) ≡ going told u
  silent_run zero t u e told = none_yet step (going told t) ∙ ap (going told) e
  silent_run (suc n) t u e told =
      one_more step n told t (Went e.0 []) e.1
      ∙ ap (λ (x : List Event). run_from step n (going x e.0)) (append-nil told)
      ∙ silent_run n e.0 u e.2 told

  pub silent_front : (n : ℕ) (t u : T) → Silently step n t u → (i : ℕ) → i ≤ n → (told : List Event) → IsSilent told (run_from step i (going told t))
  silent_front n t u e zero le told = let is = none_yet step (going told t) in record { events = ap (λ (r : Run T). r.events) is; goes = ap (λ (r : Run T). r.end) is }
  silent_front zero t u e (suc i) le told = absurd (omega arith)
  silent_front (suc n) t u e (suc i) le told =
      let is : run_from step (suc i) (going told t) ≡ run_from step i (going told e.0) = one_more step i told t (Went e.0 []) e.1
      ∙ ap (λ (x : List Event). run_from step i (going x e.0)) (append-nil told) in
      let rest = silent_front n e.0 u e.2 i (omega arith) told in
      record { events = ap (λ (r : Run T). r.events) is ∙ rest.events; goes = ap (λ (r : Run T). r.end) is ∙ rest.goes }

  -- the last step
  pub then_goes : (n : ℕ) (t u v : T) (events : List Event) → Silently step n t u → step u ≡ Went v events → Leads step (suc n) t events v
  then_goes n t u v events e is = record {
    before = λ i lt told. silent_front n t u e i (omega arith) told;
    comes = λ told. goes_on step (going told t) n ∙ ap (λ (x : Run T). next step x) (silent_run n t u e told) ∙ ap (after step (going told u)) is;
  }

  pub then_ends : (n : ℕ) (t u v : T) (events : List Event) (end : End) → Silently step n t u → step u ≡ Over v events end → LeadsOut step (suc n) t events end
  then_ends n t u v events end e is = record {
    before = λ i lt told. silent_front n t u e i (omega arith) told;
    comes = λ told. (let r = goes_on step (going told t) n ∙ ap (λ (x : Run T). next step x) (silent_run n t u e told) ∙ ap (after step (going told u)) is in
        record { events = ap (λ (x : Run T). x.events) r; ends = ap (λ (x : Run T). x.end) r });
  }

  -- all of them
  pub silent_leads : (n : ℕ) (t u : T) → Silently step n t u → Leads step n t [] u
  silent_leads n t u e = record {
    before = λ i lt told. silent_front n t u e i (omega arith) told;
    comes = λ told. silent_run n t u e told ∙ ap (λ (x : List Event). going x u) (sym (append-nil told));
  }

  -- silent steps on silent steps
  pub silent_on : (n m : ℕ) (t u v : T) → Silently step n t u → Silently step m u v → Silently step (n + m) t v
  silent_on zero m t u v a b = subst (λ x. Silently step (zero + m) x v) (sym a) (subst (λ k. Silently step k u v) (zero_plus m) b)
    where
      zero_plus : (k : ℕ) → k ≡ zero + k
      zero_plus k = omega arith
  silent_on (suc n) m t u v a b = subst (λ k. Silently step k t v) (suc_plus n m) (a.0, a.1, silent_on n m a.0 u v a.2 b)
    where
      suc_plus : (i k : ℕ) → suc (i + k) ≡ suc i + k
      suc_plus i k = omega arith
