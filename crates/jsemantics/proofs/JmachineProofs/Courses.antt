-- The course of a run: how steps go on, what stays, and what grows.
use Rattle.std.proofs.Common.{◌≡◌, ℕ, zero, suc, ◌+◌, ◌-◌, ◌≤◌, List, [], ◌++◌, Option, Some, None, refl, sym, ap, subst, ◌∙◌, append_assoc, arith}
use Rattle.std.proofs.lemmas.List.{append-nil}
use Rattle.joutput.specs.declared.jtrace.event.Event.{Event}
use Rattle.joutput.specs.declared.jtrace.event.End.{End}
use Rattle.jsemantics.specs.jmachine.MachineStates.{Outcome}
use Rattle.jsemantics.specs.jmachine.RunTraces.{next_at, Run, next, run_from, told_by}

module _ {S : Type 0} (step : S → Outcome S) where
  pub goes_on : (r : Run S) (k : ℕ) → run_from step (suc k) r ≡ next step (run_from step k r)
  unfolding run_from
  goes_on r zero = refl
  goes_on r (suc k) = goes_on (next step r) k

  ended_stays : (n : ℕ) (r : Run S) (end : End) → r.end ≡ Some end → run_from step n r ≡ r
  unfolding run_from
  ended_stays zero r end h = refl
  ended_stays (suc n) r end h = ap (λ (x : Run S). run_from step n x) (ap (next_at step r) h) ∙ ended_stays n r end h

  -- so many steps more
  pub later : (k n m : ℕ) (r : Run S) → m ≡ k + n → run_from step m r ≡ run_from step n (run_from step k r)
  unfolding run_from
  later zero n m r e = let f : m ≡ n = omega arith in ap (λ i. run_from step i r) f
  later (suc k) n m r e =
      let f : m ≡ suc (k + n) = omega arith in
      ap (λ i. run_from step i r) f ∙ later k n (k + n) (next step r) refl

  pub stays : (r : Run S) (k n : ℕ) (end : End) → k ≤ n → (run_from step k r).end ≡ Some end → run_from step n r ≡ run_from step k r
  stays r k n end le h =
      let e : n ≡ k + (n - k) = omega arith in
      later k (n - k) n r e ∙ ended_stays (n - k) (run_from step k r) end h

  abbrev HasGrown : Run S → Run S → Type 0
  HasGrown old new = (more : List Event) × (new.events ≡ old.events ++ more)

  next_grows : (r : Run S) (end : Option End) → HasGrown r (next_at step r end)
  next_grows r (Some end) = ([], sym (append-nil r.events))
  next_grows r None = (told_by (step r.state), refl)

  onward_grows : (n : ℕ) (r : Run S) → HasGrown r (run_from step n r)
  unfolding run_from
  onward_grows zero r = ([], sym (append-nil r.events))
  onward_grows (suc n) r =
      let a = next_grows r r.end in
      let b = onward_grows n (next step r) in
      (a.0 ++ b.0, b.1 ∙ ap (λ (x : List Event). x ++ b.0) a.1 ∙ append_assoc r.events a.0 b.0)

  pub grows : (r : Run S) (k n : ℕ) → k ≤ n → HasGrown (run_from step k r) (run_from step n r)
  grows r k n le =
      let e : n ≡ k + (n - k) = omega arith in
      subst (λ (x : Run S). HasGrown (run_from step k r) x) (sym (later k (n - k) n r e)) (onward_grows (n - k) (run_from step k r))
