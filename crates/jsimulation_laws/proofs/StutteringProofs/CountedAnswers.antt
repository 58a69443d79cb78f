-- Where it is known how many steps answer each one: these are no more than so many; and their sum answers a run.
use Rattle.std.proofs.Common.{◌≡◌, ℕ, zero, suc, ◌+◌, ◌≤◌, List, ◌++◌, Some, refl, sym, ap, ◌∙◌, arith}
use Rattle.joutput.specs.declared.jtrace.event.Event.{Event}
use Rattle.jsemantics.specs.jmachine.MachineStates.{Outcome, Went, Over, NoStep}
use Rattle.jsemantics.specs.jmachine.RunTraces.{Run, after, run_from}
use Rattle.jsemantics.proofs.JmachineProofs.Courses.{later}
use Rattle.jsimulation_laws.specs.stuttering.StutteringRuns.{Answers, AnswersIn, CountsAll, Follows, FollowsIn, IsUnstuck, Same, counted, going}
use Rattle.jsimulation_laws.proofs.StutteringProofs.StutterCounts.{free_on, no_more, none_yet, one_more, stuck}

module _ {S T : Type 0} (R : S → T → Type 0) (slow : T → Outcome T) (most : ℕ) where
  answers_within : (j : ℕ) → 1 ≤ j → j ≤ most → (o : Outcome S) (t : T) → AnswersIn R slow j o t → Answers R slow most o t
  answers_within j some few (Went s events) t w = (j, omega arith, few, w.0, w.1, w.2)
  answers_within j some few (Over s events end) t w = (j, omega arith, few, w)
  answers_within j some few NoStep t w = tt

  pub follows_within : (fast : S → Outcome S) (count : S → Outcome S → ℕ) → ((s : S) (o : Outcome S) → (1 ≤ count s o) × (count s o ≤ most))
      → FollowsIn R fast slow count → Follows R fast slow most
  follows_within fast count bounds follows s t r =
      let b = bounds s (fast s) in answers_within (count s (fast s)) b.0 b.1 (fast s) t (follows s t r)

-- ---- runs

module _ {S T : Type 0} (R : S → T → Type 0) (fast : S → Outcome S) (slow : T → Outcome T) (count : S → Outcome S → ℕ) where
  abbrev SameSo : List Event → S → T → ℕ → ℕ → Type 0
  SameSo told s t k m = Same fast slow (going told s) (going told t) k m

  abbrev behind : ℕ → Outcome S → ℕ
  behind k o = elim o [ Went s events ↦ counted fast count k s | _ ↦ 0 ]

  abbrev Again : ℕ → Type 0
  Again k = (told : List Event) (s : S) (t : T) → R s t → IsUnstuck fast (going told s) k → SameSo told s t k (counted fast count k s)

  counted_on : (k : ℕ) (told : List Event) (s : S) (t : T) (o : Outcome S) → fast s ≡ o → AnswersIn R slow (count s o) o t → IsUnstuck fast (going told s) (suc k)
      → Again k → SameSo told s t (suc k) (count s o + behind k o)
  counted_on k told s t (Went s' events) is w free again =
      let j = count s (Went s' events) in
      let m = counted fast count k s' in
      let ih = again (told ++ events) s' w.0 w.2 (free_on fast told s s' events k (suc k) is (omega arith) free) in
      let slow-is : run_from slow (j + m) (going told t) ≡ run_from slow m (going (told ++ events) w.0)
      = later slow j m (j + m) (going told t) refl ∙ ap (λ (r : Run T). run_from slow m r) (w.1.comes told) in
      let fast-is : run_from fast (suc k) (going told s) ≡ run_from fast k (going (told ++ events) s') = one_more fast k told s (Went s' events) is in
      record {
        events = ap (λ (r : Run T). r.events) slow-is ∙ ih.events ∙ sym (ap (λ (r : Run S). r.events) fast-is);
        end = ap (λ (r : Run T). r.end) slow-is ∙ ih.end ∙ sym (ap (λ (r : Run S). r.end) fast-is);
      }
  counted_on k told s t (Over s' events close) is w free again =
      let j = count s (Over s' events close) in
      let none : j + 0 ≡ j = omega arith in
      let done = w.comes told in
      let fast-is : run_from fast (suc k) (going told s) ≡ record { state = s'; events = told ++ events; end = Some close }
      = one_more fast k told s (Over s' events close) is ∙ no_more fast k (after fast (going told s) (Over s' events close)) close refl in
      record {
        events = ap (λ n. (run_from slow n (going told t)).events) none ∙ done.events ∙ sym (ap (λ (r : Run S). r.events) fast-is);
        end = ap (λ n. (run_from slow n (going told t)).end) none ∙ done.ends ∙ sym (ap (λ (r : Run S). r.end) fast-is);
      }
  counted_on k told s t NoStep is w free again = stuck fast told s (suc k) (omega arith) is free

  pub counts : FollowsIn R fast slow count → (k : ℕ) → Again k
  counts local zero told s t r free =
      let fast-is = none_yet fast (going told s) in
      let slow-is = none_yet slow (going told t) in
      record {
        events = ap (λ (x : Run T). x.events) slow-is ∙ sym (ap (λ (x : Run S). x.events) fast-is);
        end = ap (λ (x : Run T). x.end) slow-is ∙ sym (ap (λ (x : Run S). x.end) fast-is);
      }
  counts local (suc k) told s t r free =
      counted_on k told s t (fast s) refl (local s t r) free (λ told' s' t' r' free'. counts local k told' s' t' r' free')

pub counts_law : {S T : Type 0} (R : S → T → Type 0) → CountsAll R
counts_law R fast slow count local k told s t r free = counts R fast slow count local k told s t r free
