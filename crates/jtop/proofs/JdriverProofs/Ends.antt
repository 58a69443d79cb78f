-- The answer of a run.
use Rattle.std.proofs.Common.{◌≡◌, ℕ, List, Option, Some, sym, ap, subst}
use Rattle.jground.specs.jbase.FaultCauses.{appended}
use Rattle.joutput.specs.declared.jtrace.event.End.{End}
use Rattle.joutput.specs.declared.jtrace.event.End.TheVariants as ends
use Rattle.jsemantics.specs.jmachine.RunTraces.{Run, run_text, ending}
use Rattle.jshow.specs.declared.status.Status.{Status}
use Rattle.jshow.specs.CommandAnswers.{Answers}
use Rattle.jshow.specs.Statuses.{status_of}
use Rattle.jtop.specs.jdriver.Answers.{ran}

of_end : {S : Type 0} (r : Run S) (e : End) (old new : Option (List ℕ)) → e ≡ ending r → new ≡ appended old (run_text r) → Answers (ran r) (status_of e) old new
of_end r ends.Finished old new is h = (ap (λ (x : End). Some (status_of x)) (sym is), h)
of_end r ends.Uncaught old new is h = (ap (λ (x : End). Some (status_of x)) (sym is), h)
of_end r ends.Deadlock old new is h = (ap (λ (x : End). Some (status_of x)) (sym is), h)
of_end r ends.HeapFull old new is h = (ap (λ (x : End). Some (status_of x)) (sym is), h)
of_end r ends.Bound old new is h = (ap (λ (x : End). Some (status_of x)) (sym is), h)

pub answers_run : {S : Type 0} (r : Run S) (e : End) (s : Status) (old new : Option (List ℕ)) → s ≡ status_of e → e ≡ ending r → new ≡ appended old (run_text r) → Answers (ran r) s old new
answers_run r e s old new es is h = subst (λ (x : Status). Answers (ran r) x old new) (sym es) (of_end r e old new is h)
