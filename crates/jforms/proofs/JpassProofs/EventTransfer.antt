-- What a call told of the plain run of a moved program, said of the inspecting run of the program as it was written.
use Rattle.std.proofs.Common.{◌≡◌, ◌∙◌, ℕ, Bool, List, Option, Some, Ok, Err, ap, subst, sym}
use Rattle.std.specs.Prelude.{IfOk, OnErr, OnOk, Result, unwrap_or}
use Rattle.jground.specs.jbase.FaultCauses.{IsCut, appended}
use Rattle.jperm.specs.declared.permission.Permission.{Permission}
use Rattle.joutput.specs.declared.jtrace.event.Event.{Event}
use Rattle.joutput.specs.declared.jtrace.event.End.{End}
use Rattle.joutput.specs.declared.jtrace.event.End.TheVariants as ends
use Rattle.joutput.specs.declared.jtrace.fault.RunFault.{RunFault}
use Rattle.joutput.specs.jtrace.TraceLines.{text}
use Rattle.jresolution.specs.jprogram.ProgramClasses.{Program}
use Rattle.jresolution.specs.jprogram.MemberResolution.{IsMain, main_of}
use Rattle.jmoved_laws.specs.names.OpeningLaws.{MainsStay}
use Rattle.jsemantics.specs.declared.jmachine.plan.Plan.{Plan}
use Rattle.jsemantics.specs.jmachine.RunTraces.{Run, ending, run_text}
use Rattle.jpass_laws.specs.PassSimulation.{MovedPasses, Passes, inspected, passed}
use Rattle.jforms.specs.jpass.PassRuns.{AfterSome, IsMoved, OnceEnded, Tells}

-- ---- a run's lines and its ending are its events' and its end's alone

pub ending_alike : {S T : Type 0} (r : Run S) (s : Run T) → r.end ≡ s.end → ending r ≡ ending s
ending_alike r s end = ap (λ (o : Option End). unwrap_or o ends.Bound) end

pub text_alike : {S T : Type 0} (r : Run S) (s : Run T) → r.events ≡ s.events → r.end ≡ s.end → run_text r ≡ run_text s
text_alike r s events end = ap (λ (es : List Event). text es (ending r)) events ∙ ap (λ (e : End). text s.events e) (ending_alike r s end)

tells_alike : {S T : Type 0} (r : Run S) (s : Run T) (result : Result End RunFault) (old new : Option (List ℕ)) → r.events ≡ s.events → r.end ≡ s.end
    → Tells r result old new → Tells s result old new
tells_alike r s (Ok end) old new events ends told = (told.0 ∙ ending_alike r s ends, told.1 ∙ ap (appended old) (text_alike r s events ends))
tells_alike r s (Err fault) old new events ends cut = subst (λ (lines : List ℕ). IsCut old new lines) (text_alike r s events ends) cut

-- a call's clauses together
pub tells : {S : Type 0} (r : Run S) (result : Result End RunFault) (old new : Option (List ℕ)) → OnOk result (new ≡ appended old (run_text r))
    → IfOk result (λ end. end ≡ ending r) → OnErr result (IsCut old new (run_text r)) → Tells r result old new
tells r (Ok end) old new written ended cut = (ended, written)
tells r (Err fault) old new written ended cut = cut

-- ---- of a moved program's run

-- it begins with the `main` of the program as it was written
pub main_named : MainsStay → (p q : Program) (plan : Plan) → IsMoved p q → (main : IsMain q plan.main) → main_of p main.0 ≡ Some plan.main
main_named mains p q plan is main =
    sym (mains p is.linked is.typed is.small main.0) ∙ subst (λ (x : Program). main_of x main.0 ≡ Some plan.main) (sym is.moved) main.1

module _ (law : MovedPasses) (mains : MainsStay) (has : ℕ → Permission → Bool) (p q : Program) (plan : Plan) (is : IsMoved p q) (main : IsMain q plan.main) where
  pub passes : Passes has p q plan
  passes = subst (λ (x : Program). Passes has p x plan) is.moved (law has p plan main.0 is.linked is.typed is.small (main_named mains p q plan is main))

  module _ (result : Result End RunFault) (old new : Option (List ℕ)) where
    pub simulated : Tells (passed has q plan plan.steps) result old new → AfterSome (inspected has p plan) plan.steps (λ r. Tells r result old new)
    simulated told =
        let w = passes.simulated plan.steps in
        (w.k, w.within, w.near, tells_alike (passed has q plan plan.steps) (inspected has p plan w.k) result old new w.events w.end told)

    pub complete : Tells (passed has q plan plan.steps) result old new → OnceEnded (inspected has p plan) plan.steps (λ r. Tells r result old new)
    complete told n end over enough =
        let w = passes.complete n plan.steps end over enough in
        tells_alike (passed has q plan plan.steps) (inspected has p plan n) result old new w.events w.end told
