-- What a call that runs a moved program tells of the inspecting run of the program as it was written.
use Rattle.std.specs.Prelude.{◌≡◌, ◌≤◌, ◌+◌, ◌*◌, ℕ, List, Option, Some, None, Result, Ok, Err}
use Rattle.jground.specs.jbase.FaultCauses.{IsCut, appended}
use Rattle.joutput.specs.declared.jtrace.event.End.{End}
use Rattle.joutput.specs.declared.jtrace.fault.RunFault.{RunFault}
use Rattle.jlib.specs.declared.side.Side.TheVariants.{Passing}
use Rattle.jlinking.specs.jlink.LinkedPrograms.{Links}
use Rattle.jresolution.specs.jprogram.ProgramClasses.{Program}
use Rattle.jrewriting.specs.jrewrite.LinkageLaws.{IsLinked}
use Rattle.jtyping.specs.jwelltyped.VerifierTests.{WellTyped}
use Rattle.jrewriting.specs.jrewrite.RewrittenPrograms.{limits, moved}
use Rattle.jsemantics.specs.jmachine.RunTraces.{Run, ending, run_text}

-- The call wrote all lines of a run and answered how it ended; at a fault it wrote a front of them.
abbrev pub Tells : {S : Type 0} → Run S → Result End RunFault → Option (List ℕ) → Option (List ℕ) → Type 0
Tells r (Ok end) old new = (end ≡ ending r) × (new ≡ appended old (run_text r))
Tells r (Err fault) old new = IsCut old new (run_text r)

-- A program links, is well typed and breaks no limit, and the other one is what it is moved to.
pub record IsMoved (p q : Program) : Type 0 where
  pub linked : IsLinked p
  pub typed : WellTyped p
  pub small : limits p ≡ None
  pub moved : moved p ≡ q

-- A program passes the checker on the passing side: it links there, and is well typed.
pub record PassesChecker (q : Program) : Type 0 where
  pub side : q.side ≡ Passing
  pub links : Links q
  pub typed : WellTyped q

-- ---- which steps of a run are spoken of, where m steps of a slower one are made

-- some k, no more than m; and where the run goes on behind them, m is near
abbrev pub AfterSome : {S : Type 0} → (ℕ → Run S) → ℕ → (Run S → Type 0) → Type 0
AfterSome run m says = (k : ℕ) × (k ≤ m) × ((run k).end ≡ None → m ≤ 8 * k + 15) × says (run k)

-- each n after which it has ended, where m is enough
abbrev pub OnceEnded : {S : Type 0} → (ℕ → Run S) → ℕ → (Run S → Type 0) → Type 0
OnceEnded run m says = (n : ℕ) (end : End) → (run n).end ≡ Some end → 8 * n + 8 ≤ m → says (run n)
