-- What a call of the library checks: a permission, by the thread that runs, or by what an AccessControlContext keeps (class documentation of
-- AccessController and of AccessControlContext).
use Rattle.std.specs.Prelude.{◌≡◌, ⊤, ℕ, List, take, Option, Some, None}
use Rattle.jperm.specs.declared.permission.Permission as perms
use Rattle.jdomain.specs.declared.verdict.Verdict.{Verdict}
use Rattle.jlib.specs.declared.calls.ControllerCall.TheVariants as controller
use Rattle.jlib.specs.declared.calls.LibCall.{LibCall}
use Rattle.jlib.specs.declared.calls.LibCall.TheVariants as calls
use Rattle.jlib.specs.declared.calls.RtCall.TheVariants as rt
use Rattle.jvalues.specs.declared.jops.value.Value.{Value}
use Rattle.jvalues.specs.declared.jops.value.Value.TheVariants.{Ctx}
use Rattle.jsemantics.specs.jmachine.MachineStates.{Row}
use Rattle.jsemantics.specs.jmachine.AccessQueries.{Ask, Checks, ChecksKept, checks}
use Rattle.jsemantics.specs.jmachine.InstructionActions.{run}
use Rattle.jsemantics.specs.jmachine.Security.{Rules, checked}
use Rattle.jsemantics.specs.jmachine.InstructionSites.{Site}
use Rattle.jsemantics.specs.jmachine.MachineSteps.{entries, own_fields, site, site_of}
use Rattle.jruntime.specs.jstate.FrameLists.{Framed, all}
use Rattle.jstepping.specs.declared.jcore.machine.Machine.{Machine}
use Rattle.jstepping.specs.jcore.AnsweredCalls.{asked_of}
use Rattle.jstepping.specs.jcore.MachineInvariants.{state_of, store_of}
use Rattle.jcalling.specs.declared.jcallcheck.finding.Check.{Check}
use Rattle.jcalling.specs.declared.jcallcheck.finding.CheckSubject.{CheckSubject}
use Rattle.jcalling.specs.declared.jcallcheck.finding.CheckSubject.TheVariants as whom

-- AccessController's checkPermission, on either side
abbrev pub IsCheck : LibCall → Type 0
IsCheck (calls.Controller controller.Check) = ⊤
IsCheck (calls.Rt rt.Check) = ⊤
IsCheck call = ⊥

-- ---- what is asked

abbrev pub ask_by : CheckSubject → perms.Permission → Ask ℕ
ask_by (whom.Thread ctx) asked = Checks asked ctx
ask_by (whom.Kept number) asked = ChecksKept asked number

-- what rules decide, by what a thread's frames carry and by what it inherited
abbrev pub verdict_by : {E : Type 0} → Rules ℕ E → List E → Option ℕ → CheckSubject → perms.Permission → Verdict
verdict_by r es inherited (whom.Thread ctx) asked = r.check asked ctx es inherited
verdict_by r es inherited (whom.Kept number) asked = r.check_kept asked number

-- the context that a value is, if it is one
abbrev pub context_in : Value ℕ → Option ℕ
context_in (Ctx k) = Some k
context_in v = None

-- ---- a call

module _ {E : Type 0} (m : Machine E) (f : Framed E) where
  -- where it stands
  abbrev pub here : Site
  here = site_of m.calls m.plan.now (state_of m) f.newest f.below

  -- its row
  abbrev pub row_of : LibCall → Rules ℕ E → List (Value ℕ) → Option (Row ℕ E)
  row_of call r =
      run r (site r m.calls m.plan.now (state_of m) f.newest f.below) (own_fields m.calls f.newest.method) (store_of m)
      (entries r m.calls m.plan.now (state_of m) (all f)) m.guests.running.inherited call

-- It asks what its check asks, and does what that comes to.
pub record Finds {E : Type 0} (m : Machine E) (f : Framed E) (call : LibCall) (count : ℕ) (c : Check) : Type 0 where
  pub asked : asked_of m f call count ≡ checks m.side (here m f) (store_of m) (ask_by c.whom) c.operand
  pub row : (r : Rules ℕ E) → row_of m f call r (take count f.newest.operands)
      ≡ checked (here m f) (store_of m)
      (λ one. verdict_by r (entries r m.calls m.plan.now (state_of m) (all f)) m.guests.running.inherited c.whom one) c.operand

-- It asks nothing, and has no step.
pub record FindsNothing {E : Type 0} (m : Machine E) (f : Framed E) (call : LibCall) (count : ℕ) : Type 0 where
  pub asked : asked_of m f call count ≡ None
  pub row : (r : Rules ℕ E) → row_of m f call r (take count f.newest.operands) ≡ None

-- What a call checks of the running thread was found, or there is nothing.
abbrev pub Found : {E : Type 0} → Machine E → LibCall → ℕ → Option Check → Type 0
Found {E} m call count None = (f : Framed E) → m.guests.running.frames ≡ Some f → FindsNothing m f call count
Found {E} m call count (Some c) = (f : Framed E) → m.guests.running.frames ≡ Some f → Finds m f call count c
