-- What stands behind a row of a call, of which it is told what is to be done.
use Rattle.std.specs.Prelude.{◌≡◌, ⊤, ℕ, List, [], Some}
use Rattle.joutput.specs.declared.jtrace.event.End.TheVariants.{HeapFull}
use Rattle.joutput.specs.declared.jtrace.event.Event.{Event}
use Rattle.jresolution.specs.jprogram.ProgramClasses.{Program}
use Rattle.jsemantics.specs.declared.jmachine.plan.Plan.{Plan}
use Rattle.jsemantics.specs.jmachine.MachineStates.{NoStep, Outcome, Over, State}
use Rattle.jsemantics.specs.jmachine.Security.{Rules}
use Rattle.jsemantics.specs.jmachine.MachineSteps.{went}
use Rattle.jsemantics.specs.jmachine.Store.{Store}
use Rattle.jruntime.specs.declared.jrun.came.Came.{Came}
use Rattle.jruntime.specs.jstate.FrameLists.{Framed, all}
use Rattle.jrows.specs.declared.jacts.way.Way.{Way}
use Rattle.jrows.specs.declared.jacts.way.Way.TheVariants as ways
use Rattle.jrows.specs.jcalls.MethodCalls.{IsThrown}
use Rattle.jrows.specs.jcalls.Throws.{raising}
use Rattle.jruntime.specs.jguests.GuestThreads.{Lives}
use Rattle.jstepping.specs.declared.jcore.machine.Machine.{Machine}
use Rattle.jstepping.specs.jcore.MachineOutcomes.{IsBehind, Leads}
use Rattle.jstepping.specs.jcore.MidStepMachines.{RunsStanding}
use Rattle.jstepping.specs.jcore.MachineInvariants.{IsMachine, IsReady, store_of}

-- What a step comes to of which this is to be done, and that has told this and left these frames and this store.
abbrev pub WentAs : {E : Type 0} → Rules ℕ E → Program → Plan → State ℕ E → Way → List Event → Framed E → Store ℕ → Outcome (State ℕ E) → Type 0
WentAs r p plan s ways.Went told g t outcome = outcome ≡ went r p plan s (all g) t told
WentAs r p plan s (ways.Raises class) told g t outcome = (s.store ≡ t) × (outcome ≡ raising r p plan s (all g) told class)
WentAs r p plan s (ways.Throws n) told g t outcome = ⊥
WentAs r p plan s ways.Full told g t outcome = outcome ≡ Over s [] HeapFull
WentAs r p plan s ways.Stuck told g t outcome = outcome ≡ NoStep

-- Such a step came to this.
abbrev pub Settles : {E : Type 0} → Machine E → Way → List Event → Came → Machine E → Type 0
Settles {E} m way told came n = (s : State ℕ E) (g : Framed E) → IsBehind m s → m.guests.running.frames ≡ Some g
    → Leads m (λ r outcome. WentAs r m.calls m.plan.now s way told g (store_of m) outcome) came n

-- An exception may be raised in the running thread, of a class of what can be thrown.
pub record MayRaise {E : Type 0} (m : Machine E) : Type 0 where
  pub machine : IsMachine m
  pub lives : Lives m.guests
  pub runs : RunsStanding m

-- What the row left is such that this can be done.
abbrev pub IsLeft : {E : Type 0} → Machine E → Way → Type 0
IsLeft m ways.Went = IsReady m
IsLeft m (ways.Raises class) = IsThrown class × MayRaise m
IsLeft m (ways.Throws n) = ⊥
IsLeft m ways.Full = ⊤
IsLeft m ways.Stuck = ⊤
