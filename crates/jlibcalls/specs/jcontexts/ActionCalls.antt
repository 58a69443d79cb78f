-- What a step comes to that calls an action with a privilege, and one that raises an exception in place of that (class documentation of
-- AccessController).
use Rattle.std.specs.Prelude.{◌≡◌, ◌<◌, ◌++◌, ⊤, ℕ, List, [], ◌∷◌, drop, take, Option, Some, option_map, option_to_list}
use Rattle.jlib.specs.declared.classes.LibClass.TheVariants as lib
use Rattle.jlib.specs.declared.classes.Thrown.{Thrown as ThrownClass}
use Rattle.jvalues.specs.declared.jops.value.Value.{Value}
use Rattle.jvalues.specs.declared.jops.value.Value.TheVariants.{Ctx, Ref}
use Rattle.jresolution.specs.jprogram.ProgramClasses.{Program}
use Rattle.jtypes.specs.declared.vtype.VType.TheVariants as types
use Rattle.jsemantics.specs.declared.jmachine.plan.Plan.{Plan}
use Rattle.jsemantics.specs.jmachine.MachineStates.{NoStep, Outcome, Row, State, gives, raises}
use Rattle.jsemantics.specs.jmachine.CallTargets.{Pushes}
use Rattle.jsemantics.specs.jmachine.PrivilegeActions.{acting}
use Rattle.jsemantics.specs.jmachine.Security.{Rules}
use Rattle.jsemantics.specs.jmachine.MachineSteps.{went}
use Rattle.jruntime.specs.jstate.FrameLists.{Framed, all, holding}
use Rattle.jrows.specs.declared.jcalls.calls.Callee.{Callee}
use Rattle.jrows.specs.jcalls.MethodCalls.{IsCallee, stepped}
use Rattle.jrows.specs.jcalls.FrameMarks.{AreStanding, Stand}
use Rattle.jrows.specs.jcalls.Throws.{raising}
use Rattle.jlibcalls.specs.declared.jcontexts.acting.Acted.{Acted}
use Rattle.jlibcalls.specs.declared.jcontexts.acting.Acted.TheVariants as ways

-- what the action's `run` is given: the context of the privilege, if there is one, and the action, the newest first
abbrev pub handed_on : Option ℕ → ℕ → List (Value ℕ)
handed_on ctx n = option_to_list (option_map Ctx ctx) ++ Ref n ∷ []

-- The thread goes on with these frames, or there is no step.
abbrev pub ActedAs : {E : Type 0} → Rules ℕ E → Program → Plan → State ℕ E → Acted → Framed E → Outcome (State ℕ E) → Type 0
ActedAs r p plan s ways.Begun g outcome = outcome ≡ went r p plan s (all g) s.store []
ActedAs r p plan s ways.Stuck g outcome = outcome ≡ NoStep

-- A method was called as the `run` of an action with a privilege, where so many operands of the call were there, and these frames were
-- left: the step is the one whose row calls it.
abbrev pub CallsAction : {E : Type 0} → Callee E → (action : ℕ) (caller : E) → Option ℕ → (count : ℕ) → Framed E → Acted → Framed E → Type 0
CallsAction {E} c n caller ctx count f way g = (r : Rules ℕ E) (p : Program) (plan : Plan) (s : State ℕ E) (row : List (Value ℕ) → Option (Row ℕ E))
    → IsCallee r.entry_of p c → row (take count f.newest.operands) ≡ acting n (record { caller = caller; context = ctx }) (Pushes c.method)
    → ActedAs r p plan s way g (stepped r p plan s f count row)

-- Where frames stood, and the method is of one of their classes, they stand between steps, with the new one.
abbrev pub ActsStanding : {E : Type 0} → Callee E → Framed E → Acted → Framed E → Type 0
ActsStanding c f ways.Begun g = (classes : ℕ) → c.method.class < classes → Stand classes (all f) → AreStanding classes g
ActsStanding c f ways.Stuck g = ⊤

-- A value was given in the place of so many operands: the step is the one whose row gives it.
abbrev pub GivesOne : {E : Type 0} → Value ℕ → (count : ℕ) → Framed E → Framed E → Type 0
GivesOne {E} v count f g = (r : Rules ℕ E) (p : Program) (plan : Plan) (s : State ℕ E) (row : List (Value ℕ) → Option (Row ℕ E))
    → row (take count f.newest.operands) ≡ Some (gives s.store (v ∷ [])) → stepped r p plan s f count row ≡ went r p plan s (all g) s.store []

-- ---- the law

-- What raises an exception raises it in frames whose operands of the call are gone.
abbrev pub RaisesSteps : Type 0 → Type 0
RaisesSteps E = (r : Rules ℕ E) (p : Program) (plan : Plan) (s : State ℕ E) (f : Framed E) (count : ℕ) (class : ThrownClass)
    (row : List (Value ℕ) → Option (Row ℕ E))
    → row (take count f.newest.operands) ≡ Some (raises (lib.Thrown class))
    → stepped r p plan s f count row ≡ raising r p plan s (all (holding (drop count f.newest.operands) f)) [] (lib.Thrown class)
