-- Laws: what a row does doesn't depend on what is kept, nor on what frames carry. So a machine by numbers, one by stacks and one by
-- contexts do the same.
use Rattle.std.specs.Prelude.{◌≡◌, ℕ, ℤ, List, map, Option, None}
use Rattle.std.specs.Option.{option_map}
use Rattle.jvalues.specs.declared.jnames.names.Shuffle.{Shuffle}
use Rattle.jvalues.specs.declared.jops.value.Value.{Value}
use Rattle.jparts.specs.declared.jcode.names.CastOp.{CastOp}
use Rattle.jparts.specs.declared.jcode.names.FieldOp.{FieldOp}
use Rattle.jparts.specs.declared.jcode.op_form.ArrayForm.{ArrayForm}
use Rattle.jparts.specs.declared.jcode.op_form.LocalForm.{LocalForm}
use Rattle.jparts.specs.declared.jcode.op_form.Simple.{Simple}
use Rattle.jperm.specs.declared.permission.Permission.{Permission}
use Rattle.jlib.specs.declared.calls.LibCall.{LibCall}
use Rattle.jlib.specs.declared.side.Side.{Side}
use Rattle.jtypes.specs.declared.vtype.Name.{Name}
use Rattle.jtypes.specs.declared.vtype.VType.{VType}
use Rattle.jresolution.specs.declared.jprogram.member.Member.{Member}
use Rattle.jresolution.specs.declared.jprogram.member.MethodId.{MethodId}
use Rattle.jresolution.specs.jprogram.ProgramClasses.{Program}
use Rattle.jresolution.specs.declared.juses.meaning.InvokeKind.{InvokeKind}
use Rattle.jresolution.specs.juses.IndexedInstructions.{Test}
use Rattle.jresolution.specs.juses.InstructionMeanings.{CallMeaning, Pushed}
use Rattle.jtyping.specs.jrule.StackEffects.{Want}
use Rattle.jsemantics.specs.declared.jmachine.plan.Plan.{Plan}
use Rattle.jsemantics.specs.jmachine.MachineStates.{FrameOf, Row, State}
use Rattle.jsemantics.specs.jmachine.ArrayInstructions as arrays
use Rattle.jsemantics.specs.jmachine.AccessQueries.{Ask, AgreeAt, AgreeWhere, ask_map, asks, carried}
use Rattle.jsemantics.specs.jmachine.CallTargets.{init_taken, target}
use Rattle.jsemantics.specs.jmachine.FieldInstructions.{field}
use Rattle.jsemantics.specs.jmachine.LibraryCalls.{library}
use Rattle.jsemantics.specs.jmachine.Machine.{run}
use Rattle.jsemantics.specs.jmachine.ObjectInstructions.{cast, make, push}
use Rattle.jsemantics.specs.jmachine.StateMaps.{frames_map, held_map, outcome_map, privilege_map, row_map, run_map, state_map, store_map, taken_map, values_map}
use Rattle.jsemantics.specs.jmachine.OpeningState.{opening_state}
use Rattle.jsemantics.specs.jmachine.TakenOperands.{taken}
use Rattle.jsemantics.specs.jmachine.Security.{Rules}
use Rattle.jsemantics.specs.jmachine.InstructionSites.{Site}
use Rattle.jsemantics.specs.jmachine.MachineSteps.{applied, step}
use Rattle.jsemantics.specs.jmachine.Store.{Store}
use Rattle.jsemantics.specs.jmachine.BasicInstructions.{Held, jump, local, simple, stack, switch, throw}
use Rattle.jsemantics.specs.jmachine.World.{World}

abbrev pub TakesAlike : Type 0 → Type 0 → Type 0
TakesAlike K L = (f : K → L) (w : World) (s : Store K) (wants : List Want) (operands : List (Value K))
    → option_map (taken_map f) (taken w s wants operands) ≡ taken w (store_map f s) wants (values_map f operands)

abbrev pub SimpleAlike : Type 0 → Type 0 → Type 0 → Type 0 → Type 0
SimpleAlike K L E F = (f : K → L) (g : E → F) (s : Store K) (form : Simple) (values : List (Value K))
    → option_map (row_map f g) (simple s form values) ≡ simple (store_map f s) form (values_map f values)

abbrev pub JumpAlike : Type 0 → Type 0 → Type 0 → Type 0 → Type 0
JumpAlike K L E F = (f : K → L) (g : E → F) (s : Store K) (test : Test) (to : ℕ) (values : List (Value K))
    → option_map (row_map f g) (jump s test to values) ≡ jump (store_map f s) test to (values_map f values)

abbrev pub SwitchAlike : Type 0 → Type 0 → Type 0 → Type 0 → Type 0
SwitchAlike K L E F = (f : K → L) (g : E → F) (cases : List (ℤ × ℕ)) (other : ℕ) (values : List (Value K))
    → option_map (row_map f g) (switch cases other values) ≡ switch cases other (values_map f values)

abbrev pub ThrowAlike : Type 0 → Type 0 → Type 0 → Type 0 → Type 0
ThrowAlike K L E F = (f : K → L) (g : E → F) (values : List (Value K)) → option_map (row_map f g) (throw values) ≡ throw (values_map f values)

abbrev pub LocalAlike : Type 0 → Type 0 → Type 0
LocalAlike K L = (f : K → L) (form : LocalForm) (h : Held K) → option_map (held_map f) (local form h) ≡ local form (held_map f h)

abbrev pub StackAlike : Type 0 → Type 0 → Type 0
StackAlike K L = (f : K → L) (op : Shuffle) (h : Held K) → option_map (held_map f) (stack op h) ≡ stack op (held_map f h)

-- ---- arrays, fields and objects

abbrev pub ArrayAlike : Type 0 → Type 0 → Type 0 → Type 0 → Type 0
ArrayAlike K L E F = (f : K → L) (g : E → F) (w : World) (s : Store K) (form : ArrayForm) (values : List (Value K))
    → option_map (row_map f g) (arrays.array w s form values) ≡ arrays.array w (store_map f s) form (values_map f values)

abbrev pub MakeArrayAlike : Type 0 → Type 0 → Type 0 → Type 0 → Type 0
MakeArrayAlike K L E F = (f : K → L) (g : E → F) (s : Store K) (t : VType) (values : List (Value K))
    → option_map (row_map f g) (arrays.make s t values) ≡ arrays.make (store_map f s) t (values_map f values)

abbrev pub FieldAlike : Type 0 → Type 0 → Type 0 → Type 0 → Type 0
FieldAlike K L E F = (f : K → L) (g : E → F) (w : World) (s : Store K) (op : FieldOp) (m : Member) (values : List (Value K))
    → option_map (row_map f g) (field w s op m values) ≡ field w (store_map f s) op m (values_map f values)

abbrev pub PushAlike : Type 0 → Type 0 → Type 0 → Type 0 → Type 0
PushAlike K L E F = (f : K → L) (g : E → F) (s : Store K) (constant : Pushed) (values : List (Value K))
    → option_map (row_map f g) (push s constant values) ≡ push (store_map f s) constant (values_map f values)

abbrev pub MakeAlike : Type 0 → Type 0 → Type 0 → Type 0 → Type 0
MakeAlike K L E F = (f : K → L) (g : E → F) (w : World) (s : Store K) (c : Name) (values : List (Value K))
    → option_map (row_map f g) (make w s c values) ≡ make w (store_map f s) c (values_map f values)

abbrev pub CastAlike : Type 0 → Type 0 → Type 0 → Type 0 → Type 0
CastAlike K L E F = (f : K → L) (g : E → F) (w : World) (s : Store K) (op : CastOp) (t : VType) (values : List (Value K))
    → option_map (row_map f g) (cast w s op t values) ≡ cast w (store_map f s) op t (values_map f values)

-- ---- calls and the library

abbrev pub InitTakesAlike : Type 0 → Type 0 → Type 0
InitTakesAlike K L = (f : K → L) (w : World) (s : Store K) (c : CallMeaning) (operands : List (Value K))
    → option_map (taken_map f) (init_taken w s c operands) ≡ init_taken w (store_map f s) c (values_map f operands)

abbrev pub CallAlike : Type 0 → Type 0 → Type 0
CallAlike K L = (f : K → L) (at : Site) (s : Store K) (by : InvokeKind) (c : CallMeaning) (values : List (Value K))
    → target at s by c values ≡ target at (store_map f s) by c (values_map f values)

abbrev pub LibraryAlike : Type 0 → Type 0 → Type 0 → Type 0 → Type 0
LibraryAlike K L E F = (f : K → L) (g : E → F) (at : Site) (s : Store K) (call : LibCall) (values : List (Value K))
    → option_map (row_map f g) (library at s call values) ≡ library at (store_map f s) call (values_map f values)

-- ---- what a row makes of the frames and of the threads

-- frames of the methods of a domain carry what corresponds
abbrev pub EntriesAgree : {K L E F : Type 0} → (E → F) → Rules K E → Rules L F → Type 0
EntriesAgree g r q = (domain : ℕ) → g (r.entry_of domain) ≡ q.entry_of domain

abbrev pub AppliedAlike : Type 0 → Type 0 → Type 0 → Type 0 → Type 0
AppliedAlike K L E F = (f : K → L) (g : E → F) (r : Rules K E) (q : Rules L F) → EntriesAgree g r q
    → (p : Program) (plan : Plan) (s : State K E) (frames : List (FrameOf K E)) (row : Row K E)
    → outcome_map (state_map f g) (applied r p plan s frames row) ≡ applied q p plan (state_map f g s) (frames_map f g frames) (row_map f g row)

-- ---- steps

-- Two machines answer alike: what they keep and what their frames carry corresponds.
pub record RulesAgree {K L E F : Type 0} (f : K → L) (g : E → F) (r : Rules K E) (q : Rules L F) : Type 0 where
  pub side : r.side ≡ q.side
  pub entries : EntriesAgree g r q
  pub first : option_map f r.first ≡ q.first
  pub check : (asked : Permission) (ctx : Option K) (entries : List E) (inherited : Option K)
      → r.check asked ctx entries inherited ≡ q.check asked (option_map f ctx) (map g entries) (option_map f inherited)
  pub enter : (k : K) (domain : ℕ) → f (r.enter k domain) ≡ q.enter (f k) domain
  pub check_kept : (asked : Permission) (k : K) → r.check_kept asked k ≡ q.check_kept asked (f k)
  pub snapshot : (ctx : Option K) (entries : List E) (inherited : Option K)
      → f (r.snapshot ctx entries inherited) ≡ q.snapshot (option_map f ctx) (map g entries) (option_map f inherited)
  pub inherit : (ctx : Option K) (entries : List E) (inherited : Option K)
      → f (r.inherit ctx entries inherited) ≡ q.inherit (option_map f ctx) (map g entries) (option_map f inherited)
  pub privileged : (domain : Option ℕ) (ctx given : Option K) (limits : Option (List Permission)) (entries : List E)
      → privilege_map f g (r.privileged domain ctx given limits entries)
      ≡ q.privileged domain (option_map f ctx) (option_map f given) limits (map g entries)

-- Then they answer each ask alike,
abbrev pub AnswersAlike : Type 0 → Type 0 → Type 0 → Type 0 → Type 0
AnswersAlike K L E F = (f : K → L) (g : E → F) (r : Rules K E) (q : Rules L F) → RulesAgree f g r q
    → (entries : List E) (inherited : Option K) (ask : Ask K) → AgreeAt f g r q entries inherited ask

-- and take the same steps.
abbrev pub StepAlike : Type 0 → Type 0 → Type 0 → Type 0 → Type 0
StepAlike K L E F = (f : K → L) (g : E → F) (r : Rules K E) (q : Rules L F) → RulesAgree f g r q
    → (p : Program) (plan : Plan) (s : State K E) → outcome_map (state_map f g) (step r p plan s) ≡ step q p plan (state_map f g s)

-- For one step it is enough that they answer alike what it asks, if it asks anything,
abbrev pub StepAlikeAt : Type 0 → Type 0 → Type 0 → Type 0 → Type 0
StepAlikeAt K L E F = (f : K → L) (g : E → F) (r : Rules K E) (q : Rules L F) → r.side ≡ q.side → EntriesAgree g r q
    → (p : Program) (plan : Plan) (s : State K E) → AgreeWhere f g r q (carried s) s.running.inherited (asks r.side p plan s)
    → outcome_map (state_map f g) (step r p plan s) ≡ step q p plan (state_map f g s)

-- and where it asks nothing, that they are of one side and their frames carry what corresponds.
abbrev pub StepUnasked : Type 0 → Type 0 → Type 0 → Type 0 → Type 0
StepUnasked K L E F = (f : K → L) (g : E → F) (r : Rules K E) (q : Rules L F) → r.side ≡ q.side → EntriesAgree g r q
    → (p : Program) (plan : Plan) (s : State K E) → asks r.side p plan s ≡ None
    → outcome_map (state_map f g) (step r p plan s) ≡ step q p plan (state_map f g s)

-- What a step asks doesn't depend on what is kept, nor on what frames carry.
abbrev pub AsksAlike : Type 0 → Type 0 → Type 0 → Type 0 → Type 0
AsksAlike K L E F = (f : K → L) (g : E → F) (side : Side) (p : Program) (plan : Plan) (s : State K E)
    → option_map (ask_map f) (asks side p plan s) ≡ asks side p plan (state_map f g s)

-- Their runs begin in the same state where what `main` is given corresponds.
abbrev pub OpeningAlike : Type 0 → Type 0 → Type 0 → Type 0 → Type 0
OpeningAlike K L E F = (f : K → L) (g : E → F) (r : Rules K E) (q : Rules L F) → r.side ≡ q.side → EntriesAgree g r q → option_map f r.first ≡ q.first
    → (p : Program) (main : MethodId) (heap : ℕ) → state_map f g (opening_state r p main heap) ≡ opening_state q p main heap

-- The runs of machines that answer alike are the same: they tell the same, and end alike.
abbrev pub RunAlike : Type 0 → Type 0 → Type 0 → Type 0 → Type 0
RunAlike K L E F = (f : K → L) (g : E → F) (r : Rules K E) (q : Rules L F) → RulesAgree f g r q
    → (p : Program) (plan : Plan) (k : ℕ) → run_map (state_map f g) (run r p plan k) ≡ run q p plan k
