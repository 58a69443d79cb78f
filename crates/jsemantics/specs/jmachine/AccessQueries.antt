-- What a step asks of access control: at most one thing, exactly where its call of the library passes its own tests; and what is answered.
use Rattle.std.specs.Prelude.{◌≡◌, ℕ, List, [], ◌∷◌, map, Option, Some, None, IfSome, option_map, option_and_then}
use Rattle.std.specs.Int.{w32, cast_unsigned}
use Rattle.jperm.specs.declared.permission.Permission as perms
use Rattle.jdomain.specs.declared.verdict.Verdict.{Verdict}
use Rattle.jlib.specs.declared.side.Side.{Side}
use Rattle.jlib.specs.declared.side.Side.TheVariants.{Source, Passing}
use Rattle.jlib.specs.declared.calls.ControllerCall.{ControllerCall}
use Rattle.jlib.specs.declared.calls.ControllerCall.TheVariants as controller
use Rattle.jlib.specs.declared.calls.LibCall.{LibCall}
use Rattle.jlib.specs.declared.calls.LibCall.TheVariants as calls
use Rattle.jlib.specs.declared.calls.RtCall.{RtCall}
use Rattle.jlib.specs.declared.calls.RtCall.TheVariants as rt
use Rattle.jlib.specs.declared.calls.ThreadCall.{ThreadCall}
use Rattle.jlib.specs.declared.calls.ThreadCall.TheVariants as threads
use Rattle.jvalues.specs.declared.jops.value.Value.{Value}
use Rattle.jvalues.specs.declared.jops.value.Value.TheVariants.{Int, Ref, Ctx}
use Rattle.jresolution.specs.jprogram.ProgramClasses.{Program}
use Rattle.jresolution.specs.declared.juses.meaning.InvokeKind.{InvokeKind}
use Rattle.jresolution.specs.declared.juses.meaning.InvokeKind.TheVariants as how
use Rattle.jresolution.specs.juses.IndexedInstructions.{Instruction, Used}
use Rattle.jresolution.specs.juses.InstructionMeanings as meanings
use Rattle.jresolution.specs.juses.InstructionMeanings.{CallMeaning}
use Rattle.jtyping.specs.jrule.PoolEffects.{of_call}
use Rattle.jsemantics.specs.declared.jmachine.plan.Plan.{Plan}
use Rattle.jsemantics.specs.jmachine.MachineStates.{FrameOf, State}
use Rattle.jsemantics.specs.jmachine.AccessCallRows.{domain_of}
use Rattle.jsemantics.specs.jmachine.CallTargets.{Target, Fails, Pushes, Runs, by_interface, init_taken, target}
use Rattle.jsemantics.specs.jmachine.StateMaps.{privilege_map}
use Rattle.jsemantics.specs.jmachine.HeapObjects.{Object, Thread}
use Rattle.jsemantics.specs.jmachine.TakenOperands.{Taken, taken}
use Rattle.jsemantics.specs.jmachine.PrivilegeActions.{given, limits, run_action}
use Rattle.jsemantics.specs.jmachine.Security.{Privilege, Rules, kept_in, permission_in}
use Rattle.jsemantics.specs.jmachine.InstructionSites.{Site}
use Rattle.jsemantics.specs.jmachine.MachineSteps.{fetched, site_of}
use Rattle.jsemantics.specs.jmachine.Store.{Store, object_at, object_of}
use Rattle.jsemantics.specs.jmachine.World.{world}

-- ---- asks and answers

-- what is asked, with the context that the call was given, on the passing side
pub data Ask (K : Type 0) : Type 0 where
  -- whether a permission is granted
  Checks : perms.Permission → (ctx : Option K) → Ask K
  -- whether what is kept grants it
  ChecksKept : perms.Permission → K → Ask K
  -- what getContext keeps
  Snapshots : (ctx : Option K) → Ask K
  -- what a thread keeps that is made
  Inherits : (ctx : Option K) → Ask K
  -- the context of a method of a domain that was called with a context
  Enters : K → (domain : ℕ) → Ask K
  -- what becomes of a privilege: the domain, where it is told, the context that is given with the action, and limits
  Privileges : (domain : Option ℕ) (ctx given : Option K) → Option (List perms.Permission) → Ask K

pub data Answer (K E : Type 0) : Type 0 where
  Decided : Verdict → Answer K E
  Kept : K → Answer K E
  Entered : K → Answer K E
  Allowed : Privilege K E → Answer K E

-- what rules answer, by what the thread's frames carry, the newest first, and by what the thread inherited
abbrev pub answer : {K E : Type 0} → Rules K E → List E → Option K → Ask K → Answer K E
answer r entries inherited (Checks asked ctx) = Decided (r.check asked ctx entries inherited)
answer r entries inherited (ChecksKept asked k) = Decided (r.check_kept asked k)
answer r entries inherited (Snapshots ctx) = Kept (r.snapshot ctx entries inherited)
answer r entries inherited (Inherits ctx) = Kept (r.inherit ctx entries inherited)
answer r entries inherited (Enters k domain) = Entered (r.enter k domain)
answer r entries inherited (Privileges domain ctx context limited) = Allowed (r.privileged domain ctx context limited entries)

-- ---- what a call of the library asks

module _ {K : Type 0} (side : Side) (at : Site) (s : Store K) where
  -- a permission that is null isn't asked for
  abbrev pub checks : (perms.Permission → Ask K) → Value K → Option (Ask K)
  checks ask v = option_map ask (permission_in (object_of s v))

  -- where the action's `run` is called
  abbrev pub where_run : Ask K → Option Target → Option (Ask K)
  where_run ask (Some (Pushes m)) = Some ask
  where_run ask t = None

  abbrev pub action_of : Value K → Option Target
  action_of v = option_map (by_interface at.world at.full (run_action side)) (object_of s v)

  abbrev pub privileges : Option ℕ → Option K → Option (List perms.Permission) → Value K → Option K → Option (Ask K)
  privileges domain ctx limited v context = where_run (Privileges domain ctx context limited) (action_of v)

  abbrev pub privileges_within : Option ℕ → Option K → Option (List perms.Permission) → Value K → Value K → Option (Ask K)
  privileges_within domain ctx limited context v = option_and_then (privileges domain ctx limited v) (given s context)

  -- limits that are null, or have an item that is null, ask nothing
  abbrev pub privileges_by : Option ℕ → Option K → Value K → Value K → Option (List perms.Permission) → Option (Ask K)
  privileges_by domain ctx context v None = None
  privileges_by domain ctx context v (Some ps) = privileges_within domain ctx (Some ps) context v

  abbrev pub privileges_limited : Option ℕ → Option K → Value K → Value K → Value K → Option (Ask K)
  privileges_limited domain ctx array context v = option_and_then (privileges_by domain ctx context v) (limits s array)

  unfoldable pub controller_asks : ControllerCall → List (Value K) → Option (Ask K)
  controller_asks controller.Check (v ∷ []) = checks (λ asked. Checks asked None) v
  controller_asks controller.Snapshot [] = Some (Snapshots None)
  controller_asks controller.Privileged (v ∷ []) = privileges None None None v None
  controller_asks controller.PrivilegedWith (context ∷ v ∷ []) = privileges_within None None None context v
  controller_asks controller.PrivilegedLimited (array ∷ context ∷ v ∷ []) = privileges_limited None None array context v
  controller_asks call values = None

  abbrev pub checks_kept : Value K → Option K → Option (Ask K)
  checks_kept v None = None
  checks_kept v (Some k) = checks (λ asked. ChecksKept asked k) v

  unfoldable pub context_asks : List (Value K) → Option (Ask K)
  context_asks (v ∷ Ref n ∷ []) = checks_kept v (kept_in (object_at s n))
  context_asks values = None

  -- a Thread's constructor asks where it is one
  abbrev pub inherits : Option K → Option (Object K) → Option (Ask K)
  inherits ctx (Some (Thread number)) = Some (Inherits ctx)
  inherits ctx x = None

  unfoldable pub thread_asks : ThreadCall → List (Value K) → Option (Ask K)
  thread_asks (threads.Init Source) (Ref runnable ∷ Ref n ∷ []) = inherits None (object_at s n)
  thread_asks (threads.Init Passing) (Ctx k ∷ Ref runnable ∷ Ref n ∷ []) = inherits (Some k) (object_at s n)
  thread_asks call values = None

  unfoldable pub rt_asks : RtCall → List (Value K) → Option (Ask K)
  rt_asks rt.Enter (Int d ∷ Ctx k ∷ []) = Some (Enters k (cast_unsigned w32 d))
  rt_asks rt.Check (Ctx k ∷ v ∷ []) = checks (λ asked. Checks asked (Some k)) v
  rt_asks rt.Snapshot (Ctx k ∷ []) = Some (Snapshots (Some k))
  rt_asks rt.Privileged (Int d ∷ v ∷ []) = privileges (domain_of d) None None v None
  rt_asks rt.PrivilegedWith (Int d ∷ context ∷ v ∷ []) = privileges_within (domain_of d) None None context v
  rt_asks rt.PrivilegedLimited (Int d ∷ Ctx k ∷ array ∷ context ∷ v ∷ []) = privileges_limited (domain_of d) (Some k) array context v
  rt_asks call values = None

  abbrev pub run_asks : LibCall → List (Value K) → Option (Ask K)
  run_asks (calls.Controller call) values = controller_asks call values
  run_asks (calls.Rt call) values = rt_asks call values
  run_asks (calls.Thread call) values = thread_asks call values
  run_asks calls.ContextCheck values = context_asks values
  run_asks call values = None

  -- ---- what an instruction asks

  abbrev pub called_asks : List (Value K) → Target → Option (Ask K)
  called_asks values (Fails class) = None
  called_asks values (Pushes m) = None
  called_asks values (Runs call) = run_asks call values

  abbrev pub call_asks : InvokeKind → CallMeaning → List (Value K) → Option (Ask K)
  call_asks by c values = option_and_then (called_asks values) (target at s by c values)

  -- the operands of a call
  abbrev pub call_taken : InvokeKind → CallMeaning → List (Value K) → Option (Taken K)
  call_taken how.Init c operands = init_taken at.world s c operands
  call_taken by c operands = taken at.world s (of_call (at.world.named at.class) by c).takes operands

  unfoldable pub used_asks : InvokeKind → CallMeaning → List (Value K) → Option (Ask K)
  used_asks by c operands = option_and_then (λ t. call_asks by c t.values) (call_taken by c operands)

  abbrev pub instruction_asks : Instruction → List (Value K) → Option (Ask K)
  instruction_asks (Used (meanings.Call by c)) operands = used_asks by c operands
  instruction_asks i operands = None

-- ---- what a step asks

module _ {K E : Type 0} (side : Side) (p : Program) (plan : Plan) (s : State K E) where
  abbrev pub asked_by : FrameOf K E → List (FrameOf K E) → Option Instruction → Option (Ask K)
  asked_by f below None = None
  asked_by f below (Some i) = instruction_asks side (site_of p plan s f below) s.store i f.operands

  abbrev pub asked_on : List (FrameOf K E) → Option (Ask K)
  asked_on [] = None
  asked_on (f ∷ below) = asked_by f below (fetched p f.method f.place)

-- by the newest frame's instruction
unfoldable pub asks : {K E : Type 0} → Side → Program → Plan → State K E → Option (Ask K)
asks side p plan s = asked_on side p plan s s.running.frames

-- what the frames of the running thread carry, the newest first
abbrev pub carried : {K E : Type 0} → State K E → List E
carried s = map (λ f. f.entry) s.running.frames

-- what a machine with these rules is answered in a state
abbrev pub answer_in : {K E : Type 0} → Rules K E → State K E → Ask K → Answer K E
answer_in r s ask = answer r (carried s) s.running.inherited ask

-- ---- what corresponds

abbrev pub ask_map : {K L : Type 0} → (K → L) → Ask K → Ask L
ask_map f (Checks asked ctx) = Checks asked (option_map f ctx)
ask_map f (ChecksKept asked k) = ChecksKept asked (f k)
ask_map f (Snapshots ctx) = Snapshots (option_map f ctx)
ask_map f (Inherits ctx) = Inherits (option_map f ctx)
ask_map f (Enters k domain) = Enters (f k) domain
ask_map f (Privileges domain ctx context limited) = Privileges domain (option_map f ctx) (option_map f context) limited

abbrev pub answer_map : {K L E F : Type 0} → (K → L) → (E → F) → Answer K E → Answer L F
answer_map f g (Decided v) = Decided v
answer_map f g (Kept k) = Kept (f k)
answer_map f g (Entered k) = Entered (f k)
answer_map f g (Allowed p) = Allowed (privilege_map f g p)

-- two machines' rules answer this ask alike
abbrev pub AgreeAt : {K L E F : Type 0} → (K → L) → (E → F) → Rules K E → Rules L F → List E → Option K → Ask K → Type 0
AgreeAt f g r q entries inherited ask = answer_map f g (answer r entries inherited ask)
    ≡ answer q (map g entries) (option_map f inherited) (ask_map f ask)

-- they do where anything is asked
abbrev pub AgreeWhere : {K L E F : Type 0} → (K → L) → (E → F) → Rules K E → Rules L F → List E → Option K → Option (Ask K) → Type 0
AgreeWhere f g r q entries inherited asked = IfSome asked (AgreeAt f g r q entries inherited)
