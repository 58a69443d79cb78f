-- What a step comes to that calls a method (JVMS 6.5: invokevirtual, invokespecial, invokestatic, invokeinterface), from the operands that
-- it takes and what is selected.
use Rattle.std.specs.Prelude.{◌≡◌, ◌<◌, ⊤, ℕ, zero, suc, Bool, List, [], ◌++◌, length, nat_le, take, drop, Option, Some, None, option_map, option_and_then, if◌then◌else◌}
use Rattle.jvalues.specs.declared.jops.value.Value.{Value}
use Rattle.jvalues.specs.declared.jops.value.Value.TheVariants.{Ref}
use Rattle.jmemory.specs.declared.jheap.cell.Kind.{Kind}
use Rattle.jmemory.specs.declared.jheap.cell.Kind.TheVariants as kinds
use Rattle.jmemory.specs.jheap.Heaps.{Heaped, kind_at}
use Rattle.jlib.specs.declared.calls.LibCall.{LibCall}
use Rattle.jlib.specs.declared.classes.LibClass.{LibClass}
use Rattle.jlib.specs.declared.classes.LibClass.TheVariants as lib
use Rattle.jlib.specs.declared.classes.Thrown.{Thrown as ThrownClass}
use Rattle.jtypes.specs.declared.vtype.Name.{Name}
use Rattle.jtypes.specs.declared.vtype.VType.TheVariants as types
use Rattle.jresolution.specs.declared.jprogram.member.CallKind.TheVariants as call_kinds
use Rattle.jresolution.specs.declared.jprogram.member.ClassId.{ClassId}
use Rattle.jresolution.specs.declared.jprogram.member.ClassId.TheVariants as id
use Rattle.jresolution.specs.declared.jprogram.member.Member.{Member}
use Rattle.jresolution.specs.declared.jprogram.member.Selected.{Selected}
use Rattle.jresolution.specs.declared.jprogram.member.Selected.TheVariants as selected
use Rattle.jresolution.specs.jprogram.ProgramClasses.{Program}
use Rattle.jresolution.specs.declared.juses.meaning.InvokeKind.{InvokeKind}
use Rattle.jresolution.specs.declared.juses.meaning.InvokeKind.TheVariants as how
use Rattle.jresolution.specs.juses.IndexedInstructions.{Used, code_at}
use Rattle.jresolution.specs.juses.InstructionMeanings.{Call, CallMeaning}
use Rattle.jtyping.specs.jrule.PoolEffects.{arguments, receiver as wanted_receiver}
use Rattle.jsemantics.specs.declared.jmachine.plan.Plan.{Plan}
use Rattle.jsemantics.specs.jmachine.MachineStates.{NoStep, Outcome, Row, State}
use Rattle.jsemantics.specs.jmachine.AccessQueries.{Ask, asked_by, called_asks, run_asks}
use Rattle.jsemantics.specs.jmachine.CallTargets.{Target, Runs, init_taken, is_hidden, reached, receiver, special, target}
use Rattle.jsemantics.specs.jmachine.InstructionActions.{called, run, with_row}
use Rattle.jsemantics.specs.jmachine.FrameOperations.{domain_of}
use Rattle.jsemantics.specs.jmachine.HeapObjects.{Object, class_of}
use Rattle.jsemantics.specs.jmachine.TakenOperands.{Taken, taken}
use Rattle.jsemantics.specs.jmachine.Security.{Rules}
use Rattle.jsemantics.specs.jmachine.MachineSteps.{done, entries, executed, own_fields, site, went}
use Rattle.jsemantics.specs.jmachine.Store.{Store, object_of}
use Rattle.jsemantics.specs.jmachine.World.{World, class_id, is_instance, world}
use Rattle.jruntime.specs.jstate.FrameLists.{Framed, all}
use Rattle.jruntime.specs.declared.jstate.shapes.Shapes.{Shapes}
use Rattle.jruntime.specs.jstate.ClassNumbers.{class_numbered}
use Rattle.jruntime.specs.jstate.HeapMeanings.{Things, store_by}
use Rattle.jrows.specs.declared.jcalls.calls.Called.{Called}
use Rattle.jrows.specs.declared.jcalls.calls.Called.TheVariants as ways
use Rattle.jrows.specs.declared.jcalls.calls.Callee.{Callee}
use Rattle.jrows.specs.declared.jcalls.calls.Selection.{Selection}
use Rattle.jrows.specs.declared.jcalls.calls.Selection.TheVariants as found
use Rattle.jrows.specs.declared.jcalls.receiver.Receiver.{Receiver}
use Rattle.jrows.specs.declared.jcalls.receiver.Receiver.TheVariants as receivers
use Rattle.jrows.specs.jcalls.FrameMarks.{AreStanding, Stand}
use Rattle.jrows.specs.jcalls.Throws.{raising}

-- ---- what is known of a method

-- what is said of a user's method is so: its locals, where it has code, and what its frames carry
pub record IsCallee {E : Type 0} (entry_of : ℕ → E) (p : Program) (c : Callee E) : Type 0 where
  pub code : option_map (λ body. body.max_locals) (code_at p c.method) ≡ (if c.has_code then Some c.most else None)
  pub mark : c.mark ≡ entry_of (domain_of p c.method)

-- what is said of what is selected is so
abbrev pub IsFound : {E : Type 0} → (ℕ → E) → Program → Selection E → Selected → Type 0
IsFound entry_of p (found.Method c) s = (s ≡ selected.Method c.method) × IsCallee entry_of p c
IsFound entry_of p (found.Lib call) s = s ≡ selected.Lib call
IsFound entry_of p found.Abstract s = (m : Member) × (s ≡ selected.Abstract m)
IsFound entry_of p found.Missing s = s ≡ selected.Missing

-- ---- the object

-- the class at which the methods of an object of the heap are looked for
abbrev pub id_by : Kind → ClassId
id_by (kinds.Object n) = class_id (class_numbered n)
id_by (kinds.Array a) = id.Array
id_by kinds.Text = id.Lib lib.String
id_by kinds.Piece = id.Lib lib.StringBuilder

abbrev pub found_as : Option Kind → Receiver
found_as None = receivers.Missing
found_as (Some kind) = receivers.Object kind

-- what the object of a call is
abbrev pub receiver_seen : Heaped → Option (Value ℕ) → Receiver
receiver_seen h (Some (Ref zero)) = receivers.Null
receiver_seen h (Some (Ref (suc o))) = found_as (kind_at h (suc o))
receiver_seen h v = receivers.Missing

-- what is selected where a method is called on an object of a class by a method of the class `this`
abbrev pub selected_on : World → ℕ → InvokeKind → CallMeaning → ClassId → Selected
selected_on w this how.Virtual c on = w.select on c.member call_kinds.Virtual
selected_on w this how.Interface c on = w.select on c.member call_kinds.Interface
selected_on w this how.Special c on = special w this c
selected_on w this by c on = w.itself c.member

-- ---- operands

-- the operands of a call, where they serve
abbrev pub call_taken : World → Store ℕ → Name → InvokeKind → CallMeaning → List (Value ℕ) → Option (Taken ℕ)
call_taken w s this how.Init c operands = init_taken w s c operands
call_taken w s this by c operands = taken w s (arguments c ++ wanted_receiver this by c.owner) operands

-- so many operands
abbrev pub took : ℕ → List (Value ℕ) → Taken ℕ
took count operands = record { values = take count operands; below = drop count operands }

-- ---- what a step comes to

-- what it comes to, what it asks of access control, and what a call of it reaches
pub record Came (E : Type 0) : Type 0 where
  pub outcome : Outcome (State ℕ E)
  pub asked : Option (Ask ℕ)
  pub reached : Option Target

module _ {E : Type 0} (r : Rules ℕ E) (p : Program) (plan : Plan) (s : State ℕ E) (f : Framed E) where
  -- what a step comes to by what is done with so many operands
  abbrev pub stepped : ℕ → (List (Value ℕ) → Option (Row ℕ E)) → Outcome (State ℕ E)
  stepped count row =
      let own = own_fields p f.newest.method in
      done r p plan s f.below
      (with_row r (site r p plan s f.newest f.below) own s.store (entries r p plan s (all f)) s.running.inherited f.newest row
      (took count f.newest.operands))

  -- by what a call comes to
  abbrev pub comes : ℕ → Target → Came E
  comes count t =
      let own = own_fields p f.newest.method in
      let at = site r p plan s f.newest f.below in
      record {
        outcome = stepped count (λ values. called r at own s.store (entries r p plan s (all f)) s.running.inherited values t);
        asked = called_asks r.side at s.store (take count f.newest.operands) t;
        reached = Some t;
      }

  -- by the library's member that runs with so many operands
  abbrev pub runs : ℕ → LibCall → Came E
  runs count call =
      let own = own_fields p f.newest.method in
      let at = site r p plan s f.newest f.below in
      record {
        outcome = stepped count (run r at own s.store (entries r p plan s (all f)) s.running.inherited call);
        asked = run_asks r.side at s.store call (take count f.newest.operands);
        reached = Some (Runs call);
      }

  -- where the step executes a call
  abbrev pub calls : InvokeKind → CallMeaning → Came E
  calls by c =
      let it = Some (Used (Call by c)) in
      let at = site r p plan s f.newest f.below in
      record {
        outcome = executed r p plan s f.newest f.below it;
        asked = asked_by r.side p plan s f.newest f.below it;
        reached = option_and_then (λ t. target at s.store by c t.values)
            (call_taken at.world s.store (at.world.named at.class) by c f.newest.operands);
      }

-- the thread has all the frames that it may have
abbrev pub is_full : {E : Type 0} → Plan → Framed E → Bool
is_full plan f = nat_le plan.depth (length (all f))

-- it came to this, and asks nothing
abbrev pub IsQuietly : {E : Type 0} → Outcome (State ℕ E) → Came E → Type 0
IsQuietly outcome came = (came.outcome ≡ outcome) × (came.asked ≡ None)

-- The thread goes on with these frames, or an exception is to be raised in them, or the library runs with the operands that were there, or
-- it is stuck. Nothing is asked of access control but by the library.
abbrev pub CalledAs : {E : Type 0} → Rules ℕ E → Program → Plan → State ℕ E → ℕ → Framed E → Called → Framed E → Came E → Type 0
CalledAs r p plan s count f ways.Begun g came = IsQuietly (went r p plan s (all g) s.store []) came
CalledAs r p plan s count f (ways.Raises class) g came = IsQuietly (raising r p plan s (all g) [] class) came
CalledAs r p plan s count f (ways.Runs call) g came = (g ≡ f) × (came ≡ runs r p plan s f count call)
CalledAs r p plan s count f ways.Stuck g came = IsQuietly NoStep came

-- ---- calls

-- so many operands serve for a call
abbrev pub Takes : {E : Type 0} → Program → State ℕ E → InvokeKind → CallMeaning → ℕ → Framed E → Type 0
Takes p s by c count f = call_taken (world p) s.store ((world p).named f.newest.method.class) by c f.newest.operands
    ≡ Some (took count f.newest.operands)

-- A call did what a step does that executes it, whatever the rules and the state are.
abbrev pub CallsStatic : {E : Type 0} → ℕ → Selection E → (depth : ℕ) → Framed E → Called → Framed E → Type 0
CallsStatic {E} count what depth f way g = (r : Rules ℕ E) (p : Program) (plan : Plan) (s : State ℕ E) (c : CallMeaning)
    → plan.depth ≡ depth → Takes p s how.Static c count f → IsFound r.entry_of p what ((world p).itself c.member)
    → CalledAs r p plan s count f way g (calls r p plan s f how.Static c)

-- what is selected is found on the object's class
abbrev pub IsFoundOn : {E : Type 0} → (ℕ → E) → Program → ℕ → InvokeKind → CallMeaning → Selection E → Receiver → Type 0
IsFoundOn entry_of p this by c what (receivers.Object kind) = IsFound entry_of p what (selected_on (world p) this by c (id_by kind))
IsFoundOn entry_of p this by c what on = ⊤

-- how a method is called on an object whose class isn't asked for an interface
abbrev pub IsByClass : InvokeKind → Type 0
IsByClass how.Virtual = ⊤
IsByClass how.Special = ⊤
IsByClass how.Init = ⊤
IsByClass by = ⊥

-- the same, on an object of a heap
abbrev pub CallsOn : {E : Type 0} → Receiver → ℕ → Selection E → (depth : ℕ) → Framed E → Called → Framed E → Type 0
CallsOn {E} on count what depth f way g =
    (r : Rules ℕ E) (p : Program) (plan : Plan) (s : State ℕ E) (shapes : Shapes) (things : Things) (constants : List (List ℕ × ℕ))
    (h : Heaped) (by : InvokeKind) (c : CallMeaning)
    → IsByClass by → s.store ≡ store_by p shapes things constants h → on ≡ receiver_seen h (receiver (take count f.newest.operands))
    → plan.depth ≡ depth → Takes p s by c count f → IsFoundOn r.entry_of p f.newest.method.class by c what on
    → CalledAs r p plan s count f way g (calls r p plan s f by c)

-- whether the object's class has the interface by which it is called
abbrev pub IsOfInterface : Program → Store ℕ → CallMeaning → List (Value ℕ) → Bool → Type 0
IsOfInterface p s c values has = (v : Value ℕ) (x : Object ℕ) → receiver values ≡ Some v → object_of s v ≡ Some x
    → is_instance (world p) (class_of (world p).named x) (types.Object c.owner) ≡ has

-- whether what is selected isn't public
abbrev pub IsHiddenOn : Program → CallMeaning → Receiver → Bool → Type 0
IsHiddenOn p c (receivers.Object kind) hidden = is_hidden (world p) ((world p).select (id_by kind) c.member call_kinds.Interface) ≡ hidden
IsHiddenOn p c on hidden = ⊤

-- the same, by an interface
abbrev pub CallsByInterface : {E : Type 0} → Receiver → ℕ → Selection E → (has hidden : Bool) (depth : ℕ) → Framed E → Called → Framed E → Type 0
CallsByInterface {E} on count what has hidden depth f way g =
    (r : Rules ℕ E) (p : Program) (plan : Plan) (s : State ℕ E) (shapes : Shapes) (things : Things) (constants : List (List ℕ × ℕ))
    (h : Heaped) (c : CallMeaning)
    → s.store ≡ store_by p shapes things constants h → on ≡ receiver_seen h (receiver (take count f.newest.operands)) → plan.depth ≡ depth
    → Takes p s how.Interface c count f → IsFoundOn r.entry_of p f.newest.method.class how.Interface c what on
    → IsOfInterface p s.store c (take count f.newest.operands) has → IsHiddenOn p c on hidden
    → CalledAs r p plan s count f way g (calls r p plan s f how.Interface c)

-- what is selected is reached, as the definition has it
abbrev pub Reaches : {E : Type 0} → ℕ → Selection E → (depth : ℕ) → Framed E → Called → Framed E → Type 0
Reaches {E} count what depth f way g = (r : Rules ℕ E) (p : Program) (plan : Plan) (s : State ℕ E) (found : Selected)
    → plan.depth ≡ depth → IsFound r.entry_of p what found → CalledAs r p plan s count f way g
    (comes r p plan s f count (reached (is_full plan f) found))

-- ---- which frames a call leaves

-- a class of what can be thrown
abbrev pub IsThrown : LibClass → Type 0
IsThrown class = (c : ThrownClass) × (class ≡ lib.Thrown c)

-- What a call raises can be thrown, and where the library is to run the frames are as they were.
abbrev pub CallLeaves : {E : Type 0} → Framed E → Called → Framed E → Type 0
CallLeaves f (ways.Raises class) g = IsThrown class
CallLeaves f (ways.Runs call) g = g ≡ f
CallLeaves f way g = ⊤

-- a user's method is of one of so many classes
abbrev pub FoundWithin : {E : Type 0} → ℕ → Selection E → Type 0
FoundWithin classes (found.Method c) = c.method.class < classes
FoundWithin classes what = ⊤

-- Where a frame has begun, the caller stands below it; else all frames stand as they did.
abbrev pub CallStands : {E : Type 0} → ℕ → Called → Framed E → Type 0
CallStands classes ways.Begun g = AreStanding classes g
CallStands classes way g = Stand classes (all g)

-- So do the frames that a call leaves, where those that it found stood.
abbrev pub CallsStanding : {E : Type 0} → Selection E → Framed E → Called → Framed E → Type 0
CallsStanding what f way g = (classes : ℕ) → FoundWithin classes what → Stand classes (all f) → CallStands classes way g
