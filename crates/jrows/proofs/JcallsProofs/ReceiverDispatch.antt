-- What a call comes to, by its object.
use Rattle.std.proofs.Common.{◌≡◌, ◌∙◌, ℕ, zero, suc, Bool, not, List, take, Option, Some, None, refl, sym, ap}
use Rattle.std.specs.Prelude.{option_map, option_and_then, slice_get}
use Rattle.jground.specs.jbase.FirstFaults.{fault_if, or_else}
use Rattle.jvalues.specs.declared.jops.value.Value.{Value}
use Rattle.jvalues.specs.declared.jops.value.Value.TheVariants.{Int, Long, Ref, Ctx}
use Rattle.jmemory.specs.declared.jheap.cell.Kind.{Kind}
use Rattle.jmemory.specs.declared.jheap.cell.Kind.TheVariants as kinds
use Rattle.jmemory.specs.jheap.Heaps as heaps
use Rattle.jmemory.specs.jheap.Heaps.{Heaped, kind_at}
use Rattle.jlib.specs.declared.classes.LibClass.TheVariants as lib
use Rattle.jresolution.specs.declared.jprogram.member.CallKind.TheVariants as call_kinds
use Rattle.jresolution.specs.declared.jprogram.member.ClassId.TheVariants as id
use Rattle.jresolution.specs.declared.jprogram.part.ClassRef.{ClassRef}
use Rattle.jresolution.specs.declared.jprogram.part.ClassRef.TheVariants as refs
use Rattle.jresolution.specs.jprogram.ProgramClasses.{Program}
use Rattle.jtyping.specs.jrule.PoolEffects.{exchange}
use Rattle.jresolution.specs.declared.juses.meaning.InvokeKind.{InvokeKind}
use Rattle.jresolution.specs.declared.juses.meaning.InvokeKind.TheVariants as how
use Rattle.jresolution.specs.juses.IndexedInstructions.{Used}
use Rattle.jresolution.specs.juses.InstructionMeanings.{Call, CallMeaning}
use Rattle.jsemantics.specs.declared.jmachine.plan.Plan.{Plan}
use Rattle.jsemantics.specs.jmachine.MachineStates.{NoStep, Outcome, State}
use Rattle.jsemantics.specs.jmachine.AccessQueries.{Ask, asked_by, called_asks, used_asks}
use Rattle.jsemantics.specs.jmachine.CallTargets.{Target, Fails, is_hidden, no_access, on_object, on_value, reached, receiver, target, unless, wrong_class}
use Rattle.jsemantics.specs.ProofNames.{null_pointer}
use Rattle.jsemantics.specs.jmachine.InstructionActions.{call, doing, used}
use Rattle.jsemantics.specs.jmachine.HeapObjects.{Object, id_of}
use Rattle.jsemantics.specs.jmachine.TakenOperands.{Taken}
use Rattle.jsemantics.specs.jmachine.Security.{Rules}
use Rattle.jsemantics.specs.jmachine.InstructionSites.{Site}
use Rattle.jsemantics.specs.jmachine.MachineSteps.{entries, executed, own_fields, site}
use Rattle.jsemantics.specs.jmachine.Store.{Store, object_at}
use Rattle.jsemantics.specs.jmachine.World.{class_id, world}
use Rattle.jruntime.specs.jstate.FrameLists.{Framed, all}
use Rattle.jruntime.specs.declared.jstate.shapes.Shape.{Shape}
use Rattle.jruntime.specs.declared.jstate.shapes.Shapes.{Shapes}
use Rattle.jruntime.specs.jstate.ClassNumbers.{class_numbered}
use Rattle.jruntime.specs.jstate.HeapMeanings.{Things, class_by, kind_by, object_by, store_by, user_by}
use Rattle.jruntime.specs.jstate.HeapMeaningLaws.{SeesEach}
use Rattle.jrows.specs.declared.jcalls.receiver.Receiver.TheVariants as receivers
use Rattle.jrows.specs.jcalls.MethodCalls.{Came, IsByClass, IsOfInterface, IsQuietly, Takes, calls, comes, found_as, id_by, is_full, receiver_seen, selected_on, stepped}

-- ---- the class of an object

module _ (shapes : Shapes) (objects : List heaps.Object) (things : Things) (cells : List ℕ) where
  user_id : (i : ℕ) (shape : Option Shape) → id_of (user_by i shape cells) ≡ id.User i
  user_id i None = refl
  user_id i (Some shape) = refl

  class_id_is : (c : ClassRef) → id_of (class_by shapes objects things c cells) ≡ class_id c
  class_id_is (refs.User i) = user_id i (slice_get shapes.users i)
  class_id_is (refs.Lib (lib.Thrown c)) = refl
  class_id_is (refs.Lib lib.AccessControlException) = refl
  class_id_is (refs.Lib lib.String) = refl
  class_id_is (refs.Lib lib.StringBuilder) = refl
  class_id_is (refs.Lib (lib.Permission c)) = refl
  class_id_is (refs.Lib lib.AccessControlContext) = refl
  class_id_is (refs.Lib lib.Thread) = refl
  class_id_is (refs.Lib lib.Object) = refl
  class_id_is (refs.Lib lib.System) = refl
  class_id_is (refs.Lib lib.PrintStream) = refl
  class_id_is (refs.Lib lib.Void) = refl
  class_id_is (refs.Lib lib.Cloneable) = refl
  class_id_is (refs.Lib lib.Serializable) = refl
  class_id_is (refs.Lib lib.Runnable) = refl
  class_id_is (refs.Lib lib.PrivilegedAction) = refl
  class_id_is (refs.Lib lib.AccessController) = refl
  class_id_is (refs.Lib lib.Rt) = refl
  class_id_is (refs.Lib lib.Ctx) = refl

  kind_id : (p : Program) (kind : Kind) → id_of (kind_by p shapes objects things kind cells) ≡ id_by kind
  kind_id p (kinds.Object n) = class_id_is (class_numbered n)
  kind_id p (kinds.Array a) = refl
  kind_id p kinds.Text = refl
  kind_id p kinds.Piece = refl

-- ---- the object of a call

not_null : (k : Option Kind) → receivers.Null ≡ found_as k → ⊥
not_null None e = cc
not_null (Some k) e = cc

pub null_is : (h : Heaped) (v : Option (Value ℕ)) → receivers.Null ≡ receiver_seen h v → v ≡ Some (Ref zero)
null_is h None e = cc
null_is h (Some (Int x)) e = cc
null_is h (Some (Long x)) e = cc
null_is h (Some (Ctx k)) e = cc
null_is h (Some (Ref zero)) e = refl
null_is h (Some (Ref (suc o))) e = absurd (not_null (kind_at h (suc o)) e)

-- an object that is there, whose methods are looked for at a class by its kind
pub record IsThere (s : Store ℕ) (v : Option (Value ℕ)) (kind : Kind) : Type 0 where
  pub before : ℕ
  pub value : v ≡ Some (Ref (suc before))
  pub object : Object ℕ
  pub held : object_at s (suc before) ≡ Some object
  pub class : id_of object ≡ id_by kind

module _ (law : SeesEach) (p : Program) (shapes : Shapes) (things : Things) (constants : List (List ℕ × ℕ)) (h : Heaped) where
  abbrev store : Store ℕ
  store = store_by p shapes things constants h

  missing_object : (o : ℕ) (x : Option heaps.Object) → heaps.object_at h o ≡ x → receivers.Missing ≡ found_as (option_map (λ (y : heaps.Object). y.kind) x)
      → object_at store o ≡ None
  missing_object o None is e = law p shapes things constants h o ∙ ap (option_map (object_by p shapes h.objects things)) is
  missing_object o (Some x) is e = cc

  pub nothing_called : (at : Site) (by : InvokeKind) (c : CallMeaning) (v : Option (Value ℕ)) → receivers.Missing ≡ receiver_seen h v
      → option_and_then (on_value at store by c) v ≡ None
  nothing_called at by c None e = refl
  nothing_called at by c (Some (Int x)) e = refl
  nothing_called at by c (Some (Long x)) e = refl
  nothing_called at by c (Some (Ctx k)) e = refl
  nothing_called at by c (Some (Ref zero)) e = cc
  nothing_called at by c (Some (Ref (suc o))) e = ap (option_map (on_object at by c)) (missing_object (suc o) (heaps.object_at h (suc o)) refl e)

  there_object : (o : ℕ) (kind : Kind) (x : Option heaps.Object) → heaps.object_at h (suc o) ≡ x
      → receivers.Object kind ≡ found_as (option_map (λ (y : heaps.Object). y.kind) x) → IsThere store (Some (Ref (suc o))) kind
  there_object o kind None is e = cc
  there_object o kind (Some x) is e =
      let same : kind ≡ x.kind = cc in
      record {
        before = o;
        value = refl;
        object = object_by p shapes h.objects things x;
        held = law p shapes things constants h (suc o) ∙ ap (option_map (object_by p shapes h.objects things)) is;
        class = kind_id shapes h.objects things x.cells p x.kind ∙ ap id_by (sym same);
      }

  pub is_there : (kind : Kind) (v : Option (Value ℕ)) → receivers.Object kind ≡ receiver_seen h v → IsThere store v kind
  is_there kind None e = cc
  is_there kind (Some (Int x)) e = cc
  is_there kind (Some (Long x)) e = cc
  is_there kind (Some (Ctx k)) e = cc
  is_there kind (Some (Ref zero)) e = cc
  is_there kind (Some (Ref (suc o))) e = there_object o kind (heaps.object_at h (suc o)) refl e

-- ---- a step that calls

abbrev made : {E : Type 0} → Outcome (State ℕ E) → Option (Ask ℕ) → Option Target → Came E
made o a t = record { outcome = o; asked = a; reached = t }

alike : {E : Type 0} {o q : Outcome (State ℕ E)} {a b : Option (Ask ℕ)} {t u : Option Target} → o ≡ q → a ≡ b → t ≡ u → made o a t ≡ made q b u
alike e f g = rw (e, f, g) refl

module _ {E : Type 0} (r : Rules ℕ E) (p : Program) (plan : Plan) (s : State ℕ E) (f : Framed E) (count : ℕ) (c : CallMeaning) where
  abbrev at : Site
  at = site r p plan s f.newest f.below

  abbrev values : List (Value ℕ)
  values = take count f.newest.operands

  called_step : (by : InvokeKind) → Takes p s by c count f
      → executed r p plan s f.newest f.below (Some (Used (Call by c)))
      ≡ stepped r p plan s f count (call r at (own_fields p f.newest.method) s.store (entries r p plan s (all f)) s.running.inherited by c)
  unfolding doing used exchange
  called_step how.Virtual takes = rw takes refl
  called_step how.Special takes = rw takes refl
  called_step how.Static takes = rw takes refl
  called_step how.Interface takes = rw takes refl
  called_step how.Init takes = rw takes refl

  -- and what it asks
  asked_step : (by : InvokeKind) → Takes p s by c count f
      → asked_by r.side p plan s f.newest f.below (Some (Used (Call by c))) ≡ option_and_then (called_asks r.side at s.store values) (target at s.store by c values)
  unfolding used_asks exchange
  asked_step how.Virtual takes = rw takes refl
  asked_step how.Special takes = rw takes refl
  asked_step how.Static takes = rw takes refl
  asked_step how.Interface takes = rw takes refl
  asked_step how.Init takes = rw takes refl

  -- and what is reached
  reached_step : (by : InvokeKind) (to : Option Target) → Takes p s by c count f → target at s.store by c values ≡ to → (calls r p plan s f by c).reached ≡ to
  reached_step by to takes is = ap (λ (o : Option (Taken ℕ)). option_and_then (λ t. target at s.store by c t.values) o) takes ∙ is

  -- what the call comes to is known
  pub comes_so : (by : InvokeKind) (t : Target) → Takes p s by c count f → target at s.store by c values ≡ Some t → calls r p plan s f by c ≡ comes r p plan s f count t
  comes_so by t takes is =
      alike (called_step by takes ∙ rw is refl) (asked_step by takes ∙ ap (option_and_then (called_asks r.side at s.store values)) is)
      (reached_step by (Some t) takes is)

  pub comes_none : (by : InvokeKind) → Takes p s by c count f → target at s.store by c values ≡ None → IsQuietly NoStep (calls r p plan s f by c)
  comes_none by takes is = (called_step by takes ∙ rw is refl, asked_step by takes ∙ ap (option_and_then (called_asks r.side at s.store values)) is)

  pub static_target : target at s.store how.Static c values ≡ Some (reached (is_full plan f) ((world p).itself c.member))
  unfolding target
  static_target = refl

  -- on an object
  pub on_target : (by : InvokeKind) → IsByClass by → target at s.store by c values ≡ option_and_then (on_value at s.store by c) (receiver values)
  unfolding target
  on_target how.Virtual is = refl
  on_target how.Special is = refl
  on_target how.Init is = refl
  on_target how.Static is = elim is [ ]
  on_target how.Interface is = elim is [ ]

  pub interface_target : target at s.store how.Interface c values ≡ option_and_then (on_value at s.store how.Interface c) (receiver values)
  unfolding target
  interface_target = refl

  reached_on : (by : InvokeKind) → IsByClass by → (x : Object ℕ)
      → on_object at by c x ≡ reached (is_full plan f) (selected_on (world p) f.newest.method.class by c (id_of x))
  reached_on how.Virtual is x = refl
  reached_on how.Special is x = refl
  reached_on how.Init is x = refl
  reached_on how.Static is x = elim is [ ]
  reached_on how.Interface is x = elim is [ ]

  -- the object is there, so that the call comes to what it comes to on it
  value_there : (by : InvokeKind) (kind : Kind) (there : IsThere s.store (receiver values) kind)
      → option_and_then (on_value at s.store by c) (receiver values) ≡ Some (on_object at by c there.object)
  value_there by kind there = rw there.value (ap (option_map (on_object at by c)) there.held)

  pub class_target : (by : InvokeKind) (kind : Kind) → IsByClass by → IsThere s.store (receiver values) kind
      → target at s.store by c values ≡ Some (reached (is_full plan f) (selected_on (world p) f.newest.method.class by c (id_by kind)))
  class_target by kind is there =
      on_target by is ∙ value_there by kind there
      ∙ ap (λ t. Some t) (reached_on by is there.object ∙ ap (λ on. reached (is_full plan f) (selected_on (world p) f.newest.method.class by c on)) there.class)

  pub null_target : (by : InvokeKind) → IsByClass by → receiver values ≡ Some (Ref zero) → target at s.store by c values ≡ Some (Fails null_pointer)
  null_target by is null = on_target by is ∙ rw null refl

  pub interface_null : receiver values ≡ Some (Ref zero) → target at s.store how.Interface c values ≡ Some (Fails null_pointer)
  interface_null null = interface_target ∙ rw null refl

  -- ---- by an interface

  pub face_target : (kind : Kind) (has hidden : Bool) → IsThere s.store (receiver values) kind → IsOfInterface p s.store c values has
      → is_hidden (world p) ((world p).select (id_by kind) c.member call_kinds.Interface) ≡ hidden
      → target at s.store how.Interface c values
      ≡ Some (unless (or_else (fault_if (not has) wrong_class) (fault_if hidden no_access))
      (reached (is_full plan f) ((world p).select (id_by kind) c.member call_kinds.Interface)))
  face_target kind has hidden there of hid =
      let asked = of (Ref (suc there.before)) there.object there.value there.held in
      interface_target ∙ value_there how.Interface kind there ∙ rw (asked, there.class, hid) refl
