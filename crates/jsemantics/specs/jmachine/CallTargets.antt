-- Which method a call comes to, and which exception comes instead (JVMS 6.5: invokevirtual, invokespecial, invokestatic,
-- invokeinterface).
use Rattle.std.specs.Prelude.{ℕ, zero, Bool, true, false, not, List, [], ◌∷◌, ◌++◌, Option, Some, None, option_map, option_and_then, if◌then◌else◌}
use Rattle.std.specs.Str.{bytes_eq}
use Rattle.jground.specs.jbase.FirstFaults.{fault_if, or_else}
use Rattle.jlib.specs.declared.calls.LibCall.{LibCall}
use Rattle.jlib.specs.declared.classes.Thrown.TheVariants as thrown
use Rattle.jlib.specs.declared.classes.LibClass.{LibClass}
use Rattle.jlib.specs.declared.classes.LibClass.TheVariants as lib
use Rattle.jtypes.specs.declared.vtype.Name.{Name}
use Rattle.jtypes.specs.declared.vtype.VType.TheVariants as types
use Rattle.jvalues.specs.declared.jops.value.Value.{Value}
use Rattle.jvalues.specs.declared.jops.value.Value.TheVariants.{Ref}
use Rattle.jresolution.specs.declared.jprogram.member.CallKind.TheVariants as kinds
use Rattle.jresolution.specs.declared.jprogram.member.Member.{Member}
use Rattle.jresolution.specs.declared.jprogram.member.Member.TheVariants.{Method}
use Rattle.jresolution.specs.declared.jprogram.member.MethodId.{MethodId}
use Rattle.jresolution.specs.declared.jprogram.member.Selected.{Selected}
use Rattle.jresolution.specs.declared.jprogram.member.Selected.TheVariants as selected
use Rattle.jresolution.specs.declared.jprogram.part.ClassRef.{ClassRef}
use Rattle.jresolution.specs.declared.juses.meaning.InvokeKind.{InvokeKind}
use Rattle.jresolution.specs.declared.juses.meaning.InvokeKind.TheVariants as how
use Rattle.jresolution.specs.juses.InstructionMeanings.{CallMeaning}
use Rattle.jtyping.specs.jrule.PoolEffects.{arguments}
use Rattle.jsemantics.specs.jmachine.HeapObjects.{Object, class_of, id_of}
use Rattle.jsemantics.specs.jmachine.TakenOperands.{Taken, taken}
use Rattle.jsemantics.specs.jmachine.InstructionSites.{Site}
use Rattle.jsemantics.specs.jmachine.Store.{Store, object_of}
use Rattle.jsemantics.specs.jmachine.World.{World, class_id, fits, is_instance}

-- ---- what a call comes to

pub data Target : Type 0 where
  -- an exception of a class is raised in the frame that calls
  Fails : LibClass → Target
  -- a frame of a user's method is pushed
  Pushes : MethodId → Target
  -- a member of the library does it at once
  Runs : LibCall → Target

abbrev pub wrong_class : LibClass
wrong_class = lib.Thrown thrown.IncompatibleClassChangeError

abbrev pub no_code : LibClass
no_code = lib.Thrown thrown.AbstractMethodError

abbrev pub no_access : LibClass
no_access = lib.Thrown thrown.IllegalAccessError

abbrev pub overflow : LibClass
overflow = lib.Thrown thrown.StackOverflowError

-- the exception of the first test that fails, else what comes otherwise
abbrev pub unless : Option LibClass → Target → Target
unless x t = elim x [ None ↦ t | Some class ↦ Fails class ]

-- a method without code fails before the number of frames is looked at
abbrev pub reached : Bool → Selected → Target
reached full = elim [ selected.Method m ↦ unless (fault_if full overflow) (Pushes m) | selected.Lib call ↦ Runs call | _ ↦ Fails no_code ]

-- ---- calls on an object

abbrev pub is_hidden : World → Selected → Bool
is_hidden w = elim [ selected.Method m ↦ not (w.is_public (Method m)) | selected.Abstract m ↦ not (w.is_public m) | _ ↦ false ]

-- by an interface the object's class has to have, a method that has to be public
abbrev pub by_interface : {K : Type 0} → World → Bool → CallMeaning → Object K → Target
by_interface w full c x =
    let found = w.select (id_of x) c.member kinds.Interface in
    unless (or_else (fault_if (not (is_instance w (class_of w.named x) (types.Object c.owner))) wrong_class) (fault_if (is_hidden w found) no_access))
    (reached full found)

abbrev pub from_above : World → Member → Option ClassRef → Selected
from_above w m = elim [ None ↦ selected.Missing | Some r ↦ w.select (class_id r) m kinds.Special ]

-- a method of this class as it is, one of a class above as that class has it
abbrev pub special : World → ℕ → CallMeaning → Selected
special w this c = if bytes_eq c.owner.0 (w.named this).0 then w.itself c.member else from_above w c.member (w.above this)

abbrev pub on_object : {K : Type 0} → Site → InvokeKind → CallMeaning → Object K → Target
on_object at how.Virtual c x = reached at.full (at.world.select (id_of x) c.member kinds.Virtual)
on_object at how.Interface c x = by_interface at.world at.full c x
on_object at how.Special c x = reached at.full (special at.world at.class c)
on_object at by c x = reached at.full (at.world.itself c.member)

-- the oldest of the values is the object
unfoldable pub receiver : {K : Type 0} → List (Value K) → Option (Value K)
receiver [] = None
receiver (v ∷ []) = Some v
receiver (v ∷ w ∷ values) = receiver (w ∷ values)

-- null fails before all else
abbrev pub on_value : {K : Type 0} → Site → Store K → InvokeKind → CallMeaning → Value K → Option Target
on_value at s by c (Ref zero) = Some (Fails (lib.Thrown thrown.NullPointerException))
on_value at s by c v = option_map (on_object at by c) (object_of s v)

-- what a call comes to, with its arguments and its object, the newest first
unfoldable pub target : {K : Type 0} → Site → Store K → InvokeKind → CallMeaning → List (Value K) → Option Target
target at s how.Static c values = Some (reached at.full (at.world.itself c.member))
target at s by c values = option_and_then (on_value at s by c) (receiver values)

-- ---- the operands of an `<init>`

-- an `<init>` is called on null, or on an object of its class or of one below, which may hold nothing yet
abbrev pub is_begun : {K : Type 0} → World → Name → Option (Object K) → Bool
is_begun w owner y = elim y [ None ↦ false | Some x ↦ fits w (class_of w.named x) (types.Object owner) ]

abbrev pub may_begin : {K : Type 0} → World → Store K → Name → Value K → Bool
may_begin w s owner (Ref zero) = true
may_begin w s owner v = is_begun w owner (object_of s v)

abbrev pub begun_on : {K : Type 0} → World → Store K → Name → List (Value K) → List (Value K) → Option (Taken K)
begun_on w s owner values [] = None
begun_on w s owner values (v ∷ operands) = if may_begin w s owner v then Some (record { values = values ++ v ∷ []; below = operands }) else None

-- its arguments, and the object behind them
unfoldable pub init_taken : {K : Type 0} → World → Store K → CallMeaning → List (Value K) → Option (Taken K)
init_taken w s c operands = option_and_then (λ t. begun_on w s c.owner t.values t.below) (taken w s (arguments c) operands)
