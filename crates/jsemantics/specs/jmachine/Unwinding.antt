-- Which frame handles what is thrown, and where it goes on (JVMS 2.10).
use Rattle.std.specs.Prelude.{ℕ, Bool, false, ◌&&◌, ◌||◌, ◌==◌, List, [], ◌∷◌, map, Option, Some, None, option_and_then, slice_get, if◌then◌else◌}
use Rattle.std.specs.List.{find, position}
use Rattle.std.specs.Str.{byte}
use Rattle.jvalues.specs.declared.jops.value.Value.{Value}
use Rattle.jvalues.specs.declared.jops.value.Value.TheVariants.{Ref}
use Rattle.jparts.specs.declared.jpool.entry.Entry.{Entry}
use Rattle.jparts.specs.declared.jcode.op.Handler.{Handler}
use Rattle.jparts.specs.declared.jcode.op.Placed.{Placed}
use Rattle.jparts.specs.jcode.Instructions.{covers}
use Rattle.jclass.specs.declared.class.ClassParts.{ClassParts}
use Rattle.jclass.specs.declared.class.CodeBody.{CodeBody}
use Rattle.jlib.specs.declared.classes.LibClass.{LibClass}
use Rattle.jtypes.specs.declared.vtype.VType.{VType}
use Rattle.jtypes.specs.declared.vtype.VType.TheVariants as types
use Rattle.jresolution.specs.declared.jprogram.member.MethodId.{MethodId}
use Rattle.jresolution.specs.jprogram.ProgramClasses.{Program}
use Rattle.jresolution.specs.jprogram.MemberResolution.{part_of}
use Rattle.jresolution.specs.juses.IndexedInstructions.{body_in}
use Rattle.jresolution.specs.juses.InstructionMeanings.{class_at}
use Rattle.jsemantics.specs.jmachine.MachineStates.{FrameOf}
use Rattle.jsemantics.specs.jmachine.FrameOperations.{carrying, domain_of, standing}
use Rattle.jsemantics.specs.jmachine.ObjectInstructions.{units_of}
use Rattle.jsemantics.specs.jmachine.HeapObjects.{Thrown, Text}
use Rattle.jsemantics.specs.jmachine.Store.{Store, next_number, with_made}
use Rattle.jsemantics.specs.jmachine.World.{is_instance, world}

-- ---- what is thrown

-- with a new exception of a class, and with its message in front where it has one
abbrev pub with_raised : {K : Type 0} → Store K → LibClass → Option (List ℕ) → Store K
with_raised s class None = with_made s (Thrown class 0)
with_raised s class (Some units) = with_made (with_made s (Text (Some units))) (Thrown class (next_number s))

-- the name of a class as it is told, with dots
unfoldable pub told_name : VType → List ℕ
told_name = elim [ types.Object c ↦ map (λ u. if u == byte "/" then byte "." else u) (units_of c.0) | _ ↦ [] ]

-- ---- handlers

abbrev pub is_caught : Program → VType → Option VType → Bool
is_caught p thrown = elim [ None ↦ false | Some class ↦ is_instance (world p) thrown class ]

-- it catches any class, or this one or one above it
abbrev pub catches : Program → List Entry → VType → Handler → Bool
catches p pool thrown h = (h.class == 0) || is_caught p thrown (class_at p pool h.class)

abbrev pub takes : Program → List Entry → VType → ℕ → Handler → Bool
takes p pool thrown at h = covers at h && catches p pool thrown h

abbrev pub number_at : List Placed → ℕ → Option ℕ
number_at ops at = position (λ one. one.at == at) ops

abbrev pub handler_from : Program → List Entry → VType → CodeBody → Placed → Option ℕ
handler_from p pool thrown body one = option_and_then (λ h. number_at body.ops h.at) (find (takes p pool thrown one.at) body.handlers)

abbrev pub handler_in : Program → VType → ℕ → ClassParts → CodeBody → Option ℕ
handler_in p thrown i c body = option_and_then (handler_from p c.pool thrown body) (slice_get body.ops i)

-- the number at which a method goes on where an object of a class is thrown by the instruction of a number: that of its first handler
unfoldable pub handler_at : Program → VType → MethodId → ℕ → Option ℕ
handler_at p thrown m i = option_and_then (λ c. option_and_then (handler_in p thrown i c) (body_in c m.method)) (part_of p m.class)

-- ---- unwinding

-- a frame goes on at a number with these operands, and nothing marks it any more
abbrev pub resumed : {K E : Type 0} → (ℕ → E) → Program → FrameOf K E → ℕ → List (Value K) → FrameOf K E
resumed entry_of p f place operands = carrying (entry_of (domain_of p f.method)) (standing f place operands)

abbrev pub caught : {K E : Type 0} → (ℕ → E) → Program → ℕ → FrameOf K E → List (FrameOf K E) → Option ℕ → Option (List (FrameOf K E))
    → Option (List (FrameOf K E))
caught entry_of p n f below x rest = elim x [ Some to ↦ Some (resumed entry_of p f to (Ref n ∷ []) ∷ below) | None ↦ rest ]

-- The frames that are left where the object of a number is thrown: the newest one that handles its class goes on with it alone. None
-- where no frame does.
unfoldable pub unwound : {K E : Type 0} → (ℕ → E) → Program → VType → ℕ → List (FrameOf K E) → Option (List (FrameOf K E))
unwound entry_of p thrown n [] = None
unwound entry_of p thrown n (f ∷ below) = caught entry_of p n f below (handler_at p thrown f.method f.place) (unwound entry_of p thrown n below)
