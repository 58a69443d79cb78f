-- Frames of typed states: the newest stands at an instruction, and each older one awaits what it called.
use Rattle.std.specs.Prelude.{◌≡◌, ⊤, ℕ, ◌+◌, List, [], ◌∷◌, ◌++◌, length, drop, Option, Some, slice_get}
use Rattle.std.specs.Option.{option_to_list}
use Rattle.jparts.specs.declared.jcode.op.Placed.{Placed}
use Rattle.jvalues.specs.declared.jops.value.Value.{Value}
use Rattle.jvalues.specs.declared.jops.value.Value.TheVariants.{Ref}
use Rattle.jtypes.specs.declared.vtype.VType.{VType}
use Rattle.jtypes.specs.TypeFrames.{Frame}
use Rattle.jresolution.specs.declared.jprogram.member.Member.TheVariants.{Method}
use Rattle.jresolution.specs.declared.jprogram.member.MethodId.{MethodId}
use Rattle.jresolution.specs.declared.juses.meaning.InvokeKind.{InvokeKind}
use Rattle.jresolution.specs.jprogram.ProgramClasses.{Program}
use Rattle.jresolution.specs.jprogram.MemberResolution.{desc_of}
use Rattle.jresolution.specs.jprogram.OrderedPrograms.{StandsInOrder}
use Rattle.jresolution.specs.juses.DescriptorTypes.{typed}
use Rattle.jresolution.specs.juses.IndexedInstructions.{Used, instruction}
use Rattle.jresolution.specs.juses.InstructionMeanings as meanings
use Rattle.jresolution.specs.juses.InstructionMeanings.{CallMeaning}
use Rattle.jtyping.specs.jrule.PoolEffects.{throwable}
use Rattle.jtyping.specs.jrule.StackOperands.{with_stack}
use Rattle.jtyping.specs.jrule.TypingRule.{rule}
use Rattle.jtyping.specs.jwelltyped.MethodPremises.{Method as TypedMethod, here_of}
use Rattle.jtyping.specs.jwelltyped.ProofNames.{return_of}
use Rattle.jtyping.specs.jwelltyped.WellTypedness.{IsTyped}
use Rattle.jsemantics.specs.jmachine.MachineStates.{FrameOf}
use Rattle.jsemantics.specs.jmachine.HeapObjects.{Object, class_of}
use Rattle.jsemantics.specs.jmachine.Store.{Store, object_at}
use Rattle.jsemantics.specs.jmachine.Unwinding.{resumed, unwound}
use Rattle.jsemantics.specs.jmachine.World.{world}
use Rattle.jsoundness_laws.specs.typed.TypedCalls.{Coded, method, operand_count}
use Rattle.jsoundness_laws.specs.typed.TypedFrames.{AllHold, News, Suits}
use Rattle.jsoundness_laws.specs.typed.ControlFlow.{SuitsAt, inside}
use Rattle.jsoundness_laws.specs.typed.StoreGrowth.{Grows}
use Rattle.jsoundness_laws.specs.typed.TypedValues.{AreOf, IsA}

-- what a method returns, by its descriptor
abbrev pub returns_at : Program → MethodId → Option VType
returns_at p m = return_of (typed p (desc_of p (Method m)))

-- The instruction of a number is a call, in a method whose instructions have these frames: the frame at its place, and the one that the type
-- rule gives behind it (JVMS 4.10.1.9, invokevirtual and the others).
pub record TypedCall (p : Program) (m : TypedMethod) (fs : List Frame) (n : ℕ) : Type 0 where
  pub op : Placed
  pub stands : slice_get m.body.ops n ≡ Some op
  pub by : InvokeKind
  pub call : CallMeaning
  pub means : instruction p m.pool m.body.ops op ≡ Some (Used (meanings.Call by call))
  pub shape : Frame
  pub there : slice_get fs n ≡ Some shape
  pub behind : Frame
  pub gives : rule p (here_of p m op.at) (Used (meanings.Call by call)) shape ≡ Some behind

-- a frame of typing without so many of its newest operands
abbrev pub without : ℕ → Frame → Frame
without n f = with_stack f (drop n f.stack)

module _ {K E : Type 0} (p : Program) (s : Store K) where
  -- What a frame's locals hold is what typing says of the instruction at which it stands, whatever operands it has.
  pub record Guarded (f : FrameOf K E) : Type 0 where
    pub coded : Coded p f.method
    pub is_typed : IsTyped p (method p f.method coded)
    pub news : News
    pub shape : Frame
    pub there : slice_get is_typed.frames f.place ≡ Some shape
    pub locals : AllHold (world p) s (inside p (method p f.method coded)) news shape.locals f.locals

  -- A frame holds what typing says of the instruction at which it stands.
  pub record Stands (f : FrameOf K E) : Type 0 where
    pub coded : Coded p f.method
    pub is_typed : IsTyped p (method p f.method coded)
    pub news : News
    pub suits : SuitsAt p (method p f.method coded) is_typed.frames news s f.place f

  -- A frame stands at a call, which gives what the method above it returns (JVMS 2.6). It holds what typing says of the call's place, less the
  -- call's operands; and what typing says behind the call, less what is returned.
  pub record Awaits (ret : Option VType) (f : FrameOf K E) : Type 0 where
    pub coded : Coded p f.method
    pub is_typed : IsTyped p (method p f.method coded)
    pub news : News
    pub at : TypedCall p (method p f.method coded) is_typed.frames f.place
    pub returns : at.call.ret ≡ ret
    pub before : Suits (world p) s (inside p (method p f.method coded)) news (without (operand_count at.by at.call) at.shape) f
    pub after : Suits (world p) s (inside p (method p f.method coded)) news (without (length (option_to_list ret)) at.behind) f

  -- frames below one that returns this, the newest first
  abbrev pub Older : Option VType → List (FrameOf K E) → Type 0
  Older ret [] = ⊤
  Older ret (f ∷ fs) = Awaits ret f × Older (returns_at p f.method) fs

  -- the frames of a thread, the newest first
  abbrev pub AreStacked : List (FrameOf K E) → Type 0
  AreStacked [] = ⊤
  AreStacked (f ∷ fs) = Stands f × Older (returns_at p f.method) fs

  -- frames of which the newest may have other operands
  abbrev pub AreGuarded : List (FrameOf K E) → Type 0
  AreGuarded [] = ⊤
  AreGuarded (f ∷ fs) = Guarded f × Older (returns_at p f.method) fs

-- ---- laws

-- the frames of a thread are so in each store behind
abbrev pub StackedLater : Type 0 → Type 0 → Type 0
StackedLater K E = (p : Program) (s t : Store K) (fs : List (FrameOf K E)) → Grows (world p) s t → AreStacked p s fs → AreStacked p t fs

-- with what the method that it called returns, a frame goes on
abbrev pub FramesResume : Type 0 → Type 0 → Type 0
FramesResume K E = (p : Program) (s : Store K) (entry_of : ℕ → E) (m : MethodId) (f : FrameOf K E) (values : List (Value K)) → StandsInOrder p
    → Awaits p s (returns_at p m) f
    → AreOf (world p) s (option_to_list (returns_at p m)) values → Stands p s (resumed entry_of p f (f.place + 1) (values ++ f.operands))

-- An exception that is thrown is handled by a frame that goes on with it, or by none.
abbrev pub FramesUnwind : Type 0 → Type 0 → Type 0
FramesUnwind K E = (p : Program) (s : Store K) (entry_of : ℕ → E) (n : ℕ) (x : Object K) (fs rest : List (FrameOf K E)) → StandsInOrder p
    → AreGuarded p s fs
    → object_at s n ≡ Some x → IsA (world p) s throwable (Ref n) → unwound entry_of p (class_of (world p).named x) n fs ≡ Some rest
    → AreStacked p s rest
