-- Well typed, as a demand on a whole list of frames (JVMS 4.10.1.6): each instruction of a method can be given a frame so that these fit
-- one another.
use Rattle.std.specs.Prelude.{◌≡◌, ℕ, ℤ, suc, pos, Bool, true, false, List, [], ◌∷◌, length, Option, Some, None, slice_get, ◌≤◌}
use Rattle.jparts.specs.declared.jcode.op.Handler.{Handler}
use Rattle.jparts.specs.declared.jcode.op.Placed.{Placed}
use Rattle.jparts.specs.jcode.InstructionForms.{branches, form, goes_on}
use Rattle.jclass.specs.declared.class.CodeBody.{CodeBody}
use Rattle.jclass.specs.declared.class.MemberInfo.{MemberInfo}
use Rattle.jclass.specs.FileContents.{IsIn}
use Rattle.jtypes.specs.declared.vtype.VType.{VType}
use Rattle.jtypes.specs.Assignability.{fits}
use Rattle.jtypes.specs.TypeFrames.{Frame, places_of}
use Rattle.jtypes.specs.ClassTrees.{Tree}
use Rattle.jresolution.specs.declared.jprogram.part.CodePart.{CodePart}
use Rattle.jresolution.specs.jprogram.ClassFileParts.{code_of}
use Rattle.jresolution.specs.jprogram.ProgramClasses.{Program, tree}
use Rattle.jtyping.specs.jrule.FormRules.{by_form}
use Rattle.jtyping.specs.jrule.StackOperands.{with_stack}
use Rattle.jtyping.specs.jrule.PoolEffects.{throwable}
use Rattle.jtyping.specs.jwelltyped.DeclaredFrames.{Written, declared_at, first_frame, is_good, written}
use Rattle.jtyping.specs.jwelltyped.MethodPremises.{Method, here_of, method_of}
use Rattle.jparts.specs.jcode.Instructions.{covers}
use Rattle.jtyping.specs.jwelltyped.VerifierTests.{caught_type, frame_fits, handler_fits}
use Rattle.jtyping.specs.jwelltyped.ProofNames.{branch_fits}

-- A frame where another one arrives: the declared one, which that one fits, or else that one.
abbrev pub Arrives : Tree → Option Frame → Frame → Frame → Type 0
Arrives t None a f = f ≡ a
Arrives t (Some d) a f = (f ≡ d) × (frame_fits t a d ≡ true)

-- What stands behind an instruction with the frame g behind it, which goes on or not: there the frame arrives, or one is declared.
abbrev pub Follows : Program → List Written → Frame → Bool → Option Placed → Option Frame → Type 0
Follows p ws g true (Some o) (Some f) = Arrives (tree p) (declared_at ws (pos o.at)) g f
Follows p ws g false (Some o) (Some f) = declared_at ws (pos o.at) ≡ Some f
Follows p ws g false None None = Unit {0}
Follows p ws g _ _ _ = ⊥

-- An instruction, the n-th of its method, serves with its frame.
pub record Serves (p : Program) (m : Method) (ws : List Written) (fs : List Frame) (n : ℕ) (o : Placed) (f : Frame) : Type 0 where
  pub handlers : (h : Handler) → IsIn h m.body.handlers → covers o.at h ≡ true → handler_fits p m ws f h ≡ true
  pub behind : Frame
  pub gives : by_form p (here_of p m o.at) m.pool (form o.op) f ≡ Some behind
  pub leads : (by : ℤ) → IsIn by (branches (form o.op)) → branch_fits p ws o.at behind by ≡ true
  pub follows : Follows p ws behind (goes_on (form o.op)) (slice_get m.body.ops (suc n)) (slice_get fs (suc n))

-- An instruction, the n-th of its method, has a frame with which it serves.
pub record HasFrame (p : Program) (m : Method) (ws : List Written) (fs : List Frame) (n : ℕ) (o : Placed) : Type 0 where
  pub frame : Frame
  pub there : slice_get fs n ≡ Some frame
  pub serves : Serves p m ws fs n o frame

-- The instructions of a method have these frames.
pub record AreFrames (p : Program) (m : Method) (ws : List Written) (fs : List Frame) : Type 0 where
  pub each : length fs ≡ length m.body.ops
  pub begins : (o : Placed) (f : Frame) → slice_get m.body.ops 0 ≡ Some o → slice_get fs 0 ≡ Some f
      → Arrives (tree p) (declared_at ws (pos o.at)) (first_frame m) f
  pub serves : (n : ℕ) (o : Placed) (f : Frame) → slice_get m.body.ops n ≡ Some o → slice_get fs n ≡ Some f → Serves p m ws fs n o f

-- A method is well typed: its declared frames are good, its parameters have room, and its instructions can be given frames.
pub record IsTypedWith (p : Program) (m : Method) (ws : List Written) : Type 0 where
  pub good : (w : Written) → IsIn w ws → is_good p m w ≡ true
  pub room : length (places_of m.params) ≤ m.body.max_locals
  pub frames : List Frame
  pub are_frames : AreFrames p m ws frames

abbrev pub IsTyped : Program → Method → Type 0
IsTyped p m = IsTypedWith p m (written p m)

-- Each method with code is well typed.
abbrev pub ProgramIsTyped : Program → Type 0
ProgramIsTyped p = (part : CodePart) (m : MemberInfo) (body : CodeBody)
    → IsIn part p.parts → IsIn m part.class.methods → code_of m ≡ Some body → IsTyped p (method_of p part.class m body)

-- ---- where an instruction leads

-- What stands behind an instruction with the frame g behind it: another with its frame, where that one arrives and which it fits.
pub record Continues (p : Program) (m : Method) (ws : List Written) (fs : List Frame) (n : ℕ) (g : Frame) : Type 0 where
  pub next : Placed
  pub frame : Frame
  pub stands : slice_get m.body.ops (suc n) ≡ Some next
  pub there : slice_get fs (suc n) ≡ Some frame
  pub arrives : Arrives (tree p) (declared_at ws (pos next.at)) g frame
  pub fitted : frame_fits (tree p) g frame ≡ true

-- What a handler catches extends Throwable, and alone on the stack of the frame f it goes on with the frame g.
pub record Caught (p : Program) (m : Method) (f : Frame) (h : Handler) (g : Frame) : Type 0 where
  pub caught : VType
  pub is : caught_type p m h ≡ Some caught
  pub throws : fits (tree p) caught throwable ≡ true
  pub arrives : frame_fits (tree p) (with_stack f (caught ∷ [])) g ≡ true

-- The frame g fits that of the instruction of a number.
pub record FitsAt (p : Program) (fs : List Frame) (k : ℕ) (g : Frame) : Type 0 where
  pub frame : Frame
  pub there : slice_get fs k ≡ Some frame
  pub arrives : frame_fits (tree p) g frame ≡ true
