-- Which methods are well typed, and where one first isn't (JVMS 4.10.1.6): the tests in their order.
use Rattle.std.specs.Prelude.{◌≡◌, ℕ, ℤ, pos, ◌+ℤ◌, Bool, true, false, ◌&&◌, not, List, [], ◌∷◌, length, Option, Some, None, option_and_then, nat_lt, ◌==◌, if◌then◌else◌}
use Rattle.std.specs.List.{list_all}
use Rattle.jground.specs.jbase.FirstFaults.{fault_if, first_along, first_some, or_else}
use Rattle.jparts.specs.declared.jcode.op.Handler.{Handler}
use Rattle.jparts.specs.declared.jcode.op.Placed.{Placed}
use Rattle.jparts.specs.jcode.InstructionForms.{branches, form, goes_on}
use Rattle.jclass.specs.declared.class.ClassParts.{ClassParts}
use Rattle.jclass.specs.declared.class.MemberInfo.{MemberInfo}
use Rattle.jtypes.specs.declared.vtype.VType.{VType}
use Rattle.jtypes.specs.Assignability.{fits}
use Rattle.jtypes.specs.TypeFrames as frames
use Rattle.jtypes.specs.TypeFrames.{Frame, places_of}
use Rattle.jtypes.specs.ClassTrees.{Tree}
use Rattle.jresolution.specs.declared.jprogram.part.CodePart.{CodePart}
use Rattle.jresolution.specs.jprogram.ClassFileParts.{code_of}
use Rattle.jresolution.specs.jprogram.ProgramClasses.{Program, tree}
use Rattle.jresolution.specs.juses.InstructionMeanings.{class_at}
use Rattle.jtyping.specs.jrule.FormRules.{by_form}
use Rattle.jtyping.specs.jrule.StackOperands.{with_stack}
use Rattle.jtyping.specs.jrule.PoolEffects.{throwable}
use Rattle.jtyping.specs.jwelltyped.DeclaredFrames.{Written, declared_at, first_frame, is_good, written}
use Rattle.jtyping.specs.jwelltyped.MethodPremises.{Method, here_of, method_of}
use Rattle.jparts.specs.jcode.Instructions.{covers}

-- ---- from one frame to another

abbrev pub frame_fits : Tree → Frame → Frame → Bool
frame_fits t = frames.frame_fits (fits t)

-- a frame that arrives fits the declared one, where there is one
abbrev pub lets_in : Tree → Frame → Option Frame → Bool
lets_in t f = elim [ None ↦ true | Some d ↦ frame_fits t f d ]

-- there is a declared frame, and a frame fits it
abbrev pub leads_in : Tree → Frame → Option Frame → Bool
leads_in t f = elim [ None ↦ false | Some d ↦ frame_fits t f d ]

-- ---- handlers

-- what a handler catches, everything at index 0
abbrev pub caught_type : Program → Method → Handler → Option VType
caught_type p m h = if h.class == 0 then Some throwable else class_at p m.pool h.class

-- what is caught extends Throwable, and alone on the stack it goes on at the handler
abbrev pub caught_fits : Tree → Frame → Option Frame → Option VType → Bool
caught_fits t f at = elim [ None ↦ false | Some c ↦ fits t c throwable && leads_in t (with_stack f (c ∷ [])) at ]

abbrev pub handler_fits : Program → Method → List Written → Frame → Handler → Bool
handler_fits p m ws f h = caught_fits (tree p) f (declared_at ws (pos h.at)) (caught_type p m h)

-- the frame before an instruction at a place serves the handlers that cover it
abbrev pub handlers_fit : Program → Method → List Written → ℕ → Frame → Bool
handlers_fit p m ws at f = list_all (λ h. if covers at h then handler_fits p m ws f h else true) m.body.handlers

-- ---- an instruction

abbrev pub branches_fit : Program → List Written → Placed → Frame → Bool
branches_fit p ws o g = list_all (λ by. leads_in (tree p) g (declared_at ws (pos o.at +ℤ by))) (branches (form o.op))

-- What arrives at the instruction behind one: its frame where it goes on, and else nothing. None where it goes on and none is behind it,
-- or where the frame doesn't fit there.
abbrev pub onward : Program → List Written → Frame → Bool → List Placed → Option (Option Frame)
onward p ws g false rest = Some None
onward p ws g true [] = None
onward p ws g true (o ∷ rest) = if lets_in (tree p) g (declared_at ws (pos o.at)) then Some (Some g) else None

abbrev pub leave : Program → List Written → Placed → List Placed → Frame → Option (Option Frame)
leave p ws o rest g = if branches_fit p ws o g then onward p ws g (goes_on (form o.op)) rest else None

-- what arrives behind an instruction by the frame before it, or none where a test of it fails
unfoldable pub step : Program → Method → List Written → Placed → List Placed → Frame → Option (Option Frame)
step p m ws o rest f =
    if handlers_fit p m ws o.at f then option_and_then (leave p ws o rest) (by_form p (here_of p m o.at) m.pool (form o.op) f) else None

-- the frame with which an instruction begins: the declared one, or else what arrives
abbrev pub begun : Option Frame → Option Frame → Option Frame
begun x arriving = elim x [ Some d ↦ Some d | None ↦ arriving ]

-- the fault at a place, or what comes behind it
abbrev pub or_at : {A : Type 0} → ℕ → (A → Option ℕ) → Option A → Option ℕ
or_at at rest y = elim y [ None ↦ Some at | Some x ↦ rest x ]

-- the first instruction with a test that fails, from one on; an instruction without a frame fails
unfoldable pub walk : Program → Method → List Written → List Placed → Option Frame → Option ℕ
walk p m ws [] arriving = None
walk p m ws (o ∷ rest) arriving = or_at o.at (λ f. or_at o.at (walk p m ws rest) (step p m ws o rest f)) (begun (declared_at ws (pos o.at)) arriving)

-- ---- a method

-- the first frame that isn't good
abbrev pub frames_fault : Program → Method → List Written → Option ℕ
frames_fault p m ws = first_some (λ w. fault_if (not (is_good p m w)) w.at) ws

-- the parameters take no more locals than there are
abbrev pub room_fault : Method → Option ℕ
room_fault m = fault_if (nat_lt m.body.max_locals (length (places_of m.params))) 0

-- a frame fits where these instructions begin
abbrev pub enters : Program → List Written → Frame → List Placed → Bool
enters p ws f = elim [ [] ↦ true | o ∷ rest ↦ lets_in (tree p) f (declared_at ws (pos o.at)) ]

-- they fit where the method begins
abbrev pub entry_fault : Program → Method → List Written → Option ℕ
entry_fault p m ws = fault_if (not (enters p ws (first_frame m) m.body.ops)) 0

abbrev pub fault_with : Program → Method → List Written → Option ℕ
fault_with p m ws =
    or_else (frames_fault p m ws) (or_else (room_fault m) (or_else (entry_fault p m ws) (walk p m ws m.body.ops (Some (first_frame m)))))

-- the place of the first test that fails
unfoldable pub method_fault : Program → Method → Option ℕ
method_fault p m = fault_with p m (written p m)

-- ---- a program

-- a place in a method: the place of its class among the parts, its own among the methods, and the byte of its code
pub record Place : Type 0 where
  pub class : ℕ
  pub method : ℕ
  pub at : ℕ

abbrev pub in_method : ℕ → ℕ → Option ℕ → Option Place
in_method i j = elim [ None ↦ None | Some at ↦ Some (record { class = i; method = j; at = at }) ]

-- a method without code has none
unfoldable pub member_fault : Program → ClassParts → MemberInfo → Option ℕ
member_fault p c m = option_and_then (λ body. method_fault p (method_of p c m body)) (code_of m)

unfoldable pub class_fault : Program → ℕ → CodePart → Option Place
class_fault p i part = first_along (λ j m. in_method i j (member_fault p part.class m)) 0 part.class.methods

-- the first place with a test that fails: class by class, and in each method by method
unfoldable pub type_fault : Program → Option Place
type_fault p = first_along (class_fault p) 0 p.parts

unfoldable pub WellTyped : Program → Type 0
WellTyped p = type_fault p ≡ None
