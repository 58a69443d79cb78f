-- What instructions become in a moved program, by what they mean there: the same as moving does to their bytes.
use Rattle.std.specs.Prelude.{◌≤◌, ℕ, ℤ, pos, Bool, true, false, List, [], ◌∷◌, length, map, Option, Some, None}
use Rattle.jparts.specs.declared.jcode.names.Access.TheVariants.{Load, Store}
use Rattle.jparts.specs.declared.jcode.names.LocalKind.TheVariants as locals
use Rattle.jparts.specs.declared.jcode.op_form.LocalForm.TheVariants.{Move}
use Rattle.jparts.specs.declared.jcode.op_form.Simple.TheVariants as simples
use Rattle.jlib.specs.declared.side.Side.TheVariants.{Source, Passing}
use Rattle.jlib.specs.declared.calls.ControllerCall.{ControllerCall}
use Rattle.jlib.specs.declared.calls.ControllerCall.TheVariants as controller
use Rattle.jlib.specs.declared.calls.LibCall.{LibCall}
use Rattle.jlib.specs.declared.calls.LibCall.TheVariants as calls
use Rattle.jlib.specs.declared.calls.RtCall.{RtCall}
use Rattle.jlib.specs.declared.calls.RtCall.TheVariants as rt
use Rattle.jlib.specs.declared.calls.ThreadCall.TheVariants as threads
use Rattle.jlib.specs.declared.classes.LibClass.TheVariants as lib
use Rattle.jlib.specs.declared.classes.PermissionClass.TheVariants as kinds
use Rattle.jtypes.specs.declared.vtype.ArrayType.{ArrayType}
use Rattle.jtypes.specs.declared.vtype.Element.TheVariants as elements
use Rattle.jtypes.specs.declared.vtype.VType.{VType}
use Rattle.jtypes.specs.declared.vtype.VType.TheVariants as types
use Rattle.jresolution.specs.declared.jprogram.member.Member.{Member}
use Rattle.jresolution.specs.declared.jprogram.member.Member.TheVariants.{Method, LibMethod}
use Rattle.jresolution.specs.declared.juses.meaning.InvokeKind.{InvokeKind}
use Rattle.jresolution.specs.declared.juses.meaning.InvokeKind.TheVariants as how
use Rattle.jresolution.specs.juses.IndexedInstructions.{Instruction, Simple, Local, Jump, Switch, Used}
use Rattle.jresolution.specs.juses.InstructionMeanings.{CallMeaning, Call}
use Rattle.jtyping.specs.jrule.PoolEffects.{of_library}
use Rattle.jsemantics.specs.jmachine.CallTargets.{Target, Fails, Pushes, Runs}
use Rattle.jsemantics.specs.jmachine.HeapObjects.{library_name}

-- ---- what calls hand on

-- what a call of a member hands on
pub data Way : Type 0 where
  -- the context of its method
  Handed : Way
  -- the context, the domain or both, to what stands for a method of AccessController
  Asking : ControllerCall → Way
  -- nothing
  Alone : Way

-- of the library both `run` and Thread's constructor are handed the context
abbrev pub library_way : LibCall → Way
library_way (calls.Run side) = Handed
library_way (calls.RunAction side) = Handed
library_way (calls.Thread (threads.Init side)) = Handed
library_way (calls.Controller call) = Asking call
library_way call = Alone

-- every method of a user is
abbrev pub way_of : Member → Way
way_of (Method m) = Handed
way_of (LibMethod call) = library_way call
way_of m = Alone

-- ---- members

abbrev pub passing : LibCall → LibCall
passing (calls.Run side) = calls.Run Passing
passing (calls.RunAction side) = calls.RunAction Passing
passing (calls.Thread (threads.Init side)) = calls.Thread (threads.Init Passing)
passing call = call

-- a member as the moved program has it
abbrev pub moved_member : Member → Member
moved_member (LibMethod call) = LibMethod (passing call)
moved_member m = m

-- ---- what calls come to

abbrev pub moved_target : Target → Target
moved_target (Runs call) = Runs (passing call)
moved_target to = to

-- of the library, where a call hands on a context
abbrev pub runs_handed : LibCall → Bool
runs_handed (calls.Run side) = true
runs_handed (calls.RunAction side) = true
runs_handed (calls.Thread (threads.Init Source)) = true
runs_handed call = false

-- of the library, where it hands on nothing: what isn't handed a context and makes no use of one
abbrev pub runs_alone : LibCall → Bool
runs_alone (calls.Run side) = false
runs_alone (calls.RunAction side) = false
runs_alone (calls.Thread (threads.Init side)) = false
runs_alone (calls.Controller call) = false
runs_alone (calls.Rt call) = false
runs_alone call = true

-- where a call hands on a context: an exception, a user's method, or such a member of the library
abbrev pub comes_handed : Target → Bool
comes_handed (Fails class) = true
comes_handed (Pushes m) = true
comes_handed (Runs call) = runs_handed call

-- where it hands on nothing: no user's method
abbrev pub comes_alone : Target → Bool
comes_alone (Fails class) = true
comes_alone (Pushes m) = false
comes_alone (Runs call) = runs_alone call

-- ---- calls

-- with a context as one more parameter, the newest
abbrev pub handed : CallMeaning → CallMeaning
handed c = record { owner = c.owner; params = types.Ctx ∷ c.params; ret = c.ret; member = moved_member c.member }

abbrev pub permission : VType
permission = of_library (lib.Permission kinds.Permission)

abbrev pub permissions : ArrayType
permissions = record { depth = 1; element = elements.Class (library_name (lib.Permission kinds.Permission)) }

abbrev pub action : VType
action = of_library lib.PrivilegedAction

abbrev pub context : VType
context = of_library lib.AccessControlContext

-- what the methods of AccessController are given, the newest first,
abbrev pub asking_params : ControllerCall → List VType
asking_params controller.Check = permission ∷ []
asking_params controller.Snapshot = []
asking_params controller.Privileged = action ∷ []
asking_params controller.PrivilegedWith = context ∷ action ∷ []
asking_params controller.PrivilegedLimited = types.Array permissions ∷ context ∷ action ∷ []

-- and those of `sps/Rt`
abbrev pub rt_params : RtCall → List VType
rt_params rt.Enter = types.Int ∷ types.Ctx ∷ []
rt_params rt.Check = types.Ctx ∷ asking_params controller.Check
rt_params rt.Snapshot = types.Ctx ∷ asking_params controller.Snapshot
rt_params rt.Privileged = types.Int ∷ asking_params controller.Privileged
rt_params rt.PrivilegedWith = types.Int ∷ asking_params controller.PrivilegedWith
rt_params rt.PrivilegedLimited = types.Int ∷ types.Ctx ∷ asking_params controller.PrivilegedLimited

abbrev pub rt_ret : RtCall → Option VType
rt_ret rt.Enter = Some types.Ctx
rt_ret rt.Check = None
rt_ret rt.Snapshot = Some context
rt_ret call = Some (of_library lib.Object)

-- a call of a method of `sps/Rt`
abbrev pub rt_meaning : RtCall → CallMeaning
rt_meaning call = record { owner = library_name lib.Rt; params = rt_params call; ret = rt_ret call; member = LibMethod (calls.Rt call) }

-- ---- single instructions

abbrev pub load : ℕ → Instruction
load n = Local (Move Load locals.Ref n)

abbrev pub keep : ℕ → Instruction
keep n = Local (Move Store locals.Ref n)

abbrev pub push : ℕ → Instruction
push n = Simple (simples.Int (pos n))

abbrev pub call_rt : RtCall → Instruction
call_rt call = Used (Call how.Static (rt_meaning call))

-- ---- expansions

-- the local in which a method keeps its context, and its domain
pub record Place : Type 0 where
  pub local : ℕ
  pub domain : ℕ

-- what a body begins with; its caller's context stands behind the slots of the parameters
abbrev pub prologue : ℕ → Place → List Instruction
prologue slots p = load slots ∷ push p.domain ∷ call_rt rt.Enter ∷ keep p.local ∷ []

abbrev pub asking : Place → ControllerCall → List Instruction
asking p controller.Check = load p.local ∷ call_rt rt.Check ∷ []
asking p controller.Snapshot = load p.local ∷ call_rt rt.Snapshot ∷ []
asking p controller.Privileged = push p.domain ∷ call_rt rt.Privileged ∷ []
asking p controller.PrivilegedWith = push p.domain ∷ call_rt rt.PrivilegedWith ∷ []
asking p controller.PrivilegedLimited = load p.local ∷ push p.domain ∷ call_rt rt.PrivilegedLimited ∷ []

abbrev pub handing : Place → InvokeKind → CallMeaning → List Instruction
handing p by c = load p.local ∷ Used (Call by (handed c)) ∷ []

abbrev pub calling : Place → InvokeKind → CallMeaning → Way → List Instruction
calling p by c Handed = handing p by c
calling p by c (Asking call) = asking p call
calling p by c Alone = Used (Call by c) ∷ []

abbrev pub led_case : (ℕ → ℕ) → ℤ × ℕ → ℤ × ℕ
led_case to c = (c.0, to c.1)

-- what an instruction becomes; `to` says with which number the expansion of each begins
abbrev pub expanded : Place → (ℕ → ℕ) → Instruction → List Instruction
expanded p to (Jump test n) = Jump test (to n) ∷ []
expanded p to (Switch cases other) = Switch (map (led_case to) cases) (to other) ∷ []
expanded p to (Used (Call by c)) = calling p by c (way_of c.member)
expanded p to i = i ∷ []

-- ---- a law

-- Each instruction becomes one, two or three.
abbrev pub FewExpanded : Type 0
FewExpanded = (p : Place) (to : ℕ → ℕ) (i : Instruction) → (1 ≤ length (expanded p to i)) × (length (expanded p to i) ≤ 3)
