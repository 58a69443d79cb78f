-- What instructions become, computed: a whole body, the methods of AccessController, what else is handed a context, and branches.
use Rattle.std.proofs.Common.{◌≡◌, ℕ, ◌+◌, ◌*◌, pos, List, [], ◌∷◌, ◌++◌, Option, Some, None, refl}
use Rattle.std.specs.Prelude.{codes}
use Rattle.std.specs.List.{flat_map}
use Rattle.jvalues.specs.declared.jnames.names.Shuffle.TheVariants.{Dup}
use Rattle.jparts.specs.declared.jcode.names.Access.TheVariants.{Load, Store}
use Rattle.jparts.specs.declared.jcode.names.LocalKind.TheVariants as locals
use Rattle.jparts.specs.declared.jcode.names.Returned.TheVariants.{Nothing}
use Rattle.jparts.specs.declared.jcode.op_form.LocalForm.TheVariants.{Move}
use Rattle.jparts.specs.declared.jcode.op_form.Simple.TheVariants as simples
use Rattle.jlib.specs.declared.side.Side.TheVariants.{Source, Passing}
use Rattle.jlib.specs.declared.calls.ControllerCall.{ControllerCall}
use Rattle.jlib.specs.declared.calls.ControllerCall.TheVariants as controller
use Rattle.jlib.specs.declared.calls.LibCall.{LibCall}
use Rattle.jlib.specs.declared.calls.LibCall.TheVariants as calls
use Rattle.jlib.specs.declared.calls.PermissionInit.TheVariants as inits
use Rattle.jlib.specs.declared.calls.RtCall.{RtCall}
use Rattle.jlib.specs.declared.calls.RtCall.TheVariants as rt
use Rattle.jlib.specs.declared.calls.ThreadCall.TheVariants as threads
use Rattle.jlib.specs.declared.classes.LibClass.{LibClass}
use Rattle.jlib.specs.declared.classes.LibClass.TheVariants as lib
use Rattle.jlib.specs.declared.classes.PermissionClass.TheVariants as kinds
use Rattle.jtypes.specs.declared.vtype.VType.{VType}
use Rattle.jtypes.specs.declared.vtype.VType.TheVariants as types
use Rattle.jresolution.specs.declared.jprogram.member.Member.TheVariants.{Method, LibMethod}
use Rattle.jresolution.specs.jprogram.MemberResolution.{method_id}
use Rattle.jresolution.specs.declared.juses.meaning.InvokeKind.{InvokeKind}
use Rattle.jresolution.specs.declared.juses.meaning.InvokeKind.TheVariants as how
use Rattle.jresolution.specs.juses.IndexedInstructions.{Instruction, Always, Jump, Local, Return, Simple, Stack, Switch, Used}
use Rattle.jresolution.specs.juses.InstructionMeanings.{Call, Make, Push, Text}
use Rattle.jresolution.specs.juses.DescriptorTypes.{name}
use Rattle.jtyping.specs.jrule.PoolEffects.{of_library}
use Rattle.jtyping.specs.ProofNames.{string}
use Rattle.jsemantics.specs.jmachine.HeapObjects.{library_name}
use Rattle.jsimulation_laws.specs.relation.InstructionExpansion.{Place, asking_params, expanded, prologue, rt_meaning}

abbrev call : InvokeKind → LibClass → List VType → Option VType → LibCall → Instruction
call by owner params ret member = Used (Call by (record { owner = library_name owner; params = params; ret = ret; member = LibMethod member }))

abbrev object : VType
object = of_library lib.Object

abbrev permission : VType
permission = of_library (lib.Permission kinds.Permission)

-- aload, astore, sipush
abbrev aload : ℕ → Instruction
aload n = Local (Move Load locals.Ref n)

abbrev astore : ℕ → Instruction
astore n = Local (Move Store locals.Ref n)

abbrev sipush : ℕ → Instruction
sipush n = Simple (simples.Int (pos n))

-- a call of a method of `sps/Rt`
abbrev passes : List VType → Option VType → RtCall → Instruction
passes params ret one = call how.Static lib.Rt params ret (calls.Rt one)

-- where expansions begin that have two instructions each
abbrev to : ℕ → ℕ
to n = 4 + 2 * n

-- ---- a body: `main`, of one slot, which makes a permission, checks it and returns

abbrev main : List Instruction
main =
    Used (Make (library_name (lib.Permission kinds.PropertyPermission)))
    ∷ Stack Dup
    ∷ Used (Push (Text (codes "x")))
    ∷ Used (Push (Text (codes "read")))
    ∷ call how.Init (lib.Permission kinds.PropertyPermission) (string ∷ string ∷ []) None (calls.PermissionInit inits.Property)
    ∷ call how.Static lib.AccessController (permission ∷ []) None (calls.Controller controller.Check)
    ∷ Return Nothing
    ∷ []

-- its context is in local 2, behind the slot in which its caller's is
abbrev here : Place
here = record { local = 2; domain = 0 }

moved_main : prologue 1 here ++ flat_map (expanded here to) main
    ≡ aload 1
    ∷ sipush 0
    ∷ passes (types.Int ∷ types.Ctx ∷ []) (Some types.Ctx) rt.Enter
    ∷ astore 2
    ∷ Used (Make (library_name (lib.Permission kinds.PropertyPermission)))
    ∷ Stack Dup
    ∷ Used (Push (Text (codes "x")))
    ∷ Used (Push (Text (codes "read")))
    ∷ call how.Init (lib.Permission kinds.PropertyPermission) (string ∷ string ∷ []) None (calls.PermissionInit inits.Property)
    ∷ aload 2
    ∷ passes (types.Ctx ∷ permission ∷ []) None rt.Check
    ∷ Return Nothing
    ∷ []
moved_main = refl

-- ---- the methods of AccessController, in a method of domain 7 that has its context in local 300

abbrev place : Place
place = record { local = 300; domain = 7 }

abbrev asks : ControllerCall → Option VType → Instruction
asks one ret = call how.Static lib.AccessController (asking_params one) ret (calls.Controller one)

check : expanded place to (asks controller.Check None) ≡ aload 300 ∷ passes (types.Ctx ∷ permission ∷ []) None rt.Check ∷ []
check = refl

snapshot : expanded place to (asks controller.Snapshot (Some (of_library lib.AccessControlContext)))
    ≡ aload 300 ∷ passes (types.Ctx ∷ []) (Some (of_library lib.AccessControlContext)) rt.Snapshot ∷ []
snapshot = refl

privileged : expanded place to (asks controller.Privileged (Some object))
    ≡ sipush 7 ∷ passes (types.Int ∷ of_library lib.PrivilegedAction ∷ []) (Some object) rt.Privileged ∷ []
privileged = refl

privileged_with : expanded place to (asks controller.PrivilegedWith (Some object))
    ≡ sipush 7 ∷ passes (types.Int ∷ of_library lib.AccessControlContext ∷ of_library lib.PrivilegedAction ∷ []) (Some object) rt.PrivilegedWith ∷ []
privileged_with = refl

privileged_limited : expanded place to (asks controller.PrivilegedLimited (Some object))
    ≡ aload 300 ∷ sipush 7 ∷ Used (Call how.Static (rt_meaning rt.PrivilegedLimited)) ∷ []
privileged_limited = refl

-- that of an AccessControlContext, which asks nothing of the method's own context, stays as it is
kept : expanded place to (call how.Virtual lib.AccessControlContext (permission ∷ []) None calls.ContextCheck)
    ≡ call how.Virtual lib.AccessControlContext (permission ∷ []) None calls.ContextCheck ∷ []
kept = refl

-- ---- what else is handed a context

thread : expanded place to (call how.Init lib.Thread (of_library lib.Runnable ∷ []) None (calls.Thread (threads.Init Source)))
    ≡ aload 300 ∷ call how.Init lib.Thread (types.Ctx ∷ of_library lib.Runnable ∷ []) None (calls.Thread (threads.Init Passing)) ∷ []
thread = refl

run : expanded place to (call how.Interface lib.Runnable [] None (calls.Run Source))
    ≡ aload 300 ∷ call how.Interface lib.Runnable (types.Ctx ∷ []) None (calls.Run Passing) ∷ []
run = refl

run_action : expanded place to (call how.Interface lib.PrivilegedAction [] (Some object) (calls.RunAction Source))
    ≡ aload 300 ∷ call how.Interface lib.PrivilegedAction (types.Ctx ∷ []) (Some object) (calls.RunAction Passing) ∷ []
run_action = refl

-- a user's method, by the class that names it
abbrev users : List VType → Instruction
users params = Used (Call how.Special (record { owner = name (codes "A"); params = params; ret = Some types.Long; member = Method (method_id 3 1) }))

method : expanded place to (users (types.Long ∷ string ∷ [])) ≡ aload 300 ∷ users (types.Ctx ∷ types.Long ∷ string ∷ []) ∷ []
method = refl

-- other calls of the library stay as they are
start : expanded place to (call how.Virtual lib.Thread [] None (calls.Thread threads.Start)) ≡ call how.Virtual lib.Thread [] None (calls.Thread threads.Start) ∷ []
start = refl

-- ---- branches, to where expansions begin

jump : expanded place to (Jump Always 5) ≡ Jump Always 14 ∷ []
jump = refl

switch : expanded place to (Switch ((pos 1, 0) ∷ (pos 10, 3) ∷ []) 2) ≡ Switch ((pos 1, 4) ∷ (pos 10, 10) ∷ []) 8 ∷ []
switch = refl
