-- How many steps of a moved program answer some instructions, computed.
use Rattle.std.proofs.Common.{◌≡◌, true, false, [], Some, None, refl}
use Rattle.std.specs.Prelude.{codes}
use Rattle.jvalues.specs.declared.jnames.names.OpTwo.TheVariants.{Iadd}
use Rattle.jparts.specs.declared.jcode.op_form.Simple.TheVariants as simples
use Rattle.jlib.specs.declared.side.Side.TheVariants.{Source}
use Rattle.jlib.specs.declared.calls.ControllerCall.TheVariants as controller
use Rattle.jlib.specs.declared.calls.LibCall.{LibCall}
use Rattle.jlib.specs.declared.calls.LibCall.TheVariants as calls
use Rattle.jlib.specs.declared.calls.ThreadCall.TheVariants as threads
use Rattle.jresolution.specs.declared.jprogram.member.Member.{Member}
use Rattle.jresolution.specs.declared.jprogram.member.Member.TheVariants.{LibMethod, Method}
use Rattle.jresolution.specs.jprogram.MemberResolution.{method_id}
use Rattle.jresolution.specs.declared.juses.meaning.InvokeKind.{InvokeKind}
use Rattle.jresolution.specs.declared.juses.meaning.InvokeKind.TheVariants as how
use Rattle.jresolution.specs.juses.IndexedInstructions.{Instruction, Always, Jump, Simple, Throw, Used}
use Rattle.jresolution.specs.juses.InstructionMeanings.{Call}
use Rattle.jresolution.specs.juses.DescriptorTypes.{name}
use Rattle.jsimulation_laws.specs.relation.StepCounts.{steps_of}

-- a call of a member; its class and its types don't count
abbrev of_member : InvokeKind → Member → Instruction
of_member by m = Used (Call by (record { owner = name (codes "A"); params = []; ret = None; member = m }))

abbrev of_library : InvokeKind → LibCall → Instruction
of_library by one = of_member by (LibMethod one)

-- ---- one for one

iadd : steps_of (Some (Simple (simples.Two Iadd))) false ≡ 1
iadd = refl

goto : steps_of (Some (Jump Always 5)) false ≡ 1
goto = refl

athrow : steps_of (Some Throw) false ≡ 1
athrow = refl

start : steps_of (Some (of_library how.Virtual (calls.Thread threads.Start))) false ≡ 1
start = refl

-- that of an AccessControlContext asks nothing of the method's own context
kept : steps_of (Some (of_library how.Virtual calls.ContextCheck)) false ≡ 1
kept = refl

-- ---- calls that hand on a context

-- invokevirtual of a user's method, and where it throws in the method's place
method : steps_of (Some (of_member how.Virtual (Method (method_id 3 1)))) true ≡ 6
method = refl

thrown : steps_of (Some (of_member how.Virtual (Method (method_id 3 1)))) false ≡ 2
thrown = refl

run : steps_of (Some (of_library how.Interface (calls.Run Source))) true ≡ 6
run = refl

thread : steps_of (Some (of_library how.Init (calls.Thread (threads.Init Source)))) false ≡ 2
thread = refl

-- ---- access control

check : steps_of (Some (of_library how.Static (calls.Controller controller.Check))) false ≡ 2
check = refl

snapshot : steps_of (Some (of_library how.Static (calls.Controller controller.Snapshot))) false ≡ 2
snapshot = refl

privileged : steps_of (Some (of_library how.Static (calls.Controller controller.Privileged))) true ≡ 6
privileged = refl

limited : steps_of (Some (of_library how.Static (calls.Controller controller.PrivilegedLimited))) true ≡ 7
limited = refl

-- ---- a thread begins with `run`, or ends

begins : steps_of None true ≡ 5
begins = refl

ends : steps_of None false ≡ 1
ends = refl
