-- What an instruction becomes, by what its reference stands for.
use Rattle.std.specs.Prelude.{ℕ, List, map, Option, Some, slice_get}
use Rattle.jparts.specs.declared.jpool.entry.Entry.{Entry}
use Rattle.jparts.specs.declared.jcode.op.Op.{Op}
use Rattle.jparts.specs.declared.jcode.op.Op.TheVariants as ops
use Rattle.jparts.specs.declared.jcode.op.Placed.{Placed}
use Rattle.jlib.specs.declared.calls.ControllerCall.TheVariants as controller
use Rattle.jlib.specs.declared.calls.ThreadCall.TheVariants as thread
use Rattle.jlib.specs.declared.calls.LibCall.TheVariants as calls
use Rattle.jmove.specs.declared.method.Expand.{Expand}
use Rattle.jmove.specs.declared.method.Expand.TheVariants.{Same, Call, Check, Snapshot, Privileged, PrivilegedWith, PrivilegedLimited}
use Rattle.jresolution.specs.declared.jprogram.member.Member.{Member}
use Rattle.jresolution.specs.declared.jprogram.member.Member.TheVariants as members
use Rattle.jresolution.specs.jprogram.ProgramClasses.{Program}
use Rattle.jresolution.specs.jprogram.MemberResolution.{referred}

-- every method of a user is, and of the library both `run` and Thread's constructor
abbrev pub calling : ℕ → Option Member → Expand
calling n (Some (members.Method m)) = Call n
calling n (Some (members.LibMethod (calls.Run side))) = Call n
calling n (Some (members.LibMethod (calls.RunAction side))) = Call n
calling n (Some (members.LibMethod (calls.Thread (thread.Init side)))) = Call n
calling n (Some (members.LibMethod (calls.Controller controller.Check))) = Check n
calling n (Some (members.LibMethod (calls.Controller controller.Snapshot))) = Snapshot n
calling n (Some (members.LibMethod (calls.Controller controller.Privileged))) = Privileged n
calling n (Some (members.LibMethod (calls.Controller controller.PrivilegedWith))) = PrivilegedWith n
calling n (Some (members.LibMethod (calls.Controller controller.PrivilegedLimited))) = PrivilegedLimited n
calling n one = Same

-- only calls change
abbrev pub expand_by : (ℕ → Option Member) → Op → Expand
expand_by stands_for = elim [ ops.Call op n ↦ calling n (stands_for n) | ops.CallInterface n slots ↦ calling n (stands_for n) | _ ↦ Same ]

-- what the instructions of a class with this pool become
unfoldable pub expands : Program → List Entry → List Placed → List Expand
expands p pool is = map (λ i. expand_by (λ n. referred p pool (slice_get pool n)) i.op) is
