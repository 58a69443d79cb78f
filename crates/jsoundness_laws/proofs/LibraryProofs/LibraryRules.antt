-- All calls of the library, and the rules of both machines.
use Rattle.std.proofs.Common.{◌≡◌, List, Option, sym, ◌∙◌}
use Rattle.jlib.specs.declared.calls.ControllerCall.{ControllerCall}
use Rattle.jlib.specs.declared.calls.ControllerCall.TheVariants as controllers
use Rattle.jlib.specs.declared.calls.LibCall.{LibCall}
use Rattle.jlib.specs.declared.calls.LibCall.TheVariants as calls
use Rattle.jlib.specs.declared.calls.RtCall.{RtCall}
use Rattle.jlib.specs.declared.calls.RtCall.TheVariants as rt
use Rattle.jlib.specs.declared.side.Side.{Side}
use Rattle.jlib.specs.declared.side.Side.TheVariants.{Source, Passing}
use Rattle.jtypes.specs.declared.vtype.VType.{VType}
use Rattle.jresolution.specs.juses.DescriptorTypes.{Called, Held}
use Rattle.jsoundness_laws.specs.library.YieldLaws.{CallYields}
use Rattle.jsoundness_laws.proofs.LibraryProofs.ContextRows.{check_yields, enter_yields, kept_yields, rt_check_yields, rt_snapshot_yields, snapshot_yields}
use Rattle.jsoundness_laws.proofs.LibraryProofs.PermissionRows.{permission_yields}
use Rattle.jsoundness_laws.proofs.LibraryProofs.PrivilegeRows.{alone_yields, limited_yields, rt_alone_yields, rt_limited_yields, rt_within_yields, within_yields}
use Rattle.jsoundness_laws.proofs.LibraryProofs.MemberDescriptors.{out_says}
use Rattle.jsoundness_laws.proofs.LibraryProofs.TextRows.{builder_yields, print_end_yields, print_yields, string_yields}
use Rattle.jsoundness_laws.proofs.LibraryProofs.ThreadRows.{thread_yields}
use Rattle.jsoundness_laws.proofs.LibraryProofs.ThrowableRows.{control_yields, get_yields, object_yields, thrown_yields}

no_call : (t : VType) (ps : List VType) (ret : Option VType) → Held t ≡ Called ps ret → ⊥
no_call t ps ret e = cc

module _ (K E : Type 0) where
  pub controller_yields : (call : ControllerCall) → CallYields K E (calls.Controller call)
  controller_yields controllers.Check = check_yields K E
  controller_yields controllers.Snapshot = snapshot_yields K E
  controller_yields controllers.Privileged = alone_yields K E
  controller_yields controllers.PrivilegedWith = within_yields K E
  controller_yields controllers.PrivilegedLimited = limited_yields K E

  pub rt_yields : (call : RtCall) → CallYields K E (calls.Rt call)
  rt_yields rt.Enter = enter_yields K E
  rt_yields rt.Check = rt_check_yields K E
  rt_yields rt.Snapshot = rt_snapshot_yields K E
  rt_yields rt.Privileged = rt_alone_yields K E
  rt_yields rt.PrivilegedWith = rt_within_yields K E
  rt_yields rt.PrivilegedLimited = rt_limited_yields K E

  out_yields : CallYields K E calls.Out
  out_yields r at own s entries inherited p statics params ret values good is side sided stored code says given = absurd (no_call _ params ret (sym (out_says p good) ∙ says))

  -- both `run` have no code
  run_yields : (side : Side) → CallYields K E (calls.Run side)
  run_yields Source r at own s entries inherited p statics params ret values good is side sided stored code says given = absurd (cc)
  run_yields Passing r at own s entries inherited p statics params ret values good is side sided stored code says given = absurd (cc)

  run_action_yields : (side : Side) → CallYields K E (calls.RunAction side)
  run_action_yields Source r at own s entries inherited p statics params ret values good is side sided stored code says given = absurd (cc)
  run_action_yields Passing r at own s entries inherited p statics params ret values good is side sided stored code says given = absurd (cc)

  pub library_yields : (call : LibCall) → CallYields K E call
  library_yields calls.ObjectInit = object_yields K E
  library_yields (calls.ThrownInit class way) = thrown_yields K E class way
  library_yields calls.AccessControlInit = control_yields K E
  library_yields calls.GetMessage = get_yields K E
  library_yields (calls.String call) = string_yields K E call
  library_yields (calls.Builder call) = builder_yields K E call
  library_yields calls.Out = out_yields
  library_yields calls.PrintEnd = print_end_yields K E
  library_yields (calls.Print piece) = print_yields K E piece
  library_yields (calls.Run side) = run_yields side
  library_yields (calls.Thread call) = thread_yields K E call
  library_yields (calls.RunAction side) = run_action_yields side
  library_yields (calls.Controller call) = controller_yields call
  library_yields calls.ContextCheck = kept_yields K E
  library_yields (calls.PermissionInit call) = permission_yields K E call
  library_yields (calls.Rt call) = rt_yields call
