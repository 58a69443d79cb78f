-- Members of the library on both sides: which stand where, and which of them are handed a context.
use Rattle.std.proofs.Common.{◌≡◌, ℕ, true, false, refl}
use Rattle.jparts.specs.jpool.Descriptors.{base_at, class_at, closing_at, descriptor_of, field_of, method_of, params_at, return_at, slots_of, type_at}
use Rattle.jparts.specs.jpool.ClassNames.{is_class_name}
use Rattle.jlib.specs.declared.side.Side.{Side}
use Rattle.jlib.specs.declared.side.Side.TheVariants.{Passing, Source}
use Rattle.jlib.specs.declared.calls.LibCall.{LibCall}
use Rattle.jlib.specs.declared.calls.LibCall.TheVariants as call
use Rattle.jresolution.specs.declared.jprogram.member.Member.TheVariants as members
use Rattle.jlib.specs.declared.calls.ThrownInit.TheVariants as given
use Rattle.jlib.specs.declared.calls.PrintedType.TheVariants as piece
use Rattle.jlib.specs.declared.calls.StringCall.TheVariants as string
use Rattle.jlib.specs.declared.calls.BuilderCall.TheVariants as builder
use Rattle.jlib.specs.declared.calls.ThreadCall.TheVariants as thread
use Rattle.jlib.specs.declared.calls.ControllerCall.TheVariants as controller
use Rattle.jlib.specs.declared.calls.PermissionInit.TheVariants as init
use Rattle.jlib.specs.declared.calls.RtCall.TheVariants as rt
use Rattle.jlib.specs.LibraryMembers.{call_stands_on, desc_of, is_field, owner}
use Rattle.jlib.specs.LibraryClasses.{name_of}
use Rattle.jmove.specs.declared.method.Expand.TheVariants.{Same}
use Rattle.jresolution.specs.jprogram.NameChecks.{is_reserved, text_reserved}
use Rattle.jmoveclass.specs.CallExpansion.{calling}
use Rattle.std.specs.Prelude.{Some}

-- a field stands on both sides
pub field_both : (m : LibCall) → is_field m ≡ true → (side : Side) → call_stands_on side m ≡ true
field_both call.ObjectInit h side = absurd cc
field_both (call.ThrownInit one given.Message) h side = absurd cc
field_both (call.ThrownInit one given.Nothing) h side = absurd cc
field_both call.AccessControlInit h side = absurd cc
field_both call.GetMessage h side = absurd cc
field_both (call.String string.Length) h side = absurd cc
field_both (call.String string.CharAt) h side = absurd cc
field_both (call.String string.Equals) h side = absurd cc
field_both (call.String string.Concat) h side = absurd cc
field_both (call.Builder builder.Init) h side = absurd cc
field_both (call.Builder builder.InitText) h side = absurd cc
field_both (call.Builder (builder.Append piece.Int)) h side = absurd cc
field_both (call.Builder (builder.Append piece.Long)) h side = absurd cc
field_both (call.Builder (builder.Append piece.Char)) h side = absurd cc
field_both (call.Builder (builder.Append piece.Bool)) h side = absurd cc
field_both (call.Builder (builder.Append piece.Text)) h side = absurd cc
field_both (call.Builder builder.ToString) h side = absurd cc
field_both call.Out h side = refl
field_both call.PrintEnd h side = absurd cc
field_both (call.Print piece.Int) h side = absurd cc
field_both (call.Print piece.Long) h side = absurd cc
field_both (call.Print piece.Char) h side = absurd cc
field_both (call.Print piece.Bool) h side = absurd cc
field_both (call.Print piece.Text) h side = absurd cc
field_both (call.Run Source) h side = absurd cc
field_both (call.Run Passing) h side = absurd cc
field_both (call.Thread (thread.Init Source)) h side = absurd cc
field_both (call.Thread (thread.Init Passing)) h side = absurd cc
field_both (call.Thread thread.Start) h side = absurd cc
field_both (call.Thread thread.Join) h side = absurd cc
field_both (call.Thread thread.Yield) h side = absurd cc
field_both (call.RunAction Source) h side = absurd cc
field_both (call.RunAction Passing) h side = absurd cc
field_both (call.Controller controller.Check) h side = absurd cc
field_both (call.Controller controller.Snapshot) h side = absurd cc
field_both (call.Controller controller.Privileged) h side = absurd cc
field_both (call.Controller controller.PrivilegedWith) h side = absurd cc
field_both (call.Controller controller.PrivilegedLimited) h side = absurd cc
field_both call.ContextCheck h side = absurd cc
field_both (call.PermissionInit init.All) h side = absurd cc
field_both (call.PermissionInit init.Runtime) h side = absurd cc
field_both (call.PermissionInit init.RuntimeActions) h side = absurd cc
field_both (call.PermissionInit init.Security) h side = absurd cc
field_both (call.PermissionInit init.SecurityActions) h side = absurd cc
field_both (call.PermissionInit init.Property) h side = absurd cc
field_both (call.PermissionInit init.File) h side = absurd cc
field_both (call.Rt rt.Enter) h side = absurd cc
field_both (call.Rt rt.Check) h side = absurd cc
field_both (call.Rt rt.Snapshot) h side = absurd cc
field_both (call.Rt rt.Privileged) h side = absurd cc
field_both (call.Rt rt.PrivilegedWith) h side = absurd cc
field_both (call.Rt rt.PrivilegedLimited) h side = absurd cc

-- what is called as before stands on the passing side
pub same_stands : (n : ℕ) (m : LibCall) → calling n (Some (members.LibMethod m)) ≡ Same → call_stands_on Passing m ≡ true
same_stands n call.ObjectInit h = refl
same_stands n (call.ThrownInit one given.Message) h = refl
same_stands n (call.ThrownInit one given.Nothing) h = refl
same_stands n call.AccessControlInit h = refl
same_stands n call.GetMessage h = refl
same_stands n (call.String string.Length) h = refl
same_stands n (call.String string.CharAt) h = refl
same_stands n (call.String string.Equals) h = refl
same_stands n (call.String string.Concat) h = refl
same_stands n (call.Builder builder.Init) h = refl
same_stands n (call.Builder builder.InitText) h = refl
same_stands n (call.Builder (builder.Append piece.Int)) h = refl
same_stands n (call.Builder (builder.Append piece.Long)) h = refl
same_stands n (call.Builder (builder.Append piece.Char)) h = refl
same_stands n (call.Builder (builder.Append piece.Bool)) h = refl
same_stands n (call.Builder (builder.Append piece.Text)) h = refl
same_stands n (call.Builder builder.ToString) h = refl
same_stands n call.Out h = refl
same_stands n call.PrintEnd h = refl
same_stands n (call.Print piece.Int) h = refl
same_stands n (call.Print piece.Long) h = refl
same_stands n (call.Print piece.Char) h = refl
same_stands n (call.Print piece.Bool) h = refl
same_stands n (call.Print piece.Text) h = refl
same_stands n (call.Run Source) h = absurd cc
same_stands n (call.Run Passing) h = absurd cc
same_stands n (call.Thread (thread.Init Source)) h = absurd cc
same_stands n (call.Thread (thread.Init Passing)) h = absurd cc
same_stands n (call.Thread thread.Start) h = refl
same_stands n (call.Thread thread.Join) h = refl
same_stands n (call.Thread thread.Yield) h = refl
same_stands n (call.RunAction Source) h = absurd cc
same_stands n (call.RunAction Passing) h = absurd cc
same_stands n (call.Controller controller.Check) h = absurd cc
same_stands n (call.Controller controller.Snapshot) h = absurd cc
same_stands n (call.Controller controller.Privileged) h = absurd cc
same_stands n (call.Controller controller.PrivilegedWith) h = absurd cc
same_stands n (call.Controller controller.PrivilegedLimited) h = absurd cc
same_stands n call.ContextCheck h = refl
same_stands n (call.PermissionInit init.All) h = refl
same_stands n (call.PermissionInit init.Runtime) h = refl
same_stands n (call.PermissionInit init.RuntimeActions) h = refl
same_stands n (call.PermissionInit init.Security) h = refl
same_stands n (call.PermissionInit init.SecurityActions) h = refl
same_stands n (call.PermissionInit init.Property) h = refl
same_stands n (call.PermissionInit init.File) h = refl
same_stands n (call.Rt rt.Enter) h = refl
same_stands n (call.Rt rt.Check) h = refl
same_stands n (call.Rt rt.Snapshot) h = refl
same_stands n (call.Rt rt.Privileged) h = refl
same_stands n (call.Rt rt.PrivilegedWith) h = refl
same_stands n (call.Rt rt.PrivilegedLimited) h = refl

-- what stands on the passing side, with plain names, stands on the source side
pub from_source : (m : LibCall) → call_stands_on Passing m ≡ true → is_reserved (name_of (owner m)) ≡ false → text_reserved (desc_of m) ≡ false → call_stands_on Source m ≡ true
unfolding text_reserved descriptor_of method_of field_of params_at closing_at type_at base_at class_at return_at slots_of is_class_name
from_source call.ObjectInit h o d = refl
from_source (call.ThrownInit one given.Message) h o d = refl
from_source (call.ThrownInit one given.Nothing) h o d = refl
from_source call.AccessControlInit h o d = refl
from_source call.GetMessage h o d = refl
from_source (call.String string.Length) h o d = refl
from_source (call.String string.CharAt) h o d = refl
from_source (call.String string.Equals) h o d = refl
from_source (call.String string.Concat) h o d = refl
from_source (call.Builder builder.Init) h o d = refl
from_source (call.Builder builder.InitText) h o d = refl
from_source (call.Builder (builder.Append piece.Int)) h o d = refl
from_source (call.Builder (builder.Append piece.Long)) h o d = refl
from_source (call.Builder (builder.Append piece.Char)) h o d = refl
from_source (call.Builder (builder.Append piece.Bool)) h o d = refl
from_source (call.Builder (builder.Append piece.Text)) h o d = refl
from_source (call.Builder builder.ToString) h o d = refl
from_source call.Out h o d = refl
from_source call.PrintEnd h o d = refl
from_source (call.Print piece.Int) h o d = refl
from_source (call.Print piece.Long) h o d = refl
from_source (call.Print piece.Char) h o d = refl
from_source (call.Print piece.Bool) h o d = refl
from_source (call.Print piece.Text) h o d = refl
from_source (call.Run Source) h o d = absurd cc
from_source (call.Run Passing) h o d = absurd cc
from_source (call.Thread (thread.Init Source)) h o d = absurd cc
from_source (call.Thread (thread.Init Passing)) h o d = absurd cc
from_source (call.Thread thread.Start) h o d = refl
from_source (call.Thread thread.Join) h o d = refl
from_source (call.Thread thread.Yield) h o d = refl
from_source (call.RunAction Source) h o d = absurd cc
from_source (call.RunAction Passing) h o d = absurd cc
from_source (call.Controller controller.Check) h o d = absurd cc
from_source (call.Controller controller.Snapshot) h o d = absurd cc
from_source (call.Controller controller.Privileged) h o d = absurd cc
from_source (call.Controller controller.PrivilegedWith) h o d = absurd cc
from_source (call.Controller controller.PrivilegedLimited) h o d = absurd cc
from_source call.ContextCheck h o d = refl
from_source (call.PermissionInit init.All) h o d = refl
from_source (call.PermissionInit init.Runtime) h o d = refl
from_source (call.PermissionInit init.RuntimeActions) h o d = refl
from_source (call.PermissionInit init.Security) h o d = refl
from_source (call.PermissionInit init.SecurityActions) h o d = refl
from_source (call.PermissionInit init.Property) h o d = refl
from_source (call.PermissionInit init.File) h o d = refl
from_source (call.Rt rt.Enter) h o d = absurd cc
from_source (call.Rt rt.Check) h o d = absurd cc
from_source (call.Rt rt.Snapshot) h o d = absurd cc
from_source (call.Rt rt.Privileged) h o d = absurd cc
from_source (call.Rt rt.PrivilegedWith) h o d = absurd cc
from_source (call.Rt rt.PrivilegedLimited) h o d = absurd cc
