-- The descriptors of the library's members, computed: none has a float or a double.
use Rattle.std.proofs.Common.{◌≡◌, Bool, true, false, refl}
use Rattle.std.specs.Prelude.{if◌then◌else◌}
use Rattle.jparts.specs.jpool.Descriptors.{base_at, class_at, closing_at, descriptor_of, field_of, method_of, params_at, return_at, slots_of, type_at}
use Rattle.jparts.specs.jpool.ClassNames.{is_class_name}
use Rattle.jlib.specs.declared.side.Side.TheVariants.{Source, Passing}
use Rattle.jlib.specs.declared.calls.ThrownInit.TheVariants as given
use Rattle.jlib.specs.declared.calls.PrintedType.{PrintedType}
use Rattle.jlib.specs.declared.calls.PrintedType.TheVariants as piece
use Rattle.jlib.specs.declared.calls.StringCall.{StringCall}
use Rattle.jlib.specs.declared.calls.StringCall.TheVariants as string
use Rattle.jlib.specs.declared.calls.BuilderCall.{BuilderCall}
use Rattle.jlib.specs.declared.calls.BuilderCall.TheVariants as builder
use Rattle.jlib.specs.declared.calls.ThreadCall.{ThreadCall}
use Rattle.jlib.specs.declared.calls.ThreadCall.TheVariants as thread
use Rattle.jlib.specs.declared.calls.ControllerCall.{ControllerCall}
use Rattle.jlib.specs.declared.calls.ControllerCall.TheVariants as controller
use Rattle.jlib.specs.declared.calls.PermissionInit.{PermissionInit}
use Rattle.jlib.specs.declared.calls.PermissionInit.TheVariants as init
use Rattle.jlib.specs.declared.calls.RtCall.{RtCall}
use Rattle.jlib.specs.declared.calls.RtCall.TheVariants as rt
use Rattle.jlib.specs.declared.calls.LibCall.{LibCall}
use Rattle.jlib.specs.declared.calls.LibCall.TheVariants as call
use Rattle.jlib.specs.LibraryMembers.{desc_of, is_field}
use Rattle.jlinking.specs.jlink.SoundDescriptors.{IsFieldText, IsMethodText, is_sound_field, is_sound_method}

-- the descriptor of a method, or of the one field
abbrev is_sound : LibCall → Bool
is_sound m = if is_field m then is_sound_field (descriptor_of (desc_of m)) else is_sound_method (descriptor_of (desc_of m))

all_sound : (m : LibCall) → is_sound m ≡ true
unfolding descriptor_of method_of field_of params_at closing_at type_at base_at class_at return_at slots_of is_class_name
all_sound call.ObjectInit = refl
all_sound (call.ThrownInit one given.Message) = refl
all_sound (call.ThrownInit one given.Nothing) = refl
all_sound call.AccessControlInit = refl
all_sound call.GetMessage = refl
all_sound (call.String string.Length) = refl
all_sound (call.String string.CharAt) = refl
all_sound (call.String string.Equals) = refl
all_sound (call.String string.Concat) = refl
all_sound (call.Builder builder.Init) = refl
all_sound (call.Builder builder.InitText) = refl
all_sound (call.Builder (builder.Append piece.Int)) = refl
all_sound (call.Builder (builder.Append piece.Long)) = refl
all_sound (call.Builder (builder.Append piece.Char)) = refl
all_sound (call.Builder (builder.Append piece.Bool)) = refl
all_sound (call.Builder (builder.Append piece.Text)) = refl
all_sound (call.Builder builder.ToString) = refl
all_sound call.Out = refl
all_sound call.PrintEnd = refl
all_sound (call.Print piece.Int) = refl
all_sound (call.Print piece.Long) = refl
all_sound (call.Print piece.Char) = refl
all_sound (call.Print piece.Bool) = refl
all_sound (call.Print piece.Text) = refl
all_sound (call.Run Source) = refl
all_sound (call.Run Passing) = refl
all_sound (call.Thread (thread.Init Source)) = refl
all_sound (call.Thread (thread.Init Passing)) = refl
all_sound (call.Thread thread.Start) = refl
all_sound (call.Thread thread.Join) = refl
all_sound (call.Thread thread.Yield) = refl
all_sound (call.RunAction Source) = refl
all_sound (call.RunAction Passing) = refl
all_sound (call.Controller controller.Check) = refl
all_sound (call.Controller controller.Snapshot) = refl
all_sound (call.Controller controller.Privileged) = refl
all_sound (call.Controller controller.PrivilegedWith) = refl
all_sound (call.Controller controller.PrivilegedLimited) = refl
all_sound call.ContextCheck = refl
all_sound (call.PermissionInit init.All) = refl
all_sound (call.PermissionInit init.Runtime) = refl
all_sound (call.PermissionInit init.RuntimeActions) = refl
all_sound (call.PermissionInit init.Security) = refl
all_sound (call.PermissionInit init.SecurityActions) = refl
all_sound (call.PermissionInit init.Property) = refl
all_sound (call.PermissionInit init.File) = refl
all_sound (call.Rt rt.Enter) = refl
all_sound (call.Rt rt.Check) = refl
all_sound (call.Rt rt.Snapshot) = refl
all_sound (call.Rt rt.Privileged) = refl
all_sound (call.Rt rt.PrivilegedWith) = refl
all_sound (call.Rt rt.PrivilegedLimited) = refl

sound_at : (f m : Bool) (b : Bool) → (if b then f else m) ≡ true → b ≡ true → f ≡ true
sound_at f m true h e = h
sound_at f m false h e = absurd cc

sound_else : (f m : Bool) (b : Bool) → (if b then f else m) ≡ true → b ≡ false → m ≡ true
sound_else f m true h e = absurd cc
sound_else f m false h e = h

pub field_sound : (m : LibCall) → is_field m ≡ true → IsFieldText (desc_of m)
field_sound m e = sound_at (is_sound_field (descriptor_of (desc_of m))) (is_sound_method (descriptor_of (desc_of m))) (is_field m) (all_sound m) e

pub method_sound : (m : LibCall) → is_field m ≡ false → IsMethodText (desc_of m)
method_sound m e = sound_else (is_sound_field (descriptor_of (desc_of m))) (is_sound_method (descriptor_of (desc_of m))) (is_field m) (all_sound m) e
