-- What the library's members are: which are handed a context, and which stand on both sides.
use Rattle.std.proofs.Common.{◌≡◌, ℕ, Bool, true, false, List, Option, Some, None, refl, ap, sym, ◌∙◌}
use Rattle.std.specs.Prelude.{codes, IfSome, cond}
use Rattle.std.specs.Str.{bytes_eq}
use Rattle.jparts.specs.jpool.Descriptors.{base_at, class_at, closing_at, descriptor_of, descriptor_text, field_of, method_of, params_at, return_at, slots_of, type_at}
use Rattle.jparts.specs.jpool.ClassNames.{is_class_name}
use Rattle.jlib.specs.declared.side.Side.TheVariants.{Passing, Source}
use Rattle.jlib.specs.declared.classes.LibClass.{LibClass}
use Rattle.jlib.specs.declared.classes.LibClass.TheVariants as lib
use Rattle.jlib.specs.declared.classes.PermissionClass.TheVariants as permission
use Rattle.jlib.specs.declared.classes.Thrown.{Thrown}
use Rattle.jlib.specs.declared.classes.Thrown.TheVariants as thrown
use Rattle.jlib.specs.declared.calls.LibCall.{LibCall}
use Rattle.jlib.specs.declared.calls.LibCall.TheVariants as call
use Rattle.jlib.specs.declared.calls.ThrownInit.TheVariants as given
use Rattle.jlib.specs.declared.calls.PrintedType.TheVariants as piece
use Rattle.jlib.specs.declared.calls.StringCall.TheVariants as string
use Rattle.jlib.specs.declared.calls.BuilderCall.TheVariants as builder
use Rattle.jlib.specs.declared.calls.ThreadCall.TheVariants as thread
use Rattle.jlib.specs.declared.calls.ControllerCall.{ControllerCall}
use Rattle.jlib.specs.declared.calls.ControllerCall.TheVariants as controller
use Rattle.jlib.specs.declared.calls.PermissionInit.TheVariants as init
use Rattle.jlib.specs.declared.calls.RtCall.TheVariants as rt
use Rattle.jlib.specs.LibraryMembers.{call_stands_on, desc_of, is_concrete, is_field, is_static, member_among, members, name_of_call, owner, thrown_methods}
use Rattle.jlib.specs.LibraryClasses.{is_interface, is_open, superclass}
use Rattle.jmove.specs.PoolAdditions.{moved_descriptor}
use Rattle.jresolution.specs.jprogram.MemberResolution as members_of
use Rattle.jrewriting.proofs.JrewriteProofs.DeclarationChecks.{ends_so}
use Rattle.jresolution.specs.jprogram.ClassFileParts.{or_empty}
use Rattle.jsimulation_laws.specs.relation.InstructionExpansion.{Alone, Asking, Handed, Way, library_way, passing, runs_alone, runs_handed}
use Rattle.jmoved_laws.specs.names.MovedLookUps.{is_handed, library_handed}

-- ---- methods of opened classes

-- what an opened class declares besides constructors has code
pub open_concrete : (y : LibCall) → is_open (owner y) ≡ true → bytes_eq (name_of_call y) members_of.init ≡ false → is_concrete y ≡ true
open_concrete call.GetMessage h k = refl
open_concrete (call.ThrownInit one given.Message) h k = cc
open_concrete (call.ThrownInit one given.Nothing) h k = cc
open_concrete call.ObjectInit h k = cc
open_concrete call.AccessControlInit h k = cc
open_concrete (call.String string.Length) h k = cc
open_concrete (call.Builder builder.Init) h k = cc
open_concrete (call.Builder (builder.Append piece.Int)) h k = cc
open_concrete (call.Print piece.Int) h k = cc
open_concrete (call.Run Source) h k = cc
open_concrete (call.Thread (thread.Init Source)) h k = cc
open_concrete (call.RunAction Source) h k = cc
open_concrete (call.Controller controller.Check) h k = cc
open_concrete (call.PermissionInit init.All) h k = cc
open_concrete (call.Rt rt.Enter) h k = cc
open_concrete y h k = cc

-- what is called `run` is handed a context
pub run_handed : (y : LibCall) → bytes_eq (codes "run") (name_of_call y) ≡ true → library_handed y ≡ true
run_handed call.GetMessage h = cc
run_handed (call.ThrownInit one given.Message) h = cc
run_handed (call.ThrownInit one given.Nothing) h = cc
run_handed (call.String string.Length) h = cc
run_handed (call.Builder builder.Init) h = cc
run_handed (call.Builder (builder.Append piece.Int)) h = cc
run_handed (call.Print piece.Int) h = cc
run_handed (call.Run Source) h = refl
run_handed (call.Thread (thread.Init Source)) h = refl
run_handed (call.RunAction Source) h = refl
run_handed (call.Controller controller.Check) h = cc
run_handed (call.PermissionInit init.All) h = cc
run_handed (call.Rt rt.Enter) h = cc
run_handed y h = cc

thrown_face : (t : Thrown) → is_interface (lib.Thrown t) ≡ false
thrown_face thrown.Throwable = refl
thrown_face t = refl

no_face : {P : Type 0} (t : Thrown) → is_interface (lib.Thrown t) ≡ true → P
no_face t h = let no : true ≡ false = sym h ∙ thrown_face t in absurd cc

-- methods of interfaces are handed one
pub face_handed : (y : LibCall) → is_interface (owner y) ≡ true → library_handed y ≡ true
face_handed call.GetMessage h = cc
face_handed (call.ThrownInit one given.Message) h = no_face one h
face_handed (call.ThrownInit one given.Nothing) h = no_face one h
face_handed (call.String string.Length) h = cc
face_handed (call.Builder builder.Init) h = cc
face_handed (call.Builder (builder.Append piece.Int)) h = cc
face_handed (call.Print piece.Int) h = cc
face_handed (call.Run Source) h = refl
face_handed (call.Thread (thread.Init Source)) h = refl
face_handed (call.RunAction Source) h = refl
face_handed (call.Controller controller.Check) h = cc
face_handed (call.PermissionInit init.All) h = cc
face_handed (call.Rt rt.Enter) h = cc
face_handed y h = cc

-- ---- what is found by a moved descriptor

-- nothing of one that is handed none
pub unadded : (y : LibCall) → library_handed y ≡ false → member_among Passing (name_of_call y) (or_empty (moved_descriptor (desc_of y))) (members (owner y)) ≡ None
unfolding moved_descriptor descriptor_of descriptor_text method_of field_of params_at closing_at type_at base_at class_at return_at slots_of is_class_name
unadded call.GetMessage h = refl
unadded (call.ThrownInit thrown.Throwable given.Message) h = refl
unadded (call.ThrownInit thrown.Throwable given.Nothing) h = refl
unadded (call.ThrownInit one given.Message) h = refl
unadded (call.ThrownInit one given.Nothing) h = refl
unadded (call.String string.Length) h = refl
unadded (call.Builder builder.Init) h = refl
unadded (call.Builder (builder.Append piece.Int)) h = refl
unadded (call.Print piece.Int) h = refl
unadded (call.Run side) h = absurd cc
unadded (call.Thread (thread.Init side)) h = absurd cc
unadded (call.RunAction side) h = absurd cc
unadded (call.Controller controller.Check) h = refl
unadded (call.PermissionInit init.All) h = refl
unadded (call.Rt rt.Enter) h = refl
unadded y h = refl

-- the moved descriptor of one that is handed a context is that of its passing form
pub added : (y : LibCall) → library_handed y ≡ true → call_stands_on Source y ≡ true → or_empty (moved_descriptor (desc_of y)) ≡ desc_of (passing y)
unfolding moved_descriptor descriptor_of descriptor_text method_of field_of params_at closing_at type_at base_at class_at return_at slots_of is_class_name
added (call.Run Source) h on = refl
added (call.RunAction Source) h on = refl
added (call.Thread (thread.Init Source)) h on = refl
added y h on = absurd cc

pub record PassingForm (y : LibCall) : Type 0 where
  pub owner_is : owner (passing y) ≡ owner y
  pub name_is : name_of_call (passing y) ≡ name_of_call y
  pub on : call_stands_on Passing (passing y) ≡ true
  pub method : is_field (passing y) ≡ false
  pub static : is_static (passing y) ≡ is_static y

pub passing_form : (y : LibCall) → library_handed y ≡ true → PassingForm y
passing_form (call.Run Source) h = record { owner_is = refl; name_is = refl; on = refl; method = refl; static = refl }
passing_form (call.Run Passing) h = record { owner_is = refl; name_is = refl; on = refl; method = refl; static = refl }
passing_form (call.RunAction Source) h = record { owner_is = refl; name_is = refl; on = refl; method = refl; static = refl }
passing_form (call.RunAction Passing) h = record { owner_is = refl; name_is = refl; on = refl; method = refl; static = refl }
passing_form (call.Thread (thread.Init Source)) h = record { owner_is = refl; name_is = refl; on = refl; method = refl; static = refl }
passing_form (call.Thread (thread.Init Passing)) h = record { owner_is = refl; name_is = refl; on = refl; method = refl; static = refl }
passing_form y h = absurd cc

-- ---- classes that have the same members on both sides

-- some of its members stand on one side alone
abbrev pub is_apart : LibClass → Bool
is_apart lib.Runnable = true
is_apart lib.Thread = true
is_apart lib.PrivilegedAction = true
is_apart lib.AccessController = true
is_apart lib.Rt = true
is_apart c = false

thrown_same : (t : Thrown) (name desc : List ℕ) → member_among Passing name desc (thrown_methods t) ≡ member_among Source name desc (thrown_methods t)
thrown_same thrown.Throwable name desc = refl
thrown_same t name desc = refl

next_same : (b : Bool) (m : LibCall) (o q : Option LibCall) → q ≡ o → cond b (Some m) q ≡ cond b (Some m) o
next_same b m o q e = ap (cond b (Some m)) e

pub same_members : (c : LibClass) → is_apart c ≡ false → (name desc : List ℕ) → member_among Passing name desc (members c) ≡ member_among Source name desc (members c)
same_members (lib.Thrown t) h name desc = rw (thrown_same t name desc) refl
same_members (lib.Permission permission.Permission) h name desc = refl
same_members lib.Runnable h name desc = absurd cc
same_members lib.Thread h name desc = absurd cc
same_members lib.PrivilegedAction h name desc = absurd cc
same_members lib.AccessController h name desc = absurd cc
same_members lib.Rt h name desc = absurd cc
same_members c h name desc = refl

-- what another class extends is of these, and what isn't extends Object
pub apart_above : (c : LibClass) → IfSome (superclass c) (λ s. is_apart s ≡ false)
apart_above lib.Object = tt
apart_above (lib.Thrown thrown.Throwable) = refl
apart_above (lib.Permission permission.Permission) = refl
apart_above c = refl

pub apart_low : (c : LibClass) → is_apart c ≡ true → superclass c ≡ Some lib.Object
apart_low lib.Runnable h = refl
apart_low lib.Thread h = refl
apart_low lib.PrivilegedAction h = refl
apart_low lib.AccessController h = refl
apart_low lib.Rt h = refl
apart_low c h = absurd cc

-- ---- methods that are handed none

-- an instance method that isn't handed a context has code
pub alone_concrete : (y : LibCall) → is_static y ≡ false → bytes_eq (name_of_call y) members_of.init ≡ false → library_handed y ≡ false → is_concrete y ≡ true
alone_concrete call.GetMessage s k h = refl
alone_concrete (call.ThrownInit one given.Message) s k h = cc
alone_concrete (call.ThrownInit one given.Nothing) s k h = cc
alone_concrete (call.String string.Length) s k h = refl
alone_concrete (call.Builder builder.Init) s k h = cc
alone_concrete (call.Builder (builder.Append piece.Int)) s k h = refl
alone_concrete (call.Print piece.Int) s k h = refl
alone_concrete (call.Run side) s k h = cc
alone_concrete (call.Thread (thread.Init side)) s k h = cc
alone_concrete (call.RunAction side) s k h = cc
alone_concrete (call.Controller controller.Check) s k h = cc
alone_concrete (call.PermissionInit init.All) s k h = cc
alone_concrete (call.Rt rt.Enter) s k h = cc
alone_concrete y s k h = cc

-- its class declares it on both sides
pub own_same : (y : LibCall) → is_concrete y ≡ true
    → member_among Passing (name_of_call y) (desc_of y) (members (owner y)) ≡ member_among Source (name_of_call y) (desc_of y) (members (owner y))
own_same call.GetMessage h = refl
own_same (call.ThrownInit one given.Message) h = absurd cc
own_same (call.ThrownInit one given.Nothing) h = absurd cc
own_same (call.String string.Length) h = refl
own_same (call.Builder builder.Init) h = refl
own_same (call.Builder (builder.Append piece.Int)) h = refl
own_same (call.Print piece.Int) h = refl
own_same (call.Run Source) h = absurd cc
own_same (call.Run Passing) h = absurd cc
own_same (call.Thread (thread.Init Source)) h = absurd cc
own_same (call.Thread (thread.Init Passing)) h = absurd cc
own_same (call.RunAction Source) h = absurd cc
own_same (call.RunAction Passing) h = absurd cc
own_same (call.Controller controller.Check) h = absurd cc
own_same (call.Controller controller.Snapshot) h = absurd cc
own_same (call.Controller controller.Privileged) h = absurd cc
own_same (call.Controller controller.PrivilegedWith) h = absurd cc
own_same (call.Controller controller.PrivilegedLimited) h = absurd cc
own_same (call.PermissionInit init.All) h = refl
own_same (call.Rt rt.Enter) h = absurd cc
own_same (call.Rt rt.Check) h = absurd cc
own_same (call.Rt rt.Snapshot) h = absurd cc
own_same (call.Rt rt.Privileged) h = absurd cc
own_same (call.Rt rt.PrivilegedWith) h = absurd cc
own_same (call.Rt rt.PrivilegedLimited) h = absurd cc
own_same y h = refl

abbrev is_object : LibClass → Bool
is_object lib.Object = true
is_object c = false

not_object : (y : LibCall) → is_concrete y ≡ true → is_object (owner y) ≡ false
not_object call.GetMessage h = refl
not_object (call.ThrownInit one given.Message) h = refl
not_object (call.ThrownInit one given.Nothing) h = refl
not_object (call.String string.Length) h = refl
not_object (call.Builder builder.Init) h = refl
not_object (call.Builder (builder.Append piece.Int)) h = refl
not_object (call.Print piece.Int) h = refl
not_object (call.Run Source) h = refl
not_object (call.Thread (thread.Init Source)) h = refl
not_object (call.RunAction Source) h = refl
not_object (call.Controller controller.Check) h = refl
not_object (call.PermissionInit init.All) h = refl
not_object (call.Rt rt.Enter) h = refl
not_object call.ObjectInit h = cc
not_object y h = refl

-- it isn't Object's
pub concrete_below : {P : Type 0} (y : LibCall) → is_concrete y ≡ true → owner y ≡ lib.Object → P
concrete_below y h e = let no : true ≡ false = sym (ap is_object e) ∙ not_object y h in absurd cc

-- it gives no context
pub concrete_ends : (y : LibCall) → is_concrete y ≡ true → ends_so (descriptor_of (desc_of y)) ≡ false
unfolding descriptor_of method_of field_of params_at closing_at type_at base_at class_at return_at slots_of is_class_name
concrete_ends call.GetMessage h = refl
concrete_ends (call.ThrownInit one given.Message) h = refl
concrete_ends (call.ThrownInit one given.Nothing) h = refl
concrete_ends (call.String string.Length) h = refl
concrete_ends (call.Builder builder.Init) h = refl
concrete_ends (call.Builder (builder.Append piece.Int)) h = refl
concrete_ends (call.Print piece.Int) h = refl
concrete_ends (call.Run Source) h = absurd cc
concrete_ends (call.Run Passing) h = absurd cc
concrete_ends (call.Thread (thread.Init Source)) h = absurd cc
concrete_ends (call.Thread (thread.Init Passing)) h = absurd cc
concrete_ends (call.RunAction Source) h = absurd cc
concrete_ends (call.RunAction Passing) h = absurd cc
concrete_ends (call.Controller controller.Check) h = refl
concrete_ends (call.PermissionInit init.All) h = refl
concrete_ends (call.Rt rt.Enter) h = absurd cc
concrete_ends (call.Rt rt.Check) h = absurd cc
concrete_ends (call.Rt rt.Snapshot) h = absurd cc
concrete_ends (call.Rt rt.Privileged) h = absurd cc
concrete_ends (call.Rt rt.PrivilegedWith) h = absurd cc
concrete_ends (call.Rt rt.PrivilegedLimited) h = absurd cc
concrete_ends y h = refl

-- ---- names of what is handed a context

pub handed_name : (y : LibCall) → library_handed y ≡ true → bytes_eq (name_of_call y) members_of.init ≡ false → name_of_call y ≡ codes "run"
handed_name (call.Run Source) h k = refl
handed_name (call.Run Passing) h k = refl
handed_name (call.RunAction Source) h k = refl
handed_name (call.RunAction Passing) h k = refl
handed_name (call.Thread (thread.Init Source)) h k = absurd cc
handed_name (call.Thread (thread.Init Passing)) h k = absurd cc
handed_name y h k = absurd cc

handed_below : (y : LibCall) → library_handed y ≡ true → is_object (owner y) ≡ false
handed_below (call.Run Source) h = refl
handed_below (call.Run Passing) h = refl
handed_below (call.RunAction Source) h = refl
handed_below (call.RunAction Passing) h = refl
handed_below (call.Thread (thread.Init Source)) h = refl
handed_below (call.Thread (thread.Init Passing)) h = refl
handed_below y h = absurd cc

pub handed_no_object : {P : Type 0} (y : LibCall) → library_handed y ≡ true → owner y ≡ lib.Object → P
handed_no_object y h e = let no : true ≡ false = sym (ap is_object e) ∙ handed_below y h in absurd cc

-- ---- what calls come to

pub source_handed : (y : LibCall) → library_handed y ≡ true → call_stands_on Source y ≡ true → runs_handed y ≡ true
source_handed (call.Run side) h on = refl
source_handed (call.RunAction side) h on = refl
source_handed (call.Thread (thread.Init Source)) h on = refl
source_handed (call.Thread (thread.Init Passing)) h on = absurd cc
source_handed y h on = absurd cc

pub instance_alone : (y : LibCall) → is_static y ≡ false → library_handed y ≡ false → runs_alone y ≡ true
instance_alone (call.Run side) s h = cc
instance_alone (call.RunAction side) s h = cc
instance_alone (call.Thread (thread.Init side)) s h = cc
instance_alone (call.Controller controller.Check) s h = cc
instance_alone (call.Rt rt.Enter) s h = cc
instance_alone y s h = cc

abbrev asks : Way → Bool
asks (Asking one) = true
asks way = false

asking_apart : {P : Type 0} (one : ControllerCall) → Asking one ≡ Alone → P
asking_apart one e = let no : true ≡ false = ap asks e in absurd cc

-- of those of the source side
pub source_alone : (y : LibCall) → library_way y ≡ Alone → call_stands_on Source y ≡ true → runs_alone y ≡ true
source_alone (call.Run side) h on = let no : true ≡ false = ap is_handed h in absurd cc
source_alone (call.RunAction side) h on = let no : true ≡ false = ap is_handed h in absurd cc
source_alone (call.Thread (thread.Init side)) h on = let no : true ≡ false = ap is_handed h in absurd cc
source_alone (call.Controller one) h on = asking_apart one h
source_alone (call.Rt rt.Enter) h on = cc
source_alone y h on = cc

-- ---- ways

pub handed_way : (w : Way) → w ≡ Handed → is_handed w ≡ true
handed_way w e = ap is_handed e

pub alone_way : (w : Way) → w ≡ Alone → is_handed w ≡ false
alone_way w e = ap is_handed e
