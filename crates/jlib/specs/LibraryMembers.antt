-- The members of the library's classes, on either side.
use Rattle.std.specs.Prelude.{◌≡◌, ℕ, Bool, true, false, ◌&&◌, List, [], ◌∷◌, ◌++◌, Option, option_and_then, codes}
use Rattle.std.specs.List.{find, list_any}
use Rattle.std.specs.Str.{bytes_eq}
use Rattle.jlib.specs.LibraryClasses.{above, among, class_named, is_open, name_of}
use Rattle.jlib.specs.declared.side.Side.{Side}
use Rattle.jlib.specs.declared.side.Side.TheVariants.{Source, Passing}
use Rattle.jlib.specs.declared.side.Sides.{Sides}
use Rattle.jlib.specs.declared.side.Sides.TheVariants.{Both, Alone}
use Rattle.jlib.specs.declared.classes.Thrown.{Thrown}
use Rattle.jlib.specs.declared.classes.Thrown.TheVariants as thrown
use Rattle.jlib.specs.declared.classes.PermissionClass.TheVariants as permission
use Rattle.jlib.specs.declared.classes.LibClass.{LibClass}
use Rattle.jlib.specs.declared.classes.LibClass.TheVariants as lib
use Rattle.jlib.specs.declared.calls.ThrownInit.TheVariants as given
use Rattle.jlib.specs.declared.calls.PrintedType.{PrintedType}
use Rattle.jlib.specs.declared.calls.PrintedType.TheVariants as piece
use Rattle.jlib.specs.declared.calls.StringCall.TheVariants as string
use Rattle.jlib.specs.declared.calls.BuilderCall.TheVariants as builder
use Rattle.jlib.specs.declared.calls.ThreadCall.TheVariants as thread
use Rattle.jlib.specs.declared.calls.ControllerCall.{ControllerCall}
use Rattle.jlib.specs.declared.calls.ControllerCall.TheVariants as controller
use Rattle.jlib.specs.declared.calls.PermissionInit.{PermissionInit}
use Rattle.jlib.specs.declared.calls.PermissionInit.TheVariants as init
use Rattle.jlib.specs.declared.calls.RtCall.{RtCall}
use Rattle.jlib.specs.declared.calls.RtCall.TheVariants as rt
use Rattle.jlib.specs.declared.calls.LibCall.{LibCall}
use Rattle.jlib.specs.declared.calls.LibCall.TheVariants as call
use Rattle.jlib.specs.declared.calls.MemberKind.{MemberKind}
use Rattle.jlib.specs.declared.calls.MemberKind.TheVariants as kind

-- ---- what a row of the table of members says

pub record Member : Type 0 where
  -- the class that declares it
  pub owner : LibClass
  pub name : List ℕ
  pub desc : List ℕ
  pub kind : MemberKind
  -- the libraries that have it
  pub sides : Sides

abbrev pub a_member : Sides → MemberKind → LibClass → List ℕ → List ℕ → Member
a_member sides kind owner name desc = record { owner = owner; name = name; desc = desc; kind = kind; sides = sides }

abbrev pub constructor_of : Sides → LibClass → List ℕ → Member
constructor_of sides owner = a_member sides kind.Constructor owner (codes "<init>")

abbrev pub constructor : LibClass → List ℕ → Member
constructor = constructor_of Both

abbrev pub method : LibClass → List ℕ → List ℕ → Member
method = a_member Both kind.Method

abbrev pub static_on : Side → LibClass → List ℕ → List ℕ → Member
static_on side = a_member (Alone side) kind.StaticMethod

abbrev pub abstract_on : Side → LibClass → List ℕ → List ℕ → Member
abstract_on side = a_member (Alone side) kind.AbstractMethod

-- ---- the table: side where it is one's alone, class, name and descriptor

-- the type of such a piece in a descriptor
abbrev pub piece_type : PrintedType → List ℕ
piece_type = elim [
  | piece.Int ↦ codes "I"
  | piece.Long ↦ codes "J"
  | piece.Char ↦ codes "C"
  | piece.Bool ↦ codes "Z"
  | piece.Text ↦ codes "Ljava/lang/String;"
]

abbrev pub controller_row : ControllerCall → Member
controller_row controller.Check = static_on Source lib.AccessController (codes "checkPermission") (codes "(Ljava/security/Permission;)V")
controller_row controller.Snapshot = static_on Source lib.AccessController (codes "getContext") (codes "()Ljava/security/AccessControlContext;")
controller_row controller.Privileged = static_on Source lib.AccessController (codes "doPrivileged")
    (codes "(Ljava/security/PrivilegedAction;)Ljava/lang/Object;")
controller_row controller.PrivilegedWith =
    static_on Source lib.AccessController (codes "doPrivileged")
    (codes "(Ljava/security/PrivilegedAction;Ljava/security/AccessControlContext;)Ljava/lang/Object;")
controller_row controller.PrivilegedLimited =
    static_on Source lib.AccessController (codes "doPrivileged")
    (codes "(Ljava/security/PrivilegedAction;Ljava/security/AccessControlContext;[Ljava/security/Permission;)Ljava/lang/Object;")

abbrev pub permission_row : PermissionInit → Member
permission_row init.All = constructor (lib.Permission permission.AllPermission) (codes "()V")
permission_row init.Runtime = constructor (lib.Permission permission.RuntimePermission) (codes "(Ljava/lang/String;)V")
permission_row init.RuntimeActions = constructor (lib.Permission permission.RuntimePermission) (codes "(Ljava/lang/String;Ljava/lang/String;)V")
permission_row init.Security = constructor (lib.Permission permission.SecurityPermission) (codes "(Ljava/lang/String;)V")
permission_row init.SecurityActions = constructor (lib.Permission permission.SecurityPermission) (codes "(Ljava/lang/String;Ljava/lang/String;)V")
permission_row init.Property = constructor (lib.Permission permission.PropertyPermission) (codes "(Ljava/lang/String;Ljava/lang/String;)V")
permission_row init.File = constructor (lib.Permission permission.FilePermission) (codes "(Ljava/lang/String;Ljava/lang/String;)V")

abbrev pub rt_row : RtCall → Member
rt_row rt.Enter = static_on Passing lib.Rt (codes "enter") (codes "(Lsps/Ctx;I)Lsps/Ctx;")
rt_row rt.Check = static_on Passing lib.Rt (codes "check") (codes "(Ljava/security/Permission;Lsps/Ctx;)V")
rt_row rt.Snapshot = static_on Passing lib.Rt (codes "snapshot") (codes "(Lsps/Ctx;)Ljava/security/AccessControlContext;")
rt_row rt.Privileged = static_on Passing lib.Rt (codes "priv") (codes "(Ljava/security/PrivilegedAction;I)Ljava/lang/Object;")
rt_row rt.PrivilegedWith = static_on Passing lib.Rt (codes "privWith")
    (codes "(Ljava/security/PrivilegedAction;Ljava/security/AccessControlContext;I)Ljava/lang/Object;")
rt_row rt.PrivilegedLimited =
    static_on Passing lib.Rt (codes "privLimited")
    (codes "(Ljava/security/PrivilegedAction;Ljava/security/AccessControlContext;[Ljava/security/Permission;Lsps/Ctx;I)Ljava/lang/Object;")

abbrev pub row_of : LibCall → Member
row_of call.ObjectInit = constructor lib.Object (codes "()V")
row_of (call.ThrownInit one given.Message) = constructor (lib.Thrown one) (codes "(Ljava/lang/String;)V")
row_of (call.ThrownInit one given.Nothing) = constructor (lib.Thrown one) (codes "()V")
row_of call.AccessControlInit = constructor lib.AccessControlException (codes "(Ljava/lang/String;)V")
row_of call.GetMessage = method (lib.Thrown thrown.Throwable) (codes "getMessage") (codes "()Ljava/lang/String;")
row_of (call.String string.Length) = method lib.String (codes "length") (codes "()I")
row_of (call.String string.CharAt) = method lib.String (codes "charAt") (codes "(I)C")
row_of (call.String string.Equals) = method lib.String (codes "equals") (codes "(Ljava/lang/Object;)Z")
row_of (call.String string.Concat) = method lib.String (codes "concat") (codes "(Ljava/lang/String;)Ljava/lang/String;")
row_of (call.Builder builder.Init) = constructor lib.StringBuilder (codes "()V")
row_of (call.Builder builder.InitText) = constructor lib.StringBuilder (codes "(Ljava/lang/String;)V")
row_of (call.Builder (builder.Append one)) =
    method lib.StringBuilder (codes "append") (codes "(" ++ piece_type one ++ codes ")Ljava/lang/StringBuilder;")
row_of (call.Builder builder.ToString) = method lib.StringBuilder (codes "toString") (codes "()Ljava/lang/String;")
row_of call.Out = a_member Both kind.StaticField lib.System (codes "out") (codes "Ljava/io/PrintStream;")
row_of call.PrintEnd = method lib.PrintStream (codes "println") (codes "()V")
row_of (call.Print one) = method lib.PrintStream (codes "println") (codes "(" ++ piece_type one ++ codes ")V")
row_of (call.Run Source) = abstract_on Source lib.Runnable (codes "run") (codes "()V")
row_of (call.Run Passing) = abstract_on Passing lib.Runnable (codes "run") (codes "(Lsps/Ctx;)V")
row_of (call.Thread (thread.Init Source)) = constructor_of (Alone Source) lib.Thread (codes "(Ljava/lang/Runnable;)V")
row_of (call.Thread (thread.Init Passing)) = constructor_of (Alone Passing) lib.Thread (codes "(Ljava/lang/Runnable;Lsps/Ctx;)V")
row_of (call.Thread thread.Start) = method lib.Thread (codes "start") (codes "()V")
row_of (call.Thread thread.Join) = method lib.Thread (codes "join") (codes "()V")
row_of (call.Thread thread.Yield) = a_member Both kind.StaticMethod lib.Thread (codes "yield") (codes "()V")
row_of (call.RunAction Source) = abstract_on Source lib.PrivilegedAction (codes "run") (codes "()Ljava/lang/Object;")
row_of (call.RunAction Passing) = abstract_on Passing lib.PrivilegedAction (codes "run") (codes "(Lsps/Ctx;)Ljava/lang/Object;")
row_of (call.Controller one) = controller_row one
row_of call.ContextCheck = method lib.AccessControlContext (codes "checkPermission") (codes "(Ljava/security/Permission;)V")
row_of (call.PermissionInit one) = permission_row one
row_of (call.Rt one) = rt_row one

-- ---- its columns

abbrev pub owner : LibCall → LibClass
owner m = (row_of m).owner

abbrev pub name_of_call : LibCall → List ℕ
name_of_call m = (row_of m).name

abbrev pub desc_of : LibCall → List ℕ
desc_of m = (row_of m).desc

abbrev pub is_field : LibCall → Bool
is_field m = elim (row_of m).kind [ kind.StaticField ↦ true | _ ↦ false ]

abbrev pub is_static : LibCall → Bool
is_static m = elim (row_of m).kind [ kind.StaticField ↦ true | kind.StaticMethod ↦ true | _ ↦ false ]

-- a method of an instance that isn't abstract, constructors aside
abbrev pub is_concrete : LibCall → Bool
is_concrete m = elim (row_of m).kind [ kind.Method ↦ true | _ ↦ false ]

-- a side's library has it
abbrev pub call_stands_on : Side → LibCall → Bool
call_stands_on side m = among (row_of m).sides side

-- ---- the members of a class, on both sides

-- besides constructors
abbrev pub thrown_methods : Thrown → List LibCall
thrown_methods = elim [ thrown.Throwable ↦ call.GetMessage ∷ [] | _ ↦ [] ]

abbrev pub members : LibClass → List LibCall
members lib.Object = call.ObjectInit ∷ []
members (lib.Thrown one) = call.ThrownInit one given.Message ∷ call.ThrownInit one given.Nothing ∷ thrown_methods one
members lib.AccessControlException = call.AccessControlInit ∷ []
members lib.String = call.String string.Length ∷ call.String string.CharAt ∷ call.String string.Equals ∷ call.String string.Concat ∷ []
members lib.StringBuilder =
    call.Builder builder.Init ∷ call.Builder builder.InitText
    ∷ call.Builder (builder.Append piece.Int) ∷ call.Builder (builder.Append piece.Long) ∷ call.Builder (builder.Append piece.Char)
    ∷ call.Builder (builder.Append piece.Bool) ∷ call.Builder (builder.Append piece.Text) ∷ call.Builder builder.ToString ∷ []
members lib.System = call.Out ∷ []
members lib.PrintStream = call.PrintEnd ∷ call.Print piece.Int ∷ call.Print piece.Long ∷ call.Print piece.Char ∷ call.Print piece.Bool
    ∷ call.Print piece.Text ∷ []
members lib.Runnable = call.Run Source ∷ call.Run Passing ∷ []
members lib.Thread =
    call.Thread (thread.Init Source) ∷ call.Thread (thread.Init Passing) ∷ call.Thread thread.Start ∷ call.Thread thread.Join
    ∷ call.Thread thread.Yield ∷ []
members lib.PrivilegedAction = call.RunAction Source ∷ call.RunAction Passing ∷ []
members lib.AccessController =
    call.Controller controller.Check ∷ call.Controller controller.Snapshot
    ∷ call.Controller controller.Privileged ∷ call.Controller controller.PrivilegedWith ∷ call.Controller controller.PrivilegedLimited ∷ []
members lib.AccessControlContext = call.ContextCheck ∷ []
members (lib.Permission permission.AllPermission) = call.PermissionInit init.All ∷ []
members (lib.Permission permission.RuntimePermission) = call.PermissionInit init.Runtime ∷ call.PermissionInit init.RuntimeActions ∷ []
members (lib.Permission permission.SecurityPermission) = call.PermissionInit init.Security ∷ call.PermissionInit init.SecurityActions ∷ []
members (lib.Permission permission.PropertyPermission) = call.PermissionInit init.Property ∷ []
members (lib.Permission permission.FilePermission) = call.PermissionInit init.File ∷ []
members lib.Rt =
    call.Rt rt.Enter ∷ call.Rt rt.Check ∷ call.Rt rt.Snapshot ∷ call.Rt rt.Privileged ∷ call.Rt rt.PrivilegedWith ∷ call.Rt rt.PrivilegedLimited ∷ []
members _ = []

-- it has this name and descriptor
abbrev pub is_called : List ℕ → List ℕ → LibCall → Bool
is_called name desc m = bytes_eq name (name_of_call m) && bytes_eq desc (desc_of m)

-- it stands in the class of this name, is called so, and a side has it
abbrev pub IsMember : Side → List ℕ → List ℕ → List ℕ → LibCall → Type 0
IsMember side class name desc m = (name_of (owner m) ≡ class) × (name_of_call m ≡ name) × (desc_of m ≡ desc) × (call_stands_on side m ≡ true)

-- the member of this name and descriptor that a side has among these
abbrev pub member_among : Side → List ℕ → List ℕ → List LibCall → Option LibCall
member_among side name desc calls = find (λ m. call_stands_on side m && is_called name desc m) calls

-- the member that a class of a side declares itself
abbrev pub member_named : Side → List ℕ → List ℕ → List ℕ → Option LibCall
member_named side class name desc = option_and_then (λ c. member_among side name desc (members c)) (class_named side class)

-- ---- what users may not override

-- The class is open and declares a concrete method of this name and descriptor: users' classes below it may not.
abbrev pub fixes : List ℕ → List ℕ → LibClass → Bool
fixes name desc c = is_open c && list_any (λ m. is_concrete m && is_called name desc m) (members c)

-- The class or one above it does.
abbrev pub has_fixed : List ℕ → List ℕ → LibClass → Bool
has_fixed name desc c = list_any (fixes name desc) (c ∷ above c)
