-- The classes of the library, on either side: names, superclasses, and what users may do with them.
use Rattle.std.specs.Prelude.{ℕ, zero, suc, Bool, true, false, ◌&&◌, List, [], ◌∷◌, ◌++◌, map, length, Option, Some, None, codes}
use Rattle.std.specs.List.{filter, find}
use Rattle.std.specs.Str.{bytes_eq}
use Rattle.jlib.specs.declared.side.Side.{Side}
use Rattle.jlib.specs.declared.side.Side.TheVariants.{Source, Passing}
use Rattle.jlib.specs.declared.side.Sides.{Sides}
use Rattle.jlib.specs.declared.side.Sides.TheVariants.{Both, Alone}
use Rattle.jlib.specs.declared.classes.Thrown.{Thrown}
use Rattle.jlib.specs.declared.classes.Thrown.TheVariants as thrown
use Rattle.jlib.specs.declared.classes.PermissionClass.{PermissionClass}
use Rattle.jlib.specs.declared.classes.PermissionClass.TheVariants as permission
use Rattle.jlib.specs.declared.classes.LibClass.{LibClass}
use Rattle.jlib.specs.declared.classes.LibClass.TheVariants as lib
use Rattle.jlib.specs.declared.classes.ClassKind.{ClassKind}
use Rattle.jlib.specs.declared.classes.ClassKind.TheVariants as kind

-- ---- the sides

abbrev pub same_side : Side → Side → Bool
same_side Source Source = true
same_side Passing Passing = true
same_side _ _ = false

-- a side is among these
abbrev pub among : Sides → Side → Bool
among x side = elim x [ Both ↦ true | Alone of ↦ same_side side of ]

-- ---- what a row of the table of classes says

pub record Class : Type 0 where
  pub name : List ℕ
  -- the class that it extends: Object where nothing else is said, of interfaces too
  pub superclass : Option LibClass
  pub kind : ClassKind
  -- the interface that it implements, by name alone
  pub implemented : Option LibClass
  -- the libraries that have it
  pub sides : Sides

abbrev pub plain : ClassKind → List ℕ → LibClass → Class
plain kind name superclass = record { name = name; superclass = Some superclass; kind = kind; implemented = None; sides = Both }

abbrev pub open_class : List ℕ → LibClass → Class
open_class = plain kind.Open

abbrev pub closed_class : List ℕ → LibClass → Class
closed_class = plain kind.Closed

-- it stands on one side alone
abbrev pub alone : Side → Class → Class
alone side c = record c { sides = Alone side }

-- an interface's class file names Object as its superclass
abbrev pub an_interface : List ℕ → Class
an_interface name = plain kind.Interface name lib.Object

-- ---- the table: name, superclass and kind, and where there is more to say what is implemented and the side

abbrev pub thrown_row : Thrown → Class
thrown_row thrown.Throwable = open_class (codes "java/lang/Throwable") lib.Object
thrown_row thrown.Exception = open_class (codes "java/lang/Exception") (lib.Thrown thrown.Throwable)
thrown_row thrown.Error = open_class (codes "java/lang/Error") (lib.Thrown thrown.Throwable)
thrown_row thrown.RuntimeException = open_class (codes "java/lang/RuntimeException") (lib.Thrown thrown.Exception)
thrown_row thrown.InterruptedException = open_class (codes "java/lang/InterruptedException") (lib.Thrown thrown.Exception)
thrown_row thrown.ArithmeticException = open_class (codes "java/lang/ArithmeticException") (lib.Thrown thrown.RuntimeException)
thrown_row thrown.NullPointerException = open_class (codes "java/lang/NullPointerException") (lib.Thrown thrown.RuntimeException)
thrown_row thrown.ClassCastException = open_class (codes "java/lang/ClassCastException") (lib.Thrown thrown.RuntimeException)
thrown_row thrown.NegativeArraySizeException = open_class (codes "java/lang/NegativeArraySizeException") (lib.Thrown thrown.RuntimeException)
thrown_row thrown.ArrayStoreException = open_class (codes "java/lang/ArrayStoreException") (lib.Thrown thrown.RuntimeException)
thrown_row thrown.IllegalArgumentException = open_class (codes "java/lang/IllegalArgumentException") (lib.Thrown thrown.RuntimeException)
thrown_row thrown.IllegalStateException = open_class (codes "java/lang/IllegalStateException") (lib.Thrown thrown.RuntimeException)
thrown_row thrown.IndexOutOfBoundsException = open_class (codes "java/lang/IndexOutOfBoundsException") (lib.Thrown thrown.RuntimeException)
thrown_row thrown.SecurityException = open_class (codes "java/lang/SecurityException") (lib.Thrown thrown.RuntimeException)
thrown_row thrown.IllegalThreadStateException = open_class (codes "java/lang/IllegalThreadStateException")
    (lib.Thrown thrown.IllegalArgumentException)
thrown_row thrown.ArrayIndexOutOfBoundsException = open_class (codes "java/lang/ArrayIndexOutOfBoundsException")
    (lib.Thrown thrown.IndexOutOfBoundsException)
thrown_row thrown.StringIndexOutOfBoundsException = open_class (codes "java/lang/StringIndexOutOfBoundsException")
    (lib.Thrown thrown.IndexOutOfBoundsException)
thrown_row thrown.LinkageError = open_class (codes "java/lang/LinkageError") (lib.Thrown thrown.Error)
thrown_row thrown.VirtualMachineError = plain kind.OpenAbstract (codes "java/lang/VirtualMachineError") (lib.Thrown thrown.Error)
thrown_row thrown.IncompatibleClassChangeError = open_class (codes "java/lang/IncompatibleClassChangeError") (lib.Thrown thrown.LinkageError)
thrown_row thrown.AbstractMethodError = open_class (codes "java/lang/AbstractMethodError") (lib.Thrown thrown.IncompatibleClassChangeError)
thrown_row thrown.IllegalAccessError = open_class (codes "java/lang/IllegalAccessError") (lib.Thrown thrown.IncompatibleClassChangeError)
thrown_row thrown.StackOverflowError = open_class (codes "java/lang/StackOverflowError") (lib.Thrown thrown.VirtualMachineError)

abbrev pub permission_row : PermissionClass → Class
permission_row permission.Permission = plain kind.ClosedAbstract (codes "java/security/Permission") lib.Object
permission_row permission.BasicPermission = plain kind.ClosedAbstract (codes "java/security/BasicPermission") (lib.Permission permission.Permission)
permission_row permission.AllPermission = closed_class (codes "java/security/AllPermission") (lib.Permission permission.Permission)
permission_row permission.RuntimePermission = closed_class (codes "java/lang/RuntimePermission") (lib.Permission permission.BasicPermission)
permission_row permission.SecurityPermission = closed_class (codes "java/security/SecurityPermission") (lib.Permission permission.BasicPermission)
permission_row permission.PropertyPermission = closed_class (codes "java/util/PropertyPermission") (lib.Permission permission.BasicPermission)
permission_row permission.FilePermission = closed_class (codes "java/io/FilePermission") (lib.Permission permission.Permission)

abbrev pub class_row : LibClass → Class
class_row lib.Object = record { name = codes "java/lang/Object"; superclass = None; kind = kind.Open; implemented = None; sides = Both }
class_row (lib.Thrown one) = thrown_row one
class_row lib.AccessControlException = open_class (codes "java/security/AccessControlException") (lib.Thrown thrown.SecurityException)
class_row lib.String = closed_class (codes "java/lang/String") lib.Object
class_row lib.StringBuilder = closed_class (codes "java/lang/StringBuilder") lib.Object
class_row lib.System = closed_class (codes "java/lang/System") lib.Object
class_row lib.PrintStream = closed_class (codes "java/io/PrintStream") lib.Object
class_row lib.Void = closed_class (codes "java/lang/Void") lib.Object
class_row lib.Cloneable = an_interface (codes "java/lang/Cloneable")
class_row lib.Serializable = an_interface (codes "java/io/Serializable")
class_row lib.Runnable = an_interface (codes "java/lang/Runnable")
class_row lib.Thread = record (closed_class (codes "java/lang/Thread") lib.Object) { implemented = Some lib.Runnable }
class_row lib.PrivilegedAction = an_interface (codes "java/security/PrivilegedAction")
class_row lib.AccessController = closed_class (codes "java/security/AccessController") lib.Object
class_row lib.AccessControlContext = closed_class (codes "java/security/AccessControlContext") lib.Object
class_row (lib.Permission one) = permission_row one
class_row lib.Rt = alone Passing (closed_class (codes "sps/Rt") lib.Object)
class_row lib.Ctx = alone Passing (closed_class (codes "sps/Ctx") lib.Object)

-- ---- its columns

abbrev pub name_of : LibClass → List ℕ
name_of c = (class_row c).name

abbrev pub superclass : LibClass → Option LibClass
superclass c = (class_row c).superclass

abbrev pub implemented : LibClass → Option LibClass
implemented c = (class_row c).implemented

-- a side's library has it
abbrev pub stands_on : Side → LibClass → Bool
stands_on side c = among (class_row c).sides side

abbrev pub is_interface : LibClass → Bool
is_interface c = elim (class_row c).kind [ kind.Interface ↦ true | _ ↦ false ]

-- users may extend it
abbrev pub is_open : LibClass → Bool
is_open c = elim (class_row c).kind [ kind.Open ↦ true | kind.OpenAbstract ↦ true | _ ↦ false ]

-- an abstract class, interfaces aside
abbrev pub is_abstract : LibClass → Bool
is_abstract c = elim (class_row c).kind [ kind.OpenAbstract ↦ true | kind.ClosedAbstract ↦ true | _ ↦ false ]

-- ---- all classes

-- all of both sides, the open ones first
abbrev pub classes : List LibClass
classes =
    lib.Object ∷ map lib.Thrown (
    thrown.Throwable ∷ thrown.Exception ∷ thrown.Error ∷ thrown.RuntimeException ∷ thrown.InterruptedException ∷ thrown.ArithmeticException
    ∷ thrown.NullPointerException ∷ thrown.ClassCastException ∷ thrown.NegativeArraySizeException ∷ thrown.ArrayStoreException
    ∷ thrown.IllegalArgumentException ∷ thrown.IllegalStateException ∷ thrown.IndexOutOfBoundsException ∷ thrown.SecurityException
    ∷ thrown.IllegalThreadStateException ∷ thrown.ArrayIndexOutOfBoundsException ∷ thrown.StringIndexOutOfBoundsException ∷ thrown.LinkageError
    ∷ thrown.VirtualMachineError ∷ thrown.IncompatibleClassChangeError ∷ thrown.AbstractMethodError ∷ thrown.IllegalAccessError
    ∷ thrown.StackOverflowError
    ∷ [])
    ++ lib.AccessControlException
    ∷ lib.String ∷ lib.StringBuilder ∷ lib.System ∷ lib.PrintStream ∷ lib.Void ∷ lib.Cloneable ∷ lib.Serializable ∷ lib.Runnable
    ∷ lib.Thread ∷ lib.PrivilegedAction ∷ lib.AccessController ∷ lib.AccessControlContext
    ∷ map lib.Permission (
    permission.Permission ∷ permission.BasicPermission ∷ permission.AllPermission ∷ permission.RuntimePermission
    ∷ permission.SecurityPermission ∷ permission.PropertyPermission ∷ permission.FilePermission ∷ [])
    ++ lib.Rt ∷ lib.Ctx ∷ []

-- the class of a side that has a name
abbrev pub class_named : Side → List ℕ → Option LibClass
class_named side name = find (λ c. stands_on side c && bytes_eq name (name_of c)) classes

-- those that users may extend
abbrev pub open_classes : List LibClass
open_classes = filter is_open classes

-- ---- the classes above a class

-- a class and those above it, nearest first, at most so many
abbrev pub upward : ℕ → Option LibClass → List LibClass
upward zero o = []
upward (suc n) None = []
upward (suc n) (Some c) = c ∷ upward n (superclass c)

abbrev pub above : LibClass → List LibClass
above c = upward (length classes) (superclass c)

-- how many stand above it
abbrev pub height : LibClass → ℕ
height c = length (above c)
