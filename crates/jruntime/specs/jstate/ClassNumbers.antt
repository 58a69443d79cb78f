-- The heap's numbers for classes: those of the library first, then users' classes by their places among the parts.
use Rattle.std.specs.Prelude.{ℕ, ◌+◌, ◌-◌, ◌≡◌, nat_lt, if◌then◌else◌, List, [], ◌∷◌, unwrap_or, slice_get}
use Rattle.jlib.specs.declared.classes.Thrown.{Thrown as ThrownClass}
use Rattle.jlib.specs.declared.classes.Thrown.TheVariants as thrown
use Rattle.jlib.specs.declared.classes.PermissionClass.{PermissionClass}
use Rattle.jlib.specs.declared.classes.PermissionClass.TheVariants as permissions
use Rattle.jlib.specs.declared.classes.LibClass.{LibClass}
use Rattle.jlib.specs.declared.classes.LibClass.TheVariants as lib
use Rattle.jresolution.specs.declared.jprogram.part.ClassRef.{ClassRef}
use Rattle.jresolution.specs.declared.jprogram.part.ClassRef.TheVariants as refs

abbrev pub thrown_number : ThrownClass → ℕ
thrown_number thrown.Throwable = 0
thrown_number thrown.Exception = 1
thrown_number thrown.Error = 2
thrown_number thrown.RuntimeException = 3
thrown_number thrown.InterruptedException = 4
thrown_number thrown.ArithmeticException = 5
thrown_number thrown.NullPointerException = 6
thrown_number thrown.ClassCastException = 7
thrown_number thrown.NegativeArraySizeException = 8
thrown_number thrown.ArrayStoreException = 9
thrown_number thrown.IllegalArgumentException = 10
thrown_number thrown.IllegalStateException = 11
thrown_number thrown.IndexOutOfBoundsException = 12
thrown_number thrown.SecurityException = 13
thrown_number thrown.IllegalThreadStateException = 14
thrown_number thrown.ArrayIndexOutOfBoundsException = 15
thrown_number thrown.StringIndexOutOfBoundsException = 16
thrown_number thrown.LinkageError = 17
thrown_number thrown.VirtualMachineError = 18
thrown_number thrown.IncompatibleClassChangeError = 19
thrown_number thrown.AbstractMethodError = 20
thrown_number thrown.IllegalAccessError = 21
thrown_number thrown.StackOverflowError = 22

abbrev pub permission_number : PermissionClass → ℕ
permission_number permissions.Permission = 23
permission_number permissions.BasicPermission = 24
permission_number permissions.AllPermission = 25
permission_number permissions.RuntimePermission = 26
permission_number permissions.SecurityPermission = 27
permission_number permissions.PropertyPermission = 28
permission_number permissions.FilePermission = 29

abbrev pub library_number : LibClass → ℕ
library_number (lib.Thrown c) = thrown_number c
library_number (lib.Permission c) = permission_number c
library_number lib.Object = 30
library_number lib.AccessControlException = 31
library_number lib.String = 32
library_number lib.StringBuilder = 33
library_number lib.System = 34
library_number lib.PrintStream = 35
library_number lib.Void = 36
library_number lib.Cloneable = 37
library_number lib.Serializable = 38
library_number lib.Runnable = 39
library_number lib.Thread = 40
library_number lib.PrivilegedAction = 41
library_number lib.AccessController = 42
library_number lib.AccessControlContext = 43
library_number lib.Rt = 44
library_number lib.Ctx = 45

-- the classes of the library, in the order of their numbers
abbrev pub library_classes : List LibClass
library_classes =
    lib.Thrown thrown.Throwable ∷ lib.Thrown thrown.Exception ∷ lib.Thrown thrown.Error ∷ lib.Thrown thrown.RuntimeException
    ∷ lib.Thrown thrown.InterruptedException ∷ lib.Thrown thrown.ArithmeticException ∷ lib.Thrown thrown.NullPointerException
    ∷ lib.Thrown thrown.ClassCastException ∷ lib.Thrown thrown.NegativeArraySizeException ∷ lib.Thrown thrown.ArrayStoreException
    ∷ lib.Thrown thrown.IllegalArgumentException ∷ lib.Thrown thrown.IllegalStateException ∷ lib.Thrown thrown.IndexOutOfBoundsException
    ∷ lib.Thrown thrown.SecurityException ∷ lib.Thrown thrown.IllegalThreadStateException ∷ lib.Thrown thrown.ArrayIndexOutOfBoundsException
    ∷ lib.Thrown thrown.StringIndexOutOfBoundsException ∷ lib.Thrown thrown.LinkageError ∷ lib.Thrown thrown.VirtualMachineError
    ∷ lib.Thrown thrown.IncompatibleClassChangeError ∷ lib.Thrown thrown.AbstractMethodError ∷ lib.Thrown thrown.IllegalAccessError
    ∷ lib.Thrown thrown.StackOverflowError ∷ lib.Permission permissions.Permission ∷ lib.Permission permissions.BasicPermission
    ∷ lib.Permission permissions.AllPermission ∷ lib.Permission permissions.RuntimePermission ∷ lib.Permission permissions.SecurityPermission
    ∷ lib.Permission permissions.PropertyPermission ∷ lib.Permission permissions.FilePermission ∷ lib.Object ∷ lib.AccessControlException
    ∷ lib.String ∷ lib.StringBuilder ∷ lib.System ∷ lib.PrintStream ∷ lib.Void ∷ lib.Cloneable ∷ lib.Serializable ∷ lib.Runnable ∷ lib.Thread
    ∷ lib.PrivilegedAction ∷ lib.AccessController ∷ lib.AccessControlContext ∷ lib.Rt ∷ lib.Ctx ∷ []

abbrev pub library_count : ℕ
library_count = 46

abbrev pub number_of : ClassRef → ℕ
number_of (refs.Lib c) = library_number c
number_of (refs.User i) = library_count + i

abbrev pub library_at : ℕ → LibClass
library_at n = unwrap_or (slice_get library_classes n) lib.Object

abbrev pub class_numbered : ℕ → ClassRef
class_numbered n = if nat_lt n library_count then refs.Lib (library_at n) else refs.User (n - library_count)

-- A class is that of its number.
abbrev pub GivesBack : Type 0
GivesBack = (c : ClassRef) → class_numbered (number_of c) ≡ c
