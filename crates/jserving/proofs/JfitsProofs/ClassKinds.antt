-- What can be thrown and what is a permission is no interface.
use Rattle.std.proofs.Common.{◌≡◌, false, refl}
use Rattle.jlib.specs.declared.classes.Thrown.{Thrown}
use Rattle.jlib.specs.declared.classes.Thrown.TheVariants as thrown
use Rattle.jlib.specs.declared.classes.PermissionClass.{PermissionClass}
use Rattle.jlib.specs.declared.classes.PermissionClass.TheVariants as permission
use Rattle.jlib.specs.declared.classes.LibClass.TheVariants as lib
use Rattle.jlib.specs.LibraryClasses as library

pub no_thrown : (t : Thrown) → false ≡ library.is_interface (lib.Thrown t)
no_thrown thrown.Throwable = refl
no_thrown thrown.Exception = refl
no_thrown thrown.Error = refl
no_thrown thrown.RuntimeException = refl
no_thrown thrown.InterruptedException = refl
no_thrown thrown.ArithmeticException = refl
no_thrown thrown.NullPointerException = refl
no_thrown thrown.ClassCastException = refl
no_thrown thrown.NegativeArraySizeException = refl
no_thrown thrown.ArrayStoreException = refl
no_thrown thrown.IllegalArgumentException = refl
no_thrown thrown.IllegalStateException = refl
no_thrown thrown.IndexOutOfBoundsException = refl
no_thrown thrown.SecurityException = refl
no_thrown thrown.IllegalThreadStateException = refl
no_thrown thrown.ArrayIndexOutOfBoundsException = refl
no_thrown thrown.StringIndexOutOfBoundsException = refl
no_thrown thrown.LinkageError = refl
no_thrown thrown.VirtualMachineError = refl
no_thrown thrown.IncompatibleClassChangeError = refl
no_thrown thrown.AbstractMethodError = refl
no_thrown thrown.IllegalAccessError = refl
no_thrown thrown.StackOverflowError = refl

pub no_permission : (t : PermissionClass) → false ≡ library.is_interface (lib.Permission t)
no_permission permission.Permission = refl
no_permission permission.BasicPermission = refl
no_permission permission.AllPermission = refl
no_permission permission.RuntimePermission = refl
no_permission permission.SecurityPermission = refl
no_permission permission.PropertyPermission = refl
no_permission permission.FilePermission = refl
