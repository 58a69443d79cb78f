-- The classes of the library have names of their own.
use Rattle.std.proofs.Common.{◌≡◌, ◌∙◌, List, ℕ, true, Some, refl, sym, ap}
use Rattle.jlib.specs.declared.classes.LibClass.{LibClass}
use Rattle.jlib.specs.declared.classes.LibClass.TheVariants as lib
use Rattle.jlib.specs.declared.classes.PermissionClass.{PermissionClass}
use Rattle.jlib.specs.declared.classes.PermissionClass.TheVariants as permissions
use Rattle.jlib.specs.declared.classes.Thrown.{Thrown}
use Rattle.jlib.specs.declared.classes.Thrown.TheVariants as thrown
use Rattle.jlib.specs.declared.side.Side.TheVariants.{Passing}
use Rattle.jlib.specs.LibraryClasses as library
use Rattle.jlib.proofs.LibraryLookup.{class_only}

thrown_there : (t : Thrown) → library.stands_on Passing (lib.Thrown t) ≡ true
thrown_there thrown.Throwable = refl
thrown_there thrown.Exception = refl
thrown_there thrown.Error = refl
thrown_there thrown.RuntimeException = refl
thrown_there thrown.InterruptedException = refl
thrown_there thrown.ArithmeticException = refl
thrown_there thrown.NullPointerException = refl
thrown_there thrown.ClassCastException = refl
thrown_there thrown.NegativeArraySizeException = refl
thrown_there thrown.ArrayStoreException = refl
thrown_there thrown.IllegalArgumentException = refl
thrown_there thrown.IllegalStateException = refl
thrown_there thrown.IndexOutOfBoundsException = refl
thrown_there thrown.SecurityException = refl
thrown_there thrown.IllegalThreadStateException = refl
thrown_there thrown.ArrayIndexOutOfBoundsException = refl
thrown_there thrown.StringIndexOutOfBoundsException = refl
thrown_there thrown.LinkageError = refl
thrown_there thrown.VirtualMachineError = refl
thrown_there thrown.IncompatibleClassChangeError = refl
thrown_there thrown.AbstractMethodError = refl
thrown_there thrown.IllegalAccessError = refl
thrown_there thrown.StackOverflowError = refl

permission_there : (c : PermissionClass) → library.stands_on Passing (lib.Permission c) ≡ true
permission_there permissions.Permission = refl
permission_there permissions.BasicPermission = refl
permission_there permissions.AllPermission = refl
permission_there permissions.RuntimePermission = refl
permission_there permissions.SecurityPermission = refl
permission_there permissions.PropertyPermission = refl
permission_there permissions.FilePermission = refl

-- the passing side has them all
all_there : (l : LibClass) → library.stands_on Passing l ≡ true
all_there (lib.Thrown t) = thrown_there t
all_there (lib.Permission c) = permission_there c
all_there lib.Object = refl
all_there lib.AccessControlException = refl
all_there lib.String = refl
all_there lib.StringBuilder = refl
all_there lib.System = refl
all_there lib.PrintStream = refl
all_there lib.Void = refl
all_there lib.Cloneable = refl
all_there lib.Serializable = refl
all_there lib.Runnable = refl
all_there lib.Thread = refl
all_there lib.PrivilegedAction = refl
all_there lib.AccessController = refl
all_there lib.AccessControlContext = refl
all_there lib.Rt = refl
all_there lib.Ctx = refl

pub one_name : (a b : LibClass) → library.name_of a ≡ library.name_of b → a ≡ b
one_name a b e =
    let both : Some a ≡ Some b = sym (class_only Passing a (all_there a)) ∙ ap (λ (n : List ℕ). library.class_named Passing n) e ∙ class_only Passing b (all_there b) in
    cc
