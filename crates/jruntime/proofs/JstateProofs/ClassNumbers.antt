-- The heap's numbers for classes.
use Rattle.std.proofs.Common.{◌≡◌, ◌∙◌, ℕ, ◌+◌, ◌-◌, ◌<◌, ◌≤◌, true, false, List, Option, Some, None, refl, sym, ap, arith, rules, lt-ltb}
use Rattle.std.specs.Prelude.{get_or, nat_lt, slice_get, unwrap_or}
use Rattle.std.proofs.lemmas.Option.{slice_get-get_or}
use Rattle.jlib.specs.declared.classes.Thrown.TheVariants as thrown
use Rattle.jlib.specs.declared.classes.PermissionClass.TheVariants as permissions
use Rattle.jlib.specs.declared.classes.LibClass.{LibClass}
use Rattle.jlib.specs.declared.classes.LibClass.TheVariants as lib
use Rattle.jresolution.specs.declared.jprogram.part.ClassRef.TheVariants as refs
use Rattle.jruntime.specs.jstate.ClassNumbers.{GivesBack, class_numbered, library_classes, library_count, library_number}
use Rattle.jruntime.specs.declared.jstate.classes.TheConstants.{LIBRARY}

library_back : (c : LibClass) → class_numbered (library_number c) ≡ refs.Lib c
library_back (lib.Thrown thrown.Throwable) = refl
library_back (lib.Thrown thrown.Exception) = refl
library_back (lib.Thrown thrown.Error) = refl
library_back (lib.Thrown thrown.RuntimeException) = refl
library_back (lib.Thrown thrown.InterruptedException) = refl
library_back (lib.Thrown thrown.ArithmeticException) = refl
library_back (lib.Thrown thrown.NullPointerException) = refl
library_back (lib.Thrown thrown.ClassCastException) = refl
library_back (lib.Thrown thrown.NegativeArraySizeException) = refl
library_back (lib.Thrown thrown.ArrayStoreException) = refl
library_back (lib.Thrown thrown.IllegalArgumentException) = refl
library_back (lib.Thrown thrown.IllegalStateException) = refl
library_back (lib.Thrown thrown.IndexOutOfBoundsException) = refl
library_back (lib.Thrown thrown.SecurityException) = refl
library_back (lib.Thrown thrown.IllegalThreadStateException) = refl
library_back (lib.Thrown thrown.ArrayIndexOutOfBoundsException) = refl
library_back (lib.Thrown thrown.StringIndexOutOfBoundsException) = refl
library_back (lib.Thrown thrown.LinkageError) = refl
library_back (lib.Thrown thrown.VirtualMachineError) = refl
library_back (lib.Thrown thrown.IncompatibleClassChangeError) = refl
library_back (lib.Thrown thrown.AbstractMethodError) = refl
library_back (lib.Thrown thrown.IllegalAccessError) = refl
library_back (lib.Thrown thrown.StackOverflowError) = refl
library_back (lib.Permission permissions.Permission) = refl
library_back (lib.Permission permissions.BasicPermission) = refl
library_back (lib.Permission permissions.AllPermission) = refl
library_back (lib.Permission permissions.RuntimePermission) = refl
library_back (lib.Permission permissions.SecurityPermission) = refl
library_back (lib.Permission permissions.PropertyPermission) = refl
library_back (lib.Permission permissions.FilePermission) = refl
library_back lib.Object = refl
library_back lib.AccessControlException = refl
library_back lib.String = refl
library_back lib.StringBuilder = refl
library_back lib.System = refl
library_back lib.PrintStream = refl
library_back lib.Void = refl
library_back lib.Cloneable = refl
library_back lib.Serializable = refl
library_back lib.Runnable = refl
library_back lib.Thread = refl
library_back lib.PrivilegedAction = refl
library_back lib.AccessController = refl
library_back lib.AccessControlContext = refl
library_back lib.Rt = refl
library_back lib.Ctx = refl

pub gives_back : GivesBack
gives_back (refs.Lib c) = library_back c
gives_back (refs.User i) =
    let above : nat_lt (library_count + i) library_count ≡ false = search rules in
    let back : library_count + i - library_count ≡ i = omega arith in
    rw (above, back) refl

-- ---- by a table

pub users_class : (n : ℕ) → 46 ≤ n → refs.User (n - 46) ≡ class_numbered n
users_class n few = let b : nat_lt n library_count ≡ false = search rules in rw b refl

listed : library_classes ≡ LIBRARY
listed = refl

found : (o : Option LibClass) (x : LibClass) → Some x ≡ o → x ≡ unwrap_or o lib.Object
found None x h = cc
found (Some c) x h = cc

pub librarys_class : (n : ℕ) (d : LibClass) → n < 46 → refs.Lib (get_or LIBRARY n d) ≡ class_numbered n
librarys_class n d few =
    let b : nat_lt n library_count ≡ true = lt-ltb n library_count few in
    rw b (ap refs.Lib (found (slice_get library_classes n) (get_or LIBRARY n d)
    (sym (slice_get-get_or LIBRARY n d few) ∙ ap (λ (xs : List LibClass). slice_get xs n) (sym listed))))
