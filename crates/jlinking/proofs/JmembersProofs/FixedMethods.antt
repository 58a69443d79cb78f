-- Which classes of the library keep users from declaring a method.
use Rattle.std.proofs.Common.{◌≡◌, ℕ, ◌||◌, Bool, true, false, cond, List, [], ◌∷◌, Option, Some, None, refl, ap, ◌∙◌}
use Rattle.std.specs.List.{list_any}
use Rattle.jlib.specs.declared.classes.Thrown.TheVariants as thrown
use Rattle.jlib.specs.declared.classes.PermissionClass.TheVariants as permission
use Rattle.jlib.specs.declared.classes.LibClass.{LibClass}
use Rattle.jlib.specs.declared.classes.LibClass.TheVariants as lib
use Rattle.jlib.specs.LibraryMembers.{fixes}
use Rattle.jlib.specs.LibraryClasses.{open_classes}
use Rattle.jresolution.specs.jprogram.ProgramClasses.{Class, Lib, Program, User, find}
use Rattle.jresolution.specs.jprogram.ClassFileParts.{is_interface}
use Rattle.jclass.specs.declared.class.ClassParts.{ClassParts}
use Rattle.jlinking.specs.jmembers.MemberDeclarations.{is_fixed, is_fixed_by, names_above}
use Rattle.jlinking.specs.ProofNames.{is_fixed_at}

not_first : (b : Bool) → (b || false) ≡ false → b ≡ false
not_first true e = absurd cc
not_first false e = refl

-- what no open class fixes, none does
pub none_fixes : (name desc : List ℕ) (c : LibClass) → list_any (fixes name desc) open_classes ≡ false → fixes name desc c ≡ false
none_fixes name desc (lib.Thrown thrown.Throwable) none = not_first (fixes name desc (lib.Thrown thrown.Throwable)) none
none_fixes name desc (lib.Thrown thrown.Exception) none = refl
none_fixes name desc (lib.Thrown thrown.Error) none = refl
none_fixes name desc (lib.Thrown thrown.RuntimeException) none = refl
none_fixes name desc (lib.Thrown thrown.InterruptedException) none = refl
none_fixes name desc (lib.Thrown thrown.ArithmeticException) none = refl
none_fixes name desc (lib.Thrown thrown.NullPointerException) none = refl
none_fixes name desc (lib.Thrown thrown.ClassCastException) none = refl
none_fixes name desc (lib.Thrown thrown.NegativeArraySizeException) none = refl
none_fixes name desc (lib.Thrown thrown.ArrayStoreException) none = refl
none_fixes name desc (lib.Thrown thrown.IllegalArgumentException) none = refl
none_fixes name desc (lib.Thrown thrown.IllegalStateException) none = refl
none_fixes name desc (lib.Thrown thrown.IndexOutOfBoundsException) none = refl
none_fixes name desc (lib.Thrown thrown.SecurityException) none = refl
none_fixes name desc (lib.Thrown thrown.IllegalThreadStateException) none = refl
none_fixes name desc (lib.Thrown thrown.ArrayIndexOutOfBoundsException) none = refl
none_fixes name desc (lib.Thrown thrown.StringIndexOutOfBoundsException) none = refl
none_fixes name desc (lib.Thrown thrown.LinkageError) none = refl
none_fixes name desc (lib.Thrown thrown.VirtualMachineError) none = refl
none_fixes name desc (lib.Thrown thrown.IncompatibleClassChangeError) none = refl
none_fixes name desc (lib.Thrown thrown.AbstractMethodError) none = refl
none_fixes name desc (lib.Thrown thrown.IllegalAccessError) none = refl
none_fixes name desc (lib.Thrown thrown.StackOverflowError) none = refl
none_fixes name desc (lib.Permission permission.Permission) none = refl
none_fixes name desc (lib.Permission permission.BasicPermission) none = refl
none_fixes name desc (lib.Permission permission.AllPermission) none = refl
none_fixes name desc (lib.Permission permission.RuntimePermission) none = refl
none_fixes name desc (lib.Permission permission.SecurityPermission) none = refl
none_fixes name desc (lib.Permission permission.PropertyPermission) none = refl
none_fixes name desc (lib.Permission permission.FilePermission) none = refl
none_fixes name desc lib.Object none = refl
none_fixes name desc lib.AccessControlException none = refl
none_fixes name desc lib.String none = refl
none_fixes name desc lib.StringBuilder none = refl
none_fixes name desc lib.System none = refl
none_fixes name desc lib.PrintStream none = refl
none_fixes name desc lib.Void none = refl
none_fixes name desc lib.Cloneable none = refl
none_fixes name desc lib.Serializable none = refl
none_fixes name desc lib.Runnable none = refl
none_fixes name desc lib.Thread none = refl
none_fixes name desc lib.PrivilegedAction none = refl
none_fixes name desc lib.AccessController none = refl
none_fixes name desc lib.AccessControlContext none = refl
none_fixes name desc lib.Rt none = refl
none_fixes name desc lib.Ctx none = refl

none_at : (name desc : List ℕ) (o : Option Class) → list_any (fixes name desc) open_classes ≡ false → is_fixed_by name desc o ≡ false
none_at name desc None none = refl
none_at name desc (Some (User i c)) none = refl
none_at name desc (Some (Lib c)) none = none_fixes name desc c none

pub none_along : (p : Program) (name desc : List ℕ) (classes : List (List ℕ)) → list_any (fixes name desc) open_classes ≡ false → list_any (is_fixed_at p name desc) classes ≡ false
none_along p name desc [] none = refl
none_along p name desc (c ∷ cs) none = ap (λ (b : Bool). b || list_any (is_fixed_at p name desc) cs) (none_at name desc (find p c) none) ∙ none_along p name desc cs none

pub fixed_none : (p : Program) (c : ClassParts) (name desc : List ℕ) → list_any (fixes name desc) open_classes ≡ false → is_fixed p c name desc ≡ false
fixed_none p c name desc none = go (is_interface c.flags)
  where
    go : (b : Bool) → cond b (list_any (fixes name desc) open_classes) (list_any (is_fixed_at p name desc) (names_above p c)) ≡ false
    go true = none
    go false = none_along p name desc (names_above p c) none
