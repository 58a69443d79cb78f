-- How the names of the library's classes begin, and its members by the class itself.
use Rattle.std.proofs.Common.{◌≡◌, ℕ, List, [], ◌∷◌, Bool, true, false, cond, ◌&&◌, Some, None, refl, sym, ap, ◌∙◌}
use Rattle.std.specs.Prelude.{option_and_then}
use Rattle.std.specs.List.{find, list_all}
use Rattle.std.specs.Str.{bytes_eq}
use Rattle.std.proofs.lemmas.Bool.{and_parts, false_from_ne_true}
use Rattle.std.proofs.lemmas.Slice.Eq.{bytes_eq-Decides}
use Rattle.jlib.specs.NamePrefixes.{begins_so}
use Rattle.jlib.specs.LibraryClasses.{class_named, classes, name_of, stands_on}
use Rattle.jlib.specs.LibraryMembers.{member_among, member_named, members}
use Rattle.jlib.specs.declared.side.Side.{Side}
use Rattle.jlib.specs.declared.side.Side.TheVariants.{Source, Passing}
use Rattle.jlib.specs.declared.classes.Thrown.TheVariants as thrown
use Rattle.jlib.specs.declared.classes.PermissionClass.TheVariants as permission
use Rattle.jlib.specs.declared.classes.LibClass.{LibClass}
use Rattle.jlib.specs.declared.classes.LibClass.TheVariants as lib
use Rattle.jlib.proofs.LibraryLookup.{class_only}

-- ---- names that begin otherwise

clash : (b : Bool) → b ≡ true → b ≡ false → ⊥
clash b t f = absurd cc

and_not : (a b : Bool) → b ≡ false → (a && b) ≡ false
and_not true b e = e
and_not false b e = refl

none_begins : (side : Side) (name : List ℕ) (xs : List LibClass) → list_all (λ c. begins_so (name_of c)) xs ≡ true → begins_so name ≡ false → find (λ c. stands_on side c && bytes_eq name (name_of c)) xs ≡ None
none_begins side name [] all other = refl
none_begins side name (c ∷ cs) all none =
    let begins = and_parts (begins_so (name_of c)) (list_all (λ d. begins_so (name_of d)) cs) all in
    let other : bytes_eq name (name_of c) ≡ false = false_from_ne_true (bytes_eq name (name_of c)) (λ same. clash (begins_so name) (ap begins_so ((bytes_eq-Decides name (name_of c)).0 same) ∙ begins.0) none) in
    ap (λ (b : Bool). cond b (Some c) (find (λ d. stands_on side d && bytes_eq name (name_of d)) cs)) (and_not (stands_on side c) (bytes_eq name (name_of c)) other)
    ∙ none_begins side name cs begins.1 none

all_begin : list_all (λ c. begins_so (name_of c)) classes ≡ true
all_begin = refl

pub none_named : (side : Side) (name : List ℕ) → begins_so name ≡ false → class_named side name ≡ None
none_named side name none = none_begins side name classes all_begin none

-- ---- members by the class itself

on : (side : Side) (c : LibClass) (name desc : List ℕ) → stands_on side c ≡ true → member_among side name desc (members c) ≡ member_named side (name_of c) name desc
on side c name desc is = sym (ap (option_and_then (λ (d : LibClass). member_among side name desc (members d))) (class_only side c is))

pub by_class : (side : Side) (c : LibClass) (name desc : List ℕ) → member_among side name desc (members c) ≡ member_named side (name_of c) name desc
by_class side lib.Object name desc = on side lib.Object name desc refl
by_class side (lib.Thrown thrown.Throwable) name desc = on side (lib.Thrown thrown.Throwable) name desc refl
by_class side (lib.Thrown thrown.Exception) name desc = on side (lib.Thrown thrown.Exception) name desc refl
by_class side (lib.Thrown thrown.Error) name desc = on side (lib.Thrown thrown.Error) name desc refl
by_class side (lib.Thrown thrown.RuntimeException) name desc = on side (lib.Thrown thrown.RuntimeException) name desc refl
by_class side (lib.Thrown thrown.InterruptedException) name desc = on side (lib.Thrown thrown.InterruptedException) name desc refl
by_class side (lib.Thrown thrown.ArithmeticException) name desc = on side (lib.Thrown thrown.ArithmeticException) name desc refl
by_class side (lib.Thrown thrown.NullPointerException) name desc = on side (lib.Thrown thrown.NullPointerException) name desc refl
by_class side (lib.Thrown thrown.ClassCastException) name desc = on side (lib.Thrown thrown.ClassCastException) name desc refl
by_class side (lib.Thrown thrown.NegativeArraySizeException) name desc = on side (lib.Thrown thrown.NegativeArraySizeException) name desc refl
by_class side (lib.Thrown thrown.ArrayStoreException) name desc = on side (lib.Thrown thrown.ArrayStoreException) name desc refl
by_class side (lib.Thrown thrown.IllegalArgumentException) name desc = on side (lib.Thrown thrown.IllegalArgumentException) name desc refl
by_class side (lib.Thrown thrown.IllegalStateException) name desc = on side (lib.Thrown thrown.IllegalStateException) name desc refl
by_class side (lib.Thrown thrown.IndexOutOfBoundsException) name desc = on side (lib.Thrown thrown.IndexOutOfBoundsException) name desc refl
by_class side (lib.Thrown thrown.SecurityException) name desc = on side (lib.Thrown thrown.SecurityException) name desc refl
by_class side (lib.Thrown thrown.IllegalThreadStateException) name desc = on side (lib.Thrown thrown.IllegalThreadStateException) name desc refl
by_class side (lib.Thrown thrown.ArrayIndexOutOfBoundsException) name desc = on side (lib.Thrown thrown.ArrayIndexOutOfBoundsException) name desc refl
by_class side (lib.Thrown thrown.StringIndexOutOfBoundsException) name desc = on side (lib.Thrown thrown.StringIndexOutOfBoundsException) name desc refl
by_class side (lib.Thrown thrown.LinkageError) name desc = on side (lib.Thrown thrown.LinkageError) name desc refl
by_class side (lib.Thrown thrown.VirtualMachineError) name desc = on side (lib.Thrown thrown.VirtualMachineError) name desc refl
by_class side (lib.Thrown thrown.IncompatibleClassChangeError) name desc = on side (lib.Thrown thrown.IncompatibleClassChangeError) name desc refl
by_class side (lib.Thrown thrown.AbstractMethodError) name desc = on side (lib.Thrown thrown.AbstractMethodError) name desc refl
by_class side (lib.Thrown thrown.IllegalAccessError) name desc = on side (lib.Thrown thrown.IllegalAccessError) name desc refl
by_class side (lib.Thrown thrown.StackOverflowError) name desc = on side (lib.Thrown thrown.StackOverflowError) name desc refl
by_class side lib.AccessControlException name desc = on side lib.AccessControlException name desc refl
by_class side lib.String name desc = on side lib.String name desc refl
by_class side lib.StringBuilder name desc = on side lib.StringBuilder name desc refl
by_class side lib.System name desc = on side lib.System name desc refl
by_class side lib.PrintStream name desc = on side lib.PrintStream name desc refl
by_class side lib.Void name desc = on side lib.Void name desc refl
by_class side lib.Cloneable name desc = on side lib.Cloneable name desc refl
by_class side lib.Serializable name desc = on side lib.Serializable name desc refl
by_class side lib.Runnable name desc = on side lib.Runnable name desc refl
by_class side lib.Thread name desc = on side lib.Thread name desc refl
by_class side lib.PrivilegedAction name desc = on side lib.PrivilegedAction name desc refl
by_class side lib.AccessController name desc = on side lib.AccessController name desc refl
by_class side lib.AccessControlContext name desc = on side lib.AccessControlContext name desc refl
by_class side (lib.Permission permission.Permission) name desc = on side (lib.Permission permission.Permission) name desc refl
by_class side (lib.Permission permission.BasicPermission) name desc = on side (lib.Permission permission.BasicPermission) name desc refl
by_class side (lib.Permission permission.AllPermission) name desc = on side (lib.Permission permission.AllPermission) name desc refl
by_class side (lib.Permission permission.RuntimePermission) name desc = on side (lib.Permission permission.RuntimePermission) name desc refl
by_class side (lib.Permission permission.SecurityPermission) name desc = on side (lib.Permission permission.SecurityPermission) name desc refl
by_class side (lib.Permission permission.PropertyPermission) name desc = on side (lib.Permission permission.PropertyPermission) name desc refl
by_class side (lib.Permission permission.FilePermission) name desc = on side (lib.Permission permission.FilePermission) name desc refl
by_class Passing lib.Rt name desc = on Passing lib.Rt name desc refl
by_class Passing lib.Ctx name desc = on Passing lib.Ctx name desc refl
by_class Source lib.Rt name desc = refl
by_class Source lib.Ctx name desc = refl
