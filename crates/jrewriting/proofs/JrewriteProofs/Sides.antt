-- Classes of the library that only the passing side has: their names are kept.
use Rattle.std.proofs.Common.{◌≡◌, ℕ, true, false, List, Option, Some, None, refl, ap, sym, ◌∙◌, subst, inl, inr}
use Rattle.std.specs.Prelude.{◌⊎◌}
use Rattle.jlib.specs.declared.side.Side.{Side}
use Rattle.jlib.specs.declared.side.Side.TheVariants.{Source, Passing}
use Rattle.jlib.specs.declared.classes.LibClass.{LibClass}
use Rattle.jlib.specs.declared.classes.LibClass.TheVariants as lib
use Rattle.jlib.specs.declared.classes.PermissionClass.{PermissionClass}
use Rattle.jlib.specs.declared.classes.PermissionClass.TheVariants as permission
use Rattle.jlib.specs.declared.classes.Thrown.{Thrown}
use Rattle.jlib.specs.declared.classes.Thrown.TheVariants as thrown
use Rattle.jlib.specs.LibraryClasses.{among, class_named, name_of, permission_row, stands_on, thrown_row}
use Rattle.jlib.proofs.LibraryLookup.{class_found, class_only}
use Rattle.jresolution.specs.jprogram.NameChecks.{is_reserved}

thrown_both : (t : Thrown) (side : Side) → among (thrown_row t).sides side ≡ true
thrown_both thrown.Throwable side = refl
thrown_both thrown.Exception side = refl
thrown_both thrown.Error side = refl
thrown_both thrown.RuntimeException side = refl
thrown_both thrown.InterruptedException side = refl
thrown_both thrown.ArithmeticException side = refl
thrown_both thrown.NullPointerException side = refl
thrown_both thrown.ClassCastException side = refl
thrown_both thrown.NegativeArraySizeException side = refl
thrown_both thrown.ArrayStoreException side = refl
thrown_both thrown.IllegalArgumentException side = refl
thrown_both thrown.IllegalStateException side = refl
thrown_both thrown.IndexOutOfBoundsException side = refl
thrown_both thrown.SecurityException side = refl
thrown_both thrown.IllegalThreadStateException side = refl
thrown_both thrown.ArrayIndexOutOfBoundsException side = refl
thrown_both thrown.StringIndexOutOfBoundsException side = refl
thrown_both thrown.LinkageError side = refl
thrown_both thrown.VirtualMachineError side = refl
thrown_both thrown.IncompatibleClassChangeError side = refl
thrown_both thrown.AbstractMethodError side = refl
thrown_both thrown.IllegalAccessError side = refl
thrown_both thrown.StackOverflowError side = refl

permission_both : (p : PermissionClass) (side : Side) → among (permission_row p).sides side ≡ true
permission_both permission.Permission side = refl
permission_both permission.BasicPermission side = refl
permission_both permission.AllPermission side = refl
permission_both permission.RuntimePermission side = refl
permission_both permission.SecurityPermission side = refl
permission_both permission.PropertyPermission side = refl
permission_both permission.FilePermission side = refl

thrown_plain : (t : Thrown) → is_reserved (thrown_row t).name ≡ false
thrown_plain thrown.Throwable = refl
thrown_plain thrown.Exception = refl
thrown_plain thrown.Error = refl
thrown_plain thrown.RuntimeException = refl
thrown_plain thrown.InterruptedException = refl
thrown_plain thrown.ArithmeticException = refl
thrown_plain thrown.NullPointerException = refl
thrown_plain thrown.ClassCastException = refl
thrown_plain thrown.NegativeArraySizeException = refl
thrown_plain thrown.ArrayStoreException = refl
thrown_plain thrown.IllegalArgumentException = refl
thrown_plain thrown.IllegalStateException = refl
thrown_plain thrown.IndexOutOfBoundsException = refl
thrown_plain thrown.SecurityException = refl
thrown_plain thrown.IllegalThreadStateException = refl
thrown_plain thrown.ArrayIndexOutOfBoundsException = refl
thrown_plain thrown.StringIndexOutOfBoundsException = refl
thrown_plain thrown.LinkageError = refl
thrown_plain thrown.VirtualMachineError = refl
thrown_plain thrown.IncompatibleClassChangeError = refl
thrown_plain thrown.AbstractMethodError = refl
thrown_plain thrown.IllegalAccessError = refl
thrown_plain thrown.StackOverflowError = refl

permission_plain : (p : PermissionClass) → is_reserved (permission_row p).name ≡ false
permission_plain permission.Permission = refl
permission_plain permission.BasicPermission = refl
permission_plain permission.AllPermission = refl
permission_plain permission.RuntimePermission = refl
permission_plain permission.SecurityPermission = refl
permission_plain permission.PropertyPermission = refl
permission_plain permission.FilePermission = refl

-- a class of the library stands on both sides, or its name is kept
pub both_or_kept : (c : LibClass) → ((side : Side) → stands_on side c ≡ true) ⊎ (is_reserved (name_of c) ≡ true)
both_or_kept lib.Rt = inr refl
both_or_kept lib.Ctx = inr refl
both_or_kept (lib.Thrown t) = inl (thrown_both t)
both_or_kept (lib.Permission p) = inl (permission_both p)
both_or_kept lib.Object = inl (λ side. refl)
both_or_kept lib.AccessControlException = inl (λ side. refl)
both_or_kept lib.String = inl (λ side. refl)
both_or_kept lib.StringBuilder = inl (λ side. refl)
both_or_kept lib.System = inl (λ side. refl)
both_or_kept lib.PrintStream = inl (λ side. refl)
both_or_kept lib.Void = inl (λ side. refl)
both_or_kept lib.Cloneable = inl (λ side. refl)
both_or_kept lib.Serializable = inl (λ side. refl)
both_or_kept lib.Runnable = inl (λ side. refl)
both_or_kept lib.Thread = inl (λ side. refl)
both_or_kept lib.PrivilegedAction = inl (λ side. refl)
both_or_kept lib.AccessController = inl (λ side. refl)
both_or_kept lib.AccessControlContext = inl (λ side. refl)

-- on the source side no name is kept
pub source_plain : (c : LibClass) → stands_on Source c ≡ true → is_reserved (name_of c) ≡ false
source_plain lib.Rt h = absurd cc
source_plain lib.Ctx h = absurd cc
source_plain (lib.Thrown t) h = thrown_plain t
source_plain (lib.Permission p) h = permission_plain p
source_plain lib.Object h = refl
source_plain lib.AccessControlException h = refl
source_plain lib.String h = refl
source_plain lib.StringBuilder h = refl
source_plain lib.System h = refl
source_plain lib.PrintStream h = refl
source_plain lib.Void h = refl
source_plain lib.Cloneable h = refl
source_plain lib.Serializable h = refl
source_plain lib.Runnable h = refl
source_plain lib.Thread h = refl
source_plain lib.PrivilegedAction h = refl
source_plain lib.AccessController h = refl
source_plain lib.AccessControlContext h = refl

-- one that is found on a side is found on the other, where its name isn't kept
found_there : (name : List ℕ) (c : LibClass) (here there : Side) → is_reserved name ≡ false → class_named here name ≡ Some c → class_named there name ≡ Some c
found_there name c here there plain h =
    let f = class_found here name c h in
    elim (both_or_kept c) [
      | inl both ↦ subst (λ (n : List ℕ). class_named there n ≡ Some c) f.0 (class_only there c (both there))
      | inr kept ↦ let no : true ≡ false = sym kept ∙ ap is_reserved f.0 ∙ plain in absurd cc
    ]

same_by : (name : List ℕ) (o p : Option LibClass) → is_reserved name ≡ false → class_named Source name ≡ o → class_named Passing name ≡ p → p ≡ o
same_by name None None plain a b = refl
same_by name (Some c) p plain a b = sym b ∙ found_there name c Source Passing plain a
same_by name None (Some c) plain a b = let no : None ≡ Some c = sym a ∙ found_there name c Passing Source plain b in absurd cc

pub same_named : (name : List ℕ) → is_reserved name ≡ false → class_named Passing name ≡ class_named Source name
same_named name plain = same_by name (class_named Source name) (class_named Passing name) plain refl refl
