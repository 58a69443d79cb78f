-- Each class of the library is found at the place of its name.
use Rattle.std.proofs.Common.{◌≡◌, ℕ, zero, suc, ◌+◌, ◌<◌, List, [], ◌∷◌, Bool, true, false, ◌&&◌, Option, Some, None, get_or, refl, sym, ap, subst, ◌∙◌, arith}
use Rattle.std.specs.Str.{bytes_eq}
use Rattle.std.proofs.lemmas.Bool.{and_parts}
use Rattle.std.proofs.lemmas.Slice.Eq.{bytes_eq-Decides}
use Rattle.jlib.specs.LibraryClasses.{class_named, name_of, stands_on}
use Rattle.jlib.specs.LibraryPlaces.{candidate, class_at}
use Rattle.jlib.specs.declared.side.Side.{Side}
use Rattle.jlib.specs.declared.classes.Thrown.TheVariants as thrown
use Rattle.jlib.specs.declared.classes.PermissionClass.TheVariants as permission
use Rattle.jlib.specs.declared.classes.LibClass.{LibClass}
use Rattle.jlib.specs.declared.classes.LibClass.TheVariants as lib
use Rattle.jlib.proofs.LibraryLookup.{class_found, class_only}

-- ---- the table

-- a function's values at so many numbers from one on
abbrev from_on : {A : Type 0} → (ℕ → A) → ℕ → ℕ → List A
from_on f n zero = []
from_on f n (suc k) = f n ∷ from_on f (n + 1) k

from_on_at : {A : Type 0} (f : ℕ → A) (n k i : ℕ) (d : A) → i < k → get_or (from_on f n k) i d ≡ f (n + i)
from_on_at f n zero i d lt = absurd (omega arith)
from_on_at f n (suc k) zero d lt = let e : n + 0 ≡ n = omega arith in rw e refl
from_on_at f n (suc k) (suc i) d lt = let e : n + suc i ≡ n + 1 + i = omega arith in rw e (from_on_at f (n + 1) k i d (omega arith))

abbrev pub table : List (Option LibClass)
table = from_on class_at 0 128

pub table_at : (n : ℕ) → n < 128 → get_or table n None ≡ class_at n
table_at n lt = let z : 0 + n ≡ n = omega arith in from_on_at class_at 0 128 n None lt ∙ ap class_at z

-- ---- each class has its own place

pub placed : (c : LibClass) → candidate (name_of c) ≡ Some c
placed (lib.Thrown thrown.Throwable) = refl
placed (lib.Thrown thrown.Exception) = refl
placed (lib.Thrown thrown.Error) = refl
placed (lib.Thrown thrown.RuntimeException) = refl
placed (lib.Thrown thrown.InterruptedException) = refl
placed (lib.Thrown thrown.ArithmeticException) = refl
placed (lib.Thrown thrown.NullPointerException) = refl
placed (lib.Thrown thrown.ClassCastException) = refl
placed (lib.Thrown thrown.NegativeArraySizeException) = refl
placed (lib.Thrown thrown.ArrayStoreException) = refl
placed (lib.Thrown thrown.IllegalArgumentException) = refl
placed (lib.Thrown thrown.IllegalStateException) = refl
placed (lib.Thrown thrown.IndexOutOfBoundsException) = refl
placed (lib.Thrown thrown.SecurityException) = refl
placed (lib.Thrown thrown.IllegalThreadStateException) = refl
placed (lib.Thrown thrown.ArrayIndexOutOfBoundsException) = refl
placed (lib.Thrown thrown.StringIndexOutOfBoundsException) = refl
placed (lib.Thrown thrown.LinkageError) = refl
placed (lib.Thrown thrown.VirtualMachineError) = refl
placed (lib.Thrown thrown.IncompatibleClassChangeError) = refl
placed (lib.Thrown thrown.AbstractMethodError) = refl
placed (lib.Thrown thrown.IllegalAccessError) = refl
placed (lib.Thrown thrown.StackOverflowError) = refl
placed (lib.Permission permission.Permission) = refl
placed (lib.Permission permission.BasicPermission) = refl
placed (lib.Permission permission.AllPermission) = refl
placed (lib.Permission permission.RuntimePermission) = refl
placed (lib.Permission permission.SecurityPermission) = refl
placed (lib.Permission permission.PropertyPermission) = refl
placed (lib.Permission permission.FilePermission) = refl
placed lib.Object = refl
placed lib.AccessControlException = refl
placed lib.String = refl
placed lib.StringBuilder = refl
placed lib.System = refl
placed lib.PrintStream = refl
placed lib.Void = refl
placed lib.Cloneable = refl
placed lib.Serializable = refl
placed lib.Runnable = refl
placed lib.Thread = refl
placed lib.PrivilegedAction = refl
placed lib.AccessController = refl
placed lib.AccessControlContext = refl
placed lib.Rt = refl
placed lib.Ctx = refl

-- ---- what is found

clash : (b : Bool) → b ≡ true → b ≡ false → ⊥
clash b t f = absurd cc

none_some : (c : LibClass) (o : Option LibClass) → o ≡ Some c → o ≡ None → ⊥
none_some c o s n = absurd cc

at_own : (side : Side) (name : List ℕ) (c : LibClass) → class_named side name ≡ Some c → candidate name ≡ Some c
at_own side name c h = subst (λ n. candidate n ≡ Some c) (class_found side name c h).0 (placed c)

none_if : (side : Side) (name : List ℕ) (o : Option LibClass) → class_named side name ≡ o → candidate name ≡ None → None ≡ o
none_if side name None h none = refl
none_if side name (Some c) h none = absurd (none_some c (candidate name) (at_own side name c h) none)

pub none_else : (side : Side) (name : List ℕ) → candidate name ≡ None → None ≡ class_named side name
none_else side name none = none_if side name (class_named side name) refl none

this_if : (side : Side) (name : List ℕ) (c : LibClass) → (stands_on side c ≡ true) × (bytes_eq name (name_of c) ≡ true) → Some c ≡ class_named side name
this_if side name c p = sym (subst (λ n. class_named side n ≡ Some c) (sym ((bytes_eq-Decides name (name_of c)).0 p.1)) (class_only side c p.0))

pub this_one : (side : Side) (name : List ℕ) (c : LibClass) → (stands_on side c && bytes_eq name (name_of c)) ≡ true → Some c ≡ class_named side name
this_one side name c is = this_if side name c (and_parts (stands_on side c) (bytes_eq name (name_of c)) is)

other : (c d : LibClass) (o : Option LibClass) → o ≡ Some c → o ≡ Some d → d ≡ c
other c d o x y = cc

passes : (side : Side) (name : List ℕ) (d : LibClass) → (name_of d ≡ name) × (stands_on side d ≡ true) → (stands_on side d && bytes_eq name (name_of d)) ≡ true
passes side name d p = let same : bytes_eq name (name_of d) ≡ true = (bytes_eq-Decides name (name_of d)).1 (sym p.0) in rw p.1 same

not_if : (side : Side) (name : List ℕ) (c : LibClass) (o : Option LibClass) → class_named side name ≡ o → candidate name ≡ Some c → (stands_on side c && bytes_eq name (name_of c)) ≡ false → None ≡ o
not_if side name c None h at fails = refl
not_if side name c (Some d) h at fails =
    let is : d ≡ c = other c d (candidate name) at (at_own side name d h) in
    absurd (clash (stands_on side c && bytes_eq name (name_of c)) (subst (λ e. (stands_on side e && bytes_eq name (name_of e)) ≡ true) is (passes side name d (class_found side name d h))) fails)

pub not_this : (side : Side) (name : List ℕ) (c : LibClass) → candidate name ≡ Some c → (stands_on side c && bytes_eq name (name_of c)) ≡ false → None ≡ class_named side name
not_this side name c at fails = not_if side name c (class_named side name) refl at fails
