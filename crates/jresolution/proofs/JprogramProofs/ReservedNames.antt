-- Names of the library: no user's class has the name of one of its classes, on whichever side that stands, or one that is kept for the passing
-- side.
use Rattle.std.proofs.Common.{◌≡◌, ◌∙◌, ◌⊎◌, inl, inr, ℕ, zero, suc, ◌||◌, Bool, true, false, List, [], ◌∷◌, Option, Some, None, refl, sym, ap, subst}
use Rattle.std.specs.Prelude.{is_some, option_and_then, slice_get}
use Rattle.std.specs.List.{list_any}
use Rattle.jground.proofs.JbaseProofs.Firsts.{none_fails, none_of}
use Rattle.jclass.specs.declared.class.ClassParts.{ClassParts}
use Rattle.jparts.specs.declared.jpool.entry.Entry.{Entry}
use Rattle.jparts.specs.declared.jpool.entry.Entry.TheVariants.{Unused, Utf8, Integer, Float, Long, Double, Class, Str, Field, Method, InterfaceMethod, NameAndType, MethodHandle, MethodType, InvokeDynamic}
use Rattle.jparts.specs.jpool.ConstantPools.{class_name_at, utf8_at}
use Rattle.jlib.specs.declared.classes.LibClass.{LibClass}
use Rattle.jlib.specs.declared.classes.LibClass.TheVariants as lib
use Rattle.jlib.specs.declared.classes.PermissionClass.{PermissionClass}
use Rattle.jlib.specs.declared.classes.PermissionClass.TheVariants as permissions
use Rattle.jlib.specs.declared.classes.Thrown.{Thrown}
use Rattle.jlib.specs.declared.classes.Thrown.TheVariants as thrown
use Rattle.jlib.specs.declared.side.Side.{Side}
use Rattle.jlib.specs.declared.side.Side.TheVariants.{Source, Passing}
use Rattle.jlib.specs.LibraryClasses as library
use Rattle.jlib.proofs.LibraryLookup.{class_only}
use Rattle.jresolution.specs.declared.jprogram.fault.LinkKind.TheVariants.{ReservedName}
use Rattle.jresolution.specs.declared.jprogram.part.CodePart.{CodePart}
use Rattle.jresolution.specs.jprogram.ProgramClasses.{Program}
use Rattle.jresolution.specs.jprogram.NameChecks.{entry_reserved, in_class, is_reserved, member_reserved, names_reserved, naming_fault, naming_test, reserved_test, taken_test, text_reserved}
use Rattle.jresolution.specs.jprogram.ProofNames.{reserved_on}
use Rattle.jresolution.specs.jprogram.ClassFileParts.{or_empty, text, this_name}
use Rattle.jresolution.specs.jprogram.OrderedPrograms.{StandsInOrder}
use Rattle.jresolution.proofs.JprogramProofs.NameReachability.{clash}
use Rattle.jresolution.proofs.JprogramProofs.ClassHeights.{fault_none, in_none, not_taken, or_none}
use Rattle.jparts.specs.jpool.PoolEntries.{class_parts}

-- ---- the library's classes, by their sides

thrown_sides : (side : Side) (t : Thrown) → library.stands_on side (lib.Thrown t) ≡ true
thrown_sides side thrown.Throwable = refl
thrown_sides side thrown.Exception = refl
thrown_sides side thrown.Error = refl
thrown_sides side thrown.RuntimeException = refl
thrown_sides side thrown.InterruptedException = refl
thrown_sides side thrown.ArithmeticException = refl
thrown_sides side thrown.NullPointerException = refl
thrown_sides side thrown.ClassCastException = refl
thrown_sides side thrown.NegativeArraySizeException = refl
thrown_sides side thrown.ArrayStoreException = refl
thrown_sides side thrown.IllegalArgumentException = refl
thrown_sides side thrown.IllegalStateException = refl
thrown_sides side thrown.IndexOutOfBoundsException = refl
thrown_sides side thrown.SecurityException = refl
thrown_sides side thrown.IllegalThreadStateException = refl
thrown_sides side thrown.ArrayIndexOutOfBoundsException = refl
thrown_sides side thrown.StringIndexOutOfBoundsException = refl
thrown_sides side thrown.LinkageError = refl
thrown_sides side thrown.VirtualMachineError = refl
thrown_sides side thrown.IncompatibleClassChangeError = refl
thrown_sides side thrown.AbstractMethodError = refl
thrown_sides side thrown.IllegalAccessError = refl
thrown_sides side thrown.StackOverflowError = refl

permission_sides : (side : Side) (c : PermissionClass) → library.stands_on side (lib.Permission c) ≡ true
permission_sides side permissions.Permission = refl
permission_sides side permissions.BasicPermission = refl
permission_sides side permissions.AllPermission = refl
permission_sides side permissions.RuntimePermission = refl
permission_sides side permissions.SecurityPermission = refl
permission_sides side permissions.PropertyPermission = refl
permission_sides side permissions.FilePermission = refl

-- One that a side hasn't has a name that is kept for the other side.
pub record IsKept (side : Side) (l : LibClass) : Type 0 where
  pub here : side ≡ Source
  pub none : library.class_named side (library.name_of l) ≡ None
  pub kept : is_reserved (library.name_of l) ≡ true

abbrev pub Sided : Side → LibClass → Type 0
Sided side l = (library.stands_on side l ≡ true) ⊎ (IsKept side l)

pub sided : (side : Side) (l : LibClass) → Sided side l
sided side (lib.Thrown t) = inl (thrown_sides side t)
sided side (lib.Permission c) = inl (permission_sides side c)
sided side lib.Object = inl refl
sided side lib.AccessControlException = inl refl
sided side lib.String = inl refl
sided side lib.StringBuilder = inl refl
sided side lib.System = inl refl
sided side lib.PrintStream = inl refl
sided side lib.Void = inl refl
sided side lib.Cloneable = inl refl
sided side lib.Serializable = inl refl
sided side lib.Runnable = inl refl
sided side lib.Thread = inl refl
sided side lib.PrivilegedAction = inl refl
sided side lib.AccessController = inl refl
sided side lib.AccessControlContext = inl refl
sided Source lib.Rt = inr (record { here = refl; none = refl; kept = refl })
sided Passing lib.Rt = inl refl
sided Source lib.Ctx = inr (record { here = refl; none = refl; kept = refl })
sided Passing lib.Ctx = inl refl

-- what a side has by the name of a class is that class
pub named_own : (side : Side) (l m : LibClass) → library.class_named side (library.name_of l) ≡ Some m → m ≡ l
named_own side l m is = by (sided side l)
  where
    by : Sided side l → m ≡ l
    by (inl on) = let both : Some m ≡ Some l = sym is ∙ class_only side l on in cc
    by (inr kept) = let both : None ≡ Some m = sym kept.none ∙ is in absurd cc

-- ---- names that are kept for the passing side

pub any_false : {A : Type 0} (f : A → Bool) (xs : List A) (i : ℕ) (x : A) → list_any f xs ≡ false → slice_get xs i ≡ Some x → f x ≡ false
any_false f [] i x h at = absurd cc
any_false f (y ∷ ys) zero x h at = let same : y ≡ x = cc in subst (λ z. f z ≡ false) same (or_none (f y) (list_any f ys) h).0
any_false f (y ∷ ys) (suc i) x h at = any_false f ys i x (or_none (f y) (list_any f ys) h).1 at

pub plain_in : (pool : List Entry) (i : ℕ) (o : Option Entry) → slice_get pool i ≡ o → list_any (entry_reserved pool) pool ≡ false
    → is_reserved (or_empty (option_and_then (utf8_at pool) (option_and_then class_parts o))) ≡ false
plain_in pool i (Some (Class n)) at h =
    let kept = any_false (entry_reserved pool) pool i (Class n) h at in
    (or_none (is_reserved (text pool n)) (text_reserved (text pool n)) kept).0
plain_in pool i None at h = refl
plain_in pool i (Some Unused) at h = refl
plain_in pool i (Some (Utf8 t)) at h = refl
plain_in pool i (Some (Integer n)) at h = refl
plain_in pool i (Some (Float n)) at h = refl
plain_in pool i (Some (Long n)) at h = refl
plain_in pool i (Some (Double n)) at h = refl
plain_in pool i (Some (Str t)) at h = refl
plain_in pool i (Some (Field c b)) at h = refl
plain_in pool i (Some (Method c b)) at h = refl
plain_in pool i (Some (InterfaceMethod c b)) at h = refl
plain_in pool i (Some (NameAndType n d)) at h = refl
plain_in pool i (Some (MethodHandle k m)) at h = refl
plain_in pool i (Some (MethodType d)) at h = refl
plain_in pool i (Some (InvokeDynamic b d)) at h = refl

-- the name of a class isn't kept, where none is that its pool names
pub this_plain : (c : ClassParts) → names_reserved c ≡ false → is_reserved (this_name c) ≡ false
unfolding class_name_at
this_plain c h =
    plain_in c.pool c.this_class (slice_get c.pool c.this_class) refl
    (or_none (list_any (entry_reserved c.pool) c.pool) (list_any (member_reserved c) c.methods || list_any (member_reserved c) c.fields) h).0

module _ (p : Program) (good : StandsInOrder p) where
  pub unreserved : (i : ℕ) (part : CodePart) → slice_get p.parts i ≡ Some part → reserved_on p.side part.class ≡ false
  unfolding naming_fault reserved_test
  unreserved i part at =
      let one : naming_test p i part ≡ None = in_none i (naming_test p i part) (none_fails (λ i part. in_class i (naming_test p i part)) p.parts i part good.named at) in
      fault_none (reserved_on p.side part.class) ReservedName (none_of (reserved_test p part.class) (taken_test p i part.class) one).0

  pub lib_apart : (i : ℕ) (part : CodePart) (l : LibClass) → slice_get p.parts i ≡ Some part → this_name part.class ≡ library.name_of l → ⊥
  lib_apart i part l at named = by (sided p.side l)
    where
      by : Sided p.side l → ⊥
      by (inl on) =
          clash (is_some (library.class_named p.side (this_name part.class)))
          (ap (λ (n : List ℕ). is_some (library.class_named p.side n)) named ∙ ap is_some (class_only p.side l on)) (not_taken p good i part at)
      by (inr kept) =
          let plain = this_plain part.class (sym (ap (λ (s : Side). reserved_on s part.class) kept.here) ∙ unreserved i part at) in
          clash (is_reserved (library.name_of l)) kept.kept (sym (ap is_reserved named) ∙ plain)
