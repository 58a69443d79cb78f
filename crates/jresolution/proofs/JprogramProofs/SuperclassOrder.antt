-- In a program whose classes stand in order `extends` is an order: chains upwards end, in Object.
use Rattle.std.proofs.Common.{◌≡◌, ℕ, zero, suc, ◌+◌, ◌<◌, ◌≤◌, ◌⊎◌, ◌||◌, ◌&&◌, Bool, true, false, List, [], ◌∷◌, ◌++◌, length, Option, Some, None, refl, sym, ap, subst, ◌∙◌, arith, inl, inr}
use Rattle.std.specs.Prelude.{not, option_and_then, option_map}
use Rattle.std.specs.Option.{option_to_list}
use Rattle.std.specs.List.{list_any, AllByRecursion}
use Rattle.std.specs.Str.{bytes_eq}
use Rattle.jlib.specs.declared.classes.LibClass.{LibClass}
use Rattle.jlib.specs.declared.classes.LibClass.TheVariants as lib
use Rattle.jlib.specs.declared.classes.Thrown.{Thrown}
use Rattle.jlib.specs.declared.classes.Thrown.TheVariants as thrown
use Rattle.jlib.specs.declared.classes.PermissionClass.{PermissionClass}
use Rattle.jlib.specs.declared.classes.PermissionClass.TheVariants as permission
use Rattle.jlib.specs.LibraryClasses as library
use Rattle.jtypes.specs.ClassTrees.{InterfacesExtendTheirs}
use Rattle.jresolution.specs.jprogram.ClassFileParts as parts
use Rattle.jresolution.specs.jprogram.ClassFileParts.{super_name}
use Rattle.jresolution.specs.jprogram.ProgramClasses.{Class, Lib, Program, above, above_name, chain, extends, face_names, find, holds, is_interface, known, object, onward, tree, up}
use Rattle.jresolution.specs.jprogram.OrderedPrograms.{StandsInOrder}
use Rattle.jresolution.specs.jprogram.SuperChecks.{is_object, lists_a_class, super_barred}
use Rattle.jresolution.proofs.JprogramProofs.CycleSearch.{or_split}
use Rattle.jresolution.proofs.JprogramProofs.NameReachability.{clash, name_equal, name_is, or_right}
use Rattle.jresolution.proofs.JprogramProofs.ClassHeights.{Stands, Users, Libs, Nowhere, lib_find, lower_all, not_bad, not_taken, or_none, stands, tall, tall_most}

suc_is : (n : ℕ) → n + 1 ≡ suc n
suc_is n = omega arith

-- ---- in any program

self_in : (p : Program) (n : ℕ) (c : List ℕ) → list_any (bytes_eq c) (chain p (suc n) c) ≡ true
unfolding chain
self_in p n c = let e = name_equal c in rw e refl

pub extends_itself : (p : Program) (c : List ℕ) → extends p c c ≡ true
unfolding extends
extends_itself p c = or_right (bytes_eq c object) (list_any (bytes_eq c) (up p c)) (ap (λ (n : ℕ). list_any (bytes_eq c) (chain p n c)) (suc_is (length (known p))) ∙ self_in p (length (known p)) c)

pub extends_object : (p : Program) (c : List ℕ) → extends p c object ≡ true
unfolding extends
extends_object p c = let e = name_equal object in rw e refl

-- ---- interfaces of the library

thrown_above : (t : Thrown) → library.is_interface (lib.Thrown t) ≡ true → library.superclass (lib.Thrown t) ≡ Some lib.Object
thrown_above thrown.Throwable e = absurd cc
thrown_above thrown.Exception e = absurd cc
thrown_above thrown.Error e = absurd cc
thrown_above thrown.RuntimeException e = absurd cc
thrown_above thrown.InterruptedException e = absurd cc
thrown_above thrown.ArithmeticException e = absurd cc
thrown_above thrown.NullPointerException e = absurd cc
thrown_above thrown.ClassCastException e = absurd cc
thrown_above thrown.NegativeArraySizeException e = absurd cc
thrown_above thrown.ArrayStoreException e = absurd cc
thrown_above thrown.IllegalArgumentException e = absurd cc
thrown_above thrown.IllegalStateException e = absurd cc
thrown_above thrown.IndexOutOfBoundsException e = absurd cc
thrown_above thrown.SecurityException e = absurd cc
thrown_above thrown.IllegalThreadStateException e = absurd cc
thrown_above thrown.ArrayIndexOutOfBoundsException e = absurd cc
thrown_above thrown.StringIndexOutOfBoundsException e = absurd cc
thrown_above thrown.LinkageError e = absurd cc
thrown_above thrown.VirtualMachineError e = absurd cc
thrown_above thrown.IncompatibleClassChangeError e = absurd cc
thrown_above thrown.AbstractMethodError e = absurd cc
thrown_above thrown.IllegalAccessError e = absurd cc
thrown_above thrown.StackOverflowError e = absurd cc

permission_above : (t : PermissionClass) → library.is_interface (lib.Permission t) ≡ true → library.superclass (lib.Permission t) ≡ Some lib.Object
permission_above permission.Permission e = refl
permission_above permission.BasicPermission e = absurd cc
permission_above permission.AllPermission e = absurd cc
permission_above permission.RuntimePermission e = absurd cc
permission_above permission.SecurityPermission e = absurd cc
permission_above permission.PropertyPermission e = absurd cc
permission_above permission.FilePermission e = absurd cc

-- each extends Object
interface_above : (c : LibClass) → library.is_interface c ≡ true → library.superclass c ≡ Some lib.Object
interface_above lib.Object e = absurd cc
interface_above (lib.Thrown t) e = thrown_above t e
interface_above lib.AccessControlException e = absurd cc
interface_above lib.String e = refl
interface_above lib.StringBuilder e = refl
interface_above lib.System e = refl
interface_above lib.PrintStream e = refl
interface_above lib.Void e = refl
interface_above lib.Cloneable e = refl
interface_above lib.Serializable e = refl
interface_above lib.Runnable e = refl
interface_above lib.Thread e = refl
interface_above lib.PrivilegedAction e = refl
interface_above lib.AccessController e = refl
interface_above lib.AccessControlContext e = refl
interface_above (lib.Permission t) e = permission_above t e
interface_above lib.Rt e = refl
interface_above lib.Ctx e = refl

-- ---- in a program whose classes stand in order

module _ (p : Program) (good : StandsInOrder p) where
  -- what stands directly above is lower
  pub above_lower : (c a : List ℕ) → above_name p c ≡ Some a → tall p a < tall p c
  above_lower c a e =
      let all = subst (λ (o : Option (List ℕ)). AllByRecursion (λ s. tall p s < tall p c) (option_to_list o ++ face_names p c)) e (lower_all p good c) in
      all.0

  same_onward : (n m : ℕ) (c : List ℕ) (o : Option (List ℕ)) → above_name p c ≡ o → ((a : List ℕ) → tall p a < tall p c → chain p n a ≡ chain p m a) → onward (chain p n) o ≡ onward (chain p m) o
  same_onward n m c None e h = refl
  same_onward n m c (Some a) e h = h a (above_lower c a e)

  -- a chain has ended after as many steps as the class is tall
  ended : (n m : ℕ) (c : List ℕ) → tall p c < n → tall p c < m → chain p n c ≡ chain p m c
  unfolding chain
  ended zero m c ltn ltm = absurd (omega (arith, ltn))
  ended (suc n) zero c ltn ltm = absurd (omega (arith, ltm))
  ended (suc n) (suc m) c ltn ltm = ap (λ (xs : List (List ℕ)). c ∷ xs) (same_onward n m c (above_name p c) refl (λ a less. ended n m a (omega (arith, ltn, less)) (omega (arith, ltm, less))))

  up_onward : (c : List ℕ) (o : Option (List ℕ)) → above_name p c ≡ o → onward (chain p (length (known p))) o ≡ onward (up p) o
  up_onward c None e = refl
  up_onward c (Some a) e =
      let less = above_lower c a e in
      let most = tall_most p c in
      ended (length (known p)) (length (known p) + 1) a (omega (arith, less, most)) (omega (arith, less, most))

  up_chain : (c : List ℕ) → up p c ≡ c ∷ onward (chain p (length (known p))) (above_name p c)
  unfolding chain
  up_chain c = ap (λ (n : ℕ). chain p n c) (suc_is (length (known p)))

  -- a class and what stands above the class above it
  pub up_is : (c : List ℕ) → up p c ≡ c ∷ onward (up p) (above_name p c)
  up_is c = up_chain c ∙ ap (λ (xs : List (List ℕ)). c ∷ xs) (up_onward c (above_name p c) refl)

  -- ---- along chains

  pub Up : List ℕ → List ℕ → Type 0
  Up c d = list_any (bytes_eq d) (up p c) ≡ true

  up_higher : (c a d : List ℕ) → above_name p c ≡ Some a → Up a d → Up c d
  unfolding Up
  up_higher c a d e h =
      let is : up p c ≡ c ∷ up p a = up_is c ∙ ap (λ (o : Option (List ℕ)). c ∷ onward (up p) o) e in
      subst (λ (xs : List (List ℕ)). list_any (bytes_eq d) xs ≡ true) (sym is) (or_right (bytes_eq d c) (list_any (bytes_eq d) (up p a)) h)

  along_onward : (n : ℕ) (c d e : List ℕ) (o : Option (List ℕ)) → above_name p c ≡ o → ((a : List ℕ) → list_any (bytes_eq d) (chain p n a) ≡ true → Up a e) → list_any (bytes_eq d) (onward (chain p n) o) ≡ true → Up c e
  along_onward n c d e None is ih h = absurd cc
  along_onward n c d e (Some a) is ih h = up_higher c a e is (ih a h)

  along : (n : ℕ) (c d e : List ℕ) → list_any (bytes_eq d) (chain p n c) ≡ true → Up d e → Up c e
  unfolding chain
  along zero c d e cd de = absurd cc
  along (suc n) c d e cd de = elim (or_split (bytes_eq d c) (list_any (bytes_eq d) (onward (chain p n) (above_name p c))) cd) [
    | inl same ↦ subst (λ (x : List ℕ). Up x e) (name_is d c same) de
    | inr far ↦ along_onward n c d e (above_name p c) refl (λ a h. along n a d e h de) far
  ]

  up_chained : (c d e : List ℕ) → Up c d → Up d e → Up c e
  unfolding Up
  up_chained c d e cd de = along (length (known p) + 1) c d e cd de

  -- ---- Object

  pub object_find : find p object ≡ Some (Lib lib.Object)
  object_find = lib_find p (not_taken p good) lib.Object refl

  pub object_up : up p object ≡ object ∷ []
  object_up = up_is object ∙ ap (λ (o : Option Class). object ∷ onward (up p) (option_and_then above o)) object_find

  of_one : (a : Bool) → (a || false) ≡ true → a ≡ true
  of_one true e = refl
  of_one false e = absurd cc

  only_object : (e : List ℕ) → Up object e → e ≡ object
  unfolding Up
  only_object e h =
      let one : (bytes_eq e object || false) ≡ true = subst (λ (xs : List (List ℕ)). list_any (bytes_eq e) xs ≡ true) object_up h in
      name_is e object (of_one (bytes_eq e object) one)

  -- ---- the laws

  extends_parts : (c d : List ℕ) → extends p c d ≡ true → (d ≡ object) ⊎ (Up c d)
  unfolding extends Up
  extends_parts c d h = elim (or_split (bytes_eq d object) (list_any (bytes_eq d) (up p c)) h) [ inl same ↦ inl (name_is d object same) | inr far ↦ inr far ]

  extends_up : (c d : List ℕ) → Up c d → extends p c d ≡ true
  unfolding extends Up
  extends_up c d h = or_right (bytes_eq d object) (list_any (bytes_eq d) (up p c)) h

  to_object : (c d : List ℕ) → d ≡ object → extends p c d ≡ true
  to_object c d e = subst (λ (x : List ℕ). extends p c x ≡ true) (sym e) (extends_object p c)

  pub extends_chain : (c d e : List ℕ) → extends p c d ≡ true → extends p d e ≡ true → extends p c e ≡ true
  extends_chain c d e cd de = elim (extends_parts d e de) [
    | inl top ↦ to_object c e top
    | inr up ↦ elim (extends_parts c d cd) [
      | inl top ↦ to_object c e (only_object e (subst (λ (x : List ℕ). Up x e) top up))
      | inr below ↦ extends_up c e (up_chained c d e below up)
    ]
  ]

  -- what stands above is the class itself, or lower
  tall_onward : (n : ℕ) (c d : List ℕ) (o : Option (List ℕ)) → above_name p c ≡ o → ((a : List ℕ) → list_any (bytes_eq d) (chain p n a) ≡ true → tall p d ≤ tall p a) → list_any (bytes_eq d) (onward (chain p n) o) ≡ true → tall p d < tall p c
  tall_onward n c d None is ih h = absurd cc
  tall_onward n c d (Some a) is ih h = let le = ih a h in let lt = above_lower c a is in omega (arith, le, lt)

  tall_at : (n : ℕ) (c d : List ℕ) → list_any (bytes_eq d) (chain p n c) ≡ true → (d ≡ c) ⊎ (tall p d < tall p c)
  unfolding chain
  tall_at zero c d h = absurd cc
  tall_at (suc n) c d h = elim (or_split (bytes_eq d c) (list_any (bytes_eq d) (onward (chain p n) (above_name p c))) h) [
    | inl same ↦ inl (name_is d c same)
    | inr far ↦ inr (tall_onward n c d (above_name p c) refl (λ a k. le_of a d (tall_at n a d k)) far)
  ]
    where
      le_of : (a d : List ℕ) → (d ≡ a) ⊎ (tall p d < tall p a) → tall p d ≤ tall p a
      le_of a d h = elim h [ inl same ↦ let e = ap (tall p) same in omega (arith, e) | inr lt ↦ omega (arith, lt) ]

  tall_up : (c d : List ℕ) → Up c d → (d ≡ c) ⊎ (tall p d < tall p c)
  unfolding Up
  tall_up c d h = tall_at (length (known p) + 1) c d h

  up_both : (c d : List ℕ) → Up c d → Up d c → c ≡ d
  up_both c d cd dc = elim (tall_up c d cd) [
    | inl same ↦ sym same
    | inr lt ↦ elim (tall_up d c dc) [ inl same ↦ same | inr more ↦ absurd (omega (arith, lt, more)) ]
  ]

  -- two classes that extend one another are one
  pub extends_both : (c d : List ℕ) → extends p c d ≡ true → extends p d c ≡ true → c ≡ d
  extends_both c d cd dc = elim (extends_parts c d cd) [
    | inl top ↦ elim (extends_parts d c dc) [
      | inl also ↦ also ∙ sym top
      | inr up ↦ only_object c (subst (λ (x : List ℕ). Up x c) top up) ∙ sym top
    ]
    | inr up ↦ elim (extends_parts d c dc) [
      | inl top ↦ sym (only_object d (subst (λ (x : List ℕ). Up x d) top up) ∙ sym top)
      | inr back ↦ up_both c d up back
    ]
  ]

  -- ---- interfaces

  object_name : (o : Option (List ℕ)) → is_object o ≡ true → o ≡ Some object
  object_name None e = absurd cc
  object_name (Some s) e = ap (λ (x : List ℕ). Some x) (name_is s object e)

  face_super : (a b : Bool) → (a && not b) ≡ false → a ≡ true → b ≡ true
  face_super true true e h = refl
  face_super true false e h = absurd cc
  face_super false b e h = absurd cc

  face_above_at : (c : List ℕ) → Stands p c → holds is_interface (find p c) ≡ true → above_name p c ≡ Some object
  face_above_at c (Users i part at name is) h =
      let flag : parts.is_interface part.class.flags ≡ true = sym (ap (holds is_interface) is) ∙ h in
      let rest = (or_none (super_barred p (super_name part.class)) (lists_a_class p part.class || (parts.is_interface part.class.flags && not (is_object (super_name part.class)))) (not_bad p good i part at)).1 in
      let one = (or_none (lists_a_class p part.class) (parts.is_interface part.class.flags && not (is_object (super_name part.class))) rest).1 in
      ap (option_and_then above) is ∙ object_name (super_name part.class) (face_super (parts.is_interface part.class.flags) (is_object (super_name part.class)) one flag)
  face_above_at c (Libs l named is) h =
      let face : library.is_interface l ≡ true = sym (ap (holds is_interface) is) ∙ h in
      ap (option_and_then above) is ∙ ap (option_map library.name_of) (interface_above l face)
  face_above_at c (Nowhere none) h = clash (holds is_interface (find p c)) h (ap (holds is_interface) none)

  -- an interface extends Object
  pub face_above : (c : List ℕ) → holds is_interface (find p c) ≡ true → above_name p c ≡ Some object
  face_above c h = face_above_at c (stands p c) h

  face_up : (c : List ℕ) → holds is_interface (find p c) ≡ true → up p c ≡ c ∷ object ∷ []
  face_up c h = up_is c ∙ ap (λ (o : Option (List ℕ)). c ∷ onward (up p) o) (face_above c h) ∙ ap (λ (xs : List (List ℕ)). c ∷ xs) object_up

  face_upwards : (c d : List ℕ) → holds is_interface (find p c) ≡ true → Up c d → (holds is_interface (find p d) ≡ true) ⊎ (d ≡ object)
  unfolding Up
  face_upwards c d h u =
      let two : (bytes_eq d c || (bytes_eq d object || false)) ≡ true = subst (λ (xs : List (List ℕ)). list_any (bytes_eq d) xs ≡ true) (face_up c h) u in
      elim (or_split (bytes_eq d c) (bytes_eq d object || false) two) [
        | inl same ↦ inl (ap (λ (x : List ℕ). holds is_interface (find p x)) (name_is d c same) ∙ h)
        | inr top ↦ inr (name_is d object (of_one (bytes_eq d object) top))
      ]

  pub interfaces_extend : InterfacesExtendTheirs (tree p)
  interfaces_extend c d h e = elim (extends_parts c.0 d.0 e) [ inl top ↦ inr top | inr up ↦ face_upwards c.0 d.0 h up ]
