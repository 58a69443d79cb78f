-- Which classes of the library stand below which, in a program whose classes stand in order.
use Rattle.std.proofs.Common.{◌≡◌, ℕ, zero, suc, ◌+◌, ◌⊎◌, inl, inr, arith, Bool, true, false, ◌||◌, List, ◌∷◌, length, Option, Some, None, refl, sym, ap, subst, ◌∙◌}
use Rattle.std.specs.Prelude.{not, option_and_then, option_map, slice_get}
use Rattle.std.specs.List.{list_any}
use Rattle.std.specs.Str.{bytes_eq}
use Rattle.jlib.specs.declared.classes.LibClass.{LibClass}
use Rattle.jlib.specs.declared.classes.LibClass.TheVariants as lib
use Rattle.jlib.specs.declared.classes.PermissionClass.{PermissionClass}
use Rattle.jlib.specs.declared.classes.PermissionClass.TheVariants as permissions
use Rattle.jlib.specs.declared.classes.Thrown.{Thrown}
use Rattle.jlib.specs.declared.classes.Thrown.TheVariants as thrown
use Rattle.jlib.specs.declared.side.Side.{Side}
use Rattle.jlib.specs.LibraryClasses as library
use Rattle.jlib.proofs.LibraryLookup.{class_above, class_found, class_only, open_above}
use Rattle.jresolution.specs.declared.jprogram.part.CodePart.{CodePart}
use Rattle.jresolution.specs.jprogram.ClassFileParts.{super_name}
use Rattle.jresolution.specs.jprogram.ProgramClasses.{Class, Lib, Program, User, above, above_name, chain, extends, find, holds, known, object, onward, up}
use Rattle.jresolution.specs.jprogram.OrderedPrograms.{StandsInOrder}
use Rattle.jresolution.specs.jprogram.SuperChecks.{super_barred}
use Rattle.jresolution.specs.jprogram.ProofNames.{is_barred}
use Rattle.jresolution.proofs.JprogramProofs.CycleSearch.{or_split}
use Rattle.jresolution.proofs.JprogramProofs.NameReachability.{clash, name_is}
use Rattle.jresolution.proofs.JprogramProofs.ClassHeights.{Stands, Users, Libs, Nowhere, lib_find, not_bad, not_taken, or_none, stands}

some_is : {A : Type 0} (a b : A) → Some a ≡ Some b → a ≡ b
some_is a b e = cc

-- ---- by steps upwards

-- a class is another one, or stands below it, by fewer steps than n
abbrev pub Under : LibClass → ℕ → LibClass → Type 0
Under l zero c = ⊥
Under l (suc n) c = (c ≡ l) ⊎ ((s : LibClass) × (library.superclass c ≡ Some s) × Under l n s)

pub open_under : (l : LibClass) (n : ℕ) (c : LibClass) → Under l n c → library.is_open c ≡ true → library.is_open l ≡ true
open_under l zero c h o = absurd h
open_under l (suc n) c h o = elim h [
  | inl same ↦ subst (λ c. library.is_open c ≡ true) same o
  | inr more ↦ open_under l n more.0 more.2 (open_above c more.0 more.1 o)
]

pub names_one : (side : Side) (a b : LibClass) → library.stands_on side a ≡ true → library.stands_on side b ≡ true → library.name_of a ≡ library.name_of b → a ≡ b
names_one side a b first second e = some_is a b (sym (class_only side a first) ∙ ap (library.class_named side) e ∙ class_only side b second)

-- a class of a side's library that is no interface and not Object
pub record IsLow (side : Side) (l : LibClass) : Type 0 where
  pub on : library.stands_on side l ≡ true
  pub face : library.is_interface l ≡ false
  pub top : l ≡ lib.Object → ⊥

-- ---- in a program

module _ (p : Program) (good : StandsInOrder p) where
  found : (c : LibClass) → library.stands_on p.side c ≡ true → find p (library.name_of c) ≡ Some (Lib c)
  found c on = lib_find p (not_taken p good) c on

  named_at : (c : List ℕ) (k : LibClass) → Stands p c → find p c ≡ Some (Lib k) → library.class_named p.side c ≡ Some k
  named_at c k (Users i part at name is) e = absurd (no_user (User i part.class) i part refl (sym is ∙ e))
    where
      no_user : (x : Class) (i : ℕ) (part : CodePart) → x ≡ User i part.class → Some x ≡ Some (Lib k) → ⊥
      no_user x i part same e = cc
  named_at c k (Libs l named is) e = named ∙ ap (λ l. Some l) (same_lib l k (sym is ∙ e))
    where
      same_lib : (l k : LibClass) → Some (Lib l) ≡ Some (Lib k) → l ≡ k
      same_lib l k e = cc
  named_at c k (Nowhere none) e = absurd (nothing (sym none ∙ e))
    where
      nothing : None ≡ Some (Lib k) → ⊥
      nothing e = cc

  -- what is found is what its side has
  pub lib_named : (c : List ℕ) (k : LibClass) → find p c ≡ Some (Lib k) → library.class_named p.side c ≡ Some k
  lib_named c k e = named_at c k (stands p c) e

  -- ---- of the library's own classes

  module _ (l : LibClass) (on : library.stands_on p.side l ≡ true) where
    abbrev Among : List (List ℕ) → Type 0
    Among names = list_any (bytes_eq (library.name_of l)) names ≡ true

    next : (n : ℕ) (c : LibClass) → ((s : LibClass) → library.stands_on p.side s ≡ true → Among (chain p n (library.name_of s)) → Under l n s)
        → (o : Option LibClass) → library.superclass c ≡ o → Among (onward (chain p n) (option_map library.name_of o))
        → (s : LibClass) × (library.superclass c ≡ Some s) × Under l n s
    next n c ih None e h = absurd (cc)
    next n c ih (Some s) e h = (s, e, ih s (class_above p.side c s e).1 h)

    pub under_chain : (n : ℕ) (c : LibClass) → library.stands_on p.side c ≡ true → Among (chain p n (library.name_of c)) → Under l n c
    unfolding chain
    under_chain zero c there h = absurd (cc)
    under_chain (suc n) c there h = elim (or_split (bytes_eq (library.name_of l) (library.name_of c))
        (list_any (bytes_eq (library.name_of l)) (onward (chain p n) (above_name p (library.name_of c)))) h) [
          | inl same ↦ inl (names_one p.side c l there on (sym (name_is (library.name_of l) (library.name_of c) same)))
          | inr far ↦ inr (next n c (λ s stand more. under_chain n s stand more) (library.superclass c) refl
              (subst (λ (o : Option Class). Among (onward (chain p n) (option_and_then above o))) (found c there) far))
        ]

    -- ---- of all classes, where users may not extend it

    module _ (closed : library.is_open l ≡ false) where
      abbrev Below : ℕ → List ℕ → Type 0
      Below n c = (k : LibClass) × (find p c ≡ Some (Lib k)) × Under l n k

      itself : (n : ℕ) (c : List ℕ) → bytes_eq (library.name_of l) c ≡ true → Below (suc n) c
      itself n c same = (l, ap (find p) (sym (name_is (library.name_of l) c same)) ∙ found l on, inl refl)

      opened : (k : LibClass) → is_barred (Lib k) ≡ false → library.is_open k ≡ true
      opened k e = go (library.is_open k) (library.is_interface k) e
        where
          go : (a b : Bool) → not a || b ≡ false → a ≡ true
          go true b e = refl
          go false b e = absurd (cc)

      barred : (n : ℕ) (a : List ℕ) → holds is_barred (find p a) ≡ false → Below n a → ⊥
      barred n a free h = clash (library.is_open l) (open_under l n h.0 h.2 (opened h.0 (sym (ap (holds is_barred) h.1) ∙ free))) closed

      above_user : (n : ℕ) (i : ℕ) (part : CodePart) → slice_get p.parts i ≡ Some part → ((a : List ℕ) → Among (chain p n a) → Below n a)
          → (o : Option (List ℕ)) → super_name part.class ≡ o → Among (onward (chain p n) o) → ⊥
      above_user n i part at ih None e h = absurd (cc)
      above_user n i part at ih (Some a) e h =
          let free = (or_none (super_barred p (super_name part.class)) _ (not_bad p good i part at)).0 in
          barred n a (sym (ap (super_barred p) e) ∙ free) (ih a h)

      in_chain : (n : ℕ) (k : LibClass) → Among (library.name_of k ∷ onward (chain p n) (above_name p (library.name_of k)))
          → Among (chain p (suc n) (library.name_of k))
      unfolding chain
      in_chain n k h = h

      below_at : (n : ℕ) (c : List ℕ) → ((a : List ℕ) → Among (chain p n a) → Below n a) → Stands p c → Among (c ∷ onward (chain p n) (above_name p c)) → Below (suc n) c
      below_at n c ih (Users i part at name is) h = elim (or_split (bytes_eq (library.name_of l) c)
          (list_any (bytes_eq (library.name_of l)) (onward (chain p n) (above_name p c))) h) [
            | inl same ↦ itself n c same
            | inr far ↦ absurd (above_user n i part at ih (super_name part.class) refl (subst (λ (o : Option Class). Among (onward (chain p n) (option_and_then above o))) is far))
          ]
      below_at n c ih (Libs k named is) h =
          let one = class_found p.side c k named in
          (k, is, under_chain (suc n) k one.1 (in_chain n k (subst (λ (c : List ℕ). Among (c ∷ onward (chain p n) (above_name p c))) (sym one.0) h)))
      below_at n c ih (Nowhere none) h = elim (or_split (bytes_eq (library.name_of l) c) (list_any (bytes_eq (library.name_of l)) (onward (chain p n) (above_name p c))) h) [
        | inl same ↦ itself n c same
        | inr far ↦ absurd (not_none (subst (λ (o : Option Class). Among (onward (chain p n) (option_and_then above o))) none far))
      ]
        where
          not_none : false ≡ true → ⊥
          not_none e = cc

      -- what stands at or below it is a class of the library
      pub below_chain : (n : ℕ) (c : List ℕ) → Among (chain p n c) → Below n c
      unfolding chain
      below_chain zero c h = absurd (cc)
      below_chain (suc n) c h = below_at n c (λ a more. below_chain n a more) (stands p c) h

  -- ---- `extends`

  -- a class and those above it, as they are looked for
  suc_is : (n : ℕ) → n + 1 ≡ suc n
  suc_is n = omega arith

  up_first : (c : List ℕ) → up p c ≡ c ∷ onward (chain p (length (known p))) (above_name p c)
  unfolding chain
  up_first c = ap (λ (n : ℕ). chain p n c) (suc_is (length (known p)))

  chained : (c : List ℕ) (l : LibClass) → IsLow p.side l → extends p c (library.name_of l) ≡ true → list_any (bytes_eq (library.name_of l)) (up p c) ≡ true
  unfolding extends
  chained c l t e = elim (or_split (bytes_eq (library.name_of l) object) (list_any (bytes_eq (library.name_of l)) (up p c)) e) [
    | inl same ↦ absurd (t.top (names_one p.side l lib.Object t.on refl (name_is (library.name_of l) object same)))
    | inr far ↦ far
  ]

  -- what one class of the library extends of another
  pub lib_under : (c l : LibClass) → IsLow p.side l → library.stands_on p.side c ≡ true → extends p (library.name_of c) (library.name_of l) ≡ true
      → Under l (length (known p) + 1) c
  lib_under c l t on e = under_chain l t.on (length (known p) + 1) c on (chained (library.name_of c) l t e)

  -- no class of a user extends one that is closed
  pub closed_above : (c : List ℕ) (l : LibClass) → IsLow p.side l → library.is_open l ≡ false → extends p c (library.name_of l) ≡ true → (k : LibClass) × (find p c ≡ Some (Lib k))
  closed_above c l t closed e = let h = below_chain l t.on closed (length (known p) + 1) c (chained c l t e) in (h.0, h.1)

  -- what isn't there extends none
  pub none_above : (c : List ℕ) (l : LibClass) → IsLow p.side l → find p c ≡ None → extends p c (library.name_of l) ≡ true → ⊥
  none_above c l low none e = by_one (or_split (bytes_eq (library.name_of l) c) (list_any (bytes_eq (library.name_of l)) (onward (chain p (length (known p))) (above_name p c)))
      (subst (λ xs. list_any (bytes_eq (library.name_of l)) xs ≡ true) (up_first c) (chained c l low e)))
    where
      nothing : None ≡ Some (Lib l) → ⊥
      nothing e = cc

      differ : false ≡ true → ⊥
      differ e = cc

      by_one : (bytes_eq (library.name_of l) c ≡ true) ⊎ (list_any (bytes_eq (library.name_of l)) (onward (chain p (length (known p))) (above_name p c)) ≡ true) → ⊥
      by_one (inl same) = nothing (sym none ∙ ap (find p) (sym (name_is (library.name_of l) c same)) ∙ found l low.on)
      by_one (inr far) = differ
          (subst (λ (o : Option Class). list_any (bytes_eq (library.name_of l)) (onward (chain p (length (known p))) (option_and_then above o)) ≡ true) none far)

-- ---- sorts of classes

-- what forms the objects of the library's classes have
pub data Sort : Type 0 where
  Raised : Sort
  Strings : Sort
  Builders : Sort
  Permissions : Sort
  Contexts : Sort
  Threads : Sort
  Others : Sort

abbrev pub sort_of : LibClass → Sort
sort_of (lib.Thrown t) = Raised
sort_of lib.AccessControlException = Raised
sort_of lib.String = Strings
sort_of lib.StringBuilder = Builders
sort_of (lib.Permission c) = Permissions
sort_of lib.AccessControlContext = Contexts
sort_of lib.Thread = Threads
sort_of c = Others

abbrev IsNext : Sort → LibClass → Type 0
IsNext x s = (sort_of s ≡ x) ⊎ (s ≡ lib.Object)

raised : (t : Thrown) (s : LibClass) → Some (lib.Thrown t) ≡ Some s → IsNext Raised s
raised t s e = inl (ap sort_of (sym (some_is (lib.Thrown t) s e)))

permitted : (c : PermissionClass) (s : LibClass) → Some (lib.Permission c) ≡ Some s → IsNext Permissions s
permitted c s e = inl (ap sort_of (sym (some_is (lib.Permission c) s e)))

top : (x : Sort) (s : LibClass) → Some lib.Object ≡ Some s → IsNext x s
top x s e = inr (sym (some_is lib.Object s e))

thrown_next : (t : Thrown) (s : LibClass) → library.superclass (lib.Thrown t) ≡ Some s → IsNext Raised s
thrown_next thrown.Throwable s e = top _ s e
thrown_next thrown.Exception s e = raised _ s e
thrown_next thrown.Error s e = raised _ s e
thrown_next thrown.RuntimeException s e = raised _ s e
thrown_next thrown.InterruptedException s e = raised _ s e
thrown_next thrown.ArithmeticException s e = raised _ s e
thrown_next thrown.NullPointerException s e = raised _ s e
thrown_next thrown.ClassCastException s e = raised _ s e
thrown_next thrown.NegativeArraySizeException s e = raised _ s e
thrown_next thrown.ArrayStoreException s e = raised _ s e
thrown_next thrown.IllegalArgumentException s e = raised _ s e
thrown_next thrown.IllegalStateException s e = raised _ s e
thrown_next thrown.IndexOutOfBoundsException s e = raised _ s e
thrown_next thrown.SecurityException s e = raised _ s e
thrown_next thrown.IllegalThreadStateException s e = raised _ s e
thrown_next thrown.ArrayIndexOutOfBoundsException s e = raised _ s e
thrown_next thrown.StringIndexOutOfBoundsException s e = raised _ s e
thrown_next thrown.LinkageError s e = raised _ s e
thrown_next thrown.VirtualMachineError s e = raised _ s e
thrown_next thrown.IncompatibleClassChangeError s e = raised _ s e
thrown_next thrown.AbstractMethodError s e = raised _ s e
thrown_next thrown.IllegalAccessError s e = raised _ s e
thrown_next thrown.StackOverflowError s e = raised _ s e

permission_next : (c : PermissionClass) (s : LibClass) → library.superclass (lib.Permission c) ≡ Some s → IsNext Permissions s
permission_next permissions.Permission s e = top _ s e
permission_next permissions.BasicPermission s e = permitted _ s e
permission_next permissions.AllPermission s e = permitted _ s e
permission_next permissions.RuntimePermission s e = permitted _ s e
permission_next permissions.SecurityPermission s e = permitted _ s e
permission_next permissions.PropertyPermission s e = permitted _ s e
permission_next permissions.FilePermission s e = permitted _ s e

-- what a class extends is of its sort, or Object
next_sort : (c s : LibClass) → library.superclass c ≡ Some s → IsNext (sort_of c) s
next_sort lib.Object s e = absurd (cc)
next_sort (lib.Thrown t) s e = thrown_next t s e
next_sort lib.AccessControlException s e = raised _ s e
next_sort lib.String s e = top _ s e
next_sort lib.StringBuilder s e = top _ s e
next_sort lib.System s e = top _ s e
next_sort lib.PrintStream s e = top _ s e
next_sort lib.Void s e = top _ s e
next_sort lib.Cloneable s e = top _ s e
next_sort lib.Serializable s e = top _ s e
next_sort lib.Runnable s e = top _ s e
next_sort lib.Thread s e = top _ s e
next_sort lib.PrivilegedAction s e = top _ s e
next_sort lib.AccessController s e = top _ s e
next_sort lib.AccessControlContext s e = top _ s e
next_sort (lib.Permission c) s e = permission_next c s e
next_sort lib.Rt s e = top _ s e
next_sort lib.Ctx s e = top _ s e

under_top : (l : LibClass) (n : ℕ) → Under l n lib.Object → lib.Object ≡ l
under_top l zero h = absurd h
under_top l (suc n) h = elim h [ inl same ↦ same | inr more ↦ absurd (no_more more.0 more.1) ]
  where
    no_more : (s : LibClass) → library.superclass lib.Object ≡ Some s → ⊥
    no_more s e = cc

pub under_sort : (l : LibClass) → (l ≡ lib.Object → ⊥) → (n : ℕ) (c : LibClass) → Under l n c → sort_of l ≡ sort_of c
under_sort l low zero c h = absurd h
under_sort l low (suc n) c h = elim h [
  | inl same ↦ ap sort_of (sym same)
  | inr more ↦ elim (next_sort c more.0 more.1) [
    | inl sort ↦ under_sort l low n more.0 more.2 ∙ sort
    | inr object ↦ absurd (low (sym (under_top l n (subst (λ s. Under l n s) object more.2))))
  ]
]

-- ---- classes of either side

abbrev pub IsPlain : Side → LibClass → Type 0
IsPlain side c = (library.stands_on side c ≡ true) × (library.is_interface c ≡ false)

pub thrown_plain : (side : Side) (t : Thrown) → IsPlain side (lib.Thrown t)
thrown_plain side thrown.Throwable = (refl, refl)
thrown_plain side thrown.Exception = (refl, refl)
thrown_plain side thrown.Error = (refl, refl)
thrown_plain side thrown.RuntimeException = (refl, refl)
thrown_plain side thrown.InterruptedException = (refl, refl)
thrown_plain side thrown.ArithmeticException = (refl, refl)
thrown_plain side thrown.NullPointerException = (refl, refl)
thrown_plain side thrown.ClassCastException = (refl, refl)
thrown_plain side thrown.NegativeArraySizeException = (refl, refl)
thrown_plain side thrown.ArrayStoreException = (refl, refl)
thrown_plain side thrown.IllegalArgumentException = (refl, refl)
thrown_plain side thrown.IllegalStateException = (refl, refl)
thrown_plain side thrown.IndexOutOfBoundsException = (refl, refl)
thrown_plain side thrown.SecurityException = (refl, refl)
thrown_plain side thrown.IllegalThreadStateException = (refl, refl)
thrown_plain side thrown.ArrayIndexOutOfBoundsException = (refl, refl)
thrown_plain side thrown.StringIndexOutOfBoundsException = (refl, refl)
thrown_plain side thrown.LinkageError = (refl, refl)
thrown_plain side thrown.VirtualMachineError = (refl, refl)
thrown_plain side thrown.IncompatibleClassChangeError = (refl, refl)
thrown_plain side thrown.AbstractMethodError = (refl, refl)
thrown_plain side thrown.IllegalAccessError = (refl, refl)
thrown_plain side thrown.StackOverflowError = (refl, refl)

pub permission_plain : (side : Side) (c : PermissionClass) → IsPlain side (lib.Permission c)
permission_plain side permissions.Permission = (refl, refl)
permission_plain side permissions.BasicPermission = (refl, refl)
permission_plain side permissions.AllPermission = (refl, refl)
permission_plain side permissions.RuntimePermission = (refl, refl)
permission_plain side permissions.SecurityPermission = (refl, refl)
permission_plain side permissions.PropertyPermission = (refl, refl)
permission_plain side permissions.FilePermission = (refl, refl)
