-- Which numbers are those of classes of a program whose classes stand in order.
use Rattle.std.proofs.Common.{◌≡◌, ◌∙◌, ℕ, zero, suc, ◌<◌, Bool, true, List, [], ◌∷◌, length, Some, None, nat_lt, refl, sym, ap, subst, arith}
use Rattle.std.specs.Prelude.{option_map, slice_get}
use Rattle.std.proofs.lemmas.Bool.{lt-ltb, ltb-true}
use Rattle.jlib.specs.declared.side.Side.{Side}
use Rattle.jlib.specs.declared.classes.LibClass.{LibClass}
use Rattle.jlib.specs.declared.classes.LibClass.TheVariants as lib
use Rattle.jlib.specs.declared.classes.PermissionClass.{PermissionClass}
use Rattle.jlib.specs.declared.classes.PermissionClass.TheVariants as permission
use Rattle.jlib.specs.declared.classes.Thrown.{Thrown}
use Rattle.jlib.specs.declared.classes.Thrown.TheVariants as thrown
use Rattle.jlib.specs.LibraryClasses as library
use Rattle.jlib.proofs.LibraryLookup.{class_found}
use Rattle.jresolution.specs.declared.jprogram.part.ClassRef.{ClassRef}
use Rattle.jresolution.specs.declared.jprogram.part.ClassRef.TheVariants as refs
use Rattle.jresolution.specs.declared.jprogram.part.CodePart.{CodePart}
use Rattle.jresolution.specs.jprogram.ProgramClasses.{Program, find, name_at, ref_of}
use Rattle.jresolution.specs.jprogram.ImplementedInterfaces.{IsNumber}
use Rattle.jresolution.specs.jprogram.OrderedPrograms.{StandsInOrder}
use Rattle.jresolution.proofs.JprogramProofs.InterfaceSearch.{slice_get-within}
use Rattle.jresolution.proofs.JprogramProofs.ClassNumbers.{library_number, number_found, own_number}
use Rattle.jresolution.proofs.JprogramProofs.ClassHeights.{Libs, Nowhere, Stands, Users, stands}

-- ---- what can be thrown and what is a permission stands on both sides

pub thrown_stand : (t : Thrown) (side : Side) → true ≡ library.stands_on side (lib.Thrown t)
thrown_stand thrown.Throwable side = refl
thrown_stand thrown.Exception side = refl
thrown_stand thrown.Error side = refl
thrown_stand thrown.RuntimeException side = refl
thrown_stand thrown.InterruptedException side = refl
thrown_stand thrown.ArithmeticException side = refl
thrown_stand thrown.NullPointerException side = refl
thrown_stand thrown.ClassCastException side = refl
thrown_stand thrown.NegativeArraySizeException side = refl
thrown_stand thrown.ArrayStoreException side = refl
thrown_stand thrown.IllegalArgumentException side = refl
thrown_stand thrown.IllegalStateException side = refl
thrown_stand thrown.IndexOutOfBoundsException side = refl
thrown_stand thrown.SecurityException side = refl
thrown_stand thrown.IllegalThreadStateException side = refl
thrown_stand thrown.ArrayIndexOutOfBoundsException side = refl
thrown_stand thrown.StringIndexOutOfBoundsException side = refl
thrown_stand thrown.LinkageError side = refl
thrown_stand thrown.VirtualMachineError side = refl
thrown_stand thrown.IncompatibleClassChangeError side = refl
thrown_stand thrown.AbstractMethodError side = refl
thrown_stand thrown.IllegalAccessError side = refl
thrown_stand thrown.StackOverflowError side = refl

pub permissions_stand : (t : PermissionClass) (side : Side) → true ≡ library.stands_on side (lib.Permission t)
permissions_stand permission.Permission side = refl
permissions_stand permission.BasicPermission side = refl
permissions_stand permission.AllPermission side = refl
permissions_stand permission.RuntimePermission side = refl
permissions_stand permission.SecurityPermission side = refl
permissions_stand permission.PropertyPermission side = refl
permissions_stand permission.FilePermission side = refl

-- ---- numbers of classes

item_there : {A : Type 0} (xs : List A) (i : ℕ) → i < length xs → (x : A) × (slice_get xs i ≡ Some x)
item_there [] i lt = absurd (omega (arith, lt))
item_there (x ∷ xs) zero lt = (x, refl)
item_there (x ∷ xs) (suc i) lt = item_there xs i (omega (arith, lt))

no_ref : (r : ClassRef) → None ≡ Some r → ⊥
no_ref r e = cc

apart : (l : LibClass) (i : ℕ) → Some (refs.Lib l) ≡ Some (refs.User i) → ⊥
apart l i e = cc

user_is : (j i : ℕ) → Some (refs.User j) ≡ Some (refs.User i) → j ≡ i
user_is j i e = cc

lib_is : (k l : LibClass) → Some (refs.Lib k) ≡ Some (refs.Lib l) → k ≡ l
lib_is k l e = cc

module _ (p : Program) where
  -- where the class of a name has a number, there is a class of this number
  user_there : (i : ℕ) (n : List ℕ) → Stands p n → option_map ref_of (find p n) ≡ Some (refs.User i) → i < length p.parts
  user_there i n (Users j part at called is) e =
      slice_get-within p.parts i part (ap (slice_get p.parts) (sym (user_is j i (sym (ap (option_map ref_of) is) ∙ e))) ∙ at)
  user_there i n (Libs l known is) e = absurd (apart l i (sym (ap (option_map ref_of) is) ∙ e))
  user_there i n (Nowhere none) e = absurd (no_ref (refs.User i) (sym (ap (option_map ref_of) none) ∙ e))

  lib_there : (l : LibClass) (n : List ℕ) → Stands p n → option_map ref_of (find p n) ≡ Some (refs.Lib l) → library.stands_on p.side l ≡ true
  lib_there l n (Users j part at called is) e = absurd (apart l j (sym e ∙ ap (option_map ref_of) is))
  lib_there l n (Libs k known is) e =
      subst (λ (x : LibClass). library.stands_on p.side x ≡ true) (lib_is k l (sym (ap (option_map ref_of) is) ∙ e)) (class_found p.side n k known).1
  lib_there l n (Nowhere none) e = absurd (no_ref (refs.Lib l) (sym (ap (option_map ref_of) none) ∙ e))

  module _ (c : ClassRef) where
    module _ (i : ℕ) (xs : List CodePart) (is : c ≡ refs.User i) (same : xs ≡ p.parts) where
      pub user_known : StandsInOrder p → nat_lt i (length xs) ≡ true → IsNumber p c
      user_known good lt =
          let there = item_there p.parts i (subst (λ (ys : List CodePart). i < length ys) same (ltb-true i (length xs) lt)) in
          subst (IsNumber p) (sym is) (number_found p _ (refs.User i) (own_number p i there.0 good there.1))

      pub user_only : IsNumber p c → nat_lt i (length xs) ≡ true
      user_only known =
          let n = name_at p (refs.User i) in
          lt-ltb i (length xs) (subst (λ (ys : List CodePart). i < length ys) (sym same) (user_there i n (stands p n) (subst (IsNumber p) is known)))

    module _ (l : LibClass) (side : Side) (b : Bool) (is : c ≡ refs.Lib l) (same : side ≡ p.side) (by : b ≡ library.stands_on side l) where
      pub lib_known : StandsInOrder p → b ≡ true → IsNumber p c
      lib_known good on =
          let here : library.stands_on p.side l ≡ true = ap (λ (s : Side). library.stands_on s l) (sym same) ∙ sym by ∙ on in
          subst (IsNumber p) (sym is) (number_found p (library.name_of l) (refs.Lib l) (library_number p l good here))

      pub lib_only : IsNumber p c → b ≡ true
      lib_only known =
          let n = library.name_of l in
          by ∙ ap (λ (s : Side). library.stands_on s l) same ∙ lib_there l n (stands p n) (subst (IsNumber p) is known)
