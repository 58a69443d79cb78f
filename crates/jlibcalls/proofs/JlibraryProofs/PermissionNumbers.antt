-- Permissions that objects hold, by their numbers.
use Rattle.std.proofs.Common.{◌≡◌, ◌∙◌, ◌⊎◌, inl, inr, ℕ, zero, suc, ◌≤◌, ◌<◌, true, false, List, [], ◌∷◌, ◌++◌, length, Option, Some, None, refl, sym, ap, arith}
use Rattle.std.proofs.Math.Dec.{leb}
use Rattle.std.proofs.lemmas.Bool.Decides.{leb_tells}
use Rattle.std.specs.Prelude.{drop, map, replicate, slice_get, if◌then◌else◌}
use Rattle.jperm.specs.declared.permission.Permission as perms
use Rattle.jperm.specs.declared.permission.Permission.TheVariants as kept
use Rattle.jmemory.specs.declared.jheap.cell.Kind.{Kind}
use Rattle.jmemory.specs.declared.jheap.cell.Kind.TheVariants as kinds
use Rattle.jmemory.specs.jheap.Heaps as heaps
use Rattle.jlib.specs.declared.classes.LibClass.TheVariants as lib
use Rattle.jresolution.specs.declared.jprogram.part.ClassRef.{ClassRef}
use Rattle.jresolution.specs.declared.jprogram.part.ClassRef.TheVariants as refs
use Rattle.jresolution.specs.jprogram.ProgramClasses.{Program}
use Rattle.jsemantics.specs.jmachine.HeapObjects.{Object, Permission}
use Rattle.jruntime.specs.declared.jstate.shapes.Shapes.{Shapes}
use Rattle.jruntime.specs.jstate.ClassNumbers.{class_numbered}
use Rattle.jruntime.specs.jstate.HeapMeanings.{Things, class_by, first, kind_by, object_by, place_in}
use Rattle.jlibcalls.specs.jlibrary.HeldPermissions.{AreWithin, held_of, is_permission_class, with_permissions}
use Rattle.jlibcalls.specs.jlibrary.HeldPermissionLaws.{HeldByNumber, HeldWithin}

-- ---- a list and more

front_same : (xs more : List perms.Permission) (n : ℕ) → n < length xs → slice_get (xs ++ more) n ≡ slice_get xs n
front_same [] more n less = let no : ⊥ = omega (arith, less) in absurd no
front_same (x ∷ xs) more zero less = refl
front_same (x ∷ xs) more (suc n) less = let below : n < length xs = omega (arith, less) in front_same xs more n below

place_same : (xs more : List perms.Permission) (n : ℕ) → n ≤ length xs → place_in (xs ++ more) n ≡ place_in xs n
place_same xs more zero few = refl
place_same xs more (suc n) few = let less : n < length xs = omega (arith, few) in front_same xs more n less

past : (xs : List perms.Permission) (n : ℕ) → length xs ≤ n → slice_get xs n ≡ None
past [] n few = refl
past (x ∷ xs) zero few = let no : ⊥ = omega (arith, few) in absurd no
past (x ∷ xs) (suc n) few = let rest : length xs ≤ n = omega (arith, few) in past xs n rest

in_many : (n m : ℕ) → n < m → slice_get (replicate m kept.All) n ≡ Some kept.All
in_many n zero less = let no : ⊥ = omega (arith, less) in absurd no
in_many zero (suc m) less = refl
in_many (suc n) (suc m) less = let below : n < m = omega (arith, less) in in_many n m below

in_more : (xs : List perms.Permission) (n m : ℕ) → length xs ≤ n → n < m → slice_get (xs ++ replicate m kept.All) n ≡ Some kept.All
in_more [] n m few less = in_many n m less
in_more (x ∷ xs) zero m few less = let no : ⊥ = omega (arith, few) in absurd no
in_more (x ∷ xs) (suc n) m few less =
    let rest : length xs ≤ n = omega (arith, few) in
    let below : n < m = omega (arith, less) in
    in_more xs n m rest below

-- a number that more don't change is among those that there are
bounded : (xs : List perms.Permission) (n : ℕ) → ((more : List perms.Permission) → place_in (xs ++ more) n ≡ place_in xs n) → n ≤ length xs
bounded xs zero same = omega arith
bounded xs (suc n) same = told (leb_tells (suc n) (length xs))
  where
    told : ((leb (suc n) (length xs) ≡ true) × (suc n ≤ length xs)) ⊎ ((leb (suc n) (length xs) ≡ false) × (length xs < suc n)) → suc n ≤ length xs
    told (inl (e, few)) = few
    told (inr (e, many)) =
        let few : length xs ≤ n = omega (arith, many) in
        let less : n < suc n = omega arith in
        let some = in_more xs n (suc n) few less in
        let none = past xs n few in
        let both = same (replicate (suc n) kept.All) in
        let no : ⊥ = cc in
        absurd no

-- ---- what objects are

module _ (p : Program) (shapes : Shapes) (objects : List heaps.Object) (things : Things) (permissions more : List perms.Permission) (is : things.permissions ≡ permissions) where
  abbrev others : Things
  others = with_permissions (permissions ++ more) things

  class_same : (c : ClassRef) (cells : List ℕ) → (if is_permission_class c then first cells else 0) ≤ length permissions
      → class_by shapes objects others c cells ≡ class_by shapes objects things c cells
  class_same (refs.User i) cells few = refl
  class_same (refs.Lib (lib.Permission c)) cells few = ap (λ v. Permission c v) (place_same permissions more (first cells) few ∙ ap (λ ps. place_in ps (first cells)) (sym is))
  class_same (refs.Lib (lib.Thrown c)) cells few = refl
  class_same (refs.Lib lib.AccessControlException) cells few = refl
  class_same (refs.Lib lib.String) cells few = refl
  class_same (refs.Lib lib.StringBuilder) cells few = refl
  class_same (refs.Lib lib.AccessControlContext) cells few = refl
  class_same (refs.Lib lib.Thread) cells few = refl
  class_same (refs.Lib lib.Object) cells few = refl
  class_same (refs.Lib lib.System) cells few = refl
  class_same (refs.Lib lib.PrintStream) cells few = refl
  class_same (refs.Lib lib.Void) cells few = refl
  class_same (refs.Lib lib.Cloneable) cells few = refl
  class_same (refs.Lib lib.Serializable) cells few = refl
  class_same (refs.Lib lib.Runnable) cells few = refl
  class_same (refs.Lib lib.PrivilegedAction) cells few = refl
  class_same (refs.Lib lib.AccessController) cells few = refl
  class_same (refs.Lib lib.Rt) cells few = refl
  class_same (refs.Lib lib.Ctx) cells few = refl

  kind_same : (kind : Kind) (cells : List ℕ) → held_of kind cells ≤ length permissions → kind_by p shapes objects others kind cells ≡ kind_by p shapes objects things kind cells
  kind_same (kinds.Object n) cells few = class_same (class_numbered n) cells few
  kind_same (kinds.Array n) cells few = refl
  kind_same kinds.Text cells few = refl
  kind_same kinds.Piece cells few = refl

  each_same : (xs : List heaps.Object) → AreWithin (length permissions) xs → map (object_by p shapes objects others) xs ≡ map (object_by p shapes objects things) xs
  each_same [] all = refl
  each_same (x ∷ xs) (few, all) =
      ap (λ (y : Object ℕ). y ∷ map (object_by p shapes objects others) xs) (kind_same x.kind x.cells few)
      ∙ ap (λ (ys : List (Object ℕ)). object_by p shapes objects things x ∷ ys) (each_same xs all)

pub by_number : HeldByNumber
by_number p shapes permissions objects all things more is = each_same p shapes objects things permissions more is objects all

-- ---- which numbers they hold

value_in : Object ℕ → Option perms.Permission
value_in (Permission c v) = v
value_in x = None

module _ (p : Program) (shapes : Shapes) (objects : List heaps.Object) (permissions : List perms.Permission) where
  abbrev kept_by : List perms.Permission → Things
  kept_by ps = record { permissions = ps; kept = [] }

  class_within : (c : ClassRef) (cells : List ℕ)
      → ((more : List perms.Permission) → class_by shapes objects (kept_by (permissions ++ more)) c cells ≡ class_by shapes objects (kept_by permissions) c cells)
      → (if is_permission_class c then first cells else 0) ≤ length permissions
  unfolding value_in
  class_within (refs.Lib (lib.Permission c)) cells same = bounded permissions (first cells) (λ more. ap value_in (same more))
  class_within (refs.User i) cells same = omega arith
  class_within (refs.Lib (lib.Thrown c)) cells same = omega arith
  class_within (refs.Lib lib.AccessControlException) cells same = omega arith
  class_within (refs.Lib lib.String) cells same = omega arith
  class_within (refs.Lib lib.StringBuilder) cells same = omega arith
  class_within (refs.Lib lib.AccessControlContext) cells same = omega arith
  class_within (refs.Lib lib.Thread) cells same = omega arith
  class_within (refs.Lib lib.Object) cells same = omega arith
  class_within (refs.Lib lib.System) cells same = omega arith
  class_within (refs.Lib lib.PrintStream) cells same = omega arith
  class_within (refs.Lib lib.Void) cells same = omega arith
  class_within (refs.Lib lib.Cloneable) cells same = omega arith
  class_within (refs.Lib lib.Serializable) cells same = omega arith
  class_within (refs.Lib lib.Runnable) cells same = omega arith
  class_within (refs.Lib lib.PrivilegedAction) cells same = omega arith
  class_within (refs.Lib lib.AccessController) cells same = omega arith
  class_within (refs.Lib lib.Rt) cells same = omega arith
  class_within (refs.Lib lib.Ctx) cells same = omega arith

  kind_within : (kind : Kind) (cells : List ℕ)
      → ((more : List perms.Permission) → kind_by p shapes objects (kept_by (permissions ++ more)) kind cells ≡ kind_by p shapes objects (kept_by permissions) kind cells)
      → held_of kind cells ≤ length permissions
  kind_within (kinds.Object n) cells same = class_within (class_numbered n) cells same
  kind_within (kinds.Array n) cells same = omega arith
  kind_within kinds.Text cells same = omega arith
  kind_within kinds.Piece cells same = omega arith

  each_within : (xs : List heaps.Object)
      → ((more : List perms.Permission) → map (object_by p shapes objects (kept_by (permissions ++ more))) xs ≡ map (object_by p shapes objects (kept_by permissions)) xs)
      → AreWithin (length permissions) xs
  each_within [] same = tt
  each_within (x ∷ xs) same =
      (kind_within x.kind x.cells (λ more. head_same (object_by p shapes objects (kept_by permissions) x) (same more)), each_within xs (λ more. ap (drop 1) (same more)))
    where
      head_same : {y : Object ℕ} {ys zs : List (Object ℕ)} (z : Object ℕ) → y ∷ ys ≡ z ∷ zs → y ≡ z
      head_same z e = cc

pub within : HeldWithin
within p shapes permissions objects held = each_within p shapes objects permissions objects (λ more. held (record { permissions = permissions; kept = [] }) more refl)
