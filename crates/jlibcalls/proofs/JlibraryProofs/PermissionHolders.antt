-- A permission that an object holds from now on.
use Rattle.std.proofs.Common.{◌≡◌, ◌∙◌, ℕ, suc, ◌+◌, ◌<◌, true, false, List, [], ◌∷◌, ◌++◌, length, Option, Some, None, refl, subst, sym, ap, arith, append_assoc}
use Rattle.std.proofs.lemmas.List.{append-nil}
use Rattle.std.specs.Prelude.{Ok, option_map, slice_get, slice_set}
use Rattle.jperm.specs.declared.permission.Permission as perms
use Rattle.jmemory.specs.declared.jheap.cell.Kind.{Kind}
use Rattle.jmemory.specs.declared.jheap.cell.Kind.TheVariants as kinds
use Rattle.jmemory.specs.jheap.Heaps as heaps
use Rattle.jmemory.specs.jheap.Heaps.{Heaped, HasCell, cells_at, kind_at, with_cell}
use Rattle.jlib.specs.declared.classes.LibClass.TheVariants as lib
use Rattle.jlib.specs.declared.classes.PermissionClass.{PermissionClass}
use Rattle.jresolution.specs.declared.jprogram.part.ClassRef.{ClassRef}
use Rattle.jresolution.specs.declared.jprogram.part.ClassRef.TheVariants as refs
use Rattle.jresolution.specs.jprogram.ProgramClasses.{Program}
use Rattle.jsemantics.specs.jmachine.MachineStates.{gives}
use Rattle.jsemantics.specs.jmachine.HeapObjects.{Permission}
use Rattle.jsemantics.specs.jmachine.PermissionCalls.{constructed, with_value}
use Rattle.jsemantics.specs.jmachine.Store.{Store, object_at, with_object}
use Rattle.jruntime.specs.declared.jstate.shapes.Shape.{Shape}
use Rattle.jruntime.specs.declared.jstate.shapes.Shapes.{Shapes}
use Rattle.jruntime.specs.jstate.ClassNumbers.{class_numbered}
use Rattle.jruntime.specs.jstate.ObjectCells.{AreCelled, HasWanted, kind_cells}
use Rattle.jruntime.specs.jstate.HeapMeanings.{AreBuilt, Things, class_by, first, kind_by, object_by, place_in, store_by, user_by}
use Rattle.jruntime.specs.jstate.HeapMeaningLaws.{IsNoPiece, NamesNone, SeesEach, Writes, WrittenStaysBuilt, with_number}
use Rattle.jrows.specs.jtexts.TextCallOutcomes as rans
use Rattle.jrows.specs.jtexts.TextCallOutcomes.{GoesFree}
use Rattle.jrows.specs.declared.jtexts.ran.Ran.TheVariants as ran
use Rattle.jlibcalls.specs.jlibrary.HeldPermissions.{AreHeld, HasHolder, is_permission, is_permission_class, is_permission_kind, with_permissions}
use Rattle.jlibcalls.specs.jlibrary.LibraryOutcomes.{Constructs}
use Rattle.jlibcalls.proofs.JlibraryProofs.PermissionlessCalls.{same_store, same_things}

-- ---- objects of classes of permissions

-- an object of such a class, by the heap
pub record Holds (h : Heaped) (o : ℕ) : Type 0 where
  pub object : heaps.Object
  pub number : ℕ
  pub class : PermissionClass
  pub is : heaps.object_at h o ≡ Some object
  pub kind : object.kind ≡ kinds.Object number
  pub named : class_numbered number ≡ refs.Lib (lib.Permission class)

class_holds : (c : ClassRef) → is_permission_class c ≡ true → (class : PermissionClass) × (c ≡ refs.Lib (lib.Permission class))
class_holds (refs.User i) e = cc
class_holds (refs.Lib (lib.Permission c)) e = (c, refl)
class_holds (refs.Lib (lib.Thrown c)) e = cc
class_holds (refs.Lib lib.AccessControlException) e = cc
class_holds (refs.Lib lib.String) e = cc
class_holds (refs.Lib lib.StringBuilder) e = cc
class_holds (refs.Lib lib.AccessControlContext) e = cc
class_holds (refs.Lib lib.Thread) e = cc
class_holds (refs.Lib lib.Object) e = cc
class_holds (refs.Lib lib.System) e = cc
class_holds (refs.Lib lib.PrintStream) e = cc
class_holds (refs.Lib lib.Void) e = cc
class_holds (refs.Lib lib.Cloneable) e = cc
class_holds (refs.Lib lib.Serializable) e = cc
class_holds (refs.Lib lib.Runnable) e = cc
class_holds (refs.Lib lib.PrivilegedAction) e = cc
class_holds (refs.Lib lib.AccessController) e = cc
class_holds (refs.Lib lib.Rt) e = cc
class_holds (refs.Lib lib.Ctx) e = cc

kind_holds : (h : Heaped) (o : ℕ) (x : heaps.Object) (kind : Kind) → heaps.object_at h o ≡ Some x → x.kind ≡ kind → is_permission_kind (Some kind) ≡ true → Holds h o
kind_holds h o x (kinds.Object n) is kind e =
    let found = class_holds (class_numbered n) e in
    record { object = x; number = n; class = found.0; is = is; kind = kind; named = found.1 }
kind_holds h o x (kinds.Array n) is kind e = cc
kind_holds h o x kinds.Text is kind e = cc
kind_holds h o x kinds.Piece is kind e = cc

pub holds : (h : Heaped) (o : ℕ) → is_permission h o ≡ true → Holds h o
holds h o e = found (heaps.object_at h o) refl e
  where
    found : (x : Option heaps.Object) → heaps.object_at h o ≡ x → is_permission_kind (option_map (λ (y : heaps.Object). y.kind) x) ≡ true → Holds h o
    found None is e = cc
    found (Some x) is e = kind_holds h o x x.kind is refl e

-- ---- what is no permission gets no value

module _ (p : Program) (shapes : Shapes) (things : Things) (objects : List heaps.Object) (value : perms.Permission) where
  user_none : (i : ℕ) (o : Option Shape) (cells : List ℕ) → with_value value (Some (user_by i o cells)) ≡ None
  user_none i None cells = refl
  user_none i (Some shape) cells = refl

  class_none : (c : ClassRef) (cells : List ℕ) → is_permission_class c ≡ false → with_value value (Some (class_by shapes objects things c cells)) ≡ None
  class_none (refs.User i) cells e = user_none i (slice_get shapes.users i) cells
  class_none (refs.Lib (lib.Permission c)) cells e = cc
  class_none (refs.Lib (lib.Thrown c)) cells e = refl
  class_none (refs.Lib lib.AccessControlException) cells e = refl
  class_none (refs.Lib lib.String) cells e = refl
  class_none (refs.Lib lib.StringBuilder) cells e = refl
  class_none (refs.Lib lib.AccessControlContext) cells e = refl
  class_none (refs.Lib lib.Thread) cells e = refl
  class_none (refs.Lib lib.Object) cells e = refl
  class_none (refs.Lib lib.System) cells e = refl
  class_none (refs.Lib lib.PrintStream) cells e = refl
  class_none (refs.Lib lib.Void) cells e = refl
  class_none (refs.Lib lib.Cloneable) cells e = refl
  class_none (refs.Lib lib.Serializable) cells e = refl
  class_none (refs.Lib lib.Runnable) cells e = refl
  class_none (refs.Lib lib.PrivilegedAction) cells e = refl
  class_none (refs.Lib lib.AccessController) cells e = refl
  class_none (refs.Lib lib.Rt) cells e = refl
  class_none (refs.Lib lib.Ctx) cells e = refl

  kind_none : (kind : Kind) (cells : List ℕ) → is_permission_kind (Some kind) ≡ false → with_value value (Some (kind_by p shapes objects things kind cells)) ≡ None
  kind_none (kinds.Object n) cells e = class_none (class_numbered n) cells e
  kind_none (kinds.Array n) cells e = refl
  kind_none kinds.Text cells e = refl
  kind_none kinds.Piece cells e = refl

  object_none : (x : Option heaps.Object) → is_permission_kind (option_map (λ (y : heaps.Object). y.kind) x) ≡ false
      → with_value value (option_map (object_by p shapes objects things) x) ≡ None
  object_none None e = refl
  object_none (Some x) e = kind_none x.kind x.cells e

no_row : {E : Type 0} (s : Store ℕ) (o : ℕ) (value : perms.Permission) → with_value value (object_at s o) ≡ None → constructed {E = E} s o (Ok value) ≡ None
no_row s o value e = rw e refl

-- an object that is no permission has no step
pub none_held : (E : Type 0) → SeesEach → (h : Heaped) (o : ℕ) (value : perms.Permission) (permissions : List perms.Permission) → is_permission h o ≡ false
    → Constructs {E = E} (λ s. constructed s o (Ok value)) permissions h ran.Stuck permissions h
none_held E each h o value permissions e p shapes things constants is held =
    let s = store_by p shapes things constants h in
    let none : with_value value (object_at s o) ≡ None =
    ap (with_value value) (each p shapes things constants h o) ∙ object_none p shapes things h.objects value (heaps.object_at h o) e in
    rw (no_row {E = E} s o value none, same_things things permissions is) refl

-- ---- the new permission

at_end : (xs more : List perms.Permission) (x : perms.Permission) → slice_get ((xs ++ x ∷ []) ++ more) (length xs) ≡ Some x
at_end [] more x = refl
at_end (y ∷ xs) more x = at_end xs more x

numbered : (xs more : List perms.Permission) (x : perms.Permission) → place_in ((xs ++ x ∷ []) ++ more) (length xs + 1) ≡ Some x
numbered xs more x = let next : length xs + 1 ≡ suc (length xs) = omega arith in rw next (at_end xs more x)

first_set : (cells : List ℕ) (n : ℕ) → 0 < length cells → first (slice_set cells 0 n) ≡ n
first_set [] n some = let no : ⊥ = omega (arith, some) in absurd no
first_set (c ∷ cells) n some = refl

module _ (p : Program) (shapes : Shapes) (h : Heaped) (o : ℕ) (value : perms.Permission) (permissions : List perms.Permission) (x : Holds h o) where
  abbrev number : ℕ
  number = length permissions + 1

  abbrev behind : Heaped
  behind = with_cell h o 0 number

  abbrev after : List perms.Permission
  after = permissions ++ value ∷ []

  abbrev changed : heaps.Object
  changed = with_number 0 number x.object

  no_piece : IsNoPiece x.object.kind
  no_piece = rw x.kind tt

  cells_is : cells_at h o ≡ x.object.cells
  cells_is = rw x.is refl

  -- what it holds then
  becomes : HasCell h o 0 → (things : Things) (more : List perms.Permission) → things.permissions ≡ after ++ more
      → object_by p shapes h.objects things changed ≡ Permission x.class (Some value)
  becomes has things more is =
      let some : 0 < length x.object.cells = subst (λ (cs : List ℕ). 0 < length cs) cells_is has in
      let cell : first (slice_set x.object.cells 0 number) ≡ number = first_set x.object.cells number some in
      rw (x.kind, x.named, cell, is) (ap (λ v. Permission x.class v) (numbered permissions more value))

  -- what the heap stands for then
  written : Writes → HasCell h o 0 → AreHeld p shapes permissions h.objects → (things : Things) (constants : List (List ℕ × ℕ)) (more : List perms.Permission)
      → things.permissions ≡ permissions
      → store_by p shapes (with_permissions (after ++ more) things) constants behind ≡ with_object (store_by p shapes things constants h) o (Permission x.class (Some value))
  written writes has held things constants more is =
      let then = with_permissions (after ++ more) things in
      let all : permissions ++ (value ∷ more) ≡ after ++ more = sym (append_assoc permissions (value ∷ []) more) in
      let before : store_by p shapes then constants h ≡ store_by p shapes things constants h =
      subst (λ (ps : List perms.Permission). store_by p shapes (with_permissions ps things) constants h ≡ store_by p shapes things constants h) all
      (same_store p shapes permissions h held things constants (value ∷ more) is) in
      writes p shapes then constants h o 0 number x.object x.is no_piece
      ∙ ap (λ (t : Store ℕ). with_object t o (object_by p shapes h.objects then changed)) before
      ∙ ap (with_object (store_by p shapes things constants h) o) (becomes has then more refl)

  seen : SeesEach → (things : Things) (constants : List (List ℕ × ℕ))
      → object_at (store_by p shapes things constants h) o ≡ Some (Permission x.class (place_in things.permissions (first x.object.cells)))
  seen each things constants = each p shapes things constants h o ∙ rw (x.is, x.kind, x.named) refl

  row_is : {E : Type 0} → SeesEach → (things : Things) (constants : List (List ℕ × ℕ)) → let s = store_by p shapes things constants h in
      constructed {E = E} s o (Ok value) ≡ Some (gives (with_object s o (Permission x.class (Some value))) [])
  row_is each things constants = rw (seen each things constants) refl

  -- without others behind it
  written_last : Writes → HasCell h o 0 → AreHeld p shapes permissions h.objects → (things : Things) (constants : List (List ℕ × ℕ)) → things.permissions ≡ permissions
      → store_by p shapes (with_permissions after things) constants behind ≡ with_object (store_by p shapes things constants h) o (Permission x.class (Some value))
  written_last writes has held things constants is =
      subst
      (λ (ps : List perms.Permission). store_by p shapes (with_permissions ps things) constants behind ≡ with_object (store_by p shapes things constants h) o (Permission x.class (Some value)))
      (append-nil after) (written writes has held things constants [] is)

  stay : Writes → HasCell h o 0 → AreHeld p shapes permissions h.objects → AreHeld p shapes after behind.objects
  stay writes has held things more is =
      let old = with_permissions permissions things in
      let others = written writes has held old [] more refl in
      let last : store_by p shapes things [] behind ≡ with_object (store_by p shapes old [] h) o (Permission x.class (Some value)) =
      subst (λ (t : Things). store_by p shapes t [] behind ≡ with_object (store_by p shapes old [] h) o (Permission x.class (Some value))) (same_things things after is)
      (written_last writes has held old [] refl) in
      ap (λ (t : Store ℕ). t.objects) (others ∙ sym last)

-- the object holds it
pub one_held : (E : Type 0) → SeesEach → Writes → GoesFree → (h : Heaped) (o : ℕ) (value : perms.Permission) (permissions : List perms.Permission) → HasHolder h o
    → is_permission h o ≡ true
    → Constructs {E = E} (λ s. constructed s o (Ok value)) permissions h ran.Went (permissions ++ value ∷ []) (with_cell h o 0 (length permissions + 1))
one_held E each writes free h o value permissions has one p shapes things constants is held =
    let s = store_by p shapes things constants h in
    let x = holds h o one in
    let t = with_object s o (Permission x.class (Some value)) in
    rw (row_is p shapes h o value permissions x {E = E} each things constants, written_last p shapes h o value permissions x writes (has one) held things constants is)
    (free s t ran.Went [] (rans.leaves ran.Full [] s))

pub stay_held : Writes → (h : Heaped) (o : ℕ) (value : perms.Permission) (permissions : List perms.Permission) → HasHolder h o → is_permission h o ≡ true
    → (p : Program) (shapes : Shapes) → AreHeld p shapes permissions h.objects → AreHeld p shapes (permissions ++ value ∷ []) (with_cell h o 0 (length permissions + 1)).objects
stay_held writes h o value permissions has one p shapes held = stay p shapes h o value permissions (holds h o one) writes (has one) held

-- an object of a class of permissions has the cell for one
pub has_holder : HasWanted → (shapes : Shapes) (h : Heaped) → AreCelled shapes h.objects → (o : ℕ) → HasHolder h o
has_holder wanted shapes h celled o e =
    let x = holds h o e in
    let kind : kind_at h o ≡ Some (kinds.Object x.number) = rw x.is (ap (λ k. Some k) x.kind) in
    let cells : kind_cells shapes (kinds.Object x.number) ≡ Some 1 = rw x.named refl in
    let some : 0 < 1 = omega arith in
    wanted shapes h o 0 1 (kinds.Object x.number) celled kind cells some

pub stay_built : WrittenStaysBuilt → (h : Heaped) (o n : ℕ) → is_permission h o ≡ true → AreBuilt h.objects → AreBuilt (with_cell h o 0 n).objects
stay_built written h o n e built =
    let x = holds h o e in
    let none : NamesNone x.object.kind = λ cells. rw (x.kind, x.named) refl in
    written h o 0 n x.object x.is none built
