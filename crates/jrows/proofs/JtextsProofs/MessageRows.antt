-- Messages that constructors give.
use Rattle.std.proofs.Common.{◌≡◌, ◌∙◌, ℕ, zero, suc, ◌%◌, ◌^◌, ◌<◌, Bool, true, false, List, [], ◌∷◌, drop, length, Option, Some, None, refl, sym, subst, ap, arith}
use Rattle.std.specs.Prelude.{option_map, slice_get, slice_set, is_some, unwrap_or, if◌then◌else◌}
use Rattle.std.proofs.Math.Nat.{mod-eq_of_lt}
use Rattle.jvalues.specs.declared.jops.value.Value.{Value}
use Rattle.jvalues.specs.declared.jops.value.Value.TheVariants.{Int, Long, Ref, Ctx}
use Rattle.jmemory.specs.declared.jheap.cell.CellType.{CellType}
use Rattle.jmemory.specs.declared.jheap.cell.Kind.{Kind}
use Rattle.jmemory.specs.declared.jheap.cell.Kind.TheVariants as kinds
use Rattle.jmemory.specs.jheap.Heaps as heaps
use Rattle.jmemory.specs.jheap.Heaps.{HasCell, Heaped, with_cell}
use Rattle.jmemory.specs.jheap.RawValues.{of_raw}
use Rattle.jlib.specs.declared.calls.ThrownInit.TheVariants as given
use Rattle.jlib.specs.declared.classes.LibClass.TheVariants as lib
use Rattle.jresolution.specs.declared.jprogram.part.ClassRef.{ClassRef}
use Rattle.jresolution.specs.declared.jprogram.part.ClassRef.TheVariants as refs
use Rattle.jresolution.specs.jprogram.ProgramClasses.{Program}
use Rattle.jsemantics.specs.jmachine.HeapObjects.{Object, Instance, Thrown, Text, Builder, Piece, Permission, Context, Thread, Bare, Array}
use Rattle.jsemantics.specs.jmachine.Store.{Store, object_at, with_object}
use Rattle.jsemantics.specs.jmachine.Throwables.{init, message_of, told, with_message}
use Rattle.jruntime.specs.declared.jstate.shapes.Shape.{Shape}
use Rattle.jruntime.specs.declared.jstate.shapes.Shapes.{Shapes}
use Rattle.jruntime.specs.jstate.ClassNumbers.{class_numbered}
use Rattle.jruntime.specs.jstate.HeapMeanings.{AreBuilt, Things, class_by, first, last_by, named_by, object_by, store_by, user_by, values_of}
use Rattle.jruntime.specs.jstate.HeapMeaningLaws.{NamesNone, SeesEach, Writes, WrittenStaysBuilt, with_number}
use Rattle.jrows.specs.jtexts.Messages.{CanBeTold, CanTell, IsCell, has_message, kind_place, kind_told, message_place, named_as, object_told, place_by, shape_place, told_by}
use Rattle.jrows.specs.jtexts.TextCallOutcomes.{Comes, leaves}
use Rattle.jrows.specs.declared.jtexts.ran.Ran.{Ran}
use Rattle.jrows.specs.declared.jtexts.ran.Ran.TheVariants as rans
use Rattle.jrows.proofs.JtextsProofs.Costs.{at_no_cost}
use Rattle.jrows.proofs.JtextsProofs.ThrownRows.{sees}

-- ---- cells behind the fields

first_set : (cells : List ℕ) (i m : ℕ) → i < length cells → first (drop i (slice_set cells i m)) ≡ m
first_set [] i m h = absurd (omega (arith, h))
first_set (c ∷ cells) zero m h = refl
first_set (c ∷ cells) (suc i) m h = first_set cells i m (omega (arith, h))

values_kept : (types : List CellType) (cells : List ℕ) (m : ℕ) → values_of types (slice_set cells (length types) m) ≡ values_of types cells
unfolding values_of
values_kept [] cells m = refl
values_kept (t ∷ types) [] m = refl
values_kept (t ∷ types) (c ∷ cells) m = ap (λ vs. of_raw t c ∷ vs) (values_kept types cells m)

-- ---- objects with another message

-- an object of a class gets a message by the cell for it, and names no piece
module _ (shapes : Shapes) (objects : List heaps.Object) (things : Things) (cells : List ℕ) (i m : ℕ) where
  abbrev Tells : ClassRef → Type 0
  Tells c =
      (with_message m (Some (class_by shapes objects things c cells)) ≡ Some (class_by shapes objects things c (slice_set cells i m))) ×
      ((other : List ℕ) → last_by c other ≡ 0)

  user_tells : (u : ℕ) (o : Option Shape) → shape_place o ≡ Some i → i < length cells → m < 2 ^ 32
      → with_message m (Some (user_by u o cells)) ≡ Some (user_by u o (slice_set cells i m))
  user_tells u None e inside fits = cc
  user_tells u (Some shape) e inside fits = by_message shape.message refl e
    where
      by_message : (b : Bool) → shape.message ≡ b → (if b then Some (length shape.cells) else None) ≡ Some i
          → with_message m (Some (user_by u (Some shape) cells)) ≡ Some (user_by u (Some shape) (slice_set cells i m))
      by_message false is e = cc
      by_message true is e =
          let here : length shape.cells ≡ i = cc in
          let last : first (drop (length shape.cells) (slice_set cells (length shape.cells) m)) ≡ m =
          first_set cells (length shape.cells) m (omega (arith, here, inside)) in
          rw (is, ← here, last, mod-eq_of_lt fits, values_kept shape.cells cells m) refl

  library_first : 0 ≡ i → i < length cells → m < 2 ^ 32 → first (slice_set cells i m) % 2 ^ 32 ≡ m
  library_first at inside fits = rw (← at) (ap (λ n. n % 2 ^ 32) (first_set cells 0 m (omega (arith, at, inside))) ∙ mod-eq_of_lt fits)

  class_tells : (c : ClassRef) → place_by shapes c ≡ Some i → i < length cells → m < 2 ^ 32 → Tells c
  class_tells (refs.User u) e inside fits = (user_tells u (slice_get shapes.users u) e inside fits, λ other. refl)
  class_tells (refs.Lib (lib.Thrown c)) e inside fits =
      let at : 0 ≡ i = cc in (ap (λ n. Some (Thrown (lib.Thrown c) n)) (sym (library_first at inside fits)), λ other. refl)
  class_tells (refs.Lib lib.AccessControlException) e inside fits =
      let at : 0 ≡ i = cc in (ap (λ n. Some (Thrown lib.AccessControlException n)) (sym (library_first at inside fits)), λ other. refl)
  class_tells (refs.Lib lib.String) e inside fits = cc
  class_tells (refs.Lib lib.StringBuilder) e inside fits = cc
  class_tells (refs.Lib (lib.Permission c)) e inside fits = cc
  class_tells (refs.Lib lib.AccessControlContext) e inside fits = cc
  class_tells (refs.Lib lib.Thread) e inside fits = cc
  class_tells (refs.Lib lib.Object) e inside fits = cc
  class_tells (refs.Lib lib.System) e inside fits = cc
  class_tells (refs.Lib lib.PrintStream) e inside fits = cc
  class_tells (refs.Lib lib.Void) e inside fits = cc
  class_tells (refs.Lib lib.Cloneable) e inside fits = cc
  class_tells (refs.Lib lib.Serializable) e inside fits = cc
  class_tells (refs.Lib lib.Runnable) e inside fits = cc
  class_tells (refs.Lib lib.PrivilegedAction) e inside fits = cc
  class_tells (refs.Lib lib.AccessController) e inside fits = cc
  class_tells (refs.Lib lib.Rt) e inside fits = cc
  class_tells (refs.Lib lib.Ctx) e inside fits = cc

-- ---- the object of a number

pub record Holds (shapes : Shapes) (h : Heaped) (o i : ℕ) : Type 0 where
  pub object : heaps.Object
  pub number : ℕ
  pub at : heaps.object_at h o ≡ Some object
  pub kind : object.kind ≡ kinds.Object number
  pub place : place_by shapes (class_numbered number) ≡ Some i
  pub inside : i < length object.cells

module _ (shapes : Shapes) (h : Heaped) (o i : ℕ) where
  by_kind : (x : heaps.Object) (kind : Kind) → x.kind ≡ kind → heaps.object_at h o ≡ Some x → Some i ≡ kind_place shapes (Some kind) → i < length x.cells
      → Holds shapes h o i
  by_kind x (kinds.Object n) kind at e inside = record { object = x; number = n; at = at; kind = kind; place = sym e; inside = inside }
  by_kind x (kinds.Array n) kind at e inside = cc
  by_kind x kinds.Text kind at e inside = cc
  by_kind x kinds.Piece kind at e inside = cc

  holds : Some i ≡ message_place shapes h o → HasCell h o i → Holds shapes h o i
  holds e has = found (heaps.object_at h o) refl e
    where
      found : (x : Option heaps.Object) → heaps.object_at h o ≡ x → Some i ≡ kind_place shapes (option_map (λ (y : heaps.Object). y.kind) x)
          → Holds shapes h o i
      found None at e = cc
      found (Some x) at e = by_kind x x.kind refl at e (rw at at has)

-- ---- rows

no_message : (m : ℕ) (x : Option (Object ℕ)) → message_of x ≡ None → with_message m x ≡ None
no_message m None e = refl
no_message m (Some (Instance c old fields)) e = cc
no_message m (Some (Thrown c old)) e = cc
no_message m (Some (Text us)) e = refl
no_message m (Some (Builder us)) e = refl
no_message m (Some (Piece us)) e = refl
no_message m (Some (Permission c held)) e = refl
no_message m (Some (Context k)) e = refl
no_message m (Some (Thread n)) e = refl
no_message m (Some (Bare c)) e = refl
no_message m (Some (Array a items)) e = refl

nothing_told : (shapes : Shapes) (h : Heaped) (o : ℕ) → CanTell shapes h o → None ≡ message_place shapes h o → object_told shapes (heaps.object_at h o) ≡ None
nothing_told shapes h o can e = found (object_told shapes (heaps.object_at h o)) refl
  where
    found : (t : Option ℕ) → object_told shapes (heaps.object_at h o) ≡ t → t ≡ None
    found None is = refl
    found (Some m) is = absurd (subst (IsCell h o) (sym e) (can m is))

library_has : (b : Bool) (i n : ℕ) → Some i ≡ (if b then Some 0 else None) → is_some (if b then Some n else None) ≡ true
library_has true i n e = refl
library_has false i n e = cc

class_has : (shapes : Shapes) (c : ClassRef) (cells : List ℕ) (i : ℕ) → Some i ≡ place_by shapes c → is_some (told_by shapes c cells) ≡ true
class_has shapes (refs.User u) cells i e = refl
class_has shapes (refs.Lib c) cells i e = library_has (has_message c) i (named_by (first cells)) e

kind_has : (shapes : Shapes) (kind : Kind) (cells : List ℕ) (i : ℕ) → Some i ≡ kind_place shapes (Some kind) → is_some (kind_told shapes kind cells) ≡ true
kind_has shapes (kinds.Object n) cells i e = class_has shapes (class_numbered n) cells i e
kind_has shapes (kinds.Array n) cells i e = cc
kind_has shapes kinds.Text cells i e = cc
kind_has shapes kinds.Piece cells i e = cc

object_has : (shapes : Shapes) (x : Option heaps.Object) (i : ℕ) → Some i ≡ kind_place shapes (option_map (λ (y : heaps.Object). y.kind) x)
    → is_some (object_told shapes x) ≡ true
object_has shapes None i e = cc
object_has shapes (Some x) i e = kind_has shapes x.kind x.cells i e

-- where there is a place there is a cell
pub cell_told : (shapes : Shapes) (h : Heaped) (o i : ℕ) → CanTell shapes h o → Some i ≡ message_place shapes h o → HasCell h o i
cell_told shapes h o i can e =
    subst (IsCell h o) (sym e) (found (object_told shapes (heaps.object_at h o)) refl (object_has shapes (heaps.object_at h o) i e))
  where
    found : (t : Option ℕ) → object_told shapes (heaps.object_at h o) ≡ t → is_some t ≡ true → IsCell h o (message_place shapes h o)
    found None is some = cc
    found (Some m) is some = can m is

module _ (E : Type 0) (s : Store ℕ) (o m : ℕ) where
  told_gives : (x : Object ℕ) → with_message m (object_at s o) ≡ Some x → Comes {E = E} s (told s o m) (leaves rans.Went [] (with_object s o x))
  told_gives x e = rw e (at_no_cost s (with_object s o x) rans.Went [] (leaves rans.Full [] s))

  told_none : with_message m (object_at s o) ≡ None → Comes {E = E} s (told s o m) (leaves rans.Stuck [] s)
  told_none e = rw e refl

pub tell_none : (E : Type 0) (each : SeesEach) (shapes : Shapes) (h : Heaped) (o m : ℕ) → CanTell shapes h o → None ≡ message_place shapes h o
    → (p : Program) (things : Things) (constants : List (List ℕ × ℕ))
    → Comes {E = E} (store_by p shapes things constants h) (told (store_by p shapes things constants h) o m)
    (leaves rans.Stuck [] (store_by p shapes things constants h))
tell_none E each shapes h o m can e p things constants =
    told_none E (store_by p shapes things constants h) o m
    (no_message m (object_at (store_by p shapes things constants h) o) (sees E each shapes h p things constants o ∙ nothing_told shapes h o can e))

pub tell_some : (E : Type 0) (each : SeesEach) (writes : Writes) (shapes : Shapes) (h new : Heaped) (o i m : ℕ) → Some i ≡ message_place shapes h o
    → HasCell h o i → m < 2 ^ 32
    → new ≡ with_cell h o i m → (p : Program) (things : Things) (constants : List (List ℕ × ℕ))
    → Comes {E = E} (store_by p shapes things constants h) (told (store_by p shapes things constants h) o m)
    (leaves rans.Went [] (store_by p shapes things constants new))
tell_some E each writes shapes h new o i m e has fits is p things constants =
    let it = holds shapes h o i e has in
    let tells = class_tells shapes h.objects things it.object.cells i m (class_numbered it.number) it.place it.inside fits in
    let seen : with_message m (Some (object_by p shapes h.objects things it.object)) ≡ Some
    (object_by p shapes h.objects things (with_number i m it.object)) =
    rw it.kind tells.0 in
    let view = writes p shapes things constants h o i m it.object it.at (rw it.kind tt) in
    let known : object_at (store_by p shapes things constants h) o ≡ Some (object_by p shapes h.objects things it.object) =
    each p shapes things constants h o ∙ rw it.at refl in
    rw (is, view)
    (told_gives E (store_by p shapes things constants h) o m (object_by p shapes h.objects things (with_number i m it.object))
    (ap (with_message m) known ∙ seen))

pub tell_stays : (written : WrittenStaysBuilt) (shapes : Shapes) (h new : Heaped) (o i m : ℕ) → AreBuilt h.objects → Some i ≡ message_place shapes h o
    → HasCell h o i → m < 2 ^ 32
    → new ≡ with_cell h o i m → AreBuilt new.objects
tell_stays written shapes h new o i m all e has fits is =
    let it = holds shapes h o i e has in
    let none : Things = record { permissions = []; kept = [] } in
    let tells = class_tells shapes h.objects none it.object.cells i m (class_numbered it.number) it.place it.inside fits in
    let names : NamesNone it.object.kind = rw it.kind tells.1 in
    rw is (written h o i m it.object it.at names all)

-- ---- the constructors

pub init_row : (E : Type 0) (s t : Store ℕ) (ran : Ran) (v : Value ℕ) (o : ℕ) → Some o ≡ named_as v → Comes {E = E} s (told s o 0) (leaves ran [] t)
    → Comes {E = E} s (init s given.Nothing (v ∷ [])) (leaves ran [] t)
unfolding init
init_row E s t ran (Ref n) o e comes = let at : o ≡ n = cc in rw (← at) comes
init_row E s t ran (Int x) o e comes = cc
init_row E s t ran (Long x) o e comes = cc
init_row E s t ran (Ctx x) o e comes = cc

pub nothing_named : (E : Type 0) (s : Store ℕ) (v : Value ℕ) → None ≡ named_as v → Comes {E = E} s (init s given.Nothing (v ∷ [])) (leaves rans.Stuck [] s)
unfolding init
nothing_named E s (Ref n) e = cc
nothing_named E s (Int x) e = refl
nothing_named E s (Long x) e = refl
nothing_named E s (Ctx x) e = refl

pub message_row : (E : Type 0) (s t : Store ℕ) (ran : Ran) (v w : Value ℕ) (o m : ℕ) → Some o ≡ named_as v → Some m ≡ named_as w
    → Comes {E = E} s (told s o m) (leaves ran [] t)
    → Comes {E = E} s (init s given.Message (w ∷ v ∷ [])) (leaves ran [] t)
unfolding init
message_row E s t ran (Ref n) (Ref k) o m e also comes = let at : o ≡ n = cc in let is : m ≡ k = cc in rw (← at, ← is) comes
message_row E s t ran (Ref n) (Int x) o m e also comes = cc
message_row E s t ran (Ref n) (Long x) o m e also comes = cc
message_row E s t ran (Ref n) (Ctx x) o m e also comes = cc
message_row E s t ran (Int x) w o m e also comes = cc
message_row E s t ran (Long x) w o m e also comes = cc
message_row E s t ran (Ctx x) w o m e also comes = cc

pub no_object : (E : Type 0) (s : Store ℕ) (v w : Value ℕ) → None ≡ named_as v → Comes {E = E} s (init s given.Message (w ∷ v ∷ [])) (leaves rans.Stuck [] s)
unfolding init
no_object E s (Ref n) w e = cc
no_object E s (Int x) (Ref k) e = refl
no_object E s (Int x) (Int y) e = refl
no_object E s (Int x) (Long y) e = refl
no_object E s (Int x) (Ctx y) e = refl
no_object E s (Long x) (Ref k) e = refl
no_object E s (Long x) (Int y) e = refl
no_object E s (Long x) (Long y) e = refl
no_object E s (Long x) (Ctx y) e = refl
no_object E s (Ctx x) (Ref k) e = refl
no_object E s (Ctx x) (Int y) e = refl
no_object E s (Ctx x) (Long y) e = refl
no_object E s (Ctx x) (Ctx y) e = refl

pub no_text : (E : Type 0) (s : Store ℕ) (v w : Value ℕ) → None ≡ named_as w → Comes {E = E} s (init s given.Message (w ∷ v ∷ [])) (leaves rans.Stuck [] s)
unfolding init
no_text E s v (Ref n) e = cc
no_text E s v (Int x) e = refl
no_text E s v (Long x) e = refl
no_text E s v (Ctx x) e = refl

pub can_tell : (shapes : Shapes) (h : Heaped) (v : Value ℕ) (o : ℕ) → CanBeTold shapes h v → Some o ≡ named_as v → CanTell shapes h o
can_tell shapes h (Ref n) o can e = let at : n ≡ o = cc in subst (CanTell shapes h) at can
can_tell shapes h (Int x) o can e = cc
can_tell shapes h (Long x) o can e = cc
can_tell shapes h (Ctx x) o can e = cc

pub cell_there : (h : Heaped) (o i : ℕ) → HasCell h o i → is_some (heaps.object_at h o) ≡ true
cell_there h o i has = found (heaps.object_at h o) has
  where
    found : (x : Option heaps.Object) → i < length (unwrap_or (option_map (λ (y : heaps.Object). y.cells) x) []) → is_some x ≡ true
    found None inside = absurd (omega (arith, inside))
    found (Some x) inside = refl
