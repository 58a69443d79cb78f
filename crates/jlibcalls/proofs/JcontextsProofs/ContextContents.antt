-- What AccessControlContexts keep.
use Rattle.std.proofs.Common.{◌≡◌, ◌∙◌, ℕ, zero, suc, true, List, Option, Some, None, refl, sym, ap}
use Rattle.std.specs.Prelude.{is_some, option_map, slice_get}
use Rattle.jmemory.specs.declared.jheap.cell.Kind.{Kind}
use Rattle.jmemory.specs.declared.jheap.cell.Kind.TheVariants as kinds
use Rattle.jmemory.specs.jheap.Heaps as heaps
use Rattle.jmemory.specs.jheap.Heaps.{Heaped, kind_at}
use Rattle.jlib.specs.declared.classes.LibClass.TheVariants as lib
use Rattle.jresolution.specs.declared.jprogram.part.ClassRef.{ClassRef}
use Rattle.jresolution.specs.declared.jprogram.part.ClassRef.TheVariants as refs
use Rattle.jresolution.specs.jprogram.ProgramClasses.{Program}
use Rattle.jvalues.specs.declared.jops.value.Value.TheVariants.{Ref}
use Rattle.jsemantics.specs.jmachine.PrivilegeActions.{given}
use Rattle.jsemantics.specs.jmachine.Security.{kept_in}
use Rattle.jsemantics.specs.jmachine.Store.{Store, object_at}
use Rattle.jruntime.specs.declared.jstate.shapes.Shape.{Shape}
use Rattle.jruntime.specs.declared.jstate.shapes.Shapes.{Shapes}
use Rattle.jruntime.specs.jstate.ClassNumbers.{class_numbered}
use Rattle.jruntime.specs.jstate.HeapMeanings.{Things, class_by, kind_by, object_by, place_in, store_by, user_by}
use Rattle.jruntime.specs.jstate.HeapMeaningLaws.{SeesEach}
use Rattle.jlibcalls.specs.jcontexts.KeptContexts.{place_by, place_held, place_of}

-- an object of a kind is there
pub is_there : (h : Heaped) (o : ℕ) (kind : Kind) → kind_at h o ≡ Some kind → is_some (heaps.object_at h o) ≡ true
is_there h o kind e = by_object (heaps.object_at h o) refl e
  where
    by_object : (x : Option heaps.Object) → heaps.object_at h o ≡ x → option_map (λ (y : heaps.Object). y.kind) x ≡ Some kind → is_some (heaps.object_at h o) ≡ true
    by_object None is e = cc
    by_object (Some x) is e = rw is refl

module _ (p : Program) (shapes : Shapes) (objects : List heaps.Object) (things : Things) where
  user_holds : (i : ℕ) (shape : Option Shape) (cells : List ℕ) → kept_in (Some (user_by i shape cells)) ≡ None
  user_holds i None cells = refl
  user_holds i (Some shape) cells = refl

  class_holds : (c : ClassRef) (cells : List ℕ) → kept_in (Some (class_by shapes objects things c cells)) ≡ place_in things.kept (place_by c cells)
  class_holds (refs.User i) cells = user_holds i (slice_get shapes.users i) cells
  class_holds (refs.Lib (lib.Thrown c)) cells = refl
  class_holds (refs.Lib lib.AccessControlException) cells = refl
  class_holds (refs.Lib lib.String) cells = refl
  class_holds (refs.Lib lib.StringBuilder) cells = refl
  class_holds (refs.Lib (lib.Permission c)) cells = refl
  class_holds (refs.Lib lib.AccessControlContext) cells = refl
  class_holds (refs.Lib lib.Thread) cells = refl
  class_holds (refs.Lib lib.Object) cells = refl
  class_holds (refs.Lib lib.System) cells = refl
  class_holds (refs.Lib lib.PrintStream) cells = refl
  class_holds (refs.Lib lib.Void) cells = refl
  class_holds (refs.Lib lib.Cloneable) cells = refl
  class_holds (refs.Lib lib.Serializable) cells = refl
  class_holds (refs.Lib lib.Runnable) cells = refl
  class_holds (refs.Lib lib.PrivilegedAction) cells = refl
  class_holds (refs.Lib lib.AccessController) cells = refl
  class_holds (refs.Lib lib.Rt) cells = refl
  class_holds (refs.Lib lib.Ctx) cells = refl

  kind_holds : (kind : Kind) (cells : List ℕ) → kept_in (Some (kind_by p shapes objects things kind cells)) ≡ place_in things.kept (place_of (Some kind) cells)
  kind_holds (kinds.Object n) cells = class_holds (class_numbered n) cells
  kind_holds (kinds.Array a) cells = refl
  kind_holds kinds.Text cells = refl
  kind_holds kinds.Piece cells = refl

module _ (each : SeesEach) (p : Program) (shapes : Shapes) (things : Things) (constants : List (List ℕ × ℕ)) (h : Heaped) where
  object_holds : (o : ℕ) (x : Option heaps.Object) → heaps.object_at h o ≡ x
      → kept_in (option_map (object_by p shapes h.objects things) x) ≡ place_in things.kept (place_held h o)
  object_holds o None is = rw is refl
  object_holds o (Some x) is = rw is (kind_holds p shapes h.objects things x.kind x.cells)

  -- what the object of a number keeps
  held : (o : ℕ) → kept_in (object_at (store_by p shapes things constants h) o) ≡ place_in things.kept (place_held h o)
  held o = ap kept_in (each p shapes things constants h o) ∙ object_holds o (heaps.object_at h o) refl

  pub holds : (o : ℕ) (kept : List ℕ) (n : Option ℕ) → things.kept ≡ kept → n ≡ place_in kept (place_held h o)
      → n ≡ kept_in (object_at (store_by p shapes things constants h) o)
  holds o kept n are is = is ∙ ap (λ xs. place_in xs (place_held h o)) (sym are) ∙ sym (held o)

-- ---- the context that is given

pub null_gives : (s : Store ℕ) (o : ℕ) → o ≡ 0 → Some None ≡ given s (Ref o)
null_gives s o is = rw is refl

pub one_gives : (s : Store ℕ) (o : ℕ) (n : Option ℕ) → (o ≡ 0 → ⊥) → n ≡ kept_in (object_at s o) → option_map Some n ≡ given s (Ref o)
one_gives s zero n some is = absurd (some refl)
one_gives s (suc o) n some is = ap (option_map Some) is
