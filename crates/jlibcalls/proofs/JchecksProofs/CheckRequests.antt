-- What a check asks.
use Rattle.std.proofs.Common.{◌≡◌, ◌∙◌, ℕ, zero, suc, List, Option, Some, None, refl, sym, ap}
use Rattle.std.specs.Prelude.{option_map, slice_get}
use Rattle.jperm.specs.declared.permission.Permission as perms
use Rattle.jmemory.specs.declared.jheap.cell.Kind.{Kind}
use Rattle.jmemory.specs.declared.jheap.cell.Kind.TheVariants as kinds
use Rattle.jmemory.specs.jheap.Heaps as heaps
use Rattle.jmemory.specs.jheap.Heaps.{Heaped}
use Rattle.jlib.specs.declared.classes.LibClass.TheVariants as lib
use Rattle.jresolution.specs.declared.jprogram.part.ClassRef.{ClassRef}
use Rattle.jresolution.specs.declared.jprogram.part.ClassRef.TheVariants as refs
use Rattle.jresolution.specs.jprogram.ProgramClasses.{Program}
use Rattle.jdomain.specs.declared.verdict.Verdict.{Verdict}
use Rattle.jvalues.specs.declared.jops.value.Value.TheVariants.{Ref}
use Rattle.jsemantics.specs.jmachine.Security.{checked, judged, permission_in}
use Rattle.jsemantics.specs.jmachine.InstructionSites.{Site}
use Rattle.jsemantics.specs.jmachine.Store.{Store, object_at}
use Rattle.jruntime.specs.declared.jstate.shapes.Shape.{Shape}
use Rattle.jruntime.specs.declared.jstate.shapes.Shapes.{Shapes}
use Rattle.jruntime.specs.jstate.ClassNumbers.{class_numbered}
use Rattle.jruntime.specs.jstate.HeapMeanings.{Things, class_by, kind_by, object_by, place_in, store_by, user_by}
use Rattle.jruntime.specs.jstate.HeapMeaningLaws.{SeesEach}
use Rattle.jrows.specs.jcalls.Readiness.{needed}
use Rattle.jlibcalls.specs.jchecks.PermissionQueries.{number_by, number_held, number_of}

module _ (p : Program) (shapes : Shapes) (objects : List heaps.Object) (things : Things) where
  user_holds : (i : ℕ) (shape : Option Shape) (cells : List ℕ) → permission_in (Some (user_by i shape cells)) ≡ None
  user_holds i None cells = refl
  user_holds i (Some shape) cells = refl

  class_holds : (c : ClassRef) (cells : List ℕ) → permission_in (Some (class_by shapes objects things c cells)) ≡ place_in things.permissions (number_by (needed c) cells)
  class_holds (refs.User i) cells = user_holds i (slice_get shapes.users i) cells
  class_holds (refs.Lib (lib.Thrown c)) cells = refl
  class_holds (refs.Lib lib.AccessControlException) cells = refl
  class_holds (refs.Lib lib.String) cells = refl
  class_holds (refs.Lib lib.StringBuilder) cells = refl
  class_holds (refs.Lib (lib.Permission c)) cells = refl
  class_holds (refs.Lib lib.AccessControlContext) cells = refl
  class_holds (refs.Lib lib.Thread) cells = refl
  class_holds (refs.Lib lib.Object) cells = refl
  class_holds (refs.Lib lib.System) cells = refl
  class_holds (refs.Lib lib.PrintStream) cells = refl
  class_holds (refs.Lib lib.Void) cells = refl
  class_holds (refs.Lib lib.Cloneable) cells = refl
  class_holds (refs.Lib lib.Serializable) cells = refl
  class_holds (refs.Lib lib.Runnable) cells = refl
  class_holds (refs.Lib lib.PrivilegedAction) cells = refl
  class_holds (refs.Lib lib.AccessController) cells = refl
  class_holds (refs.Lib lib.Rt) cells = refl
  class_holds (refs.Lib lib.Ctx) cells = refl

  kind_holds : (kind : Kind) (cells : List ℕ) → permission_in (Some (kind_by p shapes objects things kind cells)) ≡ place_in things.permissions (number_of kind cells)
  kind_holds (kinds.Object n) cells = class_holds (class_numbered n) cells
  kind_holds (kinds.Array a) cells = refl
  kind_holds kinds.Text cells = refl
  kind_holds kinds.Piece cells = refl

  object_holds : (x : Option heaps.Object) → permission_in (option_map (object_by p shapes objects things) x) ≡ place_in things.permissions (number_held x)
  object_holds None = refl
  object_holds (Some x) = kind_holds x.kind x.cells

-- the permission that the object of a number holds
holds : SeesEach → (p : Program) (shapes : Shapes) (things : Things) (constants : List (List ℕ × ℕ)) (h : Heaped) (o : ℕ)
    → permission_in (object_at (store_by p shapes things constants h) o) ≡ place_in things.permissions (number_held (heaps.object_at h o))
holds each p shapes things constants h o = ap permission_in (each p shapes things constants h o) ∙ object_holds p shapes h.objects things (heaps.object_at h o)

module _ (E : Type 0) (each : SeesEach) (p : Program) (shapes : Shapes) (things : Things) (constants : List (List ℕ × ℕ)) (h : Heaped) (ps : List perms.Permission)
    (kept : things.permissions ≡ ps) where
  abbrev known : Store ℕ
  known = store_by p shapes things constants h

  held : (o : ℕ) → permission_in (object_at known o) ≡ place_in ps (number_held (heaps.object_at h o))
  held o = holds each p shapes things constants h o ∙ ap (λ xs. place_in xs (number_held (heaps.object_at h o))) kept

  pub asks_one : (o : ℕ) (one : perms.Permission) → (o ≡ 0 → ⊥) → Some one ≡ place_in ps (number_held (heaps.object_at h o))
      → (at : Site) (verdict : perms.Permission → Verdict) → checked {E = E} at known verdict (Ref o) ≡ Some (judged known at.thread one (verdict one))
  asks_one zero one some is at verdict = absurd (some refl)
  asks_one (suc o) one some is at verdict = ap (option_map (λ asked. judged known at.thread asked (verdict asked))) (held (suc o) ∙ sym is)
