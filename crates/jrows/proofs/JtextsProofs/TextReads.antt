-- Texts of the heap, and what the machine's definition sees of them.
use Rattle.std.proofs.Common.{◌≡◌, ◌∙◌, ℕ, List, Option, Some, None, refl, sym, ap}
use Rattle.std.specs.Prelude.{is_some, true, option_map, slice_get}
use Rattle.jvalues.specs.declared.jops.value.Value.{Value}
use Rattle.jvalues.specs.declared.jops.value.Value.TheVariants.{Int, Long, Ref, Ctx}
use Rattle.jmemory.specs.declared.jheap.cell.Kind.{Kind}
use Rattle.jmemory.specs.declared.jheap.cell.Kind.TheVariants as kinds
use Rattle.jmemory.specs.jheap.Heaps as heaps
use Rattle.jmemory.specs.jheap.Heaps.{Heaped, cells_at}
use Rattle.jlib.specs.declared.classes.LibClass.TheVariants as lib
use Rattle.jresolution.specs.declared.jprogram.part.ClassRef.{ClassRef}
use Rattle.jresolution.specs.declared.jprogram.part.ClassRef.TheVariants as refs
use Rattle.jresolution.specs.jprogram.ProgramClasses.{Program}
use Rattle.jsemantics.specs.jmachine.TextCalls as definition
use Rattle.jsemantics.specs.ProofNames
use Rattle.jruntime.specs.declared.jstate.shapes.Shape.{Shape}
use Rattle.jruntime.specs.declared.jstate.shapes.Shapes.{Shapes}
use Rattle.jruntime.specs.jstate.ClassNumbers.{class_numbered}
use Rattle.jruntime.specs.jstate.HeapMeanings.{Things, class_by, kind_by, object_by, store_by, units_of, user_by}
use Rattle.jruntime.specs.jstate.HeapMeaningLaws.{SeesEach}
use Rattle.jrows.specs.jtexts.HeapTexts.{text_found, text_in, text_number, units_as, units_found}

module _ (p : Program) (shapes : Shapes) (things : Things) (objects : List heaps.Object) where
  user_no_text : (i : ℕ) (o : Option Shape) (cells : List ℕ) → ProofNames.units_in (Some (user_by i o cells)) ≡ None
  user_no_text i None cells = refl
  user_no_text i (Some shape) cells = refl

  -- an object of a class has no units
  class_no_text : (c : ClassRef) (cells : List ℕ) → ProofNames.units_in (Some (class_by shapes objects things c cells)) ≡ None
  class_no_text (refs.User i) cells = user_no_text i (slice_get shapes.users i) cells
  class_no_text (refs.Lib (lib.Thrown c)) cells = refl
  class_no_text (refs.Lib lib.AccessControlException) cells = refl
  class_no_text (refs.Lib lib.String) cells = refl
  class_no_text (refs.Lib lib.StringBuilder) cells = refl
  class_no_text (refs.Lib (lib.Permission c)) cells = refl
  class_no_text (refs.Lib lib.AccessControlContext) cells = refl
  class_no_text (refs.Lib lib.Thread) cells = refl
  class_no_text (refs.Lib lib.Object) cells = refl
  class_no_text (refs.Lib lib.System) cells = refl
  class_no_text (refs.Lib lib.PrintStream) cells = refl
  class_no_text (refs.Lib lib.Void) cells = refl
  class_no_text (refs.Lib lib.Cloneable) cells = refl
  class_no_text (refs.Lib lib.Serializable) cells = refl
  class_no_text (refs.Lib lib.Runnable) cells = refl
  class_no_text (refs.Lib lib.PrivilegedAction) cells = refl
  class_no_text (refs.Lib lib.AccessController) cells = refl
  class_no_text (refs.Lib lib.Rt) cells = refl
  class_no_text (refs.Lib lib.Ctx) cells = refl

  kind_units : (kind : Kind) (cells : List ℕ) → ProofNames.units_in (Some (kind_by p shapes objects things kind cells)) ≡ units_as kind cells
  kind_units (kinds.Object n) cells = class_no_text (class_numbered n) cells
  kind_units (kinds.Array a) cells = refl
  kind_units kinds.Text cells = refl
  kind_units kinds.Piece cells = refl

  object_units : (x : Option heaps.Object) → ProofNames.units_in (option_map (object_by p shapes objects things) x) ≡ units_found x
  object_units None = refl
  object_units (Some x) = kind_units x.kind x.cells

-- a value's units are those of the text that it names
pub sees_units : SeesEach → (p : Program) (shapes : Shapes) (things : Things) (constants : List (List ℕ × ℕ)) (h : Heaped) (v : Value ℕ)
    → definition.units (store_by p shapes things constants h) v ≡ text_in h v
sees_units each p shapes things constants h (Int x) = refl
sees_units each p shapes things constants h (Long x) = refl
sees_units each p shapes things constants h (Ctx k) = refl
sees_units each p shapes things constants h (Ref o) =
    ap ProofNames.units_in (each p shapes things constants h o) ∙ object_units p shapes things h.objects (heaps.object_at h o)

-- ---- the number of a text

pub record IsText (h : Heaped) (v : Value ℕ) (o : ℕ) : Type 0 where
  pub is : v ≡ Ref o
  pub units : text_in h v ≡ Some (units_of (cells_at h o))
  pub there : is_some (heaps.object_at h o) ≡ true

kind_here : (h : Heaped) (n : ℕ) (kind : Kind) (cells : List ℕ) (o : ℕ) → Some o ≡ text_found n (Some kind) → (n ≡ o) × (units_as kind cells ≡ Some (units_of cells))
kind_here h n (kinds.Object m) cells o e = cc
kind_here h n (kinds.Array m) cells o e = cc
kind_here h n kinds.Text cells o e = let same : n ≡ o = cc in (same, refl)
kind_here h n kinds.Piece cells o e = cc

pub is_text : (h : Heaped) (v : Value ℕ) (o : ℕ) → Some o ≡ text_number h v → IsText h v o
is_text h (Int x) o e = cc
is_text h (Long x) o e = cc
is_text h (Ctx k) o e = cc
is_text h (Ref n) o e = found (heaps.object_at h n) refl e
  where
    found : (x : Option heaps.Object) → heaps.object_at h n ≡ x → Some o ≡ text_found n (option_map (λ (y : heaps.Object). y.kind) x) → IsText h (Ref n) o
    found None is e = cc
    found (Some x) is e =
        let both = kind_here h n x.kind x.cells o e in
        let at : heaps.object_at h o ≡ Some x = ap (heaps.object_at h) (sym both.0) ∙ is in
        record { is = ap (λ k. Ref k) both.0; units = rw (is, at) both.1; there = rw at refl }

no_kind : (n : ℕ) (kind : Kind) (cells : List ℕ) → None ≡ text_found n (Some kind) → units_as kind cells ≡ None
no_kind n (kinds.Object m) cells e = refl
no_kind n (kinds.Array m) cells e = refl
no_kind n kinds.Text cells e = cc
no_kind n kinds.Piece cells e = refl

pub is_no_text : (h : Heaped) (v : Value ℕ) → None ≡ text_number h v → text_in h v ≡ None
is_no_text h (Int x) e = refl
is_no_text h (Long x) e = refl
is_no_text h (Ctx k) e = refl
is_no_text h (Ref n) e = found (heaps.object_at h n) e
  where
    found : (x : Option heaps.Object) → None ≡ text_found n (option_map (λ (y : heaps.Object). y.kind) x) → units_found x ≡ None
    found None e = refl
    found (Some x) e = no_kind n x.kind x.cells e
