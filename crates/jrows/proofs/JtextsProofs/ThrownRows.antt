-- Messages.
use Rattle.std.proofs.Common.{◌≡◌, ◌∙◌, ℕ, zero, suc, List, [], ◌∷◌, drop, Option, Some, None, refl, sym, ap}
use Rattle.std.specs.Prelude.{option_map, slice_get, unwrap_or}
use Rattle.jvalues.specs.declared.jops.value.Value.{Value}
use Rattle.jvalues.specs.declared.jops.value.Value.TheVariants.{Int, Long, Ref, Ctx}
use Rattle.jmemory.specs.declared.jheap.cell.Kind.{Kind}
use Rattle.jmemory.specs.declared.jheap.cell.Kind.TheVariants as kinds
use Rattle.jmemory.specs.jheap.Heaps as heaps
use Rattle.jmemory.specs.jheap.Heaps.{Heaped}
use Rattle.jlib.specs.declared.classes.LibClass.TheVariants as lib
use Rattle.jresolution.specs.declared.jprogram.part.ClassRef.{ClassRef}
use Rattle.jresolution.specs.declared.jprogram.part.ClassRef.TheVariants as refs
use Rattle.jresolution.specs.jprogram.ProgramClasses.{Program}
use Rattle.jsemantics.specs.ProofNames.{object_init}
use Rattle.jsemantics.specs.jmachine.Store.{Store, object_at}
use Rattle.jsemantics.specs.jmachine.Throwables.{message, message_of}
use Rattle.jruntime.specs.declared.jstate.shapes.Shape.{Shape}
use Rattle.jruntime.specs.declared.jstate.shapes.Shapes.{Shapes}
use Rattle.jruntime.specs.jstate.ClassNumbers.{class_numbered}
use Rattle.jruntime.specs.jstate.HeapMeanings.{Things, class_by, first, kind_by, object_by, store_by, user_by}
use Rattle.jruntime.specs.jstate.HeapMeaningLaws.{SeesEach}
use Rattle.jrows.specs.jtexts.Messages.{kind_told, message_by_shape, message_named, object_told, told_by}
use Rattle.jrows.specs.jtexts.TextCallOutcomes.{Comes, leaves}
use Rattle.jrows.specs.declared.jtexts.ran.Ran.TheVariants as rans
use Rattle.jrows.proofs.JtextsProofs.Costs.{at_no_cost}

pub init_row : (E : Type 0) (s : Store ℕ) (v : Value ℕ) → Comes {E = E} s (object_init s (v ∷ [])) (leaves rans.Went [] s)
init_row E s v = at_no_cost s s rans.Went [] (leaves rans.Full [] s)

-- ---- what the definition sees

module _ (p : Program) (shapes : Shapes) (things : Things) (objects : List heaps.Object) where
  user_told : (i : ℕ) (o : Option Shape) (cells : List ℕ) → message_of (Some (user_by i o cells)) ≡ Some (message_by_shape o cells)
  user_told i None cells = refl
  user_told i (Some shape) cells = refl

  class_told : (c : ClassRef) (cells : List ℕ) → message_of (Some (class_by shapes objects things c cells)) ≡ told_by shapes c cells
  class_told (refs.User i) cells = user_told i (slice_get shapes.users i) cells
  class_told (refs.Lib (lib.Thrown c)) cells = refl
  class_told (refs.Lib lib.AccessControlException) cells = refl
  class_told (refs.Lib lib.String) cells = refl
  class_told (refs.Lib lib.StringBuilder) cells = refl
  class_told (refs.Lib (lib.Permission c)) cells = refl
  class_told (refs.Lib lib.AccessControlContext) cells = refl
  class_told (refs.Lib lib.Thread) cells = refl
  class_told (refs.Lib lib.Object) cells = refl
  class_told (refs.Lib lib.System) cells = refl
  class_told (refs.Lib lib.PrintStream) cells = refl
  class_told (refs.Lib lib.Void) cells = refl
  class_told (refs.Lib lib.Cloneable) cells = refl
  class_told (refs.Lib lib.Serializable) cells = refl
  class_told (refs.Lib lib.Runnable) cells = refl
  class_told (refs.Lib lib.PrivilegedAction) cells = refl
  class_told (refs.Lib lib.AccessController) cells = refl
  class_told (refs.Lib lib.Rt) cells = refl
  class_told (refs.Lib lib.Ctx) cells = refl

  kind_is_told : (kind : Kind) (cells : List ℕ) → message_of (Some (kind_by p shapes objects things kind cells)) ≡ kind_told shapes kind cells
  kind_is_told (kinds.Object n) cells = class_told (class_numbered n) cells
  kind_is_told (kinds.Array a) cells = refl
  kind_is_told kinds.Text cells = refl
  kind_is_told kinds.Piece cells = refl

  object_is_told : (x : Option heaps.Object) → message_of (option_map (object_by p shapes objects things) x) ≡ object_told shapes x
  object_is_told None = refl
  object_is_told (Some x) = kind_is_told x.kind x.cells

-- ---- getMessage

module _ (E : Type 0) (s : Store ℕ) where
  message_gives : (o m : ℕ) → message_of (object_at s o) ≡ Some m → Comes {E = E} s (message s (Ref o ∷ [])) (leaves (rans.Gave (Ref m)) [] s)
  unfolding message
  message_gives o m e = rw e (at_no_cost s s (rans.Gave (Ref m)) [] (leaves rans.Full [] s))

  message_none : (o : ℕ) → message_of (object_at s o) ≡ None → Comes {E = E} s (message s (Ref o ∷ [])) (leaves rans.Stuck [] s)
  unfolding message
  message_none o e = rw e refl

module _ (E : Type 0) (each : SeesEach) (shapes : Shapes) (h : Heaped) (p : Program) (things : Things) (constants : List (List ℕ × ℕ)) where
  abbrev known : Store ℕ
  known = store_by p shapes things constants h

  pub sees : (o : ℕ) → message_of (object_at known o) ≡ object_told shapes (heaps.object_at h o)
  sees o = ap message_of (each p shapes things constants h o) ∙ object_is_told p shapes things h.objects (heaps.object_at h o)

  pub message_some : (v : Value ℕ) (m : ℕ) → Some m ≡ message_named shapes h v → Comes {E = E} known (message known (v ∷ [])) (leaves (rans.Gave (Ref m)) [] known)
  message_some (Ref o) m e = message_gives E known o m (sees o ∙ sym e)
  message_some (Int x) m e = cc
  message_some (Long x) m e = cc
  message_some (Ctx k) m e = cc

  pub message_stuck : (v : Value ℕ) → None ≡ message_named shapes h v → Comes {E = E} known (message known (v ∷ [])) (leaves rans.Stuck [] known)
  unfolding message
  message_stuck (Ref o) e = message_none E known o (sees o ∙ sym e)
  message_stuck (Int x) e = refl
  message_stuck (Long x) e = refl
  message_stuck (Ctx k) e = refl

-- ---- cells

pub first_drop : (cells : List ℕ) (i : ℕ) → first (drop i cells) ≡ unwrap_or (slice_get cells i) 0
first_drop [] zero = refl
first_drop [] (suc i) = refl
first_drop (c ∷ cells) zero = refl
first_drop (c ∷ cells) (suc i) = first_drop cells i

abbrev pub number_in : Value ℕ → ℕ
number_in (Ref n) = n
number_in v = 0
