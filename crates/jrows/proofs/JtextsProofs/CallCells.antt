-- The cells that calls want are there.
use Rattle.std.proofs.Common.{◌≡◌, ◌∙◌, ℕ, ◌<◌, Bool, true, false, List, length, Option, Some, None, refl, ap, arith}
use Rattle.std.specs.Prelude.{option_map, slice_get, if◌then◌else◌}
use Rattle.jmemory.specs.declared.jheap.cell.Kind.{Kind}
use Rattle.jmemory.specs.declared.jheap.cell.Kind.TheVariants as kinds
use Rattle.jmemory.specs.jheap.Heaps as heaps
use Rattle.jmemory.specs.jheap.Heaps.{Heaped, kind_at, object_at}
use Rattle.jlib.specs.declared.classes.LibClass.{LibClass}
use Rattle.jlib.specs.declared.classes.LibClass.TheVariants as lib
use Rattle.jvalues.specs.declared.jops.value.Value.TheVariants.{Ctx, Int, Long, Ref}
use Rattle.jresolution.specs.declared.jprogram.part.ClassRef.{ClassRef}
use Rattle.jresolution.specs.declared.jprogram.part.ClassRef.TheVariants as refs
use Rattle.jruntime.specs.declared.jstate.shapes.Shape.{Shape}
use Rattle.jruntime.specs.declared.jstate.shapes.Shapes.{Shapes}
use Rattle.jruntime.specs.jstate.ObjectCells.{AreCelled, HasWanted, cells_in, cells_of, class_cells}
use Rattle.jruntime.specs.jstate.ClassNumbers.{class_numbered}
use Rattle.jruntime.specs.jstate.HeapMeanings.{first, named_by}
use Rattle.jrows.specs.jtexts.HeapBuilders.{LastFollows}
use Rattle.jrows.specs.jtexts.Messages.{IsCell, MayTell, TellFollows, ToldFollows, has_message, kind_place, kind_told, may_tell, object_told, place_by, shape_place, told_by}
use Rattle.jrows.proofs.JtextsProofs.BuilderRows.{is_builder_at}

-- ---- builders

pub last_follows : HasWanted → LastFollows
last_follows has shapes h v all b e =
    let it = is_builder_at h v b e in
    let kind : kind_at h b ≡ Some (kinds.Object 33) = ap (option_map (λ (x : heaps.Object). x.kind)) it.at ∙ ap (λ k. Some k) it.kind in
    has shapes h b 0 1 (kinds.Object 33) all kind refl (omega arith)

-- ---- messages

one_told : (c : LibClass) → has_message c ≡ true → cells_of c ≡ 1
one_told (lib.Thrown c) has = refl
one_told lib.AccessControlException has = refl
one_told (lib.Permission c) has = cc
one_told lib.Object has = cc
one_told lib.String has = cc
one_told lib.StringBuilder has = cc
one_told lib.System has = cc
one_told lib.PrintStream has = cc
one_told lib.Void has = cc
one_told lib.Cloneable has = cc
one_told lib.Serializable has = cc
one_told lib.Runnable has = cc
one_told lib.Thread has = cc
one_told lib.PrivilegedAction has = cc
one_told lib.AccessController has = cc
one_told lib.AccessControlContext has = cc
one_told lib.Rt has = cc
one_told lib.Ctx has = cc

module _ (has : HasWanted) (shapes : Shapes) (h : Heaped) (o : ℕ) (all : AreCelled shapes h.objects) (may : MayTell shapes h o) where
  module _ (n : ℕ) (at : kind_at h o ≡ Some (kinds.Object n)) where
    library_cell : (c : LibClass) → class_numbered n ≡ refs.Lib c → (b : Bool) → has_message c ≡ b → (m told : ℕ) → (if b then Some m else None) ≡ Some told
        → IsCell h o (if b then Some 0 else None)
    library_cell c is true tells m told e =
        has shapes h o 0 1 (kinds.Object n) all at (ap (class_cells shapes) is ∙ ap (λ k. Some k) (one_told c tells)) (omega arith)
    library_cell c is false tells m told e = cc

    message_cell : (shape : Shape) (b : Bool) → shape.message ≡ b → b ≡ true → class_cells shapes (class_numbered n) ≡ Some (cells_in shape)
        → IsCell h o (if b then Some (length shape.cells) else None)
    message_cell shape true message tells wants =
        let behind : length shape.cells < cells_in shape = rw message (omega arith) in
        has shapes h o (length shape.cells) (cells_in shape) (kinds.Object n) all at wants behind
    message_cell shape false message tells wants = cc

    user_cell : (i : ℕ) → class_numbered n ≡ refs.User i → (x : Option Shape) → slice_get shapes.users i ≡ x → may_tell x ≡ true → IsCell h o (shape_place x)
    user_cell i is None shaped tells = cc
    user_cell i is (Some shape) shaped tells =
        message_cell shape shape.message refl tells (ap (class_cells shapes) is ∙ ap (option_map cells_in) shaped)

    class_cell : (c : ClassRef) → class_numbered n ≡ c → (cells : List ℕ) (told : ℕ) → told_by shapes c cells ≡ Some told → IsCell h o (place_by shapes c)
    class_cell (refs.User i) is cells told e = user_cell i is (slice_get shapes.users i) refl (may n i at is)
    class_cell (refs.Lib c) is cells told e = library_cell c is (has_message c) refl (named_by (first cells)) told e

  kind_cell : (kind : Kind) → kind_at h o ≡ Some kind → (cells : List ℕ) (told : ℕ) → kind_told shapes kind cells ≡ Some told → IsCell h o (kind_place shapes (Some kind))
  kind_cell (kinds.Object n) at cells told e = class_cell n at (class_numbered n) refl cells told e
  kind_cell (kinds.Array n) at cells told e = cc
  kind_cell kinds.Text at cells told e = cc
  kind_cell kinds.Piece at cells told e = cc

  object_cell : (x : Option heaps.Object) → object_at h o ≡ x → (told : ℕ) → object_told shapes x ≡ Some told → IsCell h o (kind_place shapes (option_map (λ (y : heaps.Object). y.kind) x))
  object_cell None at told e = cc
  object_cell (Some x) at told e = kind_cell x.kind (ap (option_map (λ (y : heaps.Object). y.kind)) at) x.cells told e

pub tell_follows : HasWanted → TellFollows
tell_follows has shapes h o all may told e = object_cell has shapes h o all may (object_at h o) refl told e

pub told_follows : HasWanted → ToldFollows
told_follows has shapes h (Ref o) all may = tell_follows has shapes h o all may
told_follows has shapes h (Int x) all may = tt
told_follows has shapes h (Long x) all may = tt
told_follows has shapes h (Ctx x) all may = tt
