-- What a cell that is written changes.
use Rattle.std.proofs.Common.{◌≡◌, ◌∙◌, ℕ, zero, suc, List, [], ◌∷◌, length, map, Some, inl, inr, refl, ap, ap₂}
use Rattle.std.specs.Prelude.{slice_get, slice_set}
use Rattle.std.proofs.lemmas.List.{drop-set-lt}
use Rattle.std.proofs.lemmas.Option.{slice_get_within}
use Rattle.jmemory.specs.declared.jheap.cell.CellType.{CellType}
use Rattle.jmemory.specs.declared.jheap.cell.Kind.{Kind}
use Rattle.jmemory.specs.declared.jheap.cell.Kind.TheVariants as kinds
use Rattle.jmemory.specs.jheap.Heaps as heaps
use Rattle.jmemory.specs.jheap.Heaps.{changed}
use Rattle.jmemory.specs.jheap.RawValues.{of_raw}
use Rattle.jvalues.specs.declared.jops.value.Value.{Value}
use Rattle.jresolution.specs.jprogram.ProgramClasses.{Program}
use Rattle.jsemantics.specs.jmachine.HeapObjects.{Object, Instance, Array}
use Rattle.jresolution.specs.juses.InternedTypes.{array_named}
use Rattle.jruntime.specs.declared.jstate.shapes.Shapes.{Shapes}
use Rattle.jruntime.specs.jstate.ClassNumbers.{class_numbered}
use Rattle.jruntime.specs.jstate.HeapMeanings.{Things, built_at, built_by, first, item_type, kind_by, message_by, named_by, object_by, objects_by, piece_units, values_of}
use Rattle.jruntime.specs.jstate.HeapMeaningLaws.{IsNoPiece, Reads, ReadsNone, Writes, WritesField, WritesItem, WritesStatic, with_number}
use Rattle.jruntime.proofs.JstateProofs.HeapAbstraction.{class_alike, front_same}
use Rattle.jruntime.proofs.JguestsProofs.ThreadLists.{map_set}

-- ---- pieces stay

no_units : (kind : Kind) → IsNoPiece kind → (front cells : List ℕ) → piece_units kind front cells ≡ []
no_units (kinds.Object n) h front cells = refl
no_units (kinds.Array n) h front cells = refl
no_units kinds.Text h front cells = refl
no_units kinds.Piece h front cells = elim h [ ]

module _ (i n : ℕ) where
  at_kept : (xs : List heaps.Object) (o : ℕ) (x : heaps.Object) → slice_get xs o ≡ Some x → IsNoPiece x.kind → (k : ℕ) (front : ℕ → List ℕ)
      → built_at (slice_get (changed (with_number i n) o xs) k) front ≡ built_at (slice_get xs k) front
  at_kept [] o x is none k front = refl
  at_kept (y ∷ xs) zero x is none zero front = let e : y ≡ x = cc in rw (e, no_units x.kind none (front x.before) (slice_set x.cells i n), no_units x.kind none (front x.before) x.cells) refl
  at_kept (y ∷ xs) zero x is none (suc k) front = refl
  at_kept (y ∷ xs) (suc o) x is none zero front = refl
  at_kept (y ∷ xs) (suc o) x is none (suc k) front = at_kept xs o x is none k front

  built_kept : (xs : List heaps.Object) (o : ℕ) (x : heaps.Object) → slice_get xs o ≡ Some x → IsNoPiece x.kind → (most k : ℕ)
      → built_by most (changed (with_number i n) o xs) k ≡ built_by most xs k
  unfolding built_by
  built_kept xs o x is none zero k = refl
  built_kept xs o x is none (suc most) zero = refl
  built_kept xs o x is none (suc most) (suc k) =
      at_kept xs o x is none k (built_by most (changed (with_number i n) o xs))
      ∙ front_same (slice_get xs k) (built_by most (changed (with_number i n) o xs)) (built_by most xs) (λ before. built_kept xs o x is none most before)

  module _ (p : Program) (shapes : Shapes) (things : Things) where
    kind_kept : (xs : List heaps.Object) (o : ℕ) (x : heaps.Object) → slice_get xs o ≡ Some x → IsNoPiece x.kind → (kind : Kind) (cells : List ℕ)
        → kind_by p shapes (changed (with_number i n) o xs) things kind cells ≡ kind_by p shapes xs things kind cells
    kind_kept xs o x is none (kinds.Object m) cells =
        class_alike p shapes things (changed (with_number i n) o xs) xs (class_numbered m) cells (λ _. built_kept xs o x is none (named_by (first cells)) (named_by (first cells)))
    kind_kept xs o x is none (kinds.Array m) cells = refl
    kind_kept xs o x is none kinds.Text cells = refl
    kind_kept xs o x is none kinds.Piece cells = refl

    map_kept : (f g : heaps.Object → Object ℕ) → ((y : heaps.Object) → f y ≡ g y) → (xs : List heaps.Object) (o : ℕ) (x : heaps.Object) → slice_get xs o ≡ Some x
        → map f (changed (with_number i n) o xs) ≡ slice_set (map g xs) o (g (with_number i n x))
    map_kept f g alike [] o x is = cc
    map_kept f g alike (y ∷ xs) zero x is = let e : y ≡ x = cc in rw e (ap₂ (λ z zs. z ∷ zs) (alike (with_number i n x)) (map_alike xs))
      where
        map_alike : (zs : List heaps.Object) → map f zs ≡ map g zs
        map_alike [] = refl
        map_alike (z ∷ zs) = ap₂ (λ v vs. v ∷ vs) (alike z) (map_alike zs)
    map_kept f g alike (y ∷ xs) (suc o) x is = ap₂ (λ z zs. z ∷ zs) (alike y) (map_kept f g alike xs o x is)

pub writes : Writes
writes p shapes things constants h zero i n x is none = refl
writes p shapes things constants h (suc o) i n x is none =
    let xs = h.objects in
    let alike = λ (y : heaps.Object). kind_kept i n p shapes things xs o x is none y.kind y.cells in
    ap (λ (os : List (Object ℕ)). record { objects = os; statics = values_of shapes.statics h.statics; constants = constants; left = h.left })
    (map_kept i n p shapes things (object_by p shapes (changed (with_number i n) o xs) things) (object_by p shapes xs things) alike xs o x is)

-- ---- fields and items

values_set : (types : List CellType) (cells : List ℕ) (i n : ℕ) (t : CellType) → slice_get types i ≡ Some t → values_of types (slice_set cells i n) ≡ slice_set (values_of types cells) i (of_raw t n)
unfolding values_of
values_set [] cells i n t is = cc
values_set (s ∷ types) [] i n t is = refl
values_set (s ∷ types) (m ∷ cells) zero n t is = let e : s ≡ t = cc in rw e refl
values_set (s ∷ types) (m ∷ cells) (suc i) n t is = ap (λ vs. of_raw s m ∷ vs) (values_set types cells i n t is)

pub writes_static : WritesStatic
writes_static p shapes things constants h i n t is =
    ap (λ (vs : List (Value ℕ)). record { objects = objects_by p shapes things h.objects; statics = vs; constants = constants; left = h.left })
    (values_set shapes.statics h.statics i n t is)

pub reads : Reads
unfolding values_of
reads [] cells i n t is there = cc
reads (s ∷ types) [] i n t is there = cc
reads (s ∷ types) (m ∷ cells) zero n t is there = let type : s ≡ t = cc in let cell : m ≡ n = cc in rw (type, cell) refl
reads (s ∷ types) (m ∷ cells) (suc i) n t is there = reads types cells i n t is there

pub reads_none : ReadsNone
unfolding values_of
reads_none [] cells i none = refl
reads_none (s ∷ types) [] i none = refl
reads_none (s ∷ types) (m ∷ cells) zero (inl none) = cc
reads_none (s ∷ types) (m ∷ cells) zero (inr none) = cc
reads_none (s ∷ types) (m ∷ cells) (suc i) none = reads_none types cells i none

pub writes_field : WritesField
writes_field c i n t shape cells is =
    let there = slice_get_within shape.cells i t is in
    ap₂ (λ (rest : List ℕ) (vs : List (Value ℕ)). Instance c (message_by shape.message rest) vs) (drop-set-lt (length shape.cells) cells i n there) (values_set shape.cells cells i n t is)

pub writes_item : WritesItem
writes_item p a cells i n = ap (Array (array_named p a)) (map_set (of_raw (item_type a)) cells i n)
