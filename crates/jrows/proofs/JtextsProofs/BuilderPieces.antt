-- The pieces of a builder, one behind the other.
use Rattle.std.proofs.Common.{◌≡◌, ◌∙◌, ℕ, zero, suc, ◌<◌, List, [], ◌∷◌, ◌++◌, Option, Some, None, refl, sym, ap, arith}
use Rattle.std.specs.Prelude.{slice_get, is_some, reverse, true}
use Rattle.std.proofs.lemmas.List.{reverse-append}
use Rattle.jmemory.specs.declared.jheap.cell.Kind.{Kind}
use Rattle.jmemory.specs.declared.jheap.cell.Kind.TheVariants as kinds
use Rattle.jmemory.specs.jheap.Heaps as heaps
use Rattle.jmemory.specs.jheap.Heaps.{Heaped, before_at, cells_at}
use Rattle.jruntime.specs.jstate.HeapMeanings.{AreBuilt, built, built_at, built_by, units_of}
use Rattle.jruntime.specs.jstate.HeapMeaningLaws.{IsEnough}
use Rattle.jrows.specs.jtexts.HeapBuilders.{AreThere, behind, piece_found, piece_number}
use Rattle.jrows.proofs.JtextsProofs.BuilderRows.{no_front}

-- a piece that is there
pub record IsPiece (h : Heaped) (o : ℕ) : Type 0 where
  pub place : ℕ
  pub object : heaps.Object
  pub number : o ≡ suc place
  pub at : slice_get h.objects place ≡ Some object
  pub kind : object.kind ≡ kinds.Piece

-- the pieces so far, the oldest first, stand behind the next one
abbrev pub Gathers : Heaped → ℕ → Option ℕ → List ℕ → Type 0
Gathers h last None newer = (behind h [] newer ≡ built h.objects last) × AreThere h newer
Gathers h last (Some o) newer = IsPiece h o × (behind h (built h.objects o) newer ≡ built h.objects last) × AreThere h newer

abbrev pub steps_left : Option ℕ → ℕ
steps_left None = 0
steps_left (Some o) = suc o

built_is : (objects : List heaps.Object) (o : ℕ) (x : Option heaps.Object) → slice_get objects o ≡ x → built objects (suc o) ≡ built_at x (built_by o objects)
unfolding built_by
built_is objects o x at = ap (λ y. built_at y (built_by o objects)) at

-- what comes next, behind which the pieces so far stand
module _ (h : Heaped) (last : ℕ) (next : Option ℕ) (newer : List ℕ) (all : AreThere h newer) where
  -- there is no piece
  ends : (o : ℕ) → next ≡ None → built h.objects o ≡ [] → behind h (built h.objects o) newer ≡ built h.objects last → Gathers h last next newer
  ends o none nothing whole = rw none (ap (λ front. behind h front newer) (sym nothing) ∙ whole, all)

  by_kind : (o : ℕ) (x : heaps.Object) (kind : Kind) → x.kind ≡ kind → slice_get h.objects o ≡ Some x → next ≡ piece_number h (suc o)
      → behind h (built h.objects (suc o)) newer ≡ built h.objects last → Gathers h last next newer
  by_kind o x kinds.Piece kind at is whole =
      let here : next ≡ Some (suc o) = is ∙ rw (at, kind) refl in
      rw here (record { place = o; object = x; number = refl; at = at; kind = kind }, whole, all)
  by_kind o x (kinds.Object n) kind at is whole = ends (suc o) (is ∙ rw (at, kind) refl) (built_is h.objects o (Some x) at ∙ rw kind refl) whole
  by_kind o x (kinds.Array n) kind at is whole = ends (suc o) (is ∙ rw (at, kind) refl) (built_is h.objects o (Some x) at ∙ rw kind refl) whole
  by_kind o x kinds.Text kind at is whole = ends (suc o) (is ∙ rw (at, kind) refl) (built_is h.objects o (Some x) at ∙ rw kind refl) whole

  found : (o : ℕ) (x : Option heaps.Object) → slice_get h.objects o ≡ x → next ≡ piece_number h (suc o)
      → behind h (built h.objects (suc o)) newer ≡ built h.objects last
      → Gathers h last next newer
  found o None at is whole = ends (suc o) (is ∙ rw at refl) (built_is h.objects o None at) whole
  found o (Some x) at is whole = by_kind o x x.kind refl at is whole

  gathers : (o : ℕ) → next ≡ piece_number h o → behind h (built h.objects o) newer ≡ built h.objects last → Gathers h last next newer
  gathers zero is whole = ends zero is (no_front h.objects) whole
  gathers (suc o) is whole = found o (slice_get h.objects o) refl is whole

pub begins : (h : Heaped) (last : ℕ) (next : Option ℕ) (pieces : List ℕ) → next ≡ piece_number h last → pieces ≡ [] → Gathers h last next (reverse pieces)
begins h last next pieces is none = rw none (gathers h last next [] tt last is refl)

-- what a piece holds is what stands in front of it, and its own units
piece_built : IsEnough → (h : Heaped) (o b : ℕ) → AreBuilt h.objects → IsPiece h o → Some b ≡ before_at h o
    → built h.objects o ≡ built h.objects b ++ units_of (cells_at h o)
piece_built enough h o b all it is =
    let low = all.backward it.place it.object it.at in
    let named : Some b ≡ Some it.object.before = rw (it.number, it.at) at is in
    let same : b ≡ it.object.before = cc in
    let one : built h.objects (suc it.place) ≡ built_by it.place h.objects it.object.before ++ units_of it.object.cells =
    built_is h.objects it.place (Some it.object) it.at ∙ rw it.kind refl in
    let front = enough h.objects all it.place it.object.before low in
    rw (it.number, it.at, same) (one ∙ ap (λ us. us ++ units_of it.object.cells) front)

pub is_there : (h : Heaped) (o : ℕ) → IsPiece h o → is_some (heaps.object_at h o) ≡ true
is_there h o it = rw (it.number, it.at) refl

pub gathers_on : IsEnough → (h : Heaped) (last o b : ℕ) (next : Option ℕ) (pieces more : List ℕ) → AreBuilt h.objects → Gathers h last (Some o) (reverse pieces)
    → Some b ≡ before_at h o → next ≡ piece_number h b
    → more ≡ pieces ++ o ∷ [] → Gathers h last next (reverse more)
gathers_on enough h last o b next pieces more all (it, whole, there) is found pushed =
    let turned : reverse more ≡ o ∷ reverse pieces = ap reverse pushed ∙ reverse-append pieces (o ∷ []) in
    let front = ap (λ us. behind h us (reverse pieces)) (sym (piece_built enough h o b all it is)) in
    rw turned (gathers h last next (o ∷ reverse pieces) (is_there h o it, there) b found (front ∙ whole))

pub gathers_fewer : (h : Heaped) (o b : ℕ) (was next : Option ℕ) → AreBuilt h.objects → was ≡ Some o → IsPiece h o → Some b ≡ before_at h o
    → next ≡ piece_number h b → steps_left next < steps_left was
gathers_fewer h o b was next all now it is found = rw now (fewer next (heaps.kind_at h b) found)
  where
    low : b < o
    low =
        let back = all.backward it.place it.object it.at in
        let named : Some b ≡ Some it.object.before = rw (it.number, it.at) at is in
        let same : b ≡ it.object.before = cc in
        omega (arith, back, same, it.number)

    fewer : (n : Option ℕ) (kind : Option Kind) → n ≡ piece_found b kind → steps_left n < suc o
    fewer n None e = rw e (omega arith)
    fewer n (Some kinds.Piece) e = rw e (omega (arith, low))
    fewer n (Some (kinds.Object c)) e = rw e (omega arith)
    fewer n (Some (kinds.Array a)) e = rw e (omega arith)
    fewer n (Some kinds.Text) e = rw e (omega arith)
