-- The objects of the heap as the machine's definition has them.
use Rattle.std.proofs.Common.{◌≡◌, ◌∙◌, ℕ, zero, suc, ◌-◌, ◌<◌, ◌≤◌, Bool, true, false, List, [], ◌∷◌, ◌++◌, length, map, replicate, Option, Some, None, refl, ap, ap₂, arith}
use Rattle.std.specs.Prelude.{slice_get, option_map, if◌then◌else◌}
use Rattle.std.proofs.lemmas.Option.{slice_get-map}
use Rattle.std.proofs.lemmas.List.{map-append}
use Rattle.jmemory.specs.declared.jheap.cell.Kind.{Kind}
use Rattle.jmemory.specs.declared.jheap.cell.Kind.TheVariants as kinds
use Rattle.jmemory.specs.jheap.Heaps as heaps
use Rattle.jmemory.specs.jheap.Heaps.{Heaped}
use Rattle.std.specs.List.{AllByRecursion}
use Rattle.jlib.specs.declared.classes.LibClass.TheVariants as lib
use Rattle.jresolution.specs.declared.jprogram.part.ClassRef.{ClassRef}
use Rattle.jresolution.specs.declared.jprogram.part.ClassRef.TheVariants as refs
use Rattle.jsemantics.specs.jmachine.HeapObjects.{Object, Builder}
use Rattle.jsemantics.specs.jmachine.Store.{object_at, paid, with_made}
use Rattle.jresolution.specs.jprogram.ProgramClasses.{Program}
use Rattle.jruntime.specs.declared.jstate.shapes.Shapes.{Shapes}
use Rattle.jruntime.specs.jstate.ClassNumbers.{class_numbered}
use Rattle.jruntime.specs.jstate.HeapMeanings.{AreBuilt, NamesWithin, Things, built, built_at, built_by, class_by, first, is_builder, kind_by, last_by, last_of, named_by, object_by, piece_units, store_by, values_of}
use Rattle.jruntime.specs.jstate.HeapMeaningLaws.{AddsOne, IsEnough, KeepsPieces, Makes, MakesOne}

-- the object of a number
pub seen_at : (p : Program) (shapes : Shapes) (things : Things) (constants : List (List ℕ × ℕ)) (h : Heaped) (o : ℕ)
    → object_at (store_by p shapes things constants h) o ≡ option_map (object_by p shapes h.objects things) (heaps.object_at h o)
seen_at p shapes things constants h zero = refl
seen_at p shapes things constants h (suc o) = slice_get-map (object_by p shapes h.objects things) h.objects o

-- ---- builders

abbrev IsBackward : List heaps.Object → Type 0
IsBackward objects = (i : ℕ) (x : heaps.Object) → slice_get objects i ≡ Some x → x.before ≤ i

front_alike : (o : Option heaps.Object) (f g : ℕ → List ℕ) → ((x : heaps.Object) → o ≡ Some x → f x.before ≡ g x.before) → built_at o f ≡ built_at o g
front_alike None f g h = refl
front_alike (Some x) f g h = ap (λ front. piece_units x.kind front x.cells) (h x refl)

pub front_same : (o : Option heaps.Object) (f g : ℕ → List ℕ) → ((before : ℕ) → f before ≡ g before) → built_at o f ≡ built_at o g
front_same o f g h = front_alike o f g (λ x e. h x.before)

-- as many steps as its number are enough
enough : (objects : List heaps.Object) → IsBackward objects → (k m o : ℕ) → o ≤ k → o ≤ m → built_by k objects o ≡ built_by m objects o
unfolding built_by
enough objects back zero zero o h g = refl
enough objects back zero (suc m) zero h g = refl
enough objects back zero (suc m) (suc o) h g = absurd (omega (arith, h))
enough objects back (suc k) zero zero h g = refl
enough objects back (suc k) zero (suc o) h g = absurd (omega (arith, g))
enough objects back (suc k) (suc m) zero h g = refl
enough objects back (suc k) (suc m) (suc o) h g =
    front_alike (slice_get objects o) (built_by k objects) (built_by m objects)
    (λ x e. let low = back o x e in enough objects back k m x.before (omega (arith, low, h)) (omega (arith, low, g)))

-- ---- one more object

front_get : {A : Type 0} (xs ys : List A) (i : ℕ) → i < length xs → slice_get (xs ++ ys) i ≡ slice_get xs i
front_get [] ys i h = absurd (omega (arith, h))
front_get (x ∷ xs) ys zero h = refl
front_get (x ∷ xs) ys (suc i) h = front_get xs ys i (omega (arith, h))

built_more : (objects more : List heaps.Object) → IsBackward objects → (k o : ℕ) → o ≤ length objects → built_by k (objects ++ more) o ≡ built_by k objects o
unfolding built_by
built_more objects more back zero o h = refl
built_more objects more back (suc k) zero h = refl
built_more objects more back (suc k) (suc o) h =
    ap (λ x. built_at x (built_by k (objects ++ more))) (front_get objects more o (omega (arith, h)))
    ∙ front_alike (slice_get objects o) (built_by k (objects ++ more)) (built_by k objects)
    (λ x e. let low = back o x e in built_more objects more back k x.before (omega (arith, low, h)))

-- what is made names no piece
first_zero : (len : ℕ) → first (replicate len 0) ≡ 0
first_zero zero = refl
first_zero (suc len) = refl

pub names_none : (kind : Kind) (len count : ℕ) → last_of kind (replicate len 0) ≤ count
names_none (kinds.Object n) len count = rw (first_zero len) (none (is_builder (class_numbered n)))
  where
    none : (b : Bool) → (if b then 0 else 0) ≤ count
    none true = omega arith
    none false = omega arith
names_none (kinds.Array n) len count = omega arith
names_none kinds.Text len count = omega arith
names_none kinds.Piece len count = omega arith

module _ (p : Program) (shapes : Shapes) (things : Things) where
  -- what an object is depends on other objects by its pieces alone
  pub class_alike : (xs ys : List heaps.Object) (c : ClassRef) (cells : List ℕ) → (is_builder c ≡ true → built xs (named_by (first cells)) ≡ built ys (named_by (first cells)))
      → class_by shapes xs things c cells ≡ class_by shapes ys things c cells
  class_alike xs ys (refs.User i) cells h = refl
  class_alike xs ys (refs.Lib lib.StringBuilder) cells h = ap Builder (h refl)
  class_alike xs ys (refs.Lib (lib.Thrown c)) cells h = refl
  class_alike xs ys (refs.Lib lib.AccessControlException) cells h = refl
  class_alike xs ys (refs.Lib lib.String) cells h = refl
  class_alike xs ys (refs.Lib (lib.Permission c)) cells h = refl
  class_alike xs ys (refs.Lib lib.AccessControlContext) cells h = refl
  class_alike xs ys (refs.Lib lib.Thread) cells h = refl
  class_alike xs ys (refs.Lib lib.Object) cells h = refl
  class_alike xs ys (refs.Lib lib.System) cells h = refl
  class_alike xs ys (refs.Lib lib.PrintStream) cells h = refl
  class_alike xs ys (refs.Lib lib.Void) cells h = refl
  class_alike xs ys (refs.Lib lib.Cloneable) cells h = refl
  class_alike xs ys (refs.Lib lib.Serializable) cells h = refl
  class_alike xs ys (refs.Lib lib.Runnable) cells h = refl
  class_alike xs ys (refs.Lib lib.PrivilegedAction) cells h = refl
  class_alike xs ys (refs.Lib lib.AccessController) cells h = refl
  class_alike xs ys (refs.Lib lib.Rt) cells h = refl
  class_alike xs ys (refs.Lib lib.Ctx) cells h = refl

  class_more : (objects more : List heaps.Object) → IsBackward objects → (c : ClassRef) (cells : List ℕ) → last_by c cells ≤ length objects
      → class_by shapes (objects ++ more) things c cells ≡ class_by shapes objects things c cells
  class_more objects more back c cells h =
      class_alike (objects ++ more) objects c cells (λ e. let low : named_by (first cells) ≤ length objects = rw e at h in built_more objects more back (named_by (first cells)) (named_by (first cells)) low)

  kind_more : (objects more : List heaps.Object) → IsBackward objects → (kind : Kind) (cells : List ℕ) → last_of kind cells ≤ length objects
      → kind_by p shapes (objects ++ more) things kind cells ≡ kind_by p shapes objects things kind cells
  kind_more objects more back (kinds.Object n) cells h = class_more objects more back (class_numbered n) cells h
  kind_more objects more back (kinds.Array n) cells h = refl
  kind_more objects more back kinds.Text cells h = refl
  kind_more objects more back kinds.Piece cells h = refl

  map_more : (objects more some : List heaps.Object) → IsBackward objects → AllByRecursion (NamesWithin (length objects)) some
      → map (object_by p shapes (objects ++ more) things) some ≡ map (object_by p shapes objects things) some
  map_more objects more [] back all = refl
  map_more objects more (x ∷ some) back all = ap₂ (λ y ys. y ∷ ys) (kind_more objects more back x.kind x.cells all.0) (map_more objects more some back all.1)

  -- one more object is one more, and the others stay as they are
  pub adds_one : (constants : List (List ℕ × ℕ)) (h : Heaped) (x : heaps.Object) (cost : ℕ) → AreBuilt h.objects
      → store_by p shapes things constants (record h { objects = h.objects ++ x ∷ []; left = h.left - cost })
      ≡ paid cost (with_made (store_by p shapes things constants h) (object_by p shapes (h.objects ++ x ∷ []) things x))
  adds_one constants h x cost all =
      let before = map_more h.objects (x ∷ []) h.objects all.backward all.within in
      let both = map-append (object_by p shapes (h.objects ++ x ∷ []) things) h.objects (x ∷ []) in
      ap (λ (os : List (Object ℕ)). record { objects = os; statics = values_of shapes.statics h.statics; constants = constants; left = h.left - cost })
      (both ∙ ap (λ xs. xs ++ object_by p shapes (h.objects ++ x ∷ []) things x ∷ []) before)

  pub makes_one : MakesOne p shapes things
  makes_one constants h kind len all =
      let one = kind_more h.objects (heaps.fresh kind len ∷ []) all.backward kind (replicate len 0) (names_none kind len (length h.objects)) in
      adds_one constants h (heaps.fresh kind len) (heaps.charge kind len) all
      ∙ ap (λ (x : Object ℕ). paid (heaps.charge kind len) (with_made (store_by p shapes things constants h) x)) one

pub makes : Makes
makes p shapes things = makes_one p shapes things

pub adds : AddsOne
adds p shapes things = adds_one p shapes things

-- ---- what pieces hold

pub is_enough : IsEnough
is_enough objects all k o few = enough objects all.backward k o o few (omega arith)

pub keeps_pieces : KeepsPieces
keeps_pieces objects more all k o few there = built_more objects more all.backward k o there ∙ is_enough objects all k o few
