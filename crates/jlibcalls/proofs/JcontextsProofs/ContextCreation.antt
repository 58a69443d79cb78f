-- An AccessControlContext that is made.
use Rattle.std.proofs.Common.{◌≡◌, ◌∙◌, ℕ, suc, ◌+◌, ◌≤◌, List, [], ◌∷◌, ◌++◌, length, Option, Some, None, refl, sym, ap, arith}
use Rattle.std.specs.Prelude.{option_map, slice_get, slice_set, unwrap_or}
use Rattle.std.proofs.lemmas.List.{length-map}
use Rattle.jmemory.specs.declared.jheap.cell.Kind.TheVariants as kinds
use Rattle.jmemory.specs.jheap.Heaps as heaps
use Rattle.jmemory.specs.jheap.Heaps.{HasCell, Heaped, Makes as MakesOne, cells_at, fresh, made, with_cell}
use Rattle.jresolution.specs.jprogram.ProgramClasses.{Program}
use Rattle.jsemantics.specs.jmachine.HeapObjects.{Object, Context}
use Rattle.jsemantics.specs.jmachine.Store.{Store, paid, with_made, with_object}
use Rattle.jruntime.specs.declared.jstate.shapes.Shapes.{Shapes}
use Rattle.jruntime.specs.jstate.ObjectCells.{MadeStaysCelled, StayCelled, Suits, WrittenStaysCelled}
use Rattle.jruntime.specs.jstate.HeapMeanings.{AreBuilt, Things, object_by, place_in, store_by}
use Rattle.jruntime.specs.jstate.HeapMeaningLaws.{MadeStaysBuilt, Makes, NamesNone, Writes, WrittenStaysBuilt}
use Rattle.jlibcalls.specs.jcontexts.Snapshots.{MakesContext}

abbrev context : heaps.Object
context = fresh (kinds.Object 43) 1

last_of : {A : Type 0} (xs : List A) (x : A) → slice_get (xs ++ x ∷ []) (length xs) ≡ Some x
last_of [] x = refl
last_of (y ∷ xs) x = last_of xs x

set_last : {A : Type 0} (xs : List A) (x y : A) → slice_set (xs ++ x ∷ []) (length xs) y ≡ xs ++ y ∷ []
set_last [] x y = refl
set_last (z ∷ xs) x y = ap (λ zs. z ∷ zs) (set_last xs x y)

last_there : (h : Heaped) (o : ℕ) → o ≡ length h.objects + 1 → heaps.object_at (made h (kinds.Object 43) 1) o ≡ Some context
last_there h o is =
    let e : o ≡ suc (length h.objects) = omega (arith, is) in
    ap (heaps.object_at (made h (kinds.Object 43) 1)) e ∙ last_of h.objects context

pub last_cell : (h k : Heaped) (o : ℕ) → o ≡ length h.objects + 1 → k ≡ made h (kinds.Object 43) 1 → HasCell k o 0
last_cell h k o is made_is =
    let there : heaps.object_at k o ≡ Some context = rw made_is (last_there h o is) in
    let many : length (cells_at k o) ≡ 1 = ap (λ (x : Option heaps.Object). length (unwrap_or (option_map (λ (y : heaps.Object). y.cells) x) [])) there in
    omega (arith, many)

set_object : (s : Store ℕ) (x y : Object ℕ) (cells o : ℕ) → o ≡ length s.objects + 1 → with_object (paid cells (with_made s x)) o y ≡ paid cells (with_made s y)
set_object s x y cells o is =
    let e : o ≡ suc (length s.objects) = omega (arith, is) in
    ap (λ n. with_object (paid cells (with_made s x)) n y) e
    ∙ ap (λ (xs : List (Object ℕ)). paid cells (record { objects = xs; statics = s.statics; constants = s.constants; left = s.left })) (set_last s.objects x y)

-- ---- what a call made

pub no_room : (h k : Heaped) (o : Option ℕ) → o ≡ None → 2 ≤ h.left → MakesOne (kinds.Object 43) 1 h k o → ⊥
no_room h k None e room m = let less = m.0 in omega (arith, less, room)
no_room h k (Some n) e room m = cc

pub one_made : (h k : Heaped) (o : Option ℕ) (n : ℕ) → o ≡ Some n → MakesOne (kinds.Object 43) 1 h k o → (n ≡ length h.objects + 1) × (k ≡ made h (kinds.Object 43) 1)
one_made h k None n e m = cc
one_made h k (Some x) n e m = let same : x ≡ n = cc in (sym same ∙ m.1, m.2)

module _ (h g k : Heaped) (place o : ℕ) (is : (o ≡ length h.objects + 1) × (g ≡ made h (kinds.Object 43) 1)) (put : k ≡ with_cell g o 0 place) where
  abbrev M : Heaped
  M = made h (kinds.Object 43) 1

  whole : k ≡ with_cell M o 0 place
  whole = put ∙ ap (λ (x : Heaped). with_cell x o 0 place) is.1

  store_is : Makes → Writes → AreBuilt h.objects → (p : Program) (shapes : Shapes) (things : Things) (constants : List (List ℕ × ℕ))
      → store_by p shapes things constants k ≡ paid 2 (with_made (store_by p shapes things constants h) (Context (place_in things.kept place)))
  store_is makes writes built p shapes things constants =
      let S : Store ℕ = store_by p shapes things constants h in
      let count : o ≡ length S.objects + 1 = is.0 ∙ ap (λ n. n + 1) (sym (length-map h.objects (object_by p shapes h.objects things))) in
      ap (store_by p shapes things constants) whole ∙ writes p shapes things constants M o 0 place context (last_there h o is.0) tt
      ∙ ap (λ (t : Store ℕ). with_object t o (Context (place_in things.kept place))) (makes p shapes things constants h (kinds.Object 43) 1 built)
      ∙ set_object S (Context (place_in things.kept 0)) (Context (place_in things.kept place)) 2 o count

  pub makes_context : Makes → Writes → AreBuilt h.objects → MakesContext place h o k
  makes_context makes writes built = record { number = is.0; store = store_is makes writes built }

  pub context_built : MadeStaysBuilt → WrittenStaysBuilt → AreBuilt h.objects → AreBuilt k.objects
  context_built made_stays written_stays built =
      let none : NamesNone (kinds.Object 43) = λ cells. refl in
      rw whole (written_stays M o 0 place context (last_there h o is.0) none (made_stays h (kinds.Object 43) 1 built))

  pub context_celled : MadeStaysCelled → WrittenStaysCelled → StayCelled h.objects k.objects
  context_celled made_stays written_stays shapes celled =
      let suits : Suits shapes (kinds.Object 43) 1 = λ n e. cc in
      rw whole (written_stays M o 0 place shapes (made_stays shapes h (kinds.Object 43) 1 suits celled))

-- What a context that is made leaves.
pub ruleset makings = (last_cell, no_room, one_made, makes_context, context_built, context_celled)
