-- What an append leaves: one more piece, and the builder that names it.
use Rattle.std.proofs.Common.{◌≡◌, ◌∙◌, ℕ, zero, suc, ◌+◌, ◌-◌, ◌%◌, ◌^◌, ◌<◌, ◌≤◌, List, [], ◌∷◌, ◌++◌, length, get_or, Some, None, refl, ap, ap₂, arith, add-one, length-append, rules, subst}
use Rattle.std.specs.List.{AllByRecursion}
use Rattle.std.specs.Prelude.{slice_get, slice_set, option_map, nat_le, false}
use Rattle.std.proofs.lemmas.Bool.{le-leb}
use Rattle.std.proofs.lemmas.List.{length-map, set-append_left}
use Rattle.std.proofs.lemmas.Option.{slice_get_within}
use Rattle.std.proofs.Math.Nat.{mod-eq_of_lt}
use Rattle.jmemory.specs.declared.jheap.cell.Kind.TheVariants as kinds
use Rattle.jmemory.specs.jheap.Heaps as heaps
use Rattle.jmemory.specs.jheap.Heaps.{HasCell, Heaped, changed, with_before, with_cell}
use Rattle.jvalues.specs.declared.jops.value.Value.{Value}
use Rattle.jvalues.specs.declared.jops.value.Value.TheVariants.{Ref}
use Rattle.jlib.specs.declared.classes.LibClass.TheVariants as lib
use Rattle.jlib.specs.declared.calls.BuilderCall.TheVariants as calls
use Rattle.jresolution.specs.declared.jprogram.part.ClassRef.TheVariants as refs
use Rattle.jresolution.specs.jprogram.ProgramClasses.{Program}
use Rattle.jsemantics.specs.jmachine.HeapObjects.{Object, Builder, Piece}
use Rattle.jsemantics.specs.jmachine.Store.{Store, paid, with_made, with_object}
use Rattle.jsemantics.specs.jmachine.TextCalls.{appended as appended_row, builder}
use Rattle.jruntime.specs.declared.jstate.shapes.Shapes.{Shapes}
use Rattle.jruntime.specs.jstate.ObjectCells.{BehindStaysCelled, StayCelled, WrittenStaysCelled}
use Rattle.jruntime.specs.jstate.HeapMeanings.{AreBuilt, NamesWithin, Things, built, built_at, built_by, class_by, last_of, named_by, object_by, store_by}
use Rattle.jruntime.specs.jstate.HeapMeaningLaws.{AddsOne, KeepsPieces, MoreStaysBuilt, NamedStaysBuilt, SeesEach, Writes, with_number}
use Rattle.jrows.specs.jtexts.HeapBuilders.{builder_number, last_piece, with_piece}
use Rattle.jrows.specs.jtexts.HeapTexts.{Puts, with_units}
use Rattle.jrows.specs.jtexts.TextCallOutcomes.{Comes, gave, leaves}
use Rattle.jrows.specs.declared.jtexts.ran.Ran.{Ran}
use Rattle.jrows.specs.declared.jtexts.ran.Ran.TheVariants as rans
use Rattle.jrows.proofs.JtextsProofs.BuilderRows.{init_row, is_builder_at, itself, no_front, some_built}
use Rattle.jrows.proofs.JtextsProofs.Units.{units_same}
use Rattle.jrows.proofs.JtextsProofs.TextWrites.{changed_last}

abbrev piece_of : List ℕ → ℕ → heaps.Object
piece_of us last = record { kind = kinds.Piece; cells = us; before = last }

last_get : {A : Type 0} (xs : List A) (x : A) → slice_get (xs ++ x ∷ []) (length xs) ≡ Some x
last_get [] x = refl
last_get (y ∷ xs) x = last_get xs x

front_get : {A : Type 0} (xs ys : List A) (i : ℕ) → i < length xs → slice_get (xs ++ ys) i ≡ slice_get xs i
front_get [] ys i h = absurd (omega (arith, h))
front_get (x ∷ xs) ys zero h = refl
front_get (x ∷ xs) ys (suc i) h = front_get xs ys i (omega (arith, h))

-- what a builder holds that names the new piece
new_built : KeepsPieces → (objects : List heaps.Object) (us : List ℕ) (last : ℕ) → AreBuilt objects → last ≤ length objects → ((i : ℕ) → get_or us i 0 < 2 ^ 16)
    → built (objects ++ piece_of us last ∷ []) (suc (length objects)) ≡ built objects last ++ us
unfolding built_by
new_built keeps objects us last all low small =
    ap (λ x. built_at x (built_by (length objects) (objects ++ piece_of us last ∷ []))) (last_get objects (piece_of us last))
    ∙ ap₂ (λ front units. front ++ units)
    (keeps objects (piece_of us last ∷ []) all (length objects) last low low)
    (units_same us small)

other_kept : (s : Store ℕ) (n cells : ℕ) (x y : Object ℕ) → n < length s.objects
    → with_object (paid cells (with_made s x)) (suc n) y ≡ paid cells (with_made (with_object s (suc n) y) x)
other_kept s n cells x y h =
    ap (λ (os : List (Object ℕ)). record { objects = os; statics = s.statics; constants = s.constants; left = s.left - cells })
    (set-append_left s.objects (x ∷ []) n y h)

-- ---- a builder that is there

pub record Stands (h : Heaped) (b : ℕ) : Type 0 where
  pub place : ℕ
  pub object : heaps.Object
  pub cell : ℕ
  pub rest : List ℕ
  pub number : b ≡ suc place
  pub at : slice_get h.objects place ≡ Some object
  pub kind : object.kind ≡ kinds.Object 33
  pub cells : object.cells ≡ cell ∷ rest
  pub last : last_piece h b ≡ named_by cell

pub stands : (h : Heaped) (b : ℕ) → Some b ≡ builder_number h (Ref b) → HasCell h b 0 → Stands h b
stands h b e has = let it = is_builder_at h (Ref b) b e in by_number b it.object it.at it.kind has
  where
    by_cells : (n : ℕ) (x : heaps.Object) (cells : List ℕ) → x.cells ≡ cells → slice_get h.objects n ≡ Some x → x.kind ≡ kinds.Object 33 → 0 < length cells
        → Stands h (suc n)
    by_cells n x [] is at kind has = absurd (omega (arith, has))
    by_cells n x (c ∷ cs) is at kind has =
        record { place = n; object = x; cell = c; rest = cs; number = refl; at = at; kind = kind; cells = is; last = rw (at, is) refl }

    by_number : (n : ℕ) (x : heaps.Object) → heaps.object_at h n ≡ Some x → x.kind ≡ kinds.Object 33 → HasCell h n 0 → Stands h n
    by_number zero x at kind has = cc
    by_number (suc n) x at kind has = by_cells n x x.cells refl at kind (rw at at has)

within_at : (n : ℕ) (xs : List heaps.Object) (i : ℕ) (x : heaps.Object) → slice_get xs i ≡ Some x → AllByRecursion (NamesWithin n) xs → NamesWithin n x
within_at n [] i x e all = cc
within_at n (y ∷ xs) zero x e all = let same : y ≡ x = cc in subst (NamesWithin n) same all.0
within_at n (y ∷ xs) (suc i) x e all = within_at n xs i x e all.1

-- its last piece is there
pub last_there : (h : Heaped) (b : ℕ) → AreBuilt h.objects → Stands h b → last_piece h b ≤ length h.objects
last_there h b all it =
    let within : last_of it.object.kind it.object.cells ≤ length h.objects = within_at (length h.objects) h.objects it.place it.object it.at all.within in
    let here : named_by it.cell ≤ length h.objects = rw (it.kind, it.cells) at within in
    rw it.last here

-- ---- the piece

set_before : (h : Heaped) (us : List ℕ) (last : ℕ) → with_before (with_units kinds.Piece us h) (suc (length h.objects)) last ≡ with_piece us last h
set_before h us last =
    ap (λ (os : List heaps.Object). record h { objects = os; left = h.left - (2 + length us) })
    (changed_last (λ x. record x { before = last }) h.objects (piece_of us 0))

pub piece_there : (h new : Heaped) (us : List ℕ) (o : ℕ) → Puts kinds.Piece us h new (Some o) → heaps.kind_at new o ≡ Some kinds.Piece
piece_there h new us o (few, number, is) =
    let at : o ≡ suc (length h.objects) = number ∙ add-one (length h.objects) in
    rw (is, at, last_get h.objects (piece_of us 0)) refl

pub cell_there : (h new : Heaped) (us : List ℕ) (b o : ℕ) → Some b ≡ builder_number h (Ref b) → HasCell h b 0 → Puts kinds.Piece us h new (Some o)
    → HasCell new b 0
cell_there h new us b o e has (few, number, is) =
    let it = stands h b e has in
    let there : slice_get (h.objects ++ piece_of us 0 ∷ []) it.place ≡ Some it.object =
    front_get h.objects (piece_of us 0 ∷ []) it.place (slice_get_within h.objects it.place it.object it.at) ∙ it.at in
    rw (is, it.number, there, it.cells) (omega arith)

before_at : (xs : List heaps.Object) (o b last : ℕ)
    → option_map (λ (x : heaps.Object). x.cells) (slice_get (changed (λ (x : heaps.Object). record x { before = last }) o xs) b) ≡ option_map
    (λ (x : heaps.Object). x.cells) (slice_get xs b)
before_at [] o b last = refl
before_at (x ∷ xs) zero zero last = refl
before_at (x ∷ xs) zero (suc b) last = refl
before_at (x ∷ xs) (suc o) zero last = refl
before_at (x ∷ xs) (suc o) (suc b) last = before_at xs o b last

-- cells stay where a piece is put behind another
pub cells_stay : (h : Heaped) (o b last : ℕ) → HasCell h b 0 → HasCell (with_before h o last) b 0
cells_stay h zero b last has = has
cells_stay h (suc o) zero last has = has
cells_stay h (suc o) (suc b) last has = rw (before_at h.objects o b last) has

module _ (p : Program) (shapes : Shapes) (things : Things) (constants : List (List ℕ × ℕ)) where
  -- a builder that names a piece
  names : (objects : List heaps.Object) (cells : List ℕ) (o c : ℕ) (rest : List ℕ) → cells ≡ c ∷ rest → o < 2 ^ 32
      → class_by shapes objects things (refs.Lib lib.StringBuilder) (slice_set cells 0 o) ≡ Builder (built objects o)
  names objects cells o c rest is fits = rw is (ap (λ n. Builder (built objects n)) (mod-eq_of_lt fits))

  appended : AddsOne → KeepsPieces → Writes → (h : Heaped) (b last : ℕ) (it : Stands h b) (us : List ℕ) → AreBuilt h.objects → last ≤ length h.objects
      → suc (length h.objects) < 2 ^ 32
      → ((i : ℕ) → get_or us i 0 < 2 ^ 16)
      → store_by p shapes things constants (with_cell (with_piece us last h) b 0 (suc (length h.objects)))
      ≡ paid (2 + length us) (with_made (with_object (store_by p shapes things constants h) b (Builder (built h.objects last ++ us))) (Piece us))
  appended adds keeps writes h b last it us all few fits small =
      let inside = slice_get_within h.objects it.place it.object it.at in
      let more = with_piece us last h in
      let there : slice_get more.objects it.place ≡ Some it.object = front_get h.objects (piece_of us last ∷ []) it.place inside ∙ it.at in
      let seen : object_by p shapes more.objects things (with_number 0 (suc (length h.objects)) it.object) ≡ Builder (built h.objects last ++ us) =
      rw it.kind
      (names more.objects it.object.cells (suc (length h.objects)) it.cell it.rest it.cells fits
      ∙ ap Builder (new_built keeps h.objects us last all few small)) in
      let made : store_by p shapes things constants more ≡ paid (2 + length us) (with_made (store_by p shapes things constants h) (Piece us)) =
      adds p shapes things constants h (piece_of us last) (2 + length us) all
      ∙ ap (λ units. paid (2 + length us) (with_made (store_by p shapes things constants h) (Piece units))) (units_same us small) in
      let long : it.place < length (store_by p shapes things constants h).objects = rw (length-map h.objects (object_by p shapes h.objects things)) inside in
      rw it.number
      (writes p shapes things constants more (suc it.place) 0 (suc (length h.objects)) it.object there (rw it.kind tt)
      ∙ ap₂ (λ (s : Store ℕ) (y : Object ℕ). with_object s (suc it.place) y) made seen
      ∙ other_kept (store_by p shapes things constants h) it.place (2 + length us) (Piece us) (Builder (built h.objects last ++ us)) long)

-- ---- the row

abbrev as_named : (mid new : Heaped) (b last o : ℕ) → Type 0
as_named mid new b last o = new ≡ with_cell (with_before mid o last) b 0 o

is_new : (h mid new : Heaped) (us : List ℕ) (b last o : ℕ) → Puts kinds.Piece us h mid (Some o) → as_named mid new b last o
    → new ≡ with_cell (with_piece us last h) b 0 (suc (length h.objects))
is_new h mid new us b last o (few, number, is) done =
    let at : o ≡ suc (length h.objects) = number ∙ add-one (length h.objects) in
    done
    ∙ ap₂ (λ (g : Heaped) n. with_cell (with_before g n last) b 0 n) is at
    ∙ ap (λ (g : Heaped). with_cell g b 0 (suc (length h.objects))) (set_before h us last)

pub row_some : (E : Type 0) (adds : AddsOne) (keeps : KeepsPieces) (writes : Writes) (h mid new : Heaped) (us : List ℕ) (b last o : ℕ) (done : Ran) → AreBuilt h.objects
    → Some b ≡ builder_number h (Ref b) → HasCell h b 0
    → last ≤ length h.objects → o < 2 ^ 32 → ((i : ℕ) → get_or us i 0 < 2 ^ 16) → Puts kinds.Piece us h mid (Some o) → as_named mid new b last o
    → (p : Program) (shapes : Shapes) (things : Things) (constants : List (List ℕ × ℕ)) (results : List (Value ℕ)) → gave results ≡ done
    → Comes {E = E} (store_by p shapes things constants h) (Some (appended_row (store_by p shapes things constants h) b results (built h.objects last) us))
    (leaves done [] (store_by p shapes things constants new))
row_some E adds keeps writes h mid new us b last o done all e has few fits small puts named p shapes things constants results gives =
    let it = stands h b e has in
    let number : o ≡ length h.objects + 1 = puts.1 in
    let view = appended p shapes things constants adds keeps writes h b last it us all few (omega (arith, fits, number)) small in
    rw (le-leb (2 + length us) h.left puts.0, gives)
    (ap (λ (t : Store ℕ). leaves done [] t) (ap (store_by p shapes things constants) (is_new h mid new us b last o puts named) ∙ view))

pub row_full : (E : Type 0) (h new : Heaped) (us : List ℕ) (b last : ℕ) → Puts kinds.Piece us h new None
    → (p : Program) (shapes : Shapes) (things : Things) (constants : List (List ℕ × ℕ)) (results : List (Value ℕ))
    → Comes {E = E} (store_by p shapes things constants h) (Some (appended_row (store_by p shapes things constants h) b results (built h.objects last) us))
    (leaves rans.Full [] (store_by p shapes things constants new))
row_full E h new us b last (few, is) p shapes things constants results =
    let short : nat_le (2 + length us) h.left ≡ false = search rules in
    rw short (ap (λ (g : Heaped). leaves rans.Full [] (store_by p shapes things constants g)) is)

-- ---- what stays

-- a builder names a piece that is there
names_stay : NamedStaysBuilt → (h : Heaped) (o n : ℕ) (x : heaps.Object) (c : ℕ) (rest : List ℕ) → AreBuilt h.objects → slice_get h.objects o ≡ Some x
    → x.kind ≡ kinds.Object 33 → x.cells ≡ c ∷ rest
    → n ≤ length h.objects → AreBuilt (with_cell h (suc o) 0 n).objects
names_stay named h o n x c rest all at kind cells low =
    let one : last_of x.kind (slice_set x.cells 0 n) ≤ length h.objects = rw (kind, cells) (few n (length h.objects) low) in
    named h (suc o) 0 n x at one all
  where
    few : (n count : ℕ) → n ≤ count → n % 2 ^ 32 ≤ count
    few n count low = omega (arith, low)

-- what holds of the pieces still holds
pub append_stays : MoreStaysBuilt → NamedStaysBuilt → (h mid new : Heaped) (us : List ℕ) (b last o : ℕ) → AreBuilt h.objects → Some b ≡ builder_number h (Ref b) → HasCell h b 0
    → last ≤ length h.objects
    → Puts kinds.Piece us h mid (Some o) → as_named mid new b last o → AreBuilt new.objects
append_stays more names h mid new us b last o all e has few puts named =
    let it = stands h b e has in
    let behind : AreBuilt (h.objects ++ piece_of us last ∷ []) = more h.objects (piece_of us last) all few (omega arith) in
    let there : slice_get (h.objects ++ piece_of us last ∷ []) it.place ≡ Some it.object =
    front_get h.objects (piece_of us last ∷ []) it.place (slice_get_within h.objects it.place it.object it.at) ∙ it.at in
    let count : suc (length h.objects) ≤ length (h.objects ++ piece_of us last ∷ []) = omega (arith, length-append h.objects (piece_of us last ∷ [])) in
    rw (is_new h mid new us b last o puts named, it.number)
    (names_stay names (with_piece us last h) it.place (suc (length h.objects)) it.object it.cell it.rest behind there it.kind it.cells count)

-- and what holds of the cells
pub named_celled : BehindStaysCelled → WrittenStaysCelled → (h mid new : Heaped) (b last o : ℕ) → StayCelled h.objects mid.objects → as_named mid new b last o
    → StayCelled h.objects new.objects
named_celled behind written h mid new b last o made named shapes all = rw named (written (with_before mid o last) b 0 o shapes (behind mid o last shapes (made shapes all)))

-- ---- an empty builder

pub emptied : (E : Type 0) (each : SeesEach) (writes : Writes) (h new : Heaped) (v : Value ℕ) (b : ℕ) → Some b ≡ builder_number h v → HasCell h b 0
    → new ≡ with_cell h b 0 0
    → (p : Program) (shapes : Shapes) (things : Things) (constants : List (List ℕ × ℕ))
    → Comes {E = E} (store_by p shapes things constants h) (builder (store_by p shapes things constants h) calls.Init (v ∷ []))
    (leaves rans.Went [] (store_by p shapes things constants new))
emptied E each writes h new v b e has is p shapes things constants =
    let named = is_builder_at h v b e in
    let here = itself h v b e in
    let it = stands h b here has in
    let seen : object_by p shapes h.objects things (with_number 0 0 it.object) ≡ Builder [] =
    rw it.kind (names p shapes things constants h.objects it.object.cells 0 it.cell it.rest it.cells (omega arith) ∙ ap Builder (no_front h.objects)) in
    let view : store_by p shapes things constants (with_cell h b 0 0) ≡ with_object (store_by p shapes things constants h) b (Builder []) =
    rw it.number
    (writes p shapes things constants h (suc it.place) 0 0 it.object it.at (rw it.kind tt)
    ∙ ap (with_object (store_by p shapes things constants h) (suc it.place)) seen) in
    rw (named.is, is, view)
    (init_row E (store_by p shapes things constants h) b (built h.objects (last_piece h b)) (some_built each h p shapes things constants b here))

pub emptied_stays : NamedStaysBuilt → (h new : Heaped) (v : Value ℕ) (b : ℕ) → AreBuilt h.objects → Some b ≡ builder_number h v → HasCell h b 0 → new ≡ with_cell h b 0 0
    → AreBuilt new.objects
emptied_stays names h new v b all e has is =
    let named = is_builder_at h v b e in
    let here = itself h v b e in
    let it = stands h b here has in
    rw (is, it.number) (names_stay names h it.place 0 it.object it.cell it.rest all it.at it.kind it.cells (omega arith))

pub written_celled : WrittenStaysCelled → (h new : Heaped) (o i n : ℕ) → new ≡ with_cell h o i n → StayCelled h.objects new.objects
written_celled law h new o i n is shapes all = rw is (law h o i n shapes all)
