-- What is raised and thrown.
use Rattle.std.proofs.Common.{◌≡◌, ◌∙◌, inl, inr, ℕ, suc, ◌+◌, ◌<◌, true, false, List, [], ◌∷◌, ◌++◌, length, Option, Some, None, refl, sym, ap, arith, rules, le-leb}
use Rattle.std.specs.Prelude.{IfOk, OnOk, Ok, Err, Result, nat_le, slice_get}
use Rattle.std.proofs.lemmas.List.{length-map}
use Rattle.jmemory.specs.declared.jheap.cell.Kind.TheVariants as kinds
use Rattle.jmemory.specs.jheap.Heaps.{Heaped, Makes as MakesOne, made}
use Rattle.jlib.specs.declared.classes.LibClass.TheVariants as lib
use Rattle.jlib.specs.declared.classes.Thrown.{Thrown as ThrownClass}
use Rattle.jresolution.specs.declared.jprogram.part.ClassRef.{ClassRef}
use Rattle.jresolution.specs.declared.jprogram.part.ClassRef.TheVariants as refs
use Rattle.jresolution.specs.declared.jprogram.member.MethodId.{MethodId}
use Rattle.jresolution.specs.jprogram.ProgramClasses.{Program}
use Rattle.jsemantics.specs.jmachine.HeapObjects.{Object, Thrown}
use Rattle.jsemantics.specs.jmachine.MachineSteps.{thrown_at}
use Rattle.jsemantics.specs.jmachine.Store.{Store, object_at, paid, with_made}
use Rattle.jsemantics.specs.jmachine.Unwinding.{with_raised}
use Rattle.jruntime.specs.jstate.FrameLists.{Framed, all}
use Rattle.jruntime.specs.jstate.ClassNumbers.{GivesBack, class_numbered, thrown_number}
use Rattle.jruntime.specs.declared.jstate.shapes.Shapes.{Shapes}
use Rattle.jruntime.specs.jstate.ObjectCells.{MadeStaysCelled, StayCelled, Suits, WantsAsClass, kind_cells}
use Rattle.jruntime.specs.jstate.HeapMeanings.{AreBuilt, Things, class_by, object_by, store_by}
use Rattle.jruntime.specs.jstate.HeapMeaningLaws.{MadeStaysBuilt, Makes}
use Rattle.jrows.specs.declared.jcalls.raising.Raised.{Raised}
use Rattle.jrows.specs.declared.jcalls.raising.Raised.TheVariants as ways
use Rattle.jrows.specs.jcalls.Unwinds.{Unwinds}
use Rattle.jrows.specs.jcalls.Throws.{RaisedHeap, Raises, Throws, raising}

module _ {E : Type 0} (marks : List E) (goes : MethodId → ℕ → Option ℕ) (n : ℕ) (f g : Framed E) where
  pub handled_so : Unwinds marks goes n f true g → Throws marks goes n f ways.Handled g
  handled_so u r p plan s events store x is there told = rw (there, u r.entry_of p _ is told) refl

  pub uncaught_so : Unwinds marks goes n f false g → Throws marks goes n f ways.Uncaught g
  uncaught_so u r p plan s events store x is there told = rw (there, u r.entry_of p _ is told) refl

-- ---- an exception that is made

-- the object that was made last
pub last_object : {K : Type 0} (s : Store K) (x : Object K) → object_at (with_made s x) (length s.objects + 1) ≡ Some x
last_object s x = let e : length s.objects + 1 ≡ suc (length s.objects) = omega arith in ap (object_at (with_made s x)) e ∙ last s.objects
  where
    last : {A : Type 0} {x : A} (xs : List A) → slice_get (xs ++ x ∷ []) (length xs) ≡ Some x
    last [] = refl
    last (y ∷ xs) = last xs

module _ (numbers : GivesBack) (law : Makes) (p : Program) (shapes : Shapes) (things : Things) (constants : List (List ℕ × ℕ)) (h : Heaped)
    (built : AreBuilt h.objects) (c : ThrownClass) where
  class_is : (k : ClassRef) → k ≡ refs.Lib (lib.Thrown c) → class_by shapes h.objects things k (0 ∷ []) ≡ Thrown (lib.Thrown c) 0
  class_is k is = rw is refl

  -- the heap with the exception
  pub raised_store : store_by p shapes things constants (made h (kinds.Object (thrown_number c)) 1) ≡ with_raised
      (paid 2 (store_by p shapes things constants h)) (lib.Thrown c) None
  raised_store =
      law p shapes things constants h (kinds.Object (thrown_number c)) 1 built
      ∙ ap (λ (x : Object ℕ). paid 2 (with_made (store_by p shapes things constants h) x))
      (class_is (class_numbered (thrown_number c)) (numbers (refs.Lib (lib.Thrown c))))

-- so many objects and one more
pub one_longer : {A : Type 0} (xs : List A) (x : A) → length (xs ++ x ∷ []) ≡ length xs + 1
one_longer [] x = refl
one_longer (y ∷ xs) x = let e : suc (length xs + 1) ≡ suc (length xs) + 1 = omega arith in ap suc (one_longer xs x) ∙ e

module _ {E : Type 0} (marks : List E) (goes : MethodId → ℕ → Option ℕ) (c : ThrownClass) (f g : Framed E) (h k : Heaped) where
  pub full_so : (h.left < 2) → Raises marks goes (lib.Thrown c) f h ways.Full g k
  full_so few r p plan s events shapes things constants is seen told =
      let short : nat_le 2 s.store.left ≡ false = rw seen (search rules) in
      rw short refl

  pub raised_so : GivesBack → Makes → AreBuilt h.objects → (way : Raised) (o : ℕ)
      → (2 < h.left + 1) × (o ≡ length h.objects + 1) × (k ≡ made h (kinds.Object (thrown_number c)) 1)
      → Throws marks goes o f way g → Raises marks goes (lib.Thrown c) f h way g k
  raised_so numbers law built way o (few, number, made_is) throws r p plan s events shapes things constants is seen told =
      let S : Store ℕ = store_by p shapes things constants h in
      let T : Store ℕ = store_by p shapes things constants k in
      let made_so : T ≡ with_raised (paid 2 S) (lib.Thrown c) None = rw made_is (raised_store numbers law p shapes things constants h built c) in
      let enough : nat_le 2 s.store.left ≡ true = rw seen (le-leb 2 h.left (omega (arith, few))) in
      let count : length S.objects + 1 ≡ o = ap (λ n. n + 1) (length-map h.objects (object_by p shapes h.objects things)) ∙ sym number in
      let longer : length (with_raised (paid 2 S) (lib.Thrown c) None).objects ≡ o = one_longer S.objects (Thrown (lib.Thrown c) 0) ∙ count in
      let there : object_at T o ≡ Some (Thrown (lib.Thrown c) 0) =
      ap (λ t. object_at t o) made_so ∙ ap (object_at (with_made (paid 2 S) (Thrown (lib.Thrown c) 0))) (sym count)
      ∙ last_object (paid 2 S) (Thrown (lib.Thrown c) 0) in
      let outcome : raising r p plan s (all f) events (lib.Thrown c) ≡ thrown_at r p plan s (all f) T events o =
      rw enough (ap (λ t. thrown_at r p plan s (all f) (with_raised (paid 2 t) (lib.Thrown c) None) events
      (length (with_raised (paid 2 t) (lib.Thrown c) None).objects)) seen
      ∙ ap (λ n. thrown_at r p plan s (all f) (with_raised (paid 2 S) (lib.Thrown c) None) events n) longer
      ∙ ap (λ t. thrown_at r p plan s (all f) t events o) (sym made_so)) in
      rw outcome (throws r p plan s events T (Thrown (lib.Thrown c) 0) is there told)

  pub all_raised : GivesBack → Makes → AreBuilt h.objects → {F : Type 0} (way : Result Raised F) (o : ℕ)
      → (2 < h.left + 1) × (o ≡ length h.objects + 1) × (k ≡ made h (kinds.Object (thrown_number c)) 1)
      → IfOk way (λ w. Throws marks goes o f w g) → IfOk way (λ w. Raises marks goes (lib.Thrown c) f h w g k)
  all_raised numbers law built (Ok way) o facts throws = raised_so numbers law built way o facts throws
  all_raised numbers law built (Err e) o facts throws = tt

-- ---- what the heap answers

pub none_made : (c : ThrownClass) (number : ℕ) (h k : Heaped) (o : Option ℕ) → o ≡ None → MakesOne (kinds.Object number) 1 h k o → h.left < 2
none_made c number h k None e m = m.0
none_made c number h k (Some n) e m = cc

pub one_made : (c : ThrownClass) (number : ℕ) (h k : Heaped) (o : Option ℕ) (n : ℕ) → number ≡ thrown_number c → o ≡ Some n
    → MakesOne (kinds.Object number) 1 h k o
    → (2 < h.left + 1) × (n ≡ length h.objects + 1) × (k ≡ made h (kinds.Object (thrown_number c)) 1)
one_made c number h k None n is e m = cc
one_made c number h k (Some x) n is e m = let same : x ≡ n = cc in (m.0, sym same ∙ m.1, m.2 ∙ ap (λ i. made h (kinds.Object i) 1) is)

-- ---- what holds of the pieces of builders stays

pub none_built : (number : ℕ) (h k : Heaped) (o : Option ℕ) → o ≡ None → MakesOne (kinds.Object number) 1 h k o → AreBuilt h.objects → AreBuilt k.objects
none_built number h k None e m built = rw m.1 built
none_built number h k (Some n) e m built = cc

pub made_built : MadeStaysBuilt → (number : ℕ) (h k : Heaped) (o : Option ℕ) (n : ℕ) → o ≡ Some n → MakesOne (kinds.Object number) 1 h k o
    → AreBuilt h.objects → AreBuilt k.objects
made_built law number h k None n is m built = cc
made_built law number h k (Some x) n is m built = rw m.2 (law h (kinds.Object number) 1 built)

-- ---- and of the cells

pub none_celled : (number : ℕ) (h k : Heaped) (o : Option ℕ) → o ≡ None → MakesOne (kinds.Object number) 1 h k o → StayCelled h.objects k.objects
none_celled number h k None e m shapes all = rw m.1 all
none_celled number h k (Some n) e m shapes all = cc

-- an exception has one cell, for its message
one_suits : WantsAsClass → (shapes : Shapes) (c : ThrownClass) (number : ℕ) → number ≡ thrown_number c → Suits shapes (kinds.Object number) 1
one_suits wants shapes c number is n want =
    let class : kind_cells shapes (kinds.Object number) ≡ Some 1 = ap (λ k. kind_cells shapes (kinds.Object k)) is ∙ wants shapes (refs.Lib (lib.Thrown c)) in
    let both : Some 1 ≡ Some n = sym class ∙ want in cc

pub made_celled : MadeStaysCelled → WantsAsClass → (c : ThrownClass) (number : ℕ) (h k : Heaped) (o : Option ℕ) (n : ℕ) → number ≡ thrown_number c → o ≡ Some n
    → MakesOne (kinds.Object number) 1 h k o → StayCelled h.objects k.objects
made_celled law wants c number h k None n same is m shapes all = cc
made_celled law wants c number h k (Some x) n same is m shapes all = rw m.2 (law shapes h (kinds.Object number) 1 (one_suits wants shapes c number same) all)

-- what holds already
pub holds_on : {F Holds : Type 0} (r : Result Raised F) → Holds → OnOk r Holds
holds_on (Ok w) held = held
holds_on (Err e) held = tt

-- ---- the heap

pub none_heap : (c : ThrownClass) (number : ℕ) (h k : Heaped) (o : Option ℕ) → o ≡ None → MakesOne (kinds.Object number) 1 h k o → RaisedHeap c h k
none_heap c number h k None e m = inl m.1
none_heap c number h k (Some n) e m = absurd cc

pub made_heap : (c : ThrownClass) {F : Type 0} (r : Result Raised F) (h k : Heaped) → k ≡ made h (kinds.Object (thrown_number c)) 1 → OnOk r (RaisedHeap c h k)
made_heap c (Ok w) h k is = inr is
made_heap c (Err e) h k is = tt
