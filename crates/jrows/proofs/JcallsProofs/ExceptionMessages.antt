-- What is raised with a message.
use Rattle.std.proofs.Common.{◌≡◌, ◌∙◌, inl, inr, ℕ, zero, suc, ◌+◌, ◌-◌, ◌<◌, ◌≤◌, ◌^◌, true, false, List, [], ◌∷◌, ◌++◌, length, Option, Some, None, refl, sym, ap, ap₂, subst, arith, rules, le-leb}
use Rattle.std.specs.Prelude.{nat_le, slice_get, slice_set}
use Rattle.std.proofs.lemmas.List.{length-map}
use Rattle.std.proofs.Math.Nat.{mod-eq_of_lt}
use Rattle.jmemory.specs.declared.jheap.cell.Kind.TheVariants as kinds
use Rattle.jmemory.specs.jheap.Heaps as heaps
use Rattle.jmemory.specs.jheap.Heaps.{Heaped, Makes as MakesOne, fresh, made, with_cell}
use Rattle.jlib.specs.declared.classes.LibClass.{LibClass}
use Rattle.jlib.specs.declared.classes.LibClass.TheVariants as lib
use Rattle.jresolution.specs.declared.jprogram.part.ClassRef.{ClassRef}
use Rattle.jresolution.specs.declared.jprogram.part.ClassRef.TheVariants as refs
use Rattle.jresolution.specs.declared.jprogram.member.MethodId.{MethodId}
use Rattle.jresolution.specs.jprogram.ProgramClasses.{Program}
use Rattle.jsemantics.specs.jmachine.MachineStates.{cells_of}
use Rattle.jsemantics.specs.jmachine.HeapObjects.{Object, Text, Thrown}
use Rattle.jsemantics.specs.jmachine.MachineSteps.{thrown_at}
use Rattle.jsemantics.specs.jmachine.Store.{Store, next_number, object_at, paid, with_made, with_object}
use Rattle.jsemantics.specs.jmachine.Unwinding.{with_raised}
use Rattle.jruntime.specs.jstate.FrameLists.{Framed, all}
use Rattle.jruntime.specs.jstate.ClassNumbers.{GivesBack, class_numbered, library_number}
use Rattle.jruntime.specs.declared.jstate.shapes.Shapes.{Shapes}
use Rattle.jruntime.specs.jstate.HeapMeanings.{AreBuilt, Things, class_by, is_builder, object_by, store_by}
use Rattle.jruntime.specs.jstate.HeapMeaningLaws.{MadeStaysBuilt, Makes, NamesNone, Writes, WrittenStaysBuilt}
use Rattle.jrows.specs.jtexts.MadeStrings.{MakesText}
use Rattle.jrows.specs.declared.jcalls.raising.Raised.{Raised}
use Rattle.jrows.specs.declared.jcalls.raising.Raised.TheVariants as ways
use Rattle.jrows.specs.jcalls.Throws.{Throws}
use Rattle.jrows.specs.jcalls.MessageThrows.{HoldsMessage, MakesThrown, MakesTold, RaisesWith, TellsHeap, raising_with, told_cells}
use Rattle.jrows.proofs.JcallsProofs.ThrownExceptions.{last_object, one_longer}

-- ---- the object that was made last

last_of : {A : Type 0} (xs : List A) (x : A) → slice_get (xs ++ x ∷ []) (length xs) ≡ Some x
last_of [] x = refl
last_of (y ∷ xs) x = last_of xs x

set_last : {A : Type 0} (xs : List A) (x y : A) → slice_set (xs ++ x ∷ []) (length xs) y ≡ xs ++ y ∷ []
set_last [] x y = refl
set_last (z ∷ xs) x y = ap (λ zs. z ∷ zs) (set_last xs x y)

pub last_there : (h : Heaped) (number len o : ℕ) → o ≡ length h.objects + 1 → heaps.object_at (made h (kinds.Object number) len) o ≡ Some (fresh (kinds.Object number) len)
last_there h number len o is =
    let e : o ≡ suc (length h.objects) = omega (arith, is) in
    ap (heaps.object_at (made h (kinds.Object number) len)) e ∙ last_of h.objects (fresh (kinds.Object number) len)

-- ---- classes

module _ (shapes : Shapes) (objects : List heaps.Object) (things : Things) (message : ℕ) (small : message < 2 ^ 32) where
  library_thrown : (class : LibClass) → HoldsMessage class → class_by shapes objects things (refs.Lib class) (message ∷ []) ≡ Thrown class message
  library_thrown (lib.Thrown c) holds = ap (Thrown (lib.Thrown c)) (mod-eq_of_lt small)
  library_thrown lib.AccessControlException holds = ap (Thrown lib.AccessControlException) (mod-eq_of_lt small)
  library_thrown lib.String holds = absurd holds
  library_thrown lib.StringBuilder holds = absurd holds
  library_thrown (lib.Permission c) holds = absurd holds
  library_thrown lib.AccessControlContext holds = absurd holds
  library_thrown lib.Thread holds = absurd holds
  library_thrown lib.Object holds = absurd holds
  library_thrown lib.System holds = absurd holds
  library_thrown lib.PrintStream holds = absurd holds
  library_thrown lib.Void holds = absurd holds
  library_thrown lib.Cloneable holds = absurd holds
  library_thrown lib.Serializable holds = absurd holds
  library_thrown lib.Runnable holds = absurd holds
  library_thrown lib.PrivilegedAction holds = absurd holds
  library_thrown lib.AccessController holds = absurd holds
  library_thrown lib.Rt holds = absurd holds
  library_thrown lib.Ctx holds = absurd holds

  class_thrown : (k : ClassRef) (class : LibClass) → k ≡ refs.Lib class → HoldsMessage class → class_by shapes objects things k (message ∷ []) ≡ Thrown class message
  class_thrown k class is holds = rw is (library_thrown class holds)

no_builder : (class : LibClass) → HoldsMessage class → is_builder (refs.Lib class) ≡ false
no_builder (lib.Thrown c) holds = refl
no_builder lib.AccessControlException holds = refl
no_builder lib.String holds = refl
no_builder lib.StringBuilder holds = absurd holds
no_builder (lib.Permission c) holds = refl
no_builder lib.AccessControlContext holds = refl
no_builder lib.Thread holds = refl
no_builder lib.Object holds = refl
no_builder lib.System holds = refl
no_builder lib.PrintStream holds = refl
no_builder lib.Void holds = refl
no_builder lib.Cloneable holds = refl
no_builder lib.Serializable holds = refl
no_builder lib.Runnable holds = refl
no_builder lib.PrivilegedAction holds = refl
no_builder lib.AccessController holds = refl
no_builder lib.Rt holds = refl
no_builder lib.Ctx holds = refl

numbered : GivesBack → (number : ℕ) (class : LibClass) → number ≡ library_number class → class_numbered number ≡ refs.Lib class
numbered gives number class is = ap class_numbered is ∙ gives (refs.Lib class)

names_none : GivesBack → (number : ℕ) (class : LibClass) → number ≡ library_number class → HoldsMessage class → NamesNone (kinds.Object number)
names_none gives number class is holds cells =
    let none : is_builder (class_numbered number) ≡ false = ap is_builder (numbered gives number class is) ∙ no_builder class holds in
    rw none refl

-- ---- an exception

set_object : (s : Store ℕ) (x y : Object ℕ) (cells o : ℕ) → o ≡ length s.objects + 1 → with_object (paid cells (with_made s x)) o y ≡ paid cells (with_made s y)
set_object s x y cells o is =
    let e : o ≡ suc (length s.objects) = omega (arith, is) in
    ap (λ n. with_object (paid cells (with_made s x)) n y) e
    ∙ ap (λ (xs : List (Object ℕ)). paid cells (record { objects = xs; statics = s.statics; constants = s.constants; left = s.left })) (set_last s.objects x y)

abbrev told_heap : Heaped → ℕ → ℕ → ℕ → Heaped
told_heap h number o message = with_cell (made h (kinds.Object number) 1) o 0 message

thrown_store : GivesBack → Makes → Writes → (p : Program) (shapes : Shapes) (things : Things) (constants : List (List ℕ × ℕ)) (h : Heaped) (number message o : ℕ) (class : LibClass)
    → AreBuilt h.objects → message < 2 ^ 32 → number ≡ library_number class → HoldsMessage class → o ≡ length h.objects + 1
    → store_by p shapes things constants (told_heap h number o message) ≡ paid 2 (with_made (store_by p shapes things constants h) (Thrown class message))
thrown_store gives makes writes p shapes things constants h number message o class built small is holds last =
    let K = kinds.Object number in
    let S : Store ℕ = store_by p shapes things constants h in
    let objects = (made h K 1).objects in
    let put = writes p shapes things constants (made h K 1) o 0 message (fresh K 1) (last_there h number 1 o last) tt in
    let thrown : class_by shapes objects things (class_numbered number) (message ∷ []) ≡ Thrown class message =
    class_thrown shapes objects things message small (class_numbered number) class (numbered gives number class is) holds in
    let count : o ≡ length S.objects + 1 = last ∙ ap (λ n. n + 1) (sym (length-map h.objects (object_by p shapes h.objects things))) in
    put ∙ ap (with_object (store_by p shapes things constants (made h K 1)) o) thrown
    ∙ ap (λ (t : Store ℕ). with_object t o (Thrown class message)) (makes p shapes things constants h K 1 built)
    ∙ set_object S (class_by shapes h.objects things (class_numbered number) (0 ∷ [])) (Thrown class message) 2 o count

changed_length : (f : heaps.Object → heaps.Object) (n : ℕ) (xs : List heaps.Object) → length (heaps.changed f n xs) ≡ length xs
changed_length f n [] = refl
changed_length f zero (x ∷ xs) = refl
changed_length f (suc n) (x ∷ xs) = ap suc (changed_length f n xs)

told_length : (h : Heaped) (number o message : ℕ) → length (told_heap h number o message).objects ≡ length h.objects + 1
told_length h number zero message = one_longer h.objects (fresh (kinds.Object number) 1)
told_length h number (suc o) message = changed_length (λ (x : heaps.Object). record x { cells = slice_set x.cells 0 message }) o (h.objects ++ fresh (kinds.Object number) 1 ∷ [])
    ∙ one_longer h.objects (fresh (kinds.Object number) 1)

pub one_made : (number : ℕ) (h k : Heaped) (o : Option ℕ) (n : ℕ) → o ≡ Some n → MakesOne (kinds.Object number) 1 h k o → (n ≡ length h.objects + 1) × (k ≡ made h (kinds.Object number) 1)
one_made number h k None n e m = cc
one_made number h k (Some x) n e m = let same : x ≡ n = cc in (sym same ∙ m.1, m.2)

pub made_thrown : GivesBack → Makes → Writes → (h g k : Heaped) (number message o : ℕ) (class : LibClass) → AreBuilt h.objects → message < 2 ^ 32
    → number ≡ library_number class → HoldsMessage class → (o ≡ length h.objects + 1) × (g ≡ made h (kinds.Object number) 1) → k ≡ with_cell g o 0 message
    → MakesThrown class message h o k
made_thrown gives makes writes h g k number message o class built small is holds (last, made_is) put =
    let whole : k ≡ told_heap h number o message = put ∙ ap (λ (x : Heaped). with_cell x o 0 message) made_is in
    record {
      number = last ∙ sym (ap (λ (x : Heaped). length x.objects) whole ∙ told_length h number o message);
      store = λ p shapes things constants. ap (store_by p shapes things constants) whole
          ∙ thrown_store gives makes writes p shapes things constants h number message o class built small is holds last;
    }

pub thrown_built : GivesBack → MadeStaysBuilt → WrittenStaysBuilt → (h g k : Heaped) (number message o : ℕ) (class : LibClass) → AreBuilt h.objects
    → number ≡ library_number class → HoldsMessage class → (o ≡ length h.objects + 1) × (g ≡ made h (kinds.Object number) 1) → k ≡ with_cell g o 0 message
    → AreBuilt k.objects
thrown_built gives made_stays written_stays h g k number message o class built is holds (last, made_is) put =
    let whole : k ≡ told_heap h number o message = put ∙ ap (λ (x : Heaped). with_cell x o 0 message) made_is in
    rw whole (written_stays (made h (kinds.Object number) 1) o 0 message (fresh (kinds.Object number) 1) (last_there h number 1 o last)
    (names_none gives number class is holds) (made_stays h (kinds.Object number) 1 built))

-- ---- with a message

-- the store with the message, and then with the exception
with_both : (s t u : Store ℕ) (class : LibClass) (units : List ℕ) (o : ℕ) → o ≡ next_number s → t ≡ paid (cells_of (length units)) (with_made s (Text (Some units)))
    → u ≡ paid 2 (with_made t (Thrown class o)) → u ≡ with_raised (paid (told_cells units) s) class (Some units)
with_both s t u class units o number text thrown =
    let left : (s.left - cells_of (length units)) - 2 ≡ s.left - told_cells units = omega arith in
    thrown ∙ ap₂ (λ (x : Store ℕ) (n : ℕ). paid 2 (with_made x (Thrown class n))) text number
    ∙ ap (λ (n : ℕ). record { objects = (s.objects ++ Text (Some units) ∷ []) ++ Thrown class (next_number s) ∷ []; statics = s.statics; constants = s.constants; left = n }) left

abbrev MakesEach : List ℕ → Heaped → Option ℕ → Heaped → Type 0
MakesEach units h o k = (p : Program) (shapes : Shapes) (things : Things) (constants : List (List ℕ × ℕ))
    → MakesText units (store_by p shapes things constants h) o (store_by p shapes things constants k)

pub told_so : (class : LibClass) (units : List ℕ) (h g k : Heaped) (text : Option ℕ) (message o : ℕ) → told_cells units ≤ h.left → text ≡ Some message
    → MakesEach units h text g → MakesThrown class message g o k → MakesTold class units h (Some o) k
told_so class units h g k None message o room e texts thrown = cc
told_so class units h g k (Some x) message o room e texts thrown =
    let same : x ≡ message = cc in (
      room,
      thrown.number,
      λ p shapes things constants.
          let made = texts p shapes things constants in
          with_both (store_by p shapes things constants h) (store_by p shapes things constants g) (store_by p shapes things constants k) class units message
          (sym same ∙ made.1) made.2 (thrown.store p shapes things constants),
    )

pub tells_heap : (class : LibClass) (units : List ℕ) (h k : Heaped) (o : Option ℕ) → MakesTold class units h o k → TellsHeap class units h k
tells_heap class units h k None made = inl made.1
tells_heap class units h k (Some o) made = inr made.2

-- ---- raising

module _ {E : Type 0} (marks : List E) (goes : MethodId → ℕ → Option ℕ) (class : LibClass) (units : List ℕ) (f g : Framed E) (h k : Heaped) where
  short_with : h.left < told_cells units → RaisesWith marks goes class units f h ways.Full g k
  short_with few r p plan s events shapes things constants is seen told =
      let short : nat_le (told_cells units) s.store.left ≡ false = rw seen (search rules) in
      rw short refl

  pub full_with : (o : Option ℕ) → o ≡ None → MakesTold class units h o k → RaisesWith marks goes class units f h ways.Full g k
  full_with None e told = short_with told.0
  full_with (Some o) e told = cc

  raised_with : (way : Raised) (o : ℕ) → MakesTold class units h (Some o) k → Throws marks goes o f way g → RaisesWith marks goes class units f h way g k
  raised_with way o (room, number, made_is) throws r p plan s events shapes things constants is seen told =
      let S : Store ℕ = store_by p shapes things constants h in
      let T : Store ℕ = store_by p shapes things constants k in
      let B : Store ℕ = with_made (paid (told_cells units) S) (Text (Some units)) in
      let x : Object ℕ = Thrown class (next_number S) in
      let made_so : T ≡ with_made B x = made_is p shapes things constants in
      let enough : nat_le (told_cells units) s.store.left ≡ true = rw seen (le-leb (told_cells units) h.left room) in
      let count : o ≡ length T.objects = number ∙ sym (length-map k.objects (object_by p shapes k.objects things)) in
      let longer : o ≡ length B.objects + 1 = count ∙ ap (λ (t : Store ℕ). length t.objects) made_so ∙ one_longer B.objects x in
      let there : object_at T o ≡ Some x = ap (λ t. object_at t o) made_so ∙ ap (object_at (with_made B x)) longer ∙ last_object B x in
      let outcome : raising_with r p plan s (all f) events class units ≡ thrown_at r p plan s (all f) T events o =
      rw enough (ap (λ t. thrown_at r p plan s (all f) (with_raised (paid (told_cells units) t) class (Some units)) events
      (length (with_raised (paid (told_cells units) t) class (Some units)).objects)) seen
      ∙ ap (λ t. thrown_at r p plan s (all f) t events (length t.objects)) (sym made_so)
      ∙ ap (λ n. thrown_at r p plan s (all f) T events n) (sym count)) in
      rw outcome (throws r p plan s events T x is there told)

  pub one_with : (way : Raised) (o : Option ℕ) (n : ℕ) → o ≡ Some n → MakesTold class units h o k → Throws marks goes n f way g → RaisesWith marks goes class units f h way g k
  one_with way None n e told throws = cc
  one_with way (Some o) n e told throws = let same : o ≡ n = cc in raised_with way n (subst (λ m. MakesTold class units h (Some m) k) same told) throws
