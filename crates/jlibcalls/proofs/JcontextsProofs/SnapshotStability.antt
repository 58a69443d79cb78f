-- What is kept stays where it stands.
use Rattle.std.proofs.Common.{◌≡◌, ◌∙◌, inl, inr, ℕ, zero, suc, ◌+◌, ◌-◌, ◌<◌, ◌^◌, List, [], ◌∷◌, ◌++◌, length, Some, refl, subst, sym, ap, arith, append_assoc}
use Rattle.std.proofs.lemmas.List.{append-nil}
use Rattle.std.specs.Prelude.{slice_get}
use Rattle.jmemory.specs.declared.jheap.cell.Kind.TheVariants as kinds
use Rattle.jmemory.specs.jheap.Heaps.{Heaped, made}
use Rattle.jlib.specs.declared.classes.LibClass.TheVariants as lib
use Rattle.jlib.specs.declared.classes.Thrown.{Thrown as ThrownClass}
use Rattle.jresolution.specs.jprogram.ProgramClasses.{Program}
use Rattle.jsemantics.specs.jmachine.HeapObjects.{Object, Thrown}
use Rattle.jsemantics.specs.jmachine.Store.{Store}
use Rattle.jruntime.specs.declared.jstate.shapes.Shapes.{Shapes}
use Rattle.jruntime.specs.jstate.ClassNumbers.{GivesBack, thrown_number}
use Rattle.jruntime.specs.jstate.HeapMeanings.{AreBuilt, Things, objects_by, place_in, store_by, values_of}
use Rattle.jruntime.specs.jstate.HeapMeaningLaws.{Makes}
use Rattle.jrows.specs.jcalls.Throws.{RaisedHeap}
use Rattle.jrows.proofs.JcallsProofs.ThrownExceptions.{raised_store}
use Rattle.jlibcalls.specs.jcontexts.KeptContexts.{AreKept, IsKeptAt, StayKept, with_kept}

-- ---- places

last_there : (kept : List ℕ) (number : ℕ) → slice_get (kept ++ number ∷ []) (length kept) ≡ Some number
last_there [] number = refl
last_there (n ∷ kept) number = last_there kept number

-- the last of those that are kept stands there
pub last_is : (kept : List ℕ) (number : ℕ) → (length kept ≡ 0 → ⊥) → slice_get kept (length kept - 1) ≡ Some number → place_in kept (length kept) ≡ Some number
last_is [] number some is = absurd (some refl)
last_is (n ∷ kept) number some is = let e : length (n ∷ kept) - 1 ≡ length kept = omega arith in ap (slice_get (n ∷ kept)) (sym e) ∙ is

pub stays_there : (kept : List ℕ) (number place : ℕ) → place ≡ length kept → place < 2 ^ 32 → place_in kept (length kept) ≡ Some number → IsKeptAt number kept place kept
stays_there kept number place at few is = (ap (place_in kept) at ∙ is, few, ([], sym (append-nil kept)))

pub stands_behind : (kept after : List ℕ) (number place : ℕ) → place ≡ length kept + 1 → place < 2 ^ 32 → after ≡ kept ++ number ∷ [] → IsKeptAt number kept place after
stands_behind kept after number place at few is =
    let next : place ≡ suc (length kept) = omega (arith, at) in
    (rw (next, is) (last_there kept number), few, (number ∷ [], is))

in_front : (xs more : List ℕ) (n number : ℕ) → slice_get xs n ≡ Some number → slice_get (xs ++ more) n ≡ Some number
in_front [] more n number is = cc
in_front (x ∷ xs) more zero number is = is
in_front (x ∷ xs) more (suc n) number is = in_front xs more n number is

pub still_there : (xs more : List ℕ) (place number : ℕ) → place_in xs place ≡ Some number → place_in (xs ++ more) place ≡ Some number
still_there xs more zero number is = cc
still_there xs more (suc n) number is = in_front xs more n number is

-- ---- objects

pub same_things : (things : Things) (kept : List ℕ) → things.kept ≡ kept → with_kept kept things ≡ things
same_things things kept e = subst (λ ks. with_kept ks things ≡ things) e refl

module _ (p : Program) (shapes : Shapes) (things : Things) (before : List ℕ) (is : things.kept ≡ before) (h : Heaped) (held : AreKept p shapes things h.objects) where
  -- more of it changes nothing
  pub same_store : (constants : List (List ℕ × ℕ)) (more : List ℕ) → store_by p shapes (with_kept (before ++ more) things) constants h ≡ store_by p shapes things constants h
  same_store constants more =
      let objects : objects_by p shapes (with_kept (before ++ more) things) h.objects ≡ objects_by p shapes things h.objects =
      subst (λ (ks : List ℕ). objects_by p shapes (with_kept (ks ++ more) things) h.objects ≡ objects_by p shapes things h.objects) is (held more) in
      ap (λ (os : List (Object ℕ)). record { objects = os; statics = values_of shapes.statics h.statics; constants = constants; left = h.left }) objects

  pub same_behind : (constants : List (List ℕ × ℕ)) (after more : List ℕ) → (others : List ℕ) × (after ≡ before ++ others)
      → store_by p shapes (with_kept (after ++ more) things) constants h ≡ store_by p shapes things constants h
  same_behind constants after more (others, e) =
      let all : after ++ more ≡ before ++ (others ++ more) = ap (λ ks. ks ++ more) e ∙ append_assoc before others more in
      ap (λ (ks : List ℕ). store_by p shapes (with_kept ks things) constants h) all ∙ same_store constants (others ++ more)

  pub same_after : (constants : List (List ℕ × ℕ)) (after : List ℕ) → (others : List ℕ) × (after ≡ before ++ others)
      → store_by p shapes (with_kept after things) constants h ≡ store_by p shapes things constants h
  same_after constants after (others, e) = ap (λ (ks : List ℕ). store_by p shapes (with_kept ks things) constants h) e ∙ same_store constants others

-- nothing has changed
pub stay_kept : (kept : List ℕ) (h : Heaped) (p : Program) (shapes : Shapes) (things : Things) → things.kept ≡ kept → AreKept p shapes things h.objects
    → AreKept p shapes (with_kept kept things) h.objects
stay_kept kept h p shapes things is held = subst (λ (t : Things). AreKept p shapes t h.objects) (sym (same_things things kept is)) held

-- ---- an exception that is made

module _ (numbers : GivesBack) (law : Makes) (class : ThrownClass) (h k : Heaped) (built : AreBuilt h.objects) where
  -- it is one more object, whatever is kept
  one_more : k ≡ made h (kinds.Object (thrown_number class)) 1 → (p : Program) (shapes : Shapes) (things : Things)
      → objects_by p shapes things k.objects ≡ objects_by p shapes things h.objects ++ Thrown (lib.Thrown class) 0 ∷ []
  one_more is p shapes things =
      ap (λ (x : Heaped). objects_by p shapes things x.objects) is
      ∙ ap (λ (t : Store ℕ). t.objects) (raised_store numbers law p shapes things [] h built class)

  pub raised_kept : RaisedHeap class h k → StayKept h.objects k.objects
  raised_kept (inl same) p shapes things held more = subst (λ (x : Heaped). AreKept p shapes things x.objects) (sym same) held more
  raised_kept (inr is) p shapes things held more =
      one_more is p shapes (with_kept (things.kept ++ more) things) ∙ ap (λ os. os ++ Thrown (lib.Thrown class) 0 ∷ []) (held more)
      ∙ sym (one_more is p shapes things)
