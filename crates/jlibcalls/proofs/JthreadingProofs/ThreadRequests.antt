-- What calls of Thread ask, and constructors that have no step.
use Rattle.std.proofs.Common.{◌≡◌, ◌∙◌, ◌⊎◌, ℕ, Bool, true, false, List, [], ◌∷◌, ◌++◌, Option, Some, None, refl, sym, ap, subst, inl, inr}
use Rattle.std.specs.Prelude.{⊤, if◌then◌else◌, option_map, slice_get, take}
use Rattle.jmemory.specs.declared.jheap.cell.Kind.{Kind}
use Rattle.jmemory.specs.declared.jheap.cell.Kind.TheVariants as kinds
use Rattle.jmemory.specs.jheap.Heaps as heaps
use Rattle.jmemory.specs.jheap.Heaps.{Heaped}
use Rattle.jlib.specs.declared.calls.ThreadCall.TheVariants as threads
use Rattle.jlib.specs.declared.classes.LibClass.{LibClass}
use Rattle.jlib.specs.declared.classes.LibClass.TheVariants as lib
use Rattle.jlib.specs.declared.side.Side.{Side}
use Rattle.jlib.specs.declared.side.Side.TheVariants.{Passing, Source}
use Rattle.jvalues.specs.declared.jops.value.Value.{Value}
use Rattle.jvalues.specs.declared.jops.value.Value.TheVariants.{Int, Long, Ref, Ctx}
use Rattle.jresolution.specs.declared.jprogram.part.ClassRef.{ClassRef}
use Rattle.jresolution.specs.declared.jprogram.part.ClassRef.TheVariants as refs
use Rattle.jresolution.specs.jprogram.ProgramClasses.{Program}
use Rattle.jsemantics.specs.jmachine.AccessQueries.{inherits, thread_asks}
use Rattle.jsemantics.specs.jmachine.AccessCallRows.{thread_made, thread_row}
use Rattle.jsemantics.specs.jmachine.HeapObjects.{Object, Instance, Thrown, Text, Builder, Piece, Permission, Context, Thread, Bare, Array}
use Rattle.jsemantics.specs.jmachine.Security.{Rules, handed}
use Rattle.jsemantics.specs.jmachine.InstructionSites.{Site}
use Rattle.jsemantics.specs.jmachine.MachineSteps.{entries, site}
use Rattle.jsemantics.specs.jmachine.Store.{Store, object_at}
use Rattle.jsemantics.specs.jmachine.ThreadOperations.{thread}
use Rattle.jruntime.specs.declared.jstate.shapes.Shape.{Shape}
use Rattle.jruntime.specs.declared.jstate.shapes.Shapes.{Shapes}
use Rattle.jruntime.specs.jstate.FrameLists.{all}
use Rattle.jruntime.specs.jstate.ClassNumbers.{class_numbered}
use Rattle.jruntime.specs.jstate.HeapMeanings as seen
use Rattle.jruntime.specs.jstate.HeapMeanings.{Things, class_by, kind_by, library_by, object_by, store_by}
use Rattle.jruntime.specs.jstate.HeapMeaningLaws.{SeesEach}
use Rattle.jlibcalls.specs.declared.jthreading.making.Begun.{Begun}
use Rattle.jlibcalls.specs.jthreading.ThreadObjects.{is_thread, thread_kind}
use Rattle.jlibcalls.specs.jthreading.ThreadLaws.{InitAsks, InitAsksNothing, InitIsStuck, OthersAskNothing}
use Rattle.jlibcalls.specs.jthreading.ThreadConstructors.{IsHanded, IsNotGiven, begun_values}
use Rattle.jlibcalls.proofs.JthreadingProofs.ThreadCreation.{held_there, thread_there}
use Rattle.jlibcalls.proofs.JthreadingProofs.ThreadOutcomes.{none_so}

-- ---- objects of Thread, as the machine's definition has them

abbrev is_one : Option (Object ℕ) → Bool
is_one (Some (Thread number)) = true
is_one x = false

library_is : (objects : List heaps.Object) (things : Things) (c : LibClass) (cells : List ℕ) → is_one (Some (library_by objects things c cells)) ≡ is_thread (refs.Lib c)
library_is objects things lib.Thread cells = refl
library_is objects things c cells = cc

class_is : (shapes : Shapes) (objects : List heaps.Object) (things : Things) (c : ClassRef) (cells : List ℕ) → is_one (Some (class_by shapes objects things c cells)) ≡ is_thread c
class_is shapes objects things (refs.User i) cells = user (slice_get shapes.users i)
  where
    user : (o : Option Shape) → is_one (Some (seen.user_by i o cells)) ≡ false
    user None = refl
    user (Some shape) = refl
class_is shapes objects things (refs.Lib c) cells = library_is objects things c cells

abbrev is_kind : Kind → Bool
is_kind (kinds.Object n) = is_thread (class_numbered n)
is_kind kind = false

abbrev is_found : Option heaps.Object → Bool
is_found None = false
is_found (Some x) = is_kind x.kind

kind_is : (p : Program) (shapes : Shapes) (objects : List heaps.Object) (things : Things) (kind : Kind) (cells : List ℕ)
    → is_one (Some (kind_by p shapes objects things kind cells)) ≡ is_kind kind
kind_is p shapes objects things (kinds.Object n) cells = class_is shapes objects things (class_numbered n) cells
kind_is p shapes objects things (kinds.Array n) cells = refl
kind_is p shapes objects things kinds.Text cells = refl
kind_is p shapes objects things kinds.Piece cells = refl

found_is : (p : Program) (shapes : Shapes) (objects : List heaps.Object) (things : Things) (o : Option heaps.Object)
    → is_one (option_map (object_by p shapes objects things) o) ≡ is_found o
found_is p shapes objects things None = refl
found_is p shapes objects things (Some x) = kind_is p shapes objects things x.kind x.cells

-- and as the heap has them
kind_names : (n : ℕ) (kind : Kind) → is_kind kind ≡ true → thread_kind n (Some kind) ≡ Some n
kind_names n (kinds.Object m) is = ap (λ b. if b then Some n else None) is
kind_names n (kinds.Array m) is = cc
kind_names n kinds.Text is = cc
kind_names n kinds.Piece is = cc

found_names : (n : ℕ) (o : Option heaps.Object) → is_found o ≡ true → thread_kind n (option_map (λ (x : heaps.Object). x.kind) o) ≡ Some n
found_names n None is = cc
found_names n (Some x) is = kind_names n x.kind is

-- ---- what is done with them

-- these are what it could be given
abbrev IsGivenSo : Side → List (Value ℕ) → Type 0
IsGivenSo side values = (runnable : ℕ) × (n : ℕ) × (context : Option ℕ) × IsHanded side context × (values ≡ handed side context ++ Ref runnable ∷ Ref n ∷ [])

module _ (E : Type 0) (own : Side) (at : Site) (s : Store ℕ) where
  -- the constructor has no row, and asks nothing
  abbrev IsNothing : Side → List (Value ℕ) → Type 0
  IsNothing side values = ((r : Rules ℕ E) (es : List E) (inherited : Option ℕ) → thread_row r at s es inherited (threads.Init side) values ≡ None)
      × (thread_asks own at s (threads.Init side) values ≡ None)

  source_values : (values : List (Value ℕ)) → IsGivenSo Source values ⊎ IsNothing Source values
  unfolding thread_row thread_asks thread
  source_values [] = inr ((λ r es inherited. refl), refl)
  source_values (Int x ∷ values) = inr ((λ r es inherited. refl), refl)
  source_values (Long x ∷ values) = inr ((λ r es inherited. refl), refl)
  source_values (Ctx x ∷ values) = inr ((λ r es inherited. refl), refl)
  source_values (Ref b ∷ []) = inr ((λ r es inherited. refl), refl)
  source_values (Ref b ∷ Int x ∷ values) = inr ((λ r es inherited. refl), refl)
  source_values (Ref b ∷ Long x ∷ values) = inr ((λ r es inherited. refl), refl)
  source_values (Ref b ∷ Ctx x ∷ values) = inr ((λ r es inherited. refl), refl)
  source_values (Ref b ∷ Ref n ∷ v ∷ values) = inr ((λ r es inherited. refl), refl)
  source_values (Ref b ∷ Ref n ∷ []) = inl (b, n, None, tt, refl)

  passing_values : (values : List (Value ℕ)) → IsGivenSo Passing values ⊎ IsNothing Passing values
  unfolding thread_row thread_asks thread
  passing_values [] = inr ((λ r es inherited. refl), refl)
  passing_values (Int x ∷ values) = inr ((λ r es inherited. refl), refl)
  passing_values (Long x ∷ values) = inr ((λ r es inherited. refl), refl)
  passing_values (Ref x ∷ values) = inr ((λ r es inherited. refl), refl)
  passing_values (Ctx k ∷ []) = inr ((λ r es inherited. refl), refl)
  passing_values (Ctx k ∷ Int x ∷ values) = inr ((λ r es inherited. refl), refl)
  passing_values (Ctx k ∷ Long x ∷ values) = inr ((λ r es inherited. refl), refl)
  passing_values (Ctx k ∷ Ctx x ∷ values) = inr ((λ r es inherited. refl), refl)
  passing_values (Ctx k ∷ Ref b ∷ []) = inr ((λ r es inherited. refl), refl)
  passing_values (Ctx k ∷ Ref b ∷ Int x ∷ values) = inr ((λ r es inherited. refl), refl)
  passing_values (Ctx k ∷ Ref b ∷ Long x ∷ values) = inr ((λ r es inherited. refl), refl)
  passing_values (Ctx k ∷ Ref b ∷ Ctx x ∷ values) = inr ((λ r es inherited. refl), refl)
  passing_values (Ctx k ∷ Ref b ∷ Ref n ∷ v ∷ values) = inr ((λ r es inherited. refl), refl)
  passing_values (Ctx k ∷ Ref b ∷ Ref n ∷ []) = inl (b, n, Some k, tt, refl)

  some_values : (side : Side) (values : List (Value ℕ)) → IsGivenSo side values ⊎ IsNothing side values
  some_values Source values = source_values values
  some_values Passing values = passing_values values

  -- an object that isn't one of Thread
  other_none : (n runnable : ℕ) (ctx : Option ℕ) (x : Option (Object ℕ)) → is_one x ≡ false
      → ((kept : ℕ) → thread_made {E = E} at s n runnable kept x ≡ None) × (inherits own at s ctx x ≡ None)
  other_none n runnable ctx None is = ((λ kept. refl), refl)
  other_none n runnable ctx (Some (Thread number)) is = cc
  other_none n runnable ctx (Some (Instance c m fields)) is = ((λ kept. refl), refl)
  other_none n runnable ctx (Some (Thrown c m)) is = ((λ kept. refl), refl)
  other_none n runnable ctx (Some (Text t)) is = ((λ kept. refl), refl)
  other_none n runnable ctx (Some (Builder t)) is = ((λ kept. refl), refl)
  other_none n runnable ctx (Some (Piece t)) is = ((λ kept. refl), refl)
  other_none n runnable ctx (Some (Permission c v)) is = ((λ kept. refl), refl)
  other_none n runnable ctx (Some (Context k)) is = ((λ kept. refl), refl)
  other_none n runnable ctx (Some (Bare c)) is = ((λ kept. refl), refl)
  other_none n runnable ctx (Some (Array t items)) is = ((λ kept. refl), refl)

  others_nothing : (side : Side) (context : Option ℕ) (runnable n : ℕ) → IsHanded side context → is_one (object_at s n) ≡ false
      → IsNothing side (handed side context ++ Ref runnable ∷ Ref n ∷ [])
  unfolding thread_row thread_asks
  others_nothing Source None runnable n is other =
      let none = other_none n runnable None (object_at s n) other in
      ((λ r es inherited. none.0 (r.inherit None es inherited)), none.1)
  others_nothing Source (Some k) runnable n is other = absurd is
  others_nothing Passing None runnable n is other = absurd is
  others_nothing Passing (Some k) runnable n is other =
      let none = other_none n runnable (Some k) (object_at s n) other in
      ((λ r es inherited. none.0 (r.inherit (Some k) es inherited)), none.1)

-- with operands that aren't such
nothing_so : (E : Type 0) (sees : SeesEach) (own : Side) (at : Site) (p : Program) (shapes : Shapes) (things : Things) (constants : List (List ℕ × ℕ)) (h : Heaped)
    (side : Side) (values : List (Value ℕ)) → IsNotGiven side values h → IsNothing E own at (store_by p shapes things constants h) side values
nothing_so E sees own at p shapes things constants h side values none = by (some_values E own at (store_by p shapes things constants h) side values)
  where
    by_object : (runnable n : ℕ) (context : Option ℕ) → IsHanded side context → values ≡ handed side context ++ Ref runnable ∷ Ref n ∷ [] → (b : Bool)
        → is_found (heaps.object_at h n) ≡ b → IsNothing E own at (store_by p shapes things constants h) side values
    by_object runnable n context is e true found =
        absurd (none (record { begun = record { thread = n; runnable = runnable }; context = context }) (record {
          context = is;
          values = e;
          thread = found_names n (heaps.object_at h n) found;
        }))
    by_object runnable n context is e false found =
        subst (λ (vs : List (Value ℕ)). IsNothing E own at (store_by p shapes things constants h) side vs) (sym e)
        (others_nothing E own at (store_by p shapes things constants h) side context runnable n is
        (ap is_one (sees p shapes things constants h n) ∙ found_is p shapes h.objects things (heaps.object_at h n) ∙ found))

    by : IsGivenSo side values ⊎ IsNothing E own at (store_by p shapes things constants h) side values
        → IsNothing E own at (store_by p shapes things constants h) side values
    by (inr is) = is
    by (inl (runnable, n, context, is, e)) = by_object runnable n context is e (is_found (heaps.object_at h n)) refl

-- ---- the laws

given_asks : (own : Side) (at : Site) (s : Store ℕ) (side : Side) (context : Option ℕ) (b : Begun) → IsHanded side context
    → thread_asks own at s (threads.Init side) (handed side context ++ begun_values b) ≡ inherits own at s context (object_at s b.thread)
unfolding thread_asks
given_asks own at s Source None b is = refl
given_asks own at s Source (Some k) b is = absurd is
given_asks own at s Passing None b is = absurd is
given_asks own at s Passing (Some k) b is = refl

pub init_asks : SeesEach → InitAsks
init_asks sees own side at p shapes things constants h values x is =
    let s = store_by p shapes things constants h in
    let t = thread_there h x.begun.thread is.thread in
    ap (thread_asks own at s (threads.Init side)) is.values
    ∙ given_asks own at s side x.context x.begun is.context
    ∙ ap (inherits own at s x.context) (held_there sees p shapes things constants h x.begun.thread t)

pub init_asks_nothing : SeesEach → InitAsksNothing
init_asks_nothing sees own side at p shapes things constants h values none = (nothing_so ⊤ sees own at p shapes things constants h side values none).1

pub init_stuck : {E : Type 0} → SeesEach → InitIsStuck E
init_stuck {E} sees r p plan s f count side shapes things constants h is none =
    let at = site r p plan s f.newest f.below in
    let es = entries r p plan s (all f) in
    none_so r p plan s f count (threads.Init side)
    (ap (λ (x : Store ℕ). thread_row r at x es s.running.inherited (threads.Init side) (take count f.newest.operands)) is
    ∙ (nothing_so E sees side at p shapes things constants h side (take count f.newest.operands) none).0 r es s.running.inherited)

pub others_ask_nothing : OthersAskNothing
unfolding thread_asks
others_ask_nothing own at s threads.Start values none = refl
others_ask_nothing own at s threads.Join values none = refl
others_ask_nothing own at s threads.Yield values none = refl
others_ask_nothing own at s (threads.Init side) values none = absurd none
