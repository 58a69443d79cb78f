-- Objects that may be used.
use Rattle.std.proofs.Common.{◌≡◌, ◌∙◌, ℕ, zero, suc, ◌-◌, ◌<◌, ◌≤◌, Bool, true, false, List, [], length, Option, Some, None, refl, sym, ap, arith, rules, lt-ltb, inl, inr, ◌⊎◌}
use Rattle.std.specs.Prelude.{get_or, is_some, nat_lt, option_map, slice_get, unwrap_or}
use Rattle.std.proofs.lemmas.Option.{slice_get_cases}
use Rattle.jvalues.specs.declared.jnames.kinds.Kind.TheVariants as wanted
use Rattle.jvalues.specs.declared.jops.value.Value.{Value}
use Rattle.jvalues.specs.declared.jops.value.Value.TheVariants.{Int, Long, Ref, Ctx}
use Rattle.jmemory.specs.declared.jheap.cell.Kind.{Kind}
use Rattle.jmemory.specs.declared.jheap.cell.Kind.TheVariants as kinds
use Rattle.jmemory.specs.jheap.Heaps as heaps
use Rattle.jmemory.specs.jheap.Heaps.{Heaped, cells_at, kind_at}
use Rattle.jlib.specs.declared.classes.LibClass.{LibClass}
use Rattle.jlib.specs.declared.classes.LibClass.TheVariants as lib
use Rattle.jresolution.specs.declared.jprogram.part.ClassRef.{ClassRef}
use Rattle.jresolution.specs.declared.jprogram.part.ClassRef.TheVariants as refs
use Rattle.jresolution.specs.jprogram.ProgramClasses.{Program}
use Rattle.jtypes.specs.declared.vtype.Name.{Name}
use Rattle.jtyping.specs.jrule.StackEffects.{Of}
use Rattle.jtyping.specs.jrule.StackEffects as types
use Rattle.jsemantics.specs.jmachine.HeapObjects.{Object, Instance, Thrown, Text, Builder, Piece, Permission, Context, Thread, Bare, Array, class_of, is_ready}
use Rattle.jsemantics.specs.jmachine.TakenOperands.{ready_type, serves, serves_as, found_type}
use Rattle.jsemantics.specs.jmachine.World.{World}
use Rattle.jruntime.specs.declared.jstate.shapes.Shape.{Shape}
use Rattle.jruntime.specs.declared.jstate.shapes.Shapes.{Shapes}
use Rattle.jruntime.specs.jstate.ClassNumbers.{class_numbered}
use Rattle.jruntime.specs.jstate.HeapMeanings.{Things, class_by, first, kind_by, number_in, object_by, place_in, store_by, user_by}
use Rattle.jruntime.specs.jstate.HeapMeaningLaws.{SeesEach}
use Rattle.jrows.specs.declared.jcalls.ready.Needs.{Needs}
use Rattle.jrows.specs.declared.jcalls.ready.Needs.TheVariants as needs
use Rattle.jrows.specs.declared.jcalls.ready.Counts.{Counts}
use Rattle.jrows.specs.jcalls.Readiness.{AreCounted, holds, holds_counted, is_ready_in, is_reference, is_within, needed, ready_by, ready_counted}

-- ---- cells that name things

pub zero_outside : (count n : ℕ) → n ≡ 0 → false ≡ is_within count n
zero_outside count n is = rw is refl

pub number_within : (count n : ℕ) (b : Bool) → (n ≡ 0 → ⊥) → b ≡ nat_lt (n - 1) count → b ≡ is_within count n
number_within count zero b some h = absurd (some refl)
number_within count (suc n) b some h = let e : suc n - 1 ≡ n = omega arith in h ∙ ap (λ k. nat_lt k count) e

some_within : {A : Type 0} (xs : List A) (n : ℕ) → is_within (length xs) n ≡ is_some (place_in xs n)
some_within xs zero = refl
some_within {A} xs (suc n) = by_cases (slice_get_cases xs n).1
  where
    by_cases : ((x : A) × (n < length xs) × (slice_get xs n ≡ Some x) × (get_or xs n x ≡ x)) ⊎ ((length xs ≤ n) × (slice_get xs n ≡ None))
        → nat_lt n (length xs) ≡ is_some (slice_get xs n)
    by_cases (inl (x, few, e, d)) = let b : nat_lt n (length xs) ≡ true = lt-ltb n (length xs) few in rw (b, e) refl
    by_cases (inr (few, e)) = let b : nat_lt n (length xs) ≡ false = search rules in rw (b, e) refl

within_so : {A : Type 0} (xs : List A) (count n : ℕ) → length xs ≡ count → is_within count n ≡ is_some (place_in xs n)
within_so xs count n is = ap (λ k. is_within k n) (sym is) ∙ some_within xs n

module _ (counts : Counts) (things : Things) (cells : List ℕ) where
  pub holds_permission : (b : Bool) (n : ℕ) → AreCounted counts things → b ≡ is_within counts.permissions n → n ≡ first cells
      → b ≡ holds things cells needs.Permission
  holds_permission b n are h is = h ∙ within_so things.permissions counts.permissions n are.permissions ∙ ap (λ k. is_some (place_in things.permissions k)) is

  pub holds_context : (b : Bool) (n : ℕ) → AreCounted counts things → b ≡ is_within counts.contexts n → n ≡ first cells → b ≡ holds things cells needs.Context
  holds_context b n are h is = h ∙ within_so things.kept counts.contexts n are.contexts ∙ ap (λ k. is_some (place_in things.kept k)) is

  pub holds_thread : (b : Bool) (n : ℕ) → b ≡ is_some (number_in n) → n ≡ first cells → b ≡ holds things cells needs.Thread
  holds_thread b n h is = h ∙ ap (λ k. is_some (number_in k)) is

pub no_thread : (n : ℕ) → n ≡ 0 → false ≡ is_some (number_in n)
no_thread n is = rw is refl

pub a_thread : (n : ℕ) → (n ≡ 0 → ⊥) → true ≡ is_some (number_in n)
a_thread zero some = absurd (some refl)
a_thread (suc n) some = refl

-- ---- objects

pub none_ready : (things : Things) (h : Heaped) (o : ℕ) → None ≡ kind_at h o → false ≡ is_ready_in things (heaps.object_at h o)
none_ready things h o e = other (heaps.object_at h o) e
  where
    other : (x : Option heaps.Object) → None ≡ option_map (λ (y : heaps.Object). y.kind) x → false ≡ is_ready_in things x
    other None e = refl
    other (Some x) e = cc

pub object_there : (h : Heaped) (o : ℕ) (kind : Kind) → Some kind ≡ kind_at h o → is_some (heaps.object_at h o) ≡ true
object_there h o kind e = other (heaps.object_at h o) e
  where
    other : (x : Option heaps.Object) → Some kind ≡ option_map (λ (y : heaps.Object). y.kind) x → is_some x ≡ true
    other None e = cc
    other (Some x) e = refl

pub object_ready : (things : Things) (h : Heaped) (o : ℕ) (kind : Kind) (b : Bool) → Some kind ≡ kind_at h o → b ≡ ready_by things kind (cells_at h o)
    → b ≡ is_ready_in things (heaps.object_at h o)
object_ready things h o kind b e is = other (heaps.object_at h o) e is
  where
    other : (x : Option heaps.Object) → Some kind ≡ option_map (λ (y : heaps.Object). y.kind) x
        → b ≡ ready_by things kind (unwrap_or (option_map (λ (y : heaps.Object). y.cells) x) []) → b ≡ is_ready_in things x
    other None e is = cc
    other (Some x) e is = let same : kind ≡ x.kind = cc in is ∙ ap (λ k. ready_by things k x.cells) same

-- ---- as the definition has it

module _ (shapes : Shapes) (objects : List heaps.Object) (things : Things) (cells : List ℕ) where
  user_ready : (i : ℕ) (shape : Option Shape) → is_ready (user_by i shape cells) ≡ true
  user_ready i None = refl
  user_ready i (Some shape) = refl

  class_ready : (c : ClassRef) → is_ready (class_by shapes objects things c cells) ≡ holds things cells (needed c)
  class_ready (refs.User i) = user_ready i (slice_get shapes.users i)
  class_ready (refs.Lib (lib.Thrown c)) = refl
  class_ready (refs.Lib lib.AccessControlException) = refl
  class_ready (refs.Lib lib.String) = refl
  class_ready (refs.Lib lib.StringBuilder) = refl
  class_ready (refs.Lib (lib.Permission c)) = refl
  class_ready (refs.Lib lib.AccessControlContext) = refl
  class_ready (refs.Lib lib.Thread) = refl
  class_ready (refs.Lib lib.Object) = refl
  class_ready (refs.Lib lib.System) = refl
  class_ready (refs.Lib lib.PrintStream) = refl
  class_ready (refs.Lib lib.Void) = refl
  class_ready (refs.Lib lib.Cloneable) = refl
  class_ready (refs.Lib lib.Serializable) = refl
  class_ready (refs.Lib lib.Runnable) = refl
  class_ready (refs.Lib lib.PrivilegedAction) = refl
  class_ready (refs.Lib lib.AccessController) = refl
  class_ready (refs.Lib lib.Rt) = refl
  class_ready (refs.Lib lib.Ctx) = refl

  kind_ready : (p : Program) (kind : Kind) → is_ready (kind_by p shapes objects things kind cells) ≡ ready_by things kind cells
  kind_ready p (kinds.Object n) = class_ready (class_numbered n)
  kind_ready p (kinds.Array a) = refl
  kind_ready p kinds.Text = refl
  kind_ready p kinds.Piece = refl

-- by how many things there are
module _ (counts : Counts) (things : Things) (are : AreCounted counts things) (cells : List ℕ) where
  holds_alike : (n : Needs) → holds_counted counts cells n ≡ holds things cells n
  holds_alike needs.Nothing = refl
  holds_alike needs.Units = refl
  holds_alike needs.Permission = within_so things.permissions counts.permissions (first cells) are.permissions
  holds_alike needs.Context = within_so things.kept counts.contexts (first cells) are.contexts
  holds_alike needs.Thread = refl

  ready_alike : (kind : Kind) → ready_counted counts kind cells ≡ ready_by things kind cells
  ready_alike (kinds.Object n) = holds_alike (needed (class_numbered n))
  ready_alike (kinds.Array a) = refl
  ready_alike kinds.Text = refl
  ready_alike kinds.Piece = refl

  pub seen_ready : (p : Program) (shapes : Shapes) (objects : List heaps.Object) (kind : Kind) → is_ready (kind_by p shapes objects things kind cells) ≡ ready_counted counts kind cells
  seen_ready p shapes objects kind = kind_ready shapes objects things cells p kind ∙ sym (ready_alike kind)

-- every object's type is a reference's
is_ref_class : {K : Type 0} (named : ℕ → Name) (x : Object K) → types.is_ref (class_of named x) ≡ true
is_ref_class named (Instance class message fields) = refl
is_ref_class named (Thrown c message) = refl
is_ref_class named (Text units) = refl
is_ref_class named (Builder units) = refl
is_ref_class named (Piece units) = refl
is_ref_class named (Permission c held) = refl
is_ref_class named (Context kept) = refl
is_ref_class named (Thread number) = refl
is_ref_class named (Bare c) = refl
is_ref_class named (Array a items) = refl

module _ (law : SeesEach) (w : World) (p : Program) (shapes : Shapes) (things : Things) (constants : List (List ℕ × ℕ)) (h : Heaped) where
  object_serves : (x : Object ℕ) (b : Bool) → is_ready x ≡ b → serves_as w (Of wanted.Ref) (ready_type w x) ≡ b
  object_serves x true e = rw e (is_ref_class w.named x)
  object_serves x false e = rw e refl

  seen_serves : (x : Option heaps.Object)
      → serves_as w (Of wanted.Ref) (found_type w (option_map (object_by p shapes h.objects things) x)) ≡ is_ready_in things x
  seen_serves None = refl
  seen_serves (Some x) =
      object_serves (object_by p shapes h.objects things x) (ready_by things x.kind x.cells) (kind_ready shapes h.objects things x.cells p x.kind)

  -- a value serves where a reference is wanted
  pub reference_serves : (v : Value ℕ) → serves w (store_by p shapes things constants h) (Of wanted.Ref) v ≡ is_reference things h v
  reference_serves (Int x) = refl
  reference_serves (Long x) = refl
  reference_serves (Ctx k) = refl
  reference_serves (Ref zero) = refl
  reference_serves (Ref (suc o)) =
      ap (λ x. serves_as w (Of wanted.Ref) (found_type w x)) (law p shapes things constants h (suc o)) ∙ seen_serves (heaps.object_at h (suc o))
