-- The types of values by number are those of the machine's definition.
use Rattle.std.proofs.Common.{◌≡◌, ◌∙◌, ℕ, zero, suc, Bool, true, false, List, [], Option, Some, None, refl, sym, ap}
use Rattle.std.specs.Prelude.{is_some, option_and_then, option_map, slice_get, unwrap_or, if◌then◌else◌}
use Rattle.jvalues.specs.declared.jops.value.Value.{Value}
use Rattle.jvalues.specs.declared.jops.value.Value.TheVariants.{Int, Long, Ref, Ctx}
use Rattle.jmemory.specs.declared.jheap.cell.Kind.{Kind}
use Rattle.jmemory.specs.declared.jheap.cell.Kind.TheVariants as kinds
use Rattle.jmemory.specs.jheap.Heaps as heaps
use Rattle.jmemory.specs.jheap.Heaps.{Heaped, cells_at, kind_at}
use Rattle.jlib.specs.declared.classes.LibClass.TheVariants as lib
use Rattle.jtypes.specs.declared.vtype.VType.{VType}
use Rattle.jresolution.specs.declared.jprogram.part.ClassRef.{ClassRef}
use Rattle.jresolution.specs.declared.jprogram.part.ClassRef.TheVariants as refs
use Rattle.jresolution.specs.jprogram.ProgramClasses.{Program}
use Rattle.jresolution.specs.declared.juses.types.TypeRef.{TypeRef}
use Rattle.jresolution.specs.declared.juses.types.TypeRef.TheVariants as types
use Rattle.jresolution.specs.juses.InternedTypes.{named}
use Rattle.jsemantics.specs.jmachine.HeapObjects as machine
use Rattle.jsemantics.specs.jmachine.HeapObjects.{class_of}
use Rattle.jsemantics.specs.jmachine.TakenOperands.{ready_type, type_of, found_type}
use Rattle.jsemantics.specs.jmachine.Store.{Store}
use Rattle.jsemantics.specs.jmachine.World.{world}
use Rattle.jruntime.specs.declared.jstate.shapes.Shape.{Shape}
use Rattle.jruntime.specs.declared.jstate.shapes.Shapes.{Shapes}
use Rattle.jruntime.specs.jstate.ClassNumbers.{class_numbered}
use Rattle.jruntime.specs.jstate.HeapMeanings.{Things, class_by, kind_by, object_by, store_by, user_by}
use Rattle.jruntime.specs.jstate.HeapMeaningLaws.{SeesEach}
use Rattle.jrows.specs.declared.jcalls.ready.Counts.{Counts}
use Rattle.jrows.specs.jcalls.Readiness.{AreCounted, ready_counted}
use Rattle.jrows.proofs.JcallsProofs.ReadyObjects.{seen_ready}
use Rattle.jserving.specs.declared.jserve.values.Objects.{Objects}
use Rattle.jserving.specs.jserve.ValueTypes.{IsStore, kind_type, object_type, type_in}

-- ---- objects of the heap

module _ (shapes : Shapes) (counts : Counts) (h : Heaped) (o : ℕ) where
  pub none_there : None ≡ kind_at h o → None ≡ option_and_then (object_type shapes counts) (heaps.object_at h o)
  none_there e = other (heaps.object_at h o) e
    where
      other : (x : Option heaps.Object) → None ≡ option_map (λ (y : heaps.Object). y.kind) x → None ≡ option_and_then (object_type shapes counts) x
      other None e = refl
      other (Some x) e = cc

  pub object_there : (kind : Kind) → Some kind ≡ kind_at h o → is_some (heaps.object_at h o) ≡ true
  object_there kind e = other (heaps.object_at h o) e
    where
      other : (x : Option heaps.Object) → Some kind ≡ option_map (λ (y : heaps.Object). y.kind) x → is_some x ≡ true
      other None e = cc
      other (Some x) e = refl

  typed : (kind : Kind) (b : Bool) → Some kind ≡ kind_at h o → b ≡ ready_counted counts kind (cells_at h o)
      → (if b then Some (kind_type shapes kind) else None) ≡ option_and_then (object_type shapes counts) (heaps.object_at h o)
  typed kind b e is = other (heaps.object_at h o) e is
    where
      other : (x : Option heaps.Object) → Some kind ≡ option_map (λ (y : heaps.Object). y.kind) x
          → b ≡ ready_counted counts kind (unwrap_or (option_map (λ (y : heaps.Object). y.cells) x) [])
          → (if b then Some (kind_type shapes kind) else None) ≡ option_and_then (object_type shapes counts) x
      other None e is = cc
      other (Some x) e is =
          let same : kind ≡ x.kind = cc in
          ap (λ (c : Bool). if c then Some (kind_type shapes kind) else None) is
          ∙ ap (λ (k : Kind). if ready_counted counts k x.cells then Some (kind_type shapes k) else None) same

  pub object_ready : (kind : Kind) (b : Bool) → Some kind ≡ kind_at h o → b ≡ ready_counted counts kind (cells_at h o) → b ≡ true
      → Some (kind_type shapes kind) ≡ option_and_then (object_type shapes counts) (heaps.object_at h o)
  object_ready kind b e is yes-it-is = sym (ap (λ (c : Bool). if c then Some (kind_type shapes kind) else None) yes-it-is) ∙ typed kind b e is

  pub object_bare : (kind : Kind) (b : Bool) → Some kind ≡ kind_at h o → b ≡ ready_counted counts kind (cells_at h o) → b ≡ false
      → None ≡ option_and_then (object_type shapes counts) (heaps.object_at h o)
  object_bare kind b e is it-isnt = sym (ap (λ (c : Bool). if c then Some (kind_type shapes kind) else None) it-isnt) ∙ typed kind b e is

pub null_typed : (x : Objects) (o : ℕ) → o ≡ 0 → Some types.Null ≡ type_in x (Ref o)
null_typed x o e = rw e refl

pub ref_typed : (x : Objects) (o : ℕ) (t : Option TypeRef) → (o ≡ 0 → ⊥) → t
    ≡ option_and_then (object_type x.shapes.now x.counts) (heaps.object_at x.heap.now o)
    → t ≡ type_in x (Ref o)
ref_typed x zero t some h = absurd (some refl)
ref_typed x (suc o) t some h = h

-- ---- as the definition has it

-- the class of an object that a class made
module _ (p : Program) (shapes : Shapes) (objects : List heaps.Object) (things : Things) (cells : List ℕ) where
  user_named : (i : ℕ) (shape : Option Shape) → class_of (world p).named (user_by i shape cells) ≡ named p (types.Object (refs.User i))
  unfolding world
  user_named i None = refl
  user_named i (Some shape) = refl

  class_named : (c : ClassRef) → class_of (world p).named (class_by shapes objects things c cells) ≡ named p (types.Object c)
  class_named (refs.User i) = user_named i (slice_get shapes.users i)
  class_named (refs.Lib (lib.Thrown c)) = refl
  class_named (refs.Lib lib.AccessControlException) = refl
  class_named (refs.Lib lib.String) = refl
  class_named (refs.Lib lib.StringBuilder) = refl
  class_named (refs.Lib (lib.Permission c)) = refl
  class_named (refs.Lib lib.AccessControlContext) = refl
  class_named (refs.Lib lib.Thread) = refl
  class_named (refs.Lib lib.Object) = refl
  class_named (refs.Lib lib.System) = refl
  class_named (refs.Lib lib.PrintStream) = refl
  class_named (refs.Lib lib.Void) = refl
  class_named (refs.Lib lib.Cloneable) = refl
  class_named (refs.Lib lib.Serializable) = refl
  class_named (refs.Lib lib.Runnable) = refl
  class_named (refs.Lib lib.PrivilegedAction) = refl
  class_named (refs.Lib lib.AccessController) = refl
  class_named (refs.Lib lib.Rt) = refl
  class_named (refs.Lib lib.Ctx) = refl

  -- the class of an object of a kind
  pub kind_named : (kind : Kind) → class_of (world p).named (kind_by p shapes objects things kind cells) ≡ named p (kind_type shapes kind)
  kind_named (kinds.Object n) = class_named (class_numbered n)
  kind_named (kinds.Array a) = refl
  kind_named kinds.Text = refl
  kind_named kinds.Piece = refl

module _ (law : SeesEach) (p : Program) (x : Objects) (things : Things) (constants : List (List ℕ × ℕ)) (are : AreCounted x.counts things) where
  ready_typed : (y : heaps.Object) → ready_type (world p) (object_by p x.shapes.now x.heap.now.objects things y)
      ≡ option_map (named p) (object_type x.shapes.now x.counts y)
  ready_typed y =
      let seen = object_by p x.shapes.now x.heap.now.objects things y in
      let ready : machine.is_ready seen ≡ ready_counted x.counts y.kind y.cells =
      seen_ready x.counts things are y.cells p x.shapes.now x.heap.now.objects y.kind in
      by (machine.is_ready seen) (ready_counted x.counts y.kind y.cells) ready (kind_named p x.shapes.now x.heap.now.objects things y.cells y.kind)
    where
      by : (a b : Bool) → a ≡ b → class_of (world p).named (object_by p x.shapes.now x.heap.now.objects things y) ≡ named p (kind_type x.shapes.now y.kind)
          → (if a then Some (class_of (world p).named (object_by p x.shapes.now x.heap.now.objects things y)) else None)
          ≡ option_map (named p) (if b then Some (kind_type x.shapes.now y.kind) else None)
      by true true e h = ap (λ (t : VType). Some t) h
      by false false e h = refl
      by true false e h = cc
      by false true e h = cc

  seen_typed : (o : Option heaps.Object) → found_type (world p) (option_map (object_by p x.shapes.now x.heap.now.objects things) o)
      ≡ option_map (named p) (option_and_then (object_type x.shapes.now x.counts) o)
  seen_typed None = refl
  seen_typed (Some y) = ready_typed y

  value_typed : (v : Value ℕ) → type_of (world p) (store_by p x.shapes.now things constants x.heap.now) v ≡ option_map (named p) (type_in x v)
  value_typed (Int n) = refl
  value_typed (Long n) = refl
  value_typed (Ctx k) = refl
  value_typed (Ref zero) = refl
  value_typed (Ref (suc o)) = ap (found_type (world p)) (law p x.shapes.now things constants x.heap.now (suc o))
      ∙ seen_typed (heaps.object_at x.heap.now (suc o))

-- the type of a value by number is its type
pub type_is : SeesEach → (p : Program) (x : Objects) (s : Store ℕ) (v : Value ℕ) → IsStore p x s → type_of (world p) s v ≡ option_map (named p) (type_in x v)
type_is law p x s v store = ap (λ (s : Store ℕ). type_of (world p) s v) store.seen ∙ value_typed law p x store.things store.constants store.counted v
