-- The operands of calls.
use Rattle.std.proofs.Common.{◌≡◌, ◌∙◌, ℕ, zero, suc, ◌+◌, ◌<◌, ◌≤◌, ◌⊎◌, inl, inr, Bool, true, false, ◌&&◌, List, [], ◌∷◌, ◌++◌, drop, get_or, length, map, take, Option, Some, None, refl, sym, ap, subst}
use Rattle.std.specs.Prelude.{option_and_then, option_map, slice_get, if◌then◌else◌}
use Rattle.std.proofs.lemmas.List.{append-nil, at_drop_all, at_drop_more, length-append, length-map, take_more}
use Rattle.std.proofs.lemmas.Option.{slice_get_cases}
use Rattle.jmemory.specs.declared.jheap.cell.Kind.{Kind}
use Rattle.jmemory.specs.jheap.Heaps as heaps
use Rattle.jmemory.specs.jheap.Heaps.{kind_at}
use Rattle.jvalues.specs.declared.jops.value.Value.{Value}
use Rattle.jvalues.specs.declared.jops.value.Value.TheVariants.{Int, Long, Ref, Ctx}
use Rattle.jtypes.specs.declared.vtype.Name.{Name}
use Rattle.jtypes.specs.declared.vtype.VType.{VType}
use Rattle.jtypes.specs.declared.vtype.VType.TheVariants.{Object as ObjectType}
use Rattle.jresolution.specs.declared.jprogram.part.ClassRef.{ClassRef}
use Rattle.jresolution.specs.declared.jprogram.part.ClassRef.TheVariants as refs
use Rattle.jresolution.specs.jprogram.ProgramClasses.{Program}
use Rattle.jresolution.specs.declared.juses.meaning.InvokeKind.{InvokeKind}
use Rattle.jresolution.specs.declared.juses.meaning.InvokeKind.TheVariants as how
use Rattle.jresolution.specs.declared.juses.types.TypeRef.{TypeRef}
use Rattle.jresolution.specs.declared.juses.types.TypeRef.TheVariants as types
use Rattle.jresolution.specs.juses.InstructionMeanings.{CallMeaning}
use Rattle.jresolution.specs.juses.InternedTypes.{class_named, named}
use Rattle.jtyping.specs.jrule.StackEffects.{Fits, Want}
use Rattle.jtyping.specs.jrule.PoolEffects.{arguments}
use Rattle.jsemantics.specs.jmachine.CallTargets.{begun_on, init_taken, is_begun, may_begin, receiver}
use Rattle.jsemantics.specs.jmachine.HeapObjects.{Object, class_of}
use Rattle.jsemantics.specs.jmachine.TakenOperands.{Taken, taken}
use Rattle.jsemantics.specs.jmachine.Store.{Store, object_at, object_of}
use Rattle.jsemantics.specs.jmachine.World.{fits, world}
use Rattle.jruntime.specs.jstate.HeapMeanings.{object_by}
use Rattle.jruntime.specs.jstate.HeapMeaningLaws.{SeesEach}
use Rattle.jrows.specs.declared.jcalls.receiver.Receiver.{Receiver}
use Rattle.jrows.specs.declared.jcalls.receiver.Receiver.TheVariants as receivers
use Rattle.jrows.specs.jcalls.MethodCalls.{IsOfInterface, found_as, receiver_seen}
use Rattle.jserving.specs.declared.jserve.values.Objects.{Objects}
use Rattle.jserving.specs.jserve.OperandChecks.{all_serve, serves_in, took_if}
use Rattle.jserving.specs.jserve.CallOperandChecks.{CallServes, IsCall, begins_as, begins_at, begins_in, count_of}
use Rattle.jserving.specs.jserve.ValueTypes.{IsStore, kind_type}
use Rattle.jserving.proofs.JserveProofs.FittingOperands.{serves_seen, taken_all}
use Rattle.jserving.proofs.JserveProofs.ValueTypes.{kind_named}

pub on_null : (p : Program) (x : Objects) (owner : ClassRef) (o : ℕ) → o ≡ 0 → true ≡ begins_in p x owner (Ref o)
on_null p x owner o e = rw e refl

pub on_object : (p : Program) (x : Objects) (owner : ClassRef) (o : ℕ) (b : Bool) → (o ≡ 0 → ⊥) → b ≡ begins_as p x owner (kind_at x.heap.now o)
    → b ≡ begins_in p x owner (Ref o)
on_object p x owner zero b some h = absurd (some refl)
on_object p x owner (suc o) b some h = h

-- ---- calls that aren't of an `<init>`

module _ (law : SeesEach) (p : Program) (x : Objects) (s : Store ℕ) (store : IsStore p x s) (owner : ClassRef) (params : List TypeRef) (c : CallMeaning)
    (call : IsCall p owner params c) (ops : List (Value ℕ)) where
  abbrev wants : List Want
  wants = map Fits (map (named p) params)

  these : arguments c ≡ wants
  these = ap (map Fits) call.taken

  count : length wants ≡ length params
  count = length-map (map (named p) params) Fits ∙ length-map params (named p)

  abbrev f : Want → Value ℕ → Bool
  f = serves_in p x

  arguments_taken : (b : Bool) → b ≡ all_serve f wants ops → taken (world p) s (arguments c) ops ≡ took_if (length params) ops b
  arguments_taken b e =
      ap (λ (ws : List Want). taken (world p) s ws ops) these ∙ taken_all (world p) s f (serves_seen law p x s store) wants ops
      ∙ ap (λ (n : ℕ). took_if n ops (all_serve f wants ops)) count ∙ ap (took_if (length params) ops) (sym e)

  by_how : (this : ℕ) (by one : InvokeKind) (b : Bool) → by ≡ one → CallServes p s this one c (count_of one (length params)) ops b
      → CallServes p s this by c (count_of by (length params)) ops b
  by_how this by one b e h = let P : InvokeKind → Type 0 = λ (way : InvokeKind). CallServes p s this way c (count_of way (length params)) ops b in subst P (sym e) h

  pub static_served : (this : ℕ) (by : InvokeKind) (b : Bool) → by ≡ how.Static → b ≡ all_serve f wants ops
      → CallServes p s this by c (count_of by (length params)) ops b
  static_served this by b is e =
      by_how this by how.Static b is (ap (λ (ws : List Want). taken (world p) s ws ops) (append-nil (arguments c)) ∙ arguments_taken b e)

  object_taken : (t : TypeRef) (b : Bool) → b ≡ all_serve f (wants ++ Fits (named p t) ∷ []) ops
      → taken (world p) s (arguments c ++ Fits (named p t) ∷ []) ops ≡ took_if (length params + 1) ops b
  object_taken t b e =
      let all = wants ++ Fits (named p t) ∷ [] in
      let n : length all ≡ length params + 1 = length-append wants (Fits (named p t) ∷ []) ∙ ap (λ (n : ℕ). n + 1) count in
      ap (λ (ws : List Want). taken (world p) s (ws ++ Fits (named p t) ∷ []) ops) these
      ∙ taken_all (world p) s f (serves_seen law p x s store) all ops
      ∙ ap (λ (n : ℕ). took_if n ops (all_serve f all ops)) n ∙ ap (took_if (length params + 1) ops) (sym e)

  on_owner : (b : Bool) → b ≡ all_serve f (wants ++ Fits (named p (types.Object owner)) ∷ []) ops
      → taken (world p) s (arguments c ++ Fits (ObjectType c.owner) ∷ []) ops ≡ took_if (length params + 1) ops b
  on_owner b e = ap (λ (n : Name). taken (world p) s (arguments c ++ Fits (ObjectType n) ∷ []) ops) call.owned ∙ object_taken (types.Object owner) b e

  pub virtual_served : (this : ℕ) (by : InvokeKind) (b : Bool) → by ≡ how.Virtual → b ≡ all_serve f (wants ++ Fits (named p (types.Object owner)) ∷ []) ops
      → CallServes p s this by c (count_of by (length params)) ops b
  virtual_served this by b is e = by_how this by how.Virtual b is (on_owner b e)

  pub interface_served : (this : ℕ) (by : InvokeKind) (b : Bool) → by ≡ how.Interface → b ≡ all_serve f (wants ++ Fits (named p (types.Object owner)) ∷ []) ops
      → CallServes p s this by c (count_of by (length params)) ops b
  interface_served this by b is e = by_how this by how.Interface b is (on_owner b e)

  special_taken : (name : Name) (this : ℕ) (b : Bool) → name ≡ class_named p (refs.User this)
      → b ≡ all_serve f (wants ++ Fits (named p (types.Object (refs.User this))) ∷ []) ops
      → taken (world p) s (arguments c ++ Fits (ObjectType name) ∷ []) ops ≡ took_if (length params + 1) ops b
  special_taken name this b same e = ap (λ (n : Name). taken (world p) s (arguments c ++ Fits (ObjectType n) ∷ []) ops) same
      ∙ object_taken (types.Object (refs.User this)) b e

  this_named : (this : ℕ) → (world p).named this ≡ class_named p (refs.User this)
  unfolding world
  this_named this = refl

  pub special_served : (this : ℕ) (by : InvokeKind) (b : Bool) (class : ℕ) → by ≡ how.Special → class ≡ this
      → b ≡ all_serve f (wants ++ Fits (named p (types.Object (refs.User class))) ∷ []) ops → CallServes p s this by c (count_of by (length params)) ops b
  special_served this by b class is same e =
      let own = e ∙ ap (λ (n : ℕ). all_serve f (wants ++ Fits (named p (types.Object (refs.User n))) ∷ []) ops) same in
      by_how this by how.Special b is (special_taken ((world p).named this) this b (this_named this) own)

  pub init_arm : (this : ℕ) (by : InvokeKind) (b : Bool) → by ≡ how.Init → CallServes p s this how.Init c (length params + 1) ops b
      → CallServes p s this by c (count_of by (length params)) ops b
  init_arm this by b is h = by_how this by how.Init b is h

  -- ---- calls of an `<init>`

  begun_object : (o : Option heaps.Object) → is_begun (world p) c.owner (option_map (object_by p x.shapes.now x.heap.now.objects store.things) o)
      ≡ begins_as p x owner (option_map (λ (y : heaps.Object). y.kind) o)
  begun_object None = refl
  begun_object (Some y) =
      ap (λ (t : VType). fits (world p) t (ObjectType c.owner)) (kind_named p x.shapes.now x.heap.now.objects store.things y.cells y.kind)
      ∙ ap (λ (n : Name). fits (world p) (named p (kind_type x.shapes.now y.kind)) (ObjectType n)) call.owned

  begun_at : (o : ℕ) → is_begun (world p) c.owner (object_at s (suc o)) ≡ begins_as p x owner (kind_at x.heap.now (suc o))
  begun_at o =
      ap (λ (s : Store ℕ). is_begun (world p) c.owner (object_at s (suc o))) store.seen
      ∙ ap (is_begun (world p) c.owner) (law p x.shapes.now store.things store.constants x.heap.now (suc o)) ∙ begun_object (heaps.object_at x.heap.now (suc o))

  begun_so : (v : Value ℕ) → may_begin (world p) s c.owner v ≡ begins_in p x owner v
  begun_so (Int n) = refl
  begun_so (Long n) = refl
  begun_so (Ctx k) = refl
  begun_so (Ref zero) = refl
  begun_so (Ref (suc o)) = begun_at o

  begun_on_one : (n : ℕ) → begun_on (world p) s c.owner (take n ops) (drop n ops) ≡ took_if (n + 1) ops (begins_at p x owner (slice_get ops n))
  begun_on_one n = by_cases (slice_get_cases ops n).1
    where
      one : (v : Value ℕ) (b : Bool) → n < length ops → (if b then Some
          (record { values = take n ops ++ get_or ops n v ∷ []; below = drop (n + 1) ops }) else None) ≡ took_if (n + 1) ops b
      one v true few = ap (λ (vs : List (Value ℕ)). Some (record { values = vs; below = drop (n + 1) ops })) (sym (take_more ops n v few))
      one v false few = refl

      by_cases : ((x : Value ℕ) × (n < length ops) × (slice_get ops n ≡ Some x) × (get_or ops n x ≡ x)) ⊎ ((length ops ≤ n) × (slice_get ops n ≡ None))
          → begun_on (world p) s c.owner (take n ops) (drop n ops) ≡ took_if (n + 1) ops (begins_at p x owner (slice_get ops n))
      by_cases (inl (v, few, e, d)) =
          at_drop_more (begun_on (world p) s c.owner (take n ops)) ops n v few
          ∙ one v (may_begin (world p) s c.owner (get_or ops n v)) few
          ∙ ap (took_if (n + 1) ops) (begun_so (get_or ops n v) ∙ ap (begins_in p x owner) d ∙ ap (begins_at p x owner) (sym e))
      by_cases (inr (few, e)) =
          at_drop_all (begun_on (world p) s c.owner (take n ops)) ops n few ∙ ap (λ (o : Option (Value ℕ)). took_if (n + 1) ops (begins_at p x owner o)) (sym e)

  pub init_served : (this : ℕ) (b g : Bool) → b ≡ all_serve f wants ops → g ≡ begins_at p x owner (slice_get ops (length params))
      → CallServes p s this how.Init c (length params + 1) ops (b && g)
  unfolding init_taken
  init_served this b g eb eg =
      ap (λ o. option_and_then (λ (t : Taken ℕ). begun_on (world p) s c.owner t.values t.below) o) (arguments_taken b eb) ∙ by b
    where
      by : (b : Bool) → option_and_then (λ (t : Taken ℕ). begun_on (world p) s c.owner t.values t.below) (took_if (length params) ops b)
          ≡ took_if (length params + 1) ops (b && g)
      by true = begun_on_one (length params) ∙ ap (took_if (length params + 1) ops) (sym eg)
      by false = refl

-- ---- the interface by which a method is called

abbrev pub is_there : Receiver → Bool
is_there (receivers.Object kind) = true
is_there on = false

abbrev IsThere : Receiver → Type 0
IsThere on = is_there on ≡ true

true_false : true ≡ false → ⊥
true_false e = cc

module _ (law : SeesEach) (p : Program) (x : Objects) (s : Store ℕ) (store : IsStore p x s) (owner : ClassRef) (c : CallMeaning)
    (owned : c.owner ≡ class_named p owner) where
  named_as : (y : Object ℕ) (kind : Kind) (z : Option heaps.Object) → Some y ≡ option_map (object_by p x.shapes.now x.heap.now.objects store.things) z
      → receivers.Object kind ≡ found_as (option_map (λ (u : heaps.Object). u.kind) z) → class_of (world p).named y ≡ named p (kind_type x.shapes.now kind)
  named_as y kind None e h = cc
  named_as y kind (Some z) e h =
      let same : y ≡ object_by p x.shapes.now x.heap.now.objects store.things z = cc in
      let kinds_same : z.kind ≡ kind = cc in
      ap (class_of (world p).named) same ∙ kind_named p x.shapes.now x.heap.now.objects store.things z.cells z.kind
      ∙ ap (λ (k : Kind). named p (kind_type x.shapes.now k)) kinds_same

  class_is : (v : Value ℕ) (y : Object ℕ) (kind : Kind) → object_of s v ≡ Some y → receivers.Object kind ≡ receiver_seen x.heap.now (Some v)
      → class_of (world p).named y ≡ named p (kind_type x.shapes.now kind)
  class_is (Int n) y kind there on = cc
  class_is (Long n) y kind there on = cc
  class_is (Ctx k) y kind there on = cc
  class_is (Ref zero) y kind there on = cc
  class_is (Ref (suc o)) y kind there on =
      named_as y kind (heaps.object_at x.heap.now (suc o))
      (sym there ∙ ap (λ (s : Store ℕ). object_at s (suc o)) store.seen ∙ law p x.shapes.now store.things store.constants x.heap.now (suc o)) on

  missing_is : (v : Value ℕ) (y : Object ℕ) → object_of s v ≡ Some y → IsThere (receiver_seen x.heap.now (Some v))
  missing_is (Int n) y there = cc
  missing_is (Long n) y there = cc
  missing_is (Ctx k) y there = cc
  missing_is (Ref zero) y there = cc
  missing_is (Ref (suc o)) y there = by (heaps.object_at x.heap.now (suc o))
      (sym there ∙ ap (λ (s : Store ℕ). object_at s (suc o)) store.seen ∙ law p x.shapes.now store.things store.constants x.heap.now (suc o))
    where
      by : (z : Option heaps.Object) → Some y ≡ option_map (object_by p x.shapes.now x.heap.now.objects store.things) z
          → IsThere (found_as (option_map (λ (u : heaps.Object). u.kind) z))
      by None e = cc
      by (Some z) e = refl

  pub no_interface : (values : List (Value ℕ)) (on : Receiver) (b : Bool) → on ≡ receiver_seen x.heap.now (receiver values) → is_there on ≡ false
      → IsOfInterface p s c values b
  no_interface values on b seen none v y newest there =
      absurd (true_false (sym (missing_is v y there) ∙ ap is_there (sym (seen ∙ ap (receiver_seen x.heap.now) newest)) ∙ none))
