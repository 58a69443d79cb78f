-- References that are stored in arrays.
use Rattle.std.proofs.Common.{◌≡◌, ◌∙◌, ℕ, zero, suc, ◌<◌, ◌≤◌, Bool, true, false, ◌&&◌, List, [], ◌∷◌, Option, Some, None, refl, sym, ap, rules}
use Rattle.std.specs.Prelude.{is_some, nat_lt, option_and_then, option_map, slice_get, if◌then◌else◌}
use Rattle.jparts.specs.declared.jcode.names.Element.TheVariants as items
use Rattle.jmemory.specs.declared.jheap.cell.Kind.{Kind}
use Rattle.jmemory.specs.declared.jheap.cell.Kind.TheVariants as kinds
use Rattle.jmemory.specs.jheap.Heaps as heaps
use Rattle.jmemory.specs.jheap.Heaps.{Heaped, kind_at}
use Rattle.jvalues.specs.declared.jnames.kinds.Kind.TheVariants as wanted
use Rattle.jvalues.specs.declared.jops.value.Value.{Value}
use Rattle.jvalues.specs.declared.jops.value.Value.TheVariants.{Ref}
use Rattle.jresolution.specs.jprogram.ProgramClasses.{Program}
use Rattle.jresolution.specs.declared.juses.types.ArrayRef.{ArrayRef}
use Rattle.jresolution.specs.declared.juses.types.TypeRef.{TypeRef}
use Rattle.jresolution.specs.juses.InternedTypes.{array_named, named}
use Rattle.jtyping.specs.jrule.StackEffects.{Holds, Of, held_as, holds, items_of, same_items}
use Rattle.jsemantics.specs.jmachine.TakenOperands.{taken, type_of, serves_as}
use Rattle.jsemantics.specs.jmachine.InstructionSites.{Site}
use Rattle.jsemantics.specs.jmachine.Store.{Store}
use Rattle.jsemantics.specs.jmachine.World.{World, world}
use Rattle.jruntime.specs.declared.jstate.shapes.Shapes.{Shapes}
use Rattle.jruntime.specs.jstate.HeapMeanings.{array_at}
use Rattle.jruntime.specs.jstate.HeapMeaningLaws.{SeesEach}
use Rattle.jrows.specs.jobjs.StoredReferences.{MayStore, ServeStore, held_found, held_seen}
use Rattle.jrows.specs.jcalls.Readiness.{ready_counted}
use Rattle.jserving.specs.declared.jserve.values.Objects.{Objects}
use Rattle.jserving.specs.jserve.OperandChecks.{one_serves, serves_in}
use Rattle.jserving.specs.jserve.StoreTargets.{number_found, number_held}
use Rattle.jserving.specs.jserve.ValueTypes.{IsStore, kind_type, object_type, type_in}
use Rattle.jserving.proofs.JserveProofs.FittingOperands.{serves_seen, triple}
use Rattle.jsemantics.specs.jmachine.ObjectInstructions.{is_one}
use Rattle.jtyping.specs.jrule.ArrayRule.{component}

-- ---- ints

-- no reference is one
pub ref_is_no_int : (p : Program) (x : Objects) (n : ℕ) → false ≡ serves_in p x (Of wanted.Int) (Ref n)
ref_is_no_int p x zero = refl
ref_is_no_int p x (suc o) = look (heaps.object_at x.heap.now (suc o))
  where
    by : (kind : Kind) (b : Bool) → false ≡ serves_as (world p) (Of wanted.Int) (option_map (named p) (if b then Some (kind_type x.shapes.now kind) else None))
    by (kinds.Object n) true = refl
    by (kinds.Array n) true = refl
    by kinds.Text true = refl
    by kinds.Piece true = refl
    by kind false = refl

    look : (o : Option heaps.Object) → false ≡ serves_as (world p) (Of wanted.Int) (option_map (named p) (option_and_then (object_type x.shapes.now x.counts) o))
    look None = refl
    look (Some y) = by y.kind (ready_counted x.counts y.kind y.cells)

-- ---- arrays of references

pub many_held : (p : Program) (a : ArrayRef) → 1 < a.depth → true ≡ same_items items.Ref (items_of (array_named p a))
many_held p a many = let b : nat_lt 1 a.depth ≡ true = search rules in rw b refl

pub one_held : (p : Program) (a : ArrayRef) (b : Bool) → a.depth ≤ 1 → b ≡ same_items items.Ref (held_as (array_named p a).element) → b ≡ same_items items.Ref (items_of (array_named p a))
one_held p a b few e = let c : nat_lt 1 a.depth ≡ false = search rules in rw c e

pub no_refs : (p : Program) (x : Objects) (v : Value ℕ) → None ≡ type_in x v → false ≡ serves_in p x (Holds items.Ref) v
no_refs p x v e = ap (λ (t : Option TypeRef). serves_as (world p) (Holds items.Ref) (option_map (named p) t)) e

pub refs_typed : (p : Program) (x : Objects) (v : Value ℕ) (t : TypeRef) (b : Bool) → Some t ≡ type_in x v → b ≡ holds items.Ref (named p t) → b ≡ serves_in p x (Holds items.Ref) v
refs_typed p x v t b e h = h ∙ ap (λ (t : Option TypeRef). serves_as (world p) (Holds items.Ref) (option_map (named p) t)) e

-- ---- the operands of a store

module _ (law : SeesEach) (p : Program) (x : Objects) (s : Store ℕ) (store : IsStore p x s) (operands : List (Value ℕ)) where
  abbrev first : Bool
  first = one_serves (serves_in p x) (Of wanted.Ref) (slice_get operands 0)

  abbrev second : Bool
  second = one_serves (serves_in p x) (Of wanted.Int) (slice_get operands 1)

  abbrev third : Bool
  third = one_serves (serves_in p x) (Holds items.Ref) (slice_get operands 2)

  pub store_served : (at : Site) (a b c : Bool) → at.world ≡ world p → a ≡ first → b ≡ second → c ≡ third → ServeStore at s operands (a && (b && c))
  store_served at a b c here ea eb ec =
      ap (λ (w : World). is_some (taken w s (Of wanted.Ref ∷ Of wanted.Int ∷ Holds items.Ref ∷ []) operands)) here
      ∙ triple (world p) s (serves_in p x) (serves_seen law p x s store) (Of wanted.Ref) (Of wanted.Int) (Holds items.Ref) operands
      ∙ ap (λ (t : Bool). t && (second && third)) (sym ea) ∙ ap (λ (t : Bool). a && (t && third)) (sym eb) ∙ ap (λ (t : Bool). a && (b && t)) (sym ec)

-- ---- the array

found_held : (o : ℕ) (k : Option Kind) → number_found k ≡ number_held (held_found o k)
found_held o None = refl
found_held o (Some (kinds.Object n)) = refl
found_held o (Some (kinds.Array n)) = refl
found_held o (Some kinds.Text) = refl
found_held o (Some kinds.Piece) = refl

pub number_seen : (h : Heaped) (o : ℕ) (n : Option ℕ) → n ≡ number_found (kind_at h o) → n ≡ number_held (held_seen h (Some (Ref o)))
number_seen h zero n e = e
number_seen h (suc o) n e = e ∙ found_held (suc o) (kind_at h (suc o))

module _ (w : World) (p : Program) (shapes : Shapes) (s : Store ℕ) (h : Heaped) (values : List (Value ℕ)) where
  pub may_none : None ≡ number_held (held_seen h (slice_get values 2)) → MayStore w p shapes s h values false
  may_none e o a k i v newest index held inside =
      let never : Some a ≡ None = ap number_held held ∙ sym e in
      absurd cc

  pub may_some : (n : ℕ) (value : Value ℕ) (b : Bool) → Some n ≡ number_held (held_seen h (slice_get values 2)) → Some value ≡ slice_get values 0
      → b ≡ is_one w (component (array_named p (array_at shapes n))) (type_of w s value) → MayStore w p shapes s h values b
  may_some n value b e there is o a k i v newest index held inside =
      let numbers : Some a ≡ Some n = ap number_held held ∙ sym e in
      let values_are : Some v ≡ Some value = sym newest ∙ sym there in
      let number : a ≡ n = cc in
      let same : v ≡ value = cc in
      rw (number, same) (sym is)
