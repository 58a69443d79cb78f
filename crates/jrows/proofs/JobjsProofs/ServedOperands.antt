-- Operands that serve.
use Rattle.std.proofs.Common.{◌≡◌, ◌∙◌, ℕ, zero, suc, Bool, true, false, ◌≤◌, List, [], ◌∷◌, length, drop, Option, Some, None, refl, sym, ap, arith}
use Rattle.std.specs.Prelude.{is_some, option_map, slice_get, if◌then◌else◌}
use Rattle.jvalues.specs.declared.jops.value.Value.{Value}
use Rattle.jvalues.specs.declared.jops.value.Value.TheVariants.{Int, Long, Ref, Ctx}
use Rattle.jmemory.specs.declared.jheap.cell.Kind.{Kind}
use Rattle.jmemory.specs.declared.jheap.cell.Kind.TheVariants as kinds
use Rattle.jmemory.specs.jheap.Heaps as heaps
use Rattle.jmemory.specs.jheap.Heaps.{Heaped, kind_at}
use Rattle.jresolution.specs.jprogram.ProgramClasses.{Program}
use Rattle.jtyping.specs.jrule.StackEffects.{Want}
use Rattle.jsemantics.specs.jmachine.TakenOperands.{serves, taken, with_value}
use Rattle.jsemantics.specs.jmachine.Store.{Store, object_at}
use Rattle.jsemantics.specs.jmachine.World.{World}
use Rattle.jruntime.specs.declared.jstate.shapes.Shapes.{Shapes}
use Rattle.jruntime.specs.jstate.HeapMeanings.{Things, kind_by, object_by, store_by}
use Rattle.jruntime.specs.jstate.HeapMeaningLaws.{SeesEach}
use Rattle.jrows.specs.declared.jobjs.target.Target.TheVariants as targets
use Rattle.jrows.specs.jobjs.EntryOperands.{target_found, target_seen}

-- they don't
pub not_served : {A : Type 0} (x : Option A) → is_some x ≡ false → x ≡ None
not_served None h = refl
not_served (Some x) h = cc

module _ (w : World) (s : Store ℕ) where
  -- one that serves
  pub one_served : (want : Want) (v : Value ℕ) (rest : List (Value ℕ)) → is_some (taken w s (want ∷ []) (v ∷ rest)) ≡ true → taken w s (want ∷ []) (v ∷ rest) ≡ Some (record { values = v ∷ []; below = rest })
  unfolding taken
  one_served want v rest h = by (serves w s want v) h
    where
      by : (b : Bool) → is_some (if b then Some (with_value v (record { values = []; below = rest })) else None) ≡ true
          → (if b then Some (with_value v (record { values = []; below = rest })) else None) ≡ Some (record { values = v ∷ []; below = rest })
      by true h = refl
      by false h = cc

  pub serves_one : (want : Want) (v : Value ℕ) (rest : List (Value ℕ)) → is_some (taken w s (want ∷ []) (v ∷ rest)) ≡ true → serves w s want v ≡ true
  unfolding taken
  serves_one want v rest h = by (serves w s want v) h
    where
      by : (b : Bool) → is_some (if b then Some (with_value v (record { values = []; below = rest })) else None) ≡ true → b ≡ true
      by true h = refl
      by false h = cc

pub front_one : (operands : List (Value ℕ)) (v : Value ℕ) → Some v ≡ slice_get operands 0 → operands ≡ v ∷ drop 1 operands
front_one [] v newest = cc
front_one (x ∷ rest) v newest = let e : v ≡ x = cc in ap (λ y. y ∷ rest) (sym e)

-- an operand is there
pub record HasFront (operands : List (Value ℕ)) : Type 0 where
  pub value : Value ℕ
  pub newest : Some value ≡ slice_get operands 0

module _ (w : World) (s : Store ℕ) (want : Want) where
  pub has_front : (operands : List (Value ℕ)) → is_some (taken w s (want ∷ []) operands) ≡ true → HasFront operands
  unfolding taken
  has_front [] h = cc
  has_front (v ∷ rest) h = record { value = v; newest = refl }

  pub taken_front : (operands : List (Value ℕ)) (v : Value ℕ) → Some v ≡ slice_get operands 0 → is_some (taken w s (want ∷ []) operands) ≡ true
      → taken w s (want ∷ []) operands ≡ Some (record { values = v ∷ []; below = drop 1 operands })
  taken_front operands v newest h =
      let front = front_one operands v newest in
      ap (taken w s (want ∷ [])) front ∙ one_served w s want v (drop 1 operands) (ap (λ xs. is_some (taken w s (want ∷ []) xs)) (sym front) ∙ h)

-- ---- the object that an operand names

pub front_null : (h : Heaped) (operands : List (Value ℕ)) → targets.Null ≡ target_seen h (slice_get operands 0) → operands ≡ Ref zero ∷ drop 1 operands
front_null h [] e = cc
front_null h (Int x ∷ rest) e = cc
front_null h (Long x ∷ rest) e = cc
front_null h (Ctx k ∷ rest) e = cc
front_null h (Ref zero ∷ rest) e = refl
front_null h (Ref (suc o) ∷ rest) e = other (kind_at h (suc o)) e
  where
    other : (k : Option Kind) → targets.Null ≡ target_found (suc o) k → Ref (suc o) ∷ rest ≡ Ref zero ∷ rest
    other None e = cc
    other (Some (kinds.Object n)) e = cc
    other (Some (kinds.Array n)) e = cc
    other (Some kinds.Text) e = cc
    other (Some kinds.Piece) e = cc

-- an object of a class, with its cells
pub record IsTarget (h : Heaped) (operands : List (Value ℕ)) (o n : ℕ) : Type 0 where
  pub before : ℕ
  pub number : o ≡ suc before
  pub front : operands ≡ Ref (suc before) ∷ drop 1 operands
  pub object : heaps.Object
  pub at : heaps.object_at h o ≡ Some object
  pub kind : object.kind ≡ kinds.Object n

pub is_target : (h : Heaped) (operands : List (Value ℕ)) (o n : ℕ) → targets.Object o n ≡ target_seen h (slice_get operands 0) → IsTarget h operands o n
is_target h [] o n e = cc
is_target h (Int x ∷ rest) o n e = cc
is_target h (Long x ∷ rest) o n e = cc
is_target h (Ctx k ∷ rest) o n e = cc
is_target h (Ref zero ∷ rest) o n e = cc
is_target h (Ref (suc b) ∷ rest) o n e = look (heaps.object_at h (suc b)) refl e
  where
    look : (x : Option heaps.Object) → heaps.object_at h (suc b) ≡ x → targets.Object o n ≡ target_found (suc b) (option_map (λ (y : heaps.Object). y.kind) x) → IsTarget h (Ref (suc b) ∷ rest) o n
    look None is e = cc
    look (Some x) is e = by x.kind refl e
      where
        by : (k : Kind) → x.kind ≡ k → targets.Object o n ≡ target_found (suc b) (Some k) → IsTarget h (Ref (suc b) ∷ rest) o n
        by (kinds.Object m) same e =
            let number : o ≡ suc b = cc in
            let class : m ≡ n = cc in
            record { before = b; number = number; front = refl; object = x; at = ap (heaps.object_at h) number ∙ is; kind = same ∙ ap (λ k. kinds.Object k) class }
        by (kinds.Array m) same e = cc
        by kinds.Text same e = cc
        by kinds.Piece same e = cc

-- the object as the machine's definition has it
pub target_is : SeesEach → (p : Program) (shapes : Shapes) (things : Things) (constants : List (List ℕ × ℕ)) (h : Heaped) (operands : List (Value ℕ)) (o n : ℕ) → (t : IsTarget h operands o n)
    → object_at (store_by p shapes things constants h) (suc t.before) ≡ Some (kind_by p shapes h.objects things (kinds.Object n) t.object.cells)
target_is law p shapes things constants h operands o n t =
    law p shapes things constants h (suc t.before)
    ∙ ap (λ k. option_map (object_by p shapes h.objects things) (heaps.object_at h k)) (sym t.number)
    ∙ ap (option_map (object_by p shapes h.objects things)) t.at
    ∙ ap (λ k. Some (kind_by p shapes h.objects things k t.object.cells)) t.kind

pub target_there : (h : Heaped) (operands : List (Value ℕ)) (o n : ℕ) → targets.Object o n ≡ target_seen h (slice_get operands 0) → is_some (heaps.object_at h o) ≡ true
target_there h operands o n e = let t = is_target h operands o n e in rw t.at refl

pub has_target : (h : Heaped) (operands : List (Value ℕ)) (o n : ℕ) → targets.Object o n ≡ target_seen h (slice_get operands 0) → 1 ≤ length operands
has_target h [] o n e = cc
has_target h (v ∷ rest) o n e = omega arith
