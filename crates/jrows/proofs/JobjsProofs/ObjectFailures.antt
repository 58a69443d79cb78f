-- What raises or finds too few cells changes nothing.
use Rattle.std.proofs.Common.{ℕ, Bool, true, false, Option, Some, None, inl, inr}
use Rattle.std.specs.Prelude.{IfOk, Result, Ok, Err}
use Rattle.jmemory.specs.declared.jheap.cell.Kind.{Kind}
use Rattle.jmemory.specs.jheap.Heaps.{Heaped}
use Rattle.jvalues.specs.declared.jops.value.Value.{Value}
use Rattle.jruntime.specs.jstate.FrameLists.{Framed}
use Rattle.jrows.specs.jacts.RowOutcomes.{Rests}
use Rattle.jrows.specs.declared.jacts.way.Way.{Way}
use Rattle.jrows.specs.jobjs.NewObjects.{HasNew}
use Rattle.jrows.specs.jobjs.StoredReferences.{HasStored}
use Rattle.jrows.proofs.JactsProofs.ArrayFailures.{put}

-- ---- a new object

new : {E : Type 0} (kind : Kind) (count : ℕ) (s t : Framed E) (h g : Heaped) (way : Way) → HasNew kind count s h way t g → Rests way s t × Rests way h g
new kind count s t h g way (inl (few, is, frames, heap)) = rw is (frames, heap)
new kind count s t h g way (inr (enough, is, heap, frames)) = rw is (tt, tt)

pub new_frames : {E F : Type 0} (r : Result Way F) (kind : Kind) (count : ℕ) (s t : Framed E) (h g : Heaped) → IfOk r (λ way. HasNew kind count s h way t g) → IfOk r (λ way. Rests way s t)
new_frames (Ok way) kind count s t h g is = (new kind count s t h g way is).0
new_frames (Err e) kind count s t h g is = tt

pub new_heap : {E F : Type 0} (r : Result Way F) (kind : Kind) (count : ℕ) (s t : Framed E) (h g : Heaped) → IfOk r (λ way. HasNew kind count s h way t g) → IfOk r (λ way. Rests way h g)
new_heap (Ok way) kind count s t h g is = (new kind count s t h g way is).1
new_heap (Err e) kind count s t h g is = tt

-- ---- a store of a reference

pub stored : {E : Type 0} (o : ℕ) (v : Value ℕ) (s t : Framed E) (h g : Heaped) (way : Way) (is : Bool) (k : Option ℕ) → HasStored is o v s h way t g k → Rests way s t × Rests way h g
stored o v s t h g way is None has = put o v s t h g way None has
stored o v s t h g way true (Some k) has = put o v s t h g way (Some k) has
stored o v s t h g way false (Some k) (raises, frames, heap) = rw raises (frames, heap)
