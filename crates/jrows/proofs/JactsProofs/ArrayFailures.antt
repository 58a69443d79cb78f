-- What raises, throws or finds too few cells changes nothing.
use Rattle.std.proofs.Common.{ℕ, Option, Some, None, inl, inr, refl}
use Rattle.std.specs.Prelude.{IfOk, Result, Ok, Err}
use Rattle.jmemory.specs.declared.jheap.cell.Kind.{Kind}
use Rattle.jmemory.specs.jheap.Heaps.{Heaped}
use Rattle.jvalues.specs.declared.jops.value.Value.{Value}
use Rattle.jruntime.specs.jstate.FrameLists.{Framed}
use Rattle.jrows.specs.jacts.ArrayAccesses.{HasPut}
use Rattle.jrows.specs.jacts.ArrayOperands.{HasMade}
use Rattle.jrows.specs.jacts.RowOutcomes.{Rests}
use Rattle.jrows.specs.declared.jacts.way.Way.{Way}
use Rattle.jrows.specs.declared.jacts.way.Way.TheVariants as ways

-- what nothing has changed
pub same : {A : Type 0} (way : Way) (x : A) → Rests way x x
same ways.Went x = tt
same ways.Stuck x = tt
same (ways.Raises class) x = refl
same (ways.Throws n) x = refl
same ways.Full x = refl

pub ok_same : {A F : Type 0} (r : Result Way F) (x : A) → IfOk r (λ way. Rests way x x)
ok_same (Ok way) x = same way x
ok_same (Err e) x = tt

-- ---- a new array

made : {E : Type 0} (kind : Kind) (count : ℕ) (s t : Framed E) (h g : Heaped) (way : Way) → HasMade kind count s h way t g → Rests way s t × Rests way h g
made kind count s t h g way (inl (few, is, frames, heap)) = rw is (frames, heap)
made kind count s t h g way (inr (enough, is, heap, frames)) = rw is (tt, tt)

pub made_frames : {E F : Type 0} (r : Result Way F) (kind : Kind) (count : ℕ) (s t : Framed E) (h g : Heaped) → IfOk r (λ way. HasMade kind count s h way t g) → IfOk r (λ way. Rests way s t)
made_frames (Ok way) kind count s t h g is = (made kind count s t h g way is).0
made_frames (Err e) kind count s t h g is = tt

pub made_heap : {E F : Type 0} (r : Result Way F) (kind : Kind) (count : ℕ) (s t : Framed E) (h g : Heaped) → IfOk r (λ way. HasMade kind count s h way t g) → IfOk r (λ way. Rests way h g)
made_heap (Ok way) kind count s t h g is = (made kind count s t h g way is).1
made_heap (Err e) kind count s t h g is = tt

-- ---- a store

pub put : {E : Type 0} (o : ℕ) (v : Value ℕ) (s t : Framed E) (h g : Heaped) (way : Way) (k : Option ℕ) → HasPut o v s h way t g k → Rests way s t × Rests way h g
put o v s t h g way None (is, frames, heap) = rw is (frames, heap)
put o v s t h g way (Some k) (is, inside, back, heap, frames) = rw is (tt, tt)
