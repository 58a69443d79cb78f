-- Stores that are the same, whatever else is kept.
use Rattle.std.proofs.Common.{◌≡◌, ℕ, List, ap}
use Rattle.jmemory.specs.jheap.Heaps.{Heaped}
use Rattle.jsemantics.specs.jmachine.HeapObjects.{Object}
use Rattle.jruntime.specs.jstate.HeapMeanings.{Things, store_by, values_of}
use Rattle.jrows.specs.declared.jcalls.ready.Counts.{Counts}
use Rattle.jstepping.specs.declared.jrefs.lasting.Lasting.{Lasting}
use Rattle.jstepping.specs.jrefs.RowInvariance.{AreSeen}

module _ (x : Lasting) (counts : Counts) (h : Heaped) (others : Things) (constants : List (List ℕ × ℕ)) (seen : AreSeen x counts h.objects others) where
  pub store_is : store_by x.ancestors.now x.shapes.now others constants h ≡ store_by x.ancestors.now x.shapes.now seen.things constants h
  store_is =
      ap (λ (os : List (Object ℕ)). record { objects = os; statics = values_of x.shapes.now.statics h.statics; constants = constants; left = h.left }) seen.alike
