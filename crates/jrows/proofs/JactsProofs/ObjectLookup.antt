-- The object of a number, by jstate's law.
use Rattle.std.proofs.Common.{◌≡◌, ℕ, zero, suc, List, refl}
use Rattle.std.specs.Prelude.{option_map}
use Rattle.std.proofs.lemmas.Option.{slice_get-map}
use Rattle.jmemory.specs.jheap.Heaps as heaps
use Rattle.jmemory.specs.jheap.Heaps.{Heaped}
use Rattle.jresolution.specs.jprogram.ProgramClasses.{Program}
use Rattle.jsemantics.specs.jmachine.Store.{object_at}
use Rattle.jruntime.specs.declared.jstate.shapes.Shapes.{Shapes}
use Rattle.jruntime.specs.jstate.HeapMeanings.{Things, object_by, store_by}

pub seen_at : (p : Program) (shapes : Shapes) (things : Things) (constants : List (List ℕ × ℕ)) (h : Heaped) (o : ℕ)
    → object_at (store_by p shapes things constants h) o ≡ option_map (object_by p shapes h.objects things) (heaps.object_at h o)
seen_at p shapes things constants h zero = refl
seen_at p shapes things constants h (suc o) = slice_get-map (object_by p shapes h.objects things) h.objects o
