use Rattle.std.proofs.Common.{◌≡◌, ◌≤◌, ◌++◌, length, drop}
use Rattle.jresolution.specs.jprogram.ProgramClasses.{faces}
use Rattle.jresolution.specs.jprogram.InterfaceSearch.{waiting_names}
use Rattle.jresolution.specs.jprogram.FoundClasses.{seen}
use Rattle.jresolution.proofs.jprogram.searching.put_faces.Given as goal

abbrev pub invariant-loop-k : goal.invariant-loop-k
invariant-loop-k l = (l.k ≤ length (faces (seen l.class))) × (waiting_names l.waiting.items ≡ drop l.k (faces (seen l.class)) ++ waiting_names l.initial.waiting.items)

abbrev pub decreases-loop-k : goal.decreases-loop-k
decreases-loop-k l = l.k
