use Rattle.jground.specs.jbase.FirstFaults.{first_some}
use Rattle.jresolution.specs.jprogram.ProgramClasses.{superinterfaces}
use Rattle.jresolution.specs.jprogram.InterfaceSearch.{IsLayered, member_at, waiting_names}
use Rattle.jresolution.proofs.JprogramProofs.InterfaceSearch.{Cost, Going}
use Rattle.jresolution.proofs.jprogram.classes.NamedProgram.search.Given as goal

abbrev pub invariant-loop-face : goal.invariant-loop-face
invariant-loop-face l =
    (L : IsLayered l.self) → Going l.self L (member_at l.self l.sort l.name l.desc) (first_some (member_at l.self l.sort l.name l.desc) (superinterfaces l.self l.class)) (waiting_names l.waiting.items) l.closed

abbrev pub decreases-loop-face : goal.decreases-loop-face
decreases-loop-face l = Cost l.self (waiting_names l.waiting.items) l.closed
