use Rattle.jresolution.specs.jprogram.InterfaceSearch.{waiting_names}
use Rattle.jresolution.proofs.JprogramProofs.CycleSearch.{Seeking}
use Rattle.jresolution.proofs.JprogramProofs.SearchTermination.{Climb}
use Rattle.jresolution.proofs.jprogram.classes.NamedProgram.is_reached.Given as goal

abbrev pub invariant-loop-next : goal.invariant-loop-next
invariant-loop-next l = Seeking l.self l.fn.d l.fn.c (waiting_names l.waiting.items) l.closed

abbrev pub decreases-loop-next : goal.decreases-loop-next
decreases-loop-next l = Climb l.self (waiting_names l.waiting.items) l.closed
