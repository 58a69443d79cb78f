use Rattle.jlibcalls.proofs.JthreadingProofs.ThreadRequests.{init_asks, init_asks_nothing, init_stuck, others_ask_nothing}
use Rattle.jlibcalls.proofs.jthreading.laws.init_laws.Goals as goal

pub returns-clause-asks : goal.returns-clause-asks
returns-clause-asks g c = init_asks c.heap_laws.ensures.each

pub returns-clause-nothing : goal.returns-clause-nothing
returns-clause-nothing g c = init_asks_nothing c.heap_laws.ensures.each

pub returns-clause-stuck : goal.returns-clause-stuck
returns-clause-stuck g c = init_stuck c.heap_laws.ensures.each

pub returns-clause-others : goal.returns-clause-others
returns-clause-others g c = others_ask_nothing
