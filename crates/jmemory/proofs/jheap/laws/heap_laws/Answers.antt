use Rattle.jmemory.proofs.JheapProofs.CellLaws.{reads_the_write, leaves_others}
use Rattle.jmemory.proofs.jheap.laws.heap_laws.Goals as goal

pub returns-clause-reads : goal.returns-clause-reads
returns-clause-reads c = reads_the_write

pub returns-clause-others : goal.returns-clause-others
returns-clause-others c = leaves_others
