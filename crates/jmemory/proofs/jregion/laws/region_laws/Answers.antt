use Rattle.jmemory.proofs.JregionProofs.RegionBlocks.{begins_empty, adds_zeros, are_long, writes_one, reads_the_write, adds_up, keeps_size}
use Rattle.jmemory.proofs.jregion.laws.region_laws.Goals as goal

pub returns-clause-begins : goal.returns-clause-begins
returns-clause-begins c = begins_empty

pub returns-clause-adds : goal.returns-clause-adds
returns-clause-adds c = adds_zeros

pub returns-clause-long : goal.returns-clause-long
returns-clause-long c = are_long

pub returns-clause-writes : goal.returns-clause-writes
returns-clause-writes c = writes_one

pub returns-clause-reads : goal.returns-clause-reads
returns-clause-reads c = reads_the_write

pub returns-clause-adds_up : goal.returns-clause-adds_up
returns-clause-adds_up c = adds_up

pub returns-clause-size : goal.returns-clause-size
returns-clause-size c = keeps_size
