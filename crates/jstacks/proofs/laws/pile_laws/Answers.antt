use Rattle.jstacks.proofs.PileLaws.{reads_the_write, leaves_others, counts_both_ways, closes_the_opened}
use Rattle.jstacks.proofs.laws.pile_laws.Goals as goal

pub returns-clause-reads : goal.returns-clause-reads
returns-clause-reads g c = reads_the_write

pub returns-clause-others : goal.returns-clause-others
returns-clause-others g c = leaves_others

pub returns-clause-counts : goal.returns-clause-counts
returns-clause-counts g c = counts_both_ways

pub returns-clause-closes : goal.returns-clause-closes
returns-clause-closes g c = closes_the_opened
