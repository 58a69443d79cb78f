use Rattle.std.proofs.Common.{arith}
use Rattle.jparts.proofs.JpoolProofs.PoolExtension.{laid_count}
use Rattle.jadder.proofs.NumberedPools.{least_next, spelled_or_none}
use Rattle.jadder.proofs.adder.numbers_of.Goals as goal

pub overflow_cast-i : goal.overflow_cast-i
overflow_cast-i c = omega (arith, laid_count c.args.entries.now c.requires.laid)

pub note-requires : goal.note-requires
note-requires c = spelled_or_none c.args.entries.now c.loop-i.i c.index-entries-i.result c.requires c.loop-i-test.true c.index-entries-i.is

pub loop-i-preserved : goal.loop-i-preserved
loop-i-preserved c = least_next c.args.entries.now c.loop-i.i c.index-entries-i.result c.loop-i.numbers c.note.new.numbers c.loop-i-test.true c.index-entries-i.is c.loop-i.invariant c.in_ok-note.ensures
