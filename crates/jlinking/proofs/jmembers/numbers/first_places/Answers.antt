use Rattle.jlinking.proofs.JmembersProofs.TextNumbers.{first_end, first_next, first_none}
use Rattle.jlinking.proofs.jmembers.numbers.first_places.Goals as goal

pub loop-i-init : goal.loop-i-init
loop-i-init c = first_none c.new-places.result c.new-places.ensures.empty

pub loop-i-preserved : goal.loop-i-preserved
loop-i-preserved c = first_next c.args.entries.now c.loop-i.i c.index-entries-i.result c.entry_text.result.now c.loop-i.places c.note.new.numbers c.loop-i-test.true c.index-entries-i.is c.entry_text.ensures c.loop-i.invariant c.in_ok-note.ensures

pub returns : goal.returns
returns c = first_end c.args.entries.now c.loop-i.i c.loop-i.places c.loop-i-test.false c.loop-i.invariant
