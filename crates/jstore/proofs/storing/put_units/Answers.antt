use Rattle.std.proofs.Common.{arith}
use Rattle.jstore.proofs.WrittenUnits.{written_more, written_none}
use Rattle.jstore.proofs.storing.put_units.Goals as goal

pub loop-unit-init : goal.loop-unit-init
loop-unit-init c = written_none c.args.out.now

pub loop-unit-preserved : goal.loop-unit-preserved
loop-unit-preserved c = written_more c.args.out.now c.loop-unit.out c.put_unit.new.out c.args.units.now c.loop-unit.unit-index (omega arith) c.loop-unit.invariant c.in_ok-put_unit.ensures
