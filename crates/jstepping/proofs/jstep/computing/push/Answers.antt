use Rattle.jstepping.proofs.JstepProofs.PoolNumbers.{number_pushed}
use Rattle.jstepping.proofs.jstep.computing.push.Goals as goal

pub returns-clause-row : goal.returns-clause-row
returns-clause-row g c =
    number_pushed c.way_laws.ensures c.args.frames.now.newest c.give.result c.args.tables.now c.args.f c.value_of.result c.args.frames.now c.give.new.frames
    c.value_of.ensures.number c.value_of.ensures.means c.give.ensures.way c.give.ensures.frames
