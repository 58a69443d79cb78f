use Rattle.jstepping.proofs.JstepProofs.RowMeanings.{ok_alike, ok_stays}
use Rattle.jstepping.proofs.jstep.rows.run.Goals as goal

pub returns-clause-stays : goal.returns-clause-stays
returns-clause-stays g c =
    ok_stays c.run_row.result c.args.fixed.now.tables.now c.args.fixed.now.shapes.now c.args.one c.args.frames.now.newest c.run_row.new.frames.newest
    c.args.heap.now c.run_row.new.heap c.requires.here c.requires.within c.run_row.ensures.row

pub returns-clause-alike : goal.returns-clause-alike
returns-clause-alike g c =
    ok_alike c.alike_laws.ensures.rows c.args.fixed.now.tables.now c.args.fixed.now.shapes.now c.args.one c.args.frames.now.newest c.run_row.new.frames.newest
    c.args.heap.now c.run_row.new.heap c.run_row.result c.requires.here c.requires.within c.run_row.ensures.row
