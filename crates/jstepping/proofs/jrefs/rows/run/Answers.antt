use Rattle.jstepping.proofs.JrefsProofs.RowTransfer.{runs, runs_alike}
use Rattle.jstepping.proofs.jrefs.rows.run.Goals as goal

pub returns-clause-row : goal.returns-clause-row
returns-clause-row g c =
    runs c.args.x.now c.args.counts c.args.one c.args.frames.now.newest c.run_row.new.frames.newest c.args.heap.now c.run_row.new.heap c.run_row.result
    c.run_row.ensures.row

pub returns-clause-alike : goal.returns-clause-alike
returns-clause-alike g c =
    runs_alike c.args.x.now c.args.counts c.args.one c.args.frames.now.newest c.run_row.new.frames.newest c.args.heap.now c.run_row.new.heap
    c.alike_laws.ensures.rows c.run_row.result c.run_row.ensures.row c.run_row.ensures.missing
