use Rattle.std.proofs.Common.{refl}
use Rattle.jlibcalls.proofs.JlibraryProofs.CallFrameOutcomes.{runs, stays_so}
use Rattle.jlibcalls.proofs.jlibrary.running.run.Goals as goal

pub returns-clause-row : goal.returns-clause-row
returns-clause-row g c =
    runs c.args.fixed.now.shapes.now c.args.fixed.now.cwd.now c.args.fixed.now.thread c.args.call c.args.count c.args.frames.now.newest c.go.new.frames.newest c.args.permissions.now c.row.new.permissions c.args.heap.now c.row.new.heap c.in_ok-came.came (record { way = c.in_ok-way.way; told = c.in_ok-came.came.told })
    c.requires.free c.in_ok-came.ensures.row c.in_ok-way.ensures.leaves refl

pub returns-clause-stays : goal.returns-clause-stays
returns-clause-stays g c =
    stays_so c.args.fixed.now.shapes.now c.args.fixed.now.cwd.now c.args.fixed.now.thread c.args.call c.args.count c.args.frames.now.newest c.go.new.frames.newest c.args.permissions.now c.row.new.permissions c.args.heap.now c.row.new.heap c.in_ok-came.came (record { way = c.in_ok-way.way; told = c.in_ok-came.came.told })
    c.in_ok-came.ensures.row c.in_ok-way.ensures.leaves
