use Rattle.std.proofs.Common.{◌≤◌, rules}
use Rattle.std.specs.Prelude.{length}
use Rattle.jstepping.proofs.JrefsProofs.FieldInstructions.{got_static, read_past}
use Rattle.jstepping.proofs.jrefs.statics.read_static.Goals as goal

pub returns-then-a-static_count-clause-row : goal.returns-then-a-static_count-clause-row
returns-then-a-static_count-clause-row g c counts f n =
    let high : length c.args.heap.now.statics ≤ c.args.a.slot = search rules in
    read_past c.args.x.now c.requires.lasting counts c.args.frames.now.newest c.args.frames.now.newest c.args.heap.now c.args.heap.now c.args.a f n
    c.requires.op c.cell_laws.ensures.none high

pub returns-clause-row : goal.returns-clause-row
returns-clause-row g c =
    got_static c.args.x.now c.requires.lasting c.args.frames.now.newest c.get_static.new.frames.newest c.args.heap.now c.args.a c.requires.op
    c.get_static.result c.get_static.ensures.row
