use Rattle.jrows.proofs.JobjsProofs.Statics.{all_got}
use Rattle.jrows.proofs.jobjs.fields.get_static.Goals as goal

pub returns-clause-row : goal.returns-clause-row
returns-clause-row g c =
    let is = rw c.static_at.ensures at c.push_one.ensures.frames in
    all_got c.cell_laws.ensures.reads c.way_laws.ensures c.push_one.result c.args.frames.now c.push_one.new.frames c.args.heap.now c.args.slot c.args.of c.requires.there c.push_one.ensures.way is
