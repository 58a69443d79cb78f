use Rattle.std.proofs.Common.{◌≡◌, ◌<◌, rules}
use Rattle.std.specs.Prelude.{true, false, length}
use Rattle.jrows.proofs.JobjsProofs.Statics.{put_none, put_not, static_put}
use Rattle.jrows.proofs.jobjs.fields.put_static.Goals as goal

pub returns-then-not-serve-clause-row : goal.returns-then-not-serve-clause-row
returns-then-not-serve-clause-row g c p shapes things constants f of =
    let serve : c.args.serve ≡ false = search rules in
    rw serve (put_not c.args.frames.now.newest c.args.heap.now c.args.slot of p shapes things constants f c.args.narrow c.args.frames.now.newest)

pub returns-then-count-lt1-clause-row : goal.returns-then-count-lt1-clause-row
returns-then-count-lt1-clause-row g c p shapes things constants f of =
    let serve : c.args.serve ≡ true = search rules in
    let few : length c.args.frames.now.newest.operands < 1 = search rules in
    rw serve (put_none c.args.frames.now.newest c.args.heap.now c.args.slot of p shapes things constants f c.args.narrow c.args.frames.now.newest few)

pub returns-clause-row : goal.returns-clause-row
returns-clause-row g c p shapes things constants f of =
    let serve : c.args.serve ≡ true = search rules in
    rw (serve, c.go_on.ensures, c.shrink.ensures, c.keep_static.ensures.heap)
    (static_put c.args.frames.now.newest c.args.heap.now c.args.slot of p shapes things constants f c.cell_laws.ensures.reads c.heap_laws.ensures.statics c.way_laws.ensures c.requires.there
    c.args.narrow c.operand.result c.narrowed.result c.operand.ensures (c.narrowed.ensures p) c.keep_static.ensures.back)
