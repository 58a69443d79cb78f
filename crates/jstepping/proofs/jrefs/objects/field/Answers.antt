use Rattle.jstepping.proofs.JrefsProofs.FieldInstructions.{got_by}
use Rattle.jstepping.proofs.jrefs.objects.field.Goals as goal

pub returns-in-GetStatic-clause-row : goal.returns-in-GetStatic-clause-row
returns-in-GetStatic-clause-row g c =
    got_by c.args.x.now c.args.frames.now.newest c.read_static.new.frames.newest c.args.heap.now c.args.a c.args.counts c.read_static.result c.read_static.ensures.row
