use Rattle.jlibcalls.proofs.JconstantsProofs.ConstantLoads.{load_runs}
use Rattle.jlibcalls.proofs.jconstants.constants.Constants.load.Goals as goal

pub returns-clause-row : goal.returns-clause-row
returns-clause-row g c =
    load_runs c.args.class c.args.index c.args.self.now c.get.new.self c.args.frames.now c.give.new.frames c.args.heap.now c.get.new.heap c.in_ok-object.object
    c.in_ok-way.way c.in_ok-object.ensures.row c.in_ok-way.ensures.pushes
