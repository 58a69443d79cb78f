use Rattle.jserving.proofs.JinvokeProofs.InvokeOutcomes.{invokes_as}
use Rattle.jserving.proofs.jinvoke.answers.Calls.invoke.Goals as goal

pub returns-in-Static-clause-call : goal.returns-in-Static-clause-call
returns-in-Static-clause-call g c =
    invokes_as c.args.self.now c.args.by _ c.args.pool c.args.marks.now c.args.heap.now c.args.count c.args.room.depth c.args.frames.now
    c.invoke_static.new.frames c.invoke_static.result c.in-Static.is c.invoke_static.ensures.call

pub returns-in-Interface-clause-call : goal.returns-in-Interface-clause-call
returns-in-Interface-clause-call g c =
    invokes_as c.args.self.now c.args.by _ c.args.pool c.args.marks.now c.args.heap.now c.args.count c.args.room.depth c.args.frames.now
    c.invoke_by_interface.new.frames c.invoke_by_interface.result c.in-Interface.is c.invoke_by_interface.ensures.call

pub returns-in-Virtual-clause-call : goal.returns-in-Virtual-clause-call
returns-in-Virtual-clause-call g c =
    invokes_as c.args.self.now c.args.by _ c.args.pool c.args.marks.now c.args.heap.now c.args.count c.args.room.depth c.args.frames.now
    c.invoke_on.new.frames c.invoke_on.result c.in-Virtual.is c.invoke_on.ensures.call

pub returns-in-Special-clause-call : goal.returns-in-Special-clause-call
returns-in-Special-clause-call g c =
    invokes_as c.args.self.now c.args.by _ c.args.pool c.args.marks.now c.args.heap.now c.args.count c.args.room.depth c.args.frames.now
    c.invoke_on-in-Special.new.frames c.invoke_on-in-Special.result c.in-Special.is c.invoke_on-in-Special.ensures.call

pub returns-in-Init-clause-call : goal.returns-in-Init-clause-call
returns-in-Init-clause-call g c =
    invokes_as c.args.self.now c.args.by _ c.args.pool c.args.marks.now c.args.heap.now c.args.count c.args.room.depth c.args.frames.now
    c.invoke_on-in-Init.new.frames c.invoke_on-in-Init.result c.in-Init.is c.invoke_on-in-Init.ensures.call
