use Rattle.std.proofs.Common.{ap, length}
use Rattle.jresolution.specs.declared.jprogram.member.MethodId.{MethodId}
use Rattle.jserving.specs.jserve.OperandChecks.{serves_in}
use Rattle.jserving.proofs.JserveProofs.CallOperands.{init_arm, interface_served, special_served, static_served, virtual_served}
use Rattle.jserving.proofs.JserveProofs.OperandCounts.{init_few, object_few, static_few}
use Rattle.jserving.proofs.jserve.calls.call_serves.Goals as goal

pub returns-in-Static-clause-serve : goal.returns-in-Static-clause-serve
returns-in-Static-clause-serve g c s m store call =
    static_served c.heap_laws.ensures.each c.args.a.now c.args.x.now s store c.args.owner c.args.params.now m call c.args.frames.now.newest.operands
    c.args.frames.now.newest.method.class
    c.args.by c.params_serve.result c.in-Static.is c.params_serve.ensures

pub returns-in-Virtual-clause-serve : goal.returns-in-Virtual-clause-serve
returns-in-Virtual-clause-serve g c s m store call =
    virtual_served c.heap_laws.ensures.each c.args.a.now c.args.x.now s store c.args.owner c.args.params.now m call c.args.frames.now.newest.operands
    c.args.frames.now.newest.method.class
    c.args.by c.object_serves.result c.in-Virtual.is c.object_serves.ensures

pub returns-in-Interface-clause-serve : goal.returns-in-Interface-clause-serve
returns-in-Interface-clause-serve g c s m store call =
    interface_served c.heap_laws.ensures.each c.args.a.now c.args.x.now s store c.args.owner c.args.params.now m call
    c.args.frames.now.newest.operands c.args.frames.now.newest.method.class
    c.args.by c.object_serves-in-Interface.result c.in-Interface.is c.object_serves-in-Interface.ensures

pub returns-in-Special-clause-serve : goal.returns-in-Special-clause-serve
returns-in-Special-clause-serve g c s m store call =
    special_served c.heap_laws.ensures.each c.args.a.now c.args.x.now s store c.args.owner c.args.params.now m call c.args.frames.now.newest.operands
    c.args.frames.now.newest.method.class
    c.args.by c.object_serves-in-Special.result c.method.result.class c.in-Special.is (ap (λ (m : MethodId). m.class) c.method.ensures)
    c.object_serves-in-Special.ensures

pub returns-in-Init-clause-serve : goal.returns-in-Init-clause-serve
returns-in-Init-clause-serve g c s m store call =
    init_arm c.heap_laws.ensures.each c.args.a.now c.args.x.now s store c.args.owner c.args.params.now m call c.args.frames.now.newest.operands
    c.args.frames.now.newest.method.class
    c.args.by c.init_serves.result c.in-Init.is (c.init_serves.ensures.serve s m store call)

pub returns-in-Static-clause-few : goal.returns-in-Static-clause-few
returns-in-Static-clause-few g c =
    static_few (serves_in c.args.a.now c.args.x.now) c.args.a.now c.args.params.now c.args.frames.now.newest.operands c.args.by c.params_serve.result c.in-Static.is c.params_serve.ensures

pub returns-in-Virtual-clause-few : goal.returns-in-Virtual-clause-few
returns-in-Virtual-clause-few g c =
    object_few (serves_in c.args.a.now c.args.x.now) c.args.a.now c.args.params.now c.args.frames.now.newest.operands c.args.by (rw c.in-Virtual.is tt) _ c.object_serves.result
    c.object_serves.ensures

pub returns-in-Interface-clause-few : goal.returns-in-Interface-clause-few
returns-in-Interface-clause-few g c =
    object_few (serves_in c.args.a.now c.args.x.now) c.args.a.now c.args.params.now c.args.frames.now.newest.operands c.args.by (rw c.in-Interface.is tt) _ c.object_serves-in-Interface.result
    c.object_serves-in-Interface.ensures

pub returns-in-Special-clause-few : goal.returns-in-Special-clause-few
returns-in-Special-clause-few g c =
    object_few (serves_in c.args.a.now c.args.x.now) c.args.a.now c.args.params.now c.args.frames.now.newest.operands c.args.by (rw c.in-Special.is tt) _ c.object_serves-in-Special.result
    c.object_serves-in-Special.ensures

pub returns-in-Init-clause-few : goal.returns-in-Init-clause-few
returns-in-Init-clause-few g c = init_few c.args.by (length c.args.params.now) c.args.frames.now.newest.operands c.init_serves.result c.in-Init.is c.init_serves.ensures.few
