use Rattle.jcalling.proofs.JbeginProofs.ThreadStarts.{push_none, push_ready, push_went}
use Rattle.jcalling.proofs.jbegin.pushing.push_run.Goals as goal

pub returns-in_default-clause-comes : goal.returns-in_default-clause-comes
returns-in_default-clause-comes g c =
    push_none c.args.m.now c.requires.none c.requires.some c.args.callee (rw c.in_default.is at c.in_ok-begun.ensures.row)

pub returns-clause-comes : goal.returns-clause-comes
returns-clause-comes g c =
    rw c.new.ensures
    (push_went c.args.m.now c.machine_laws.ensures.behind c.requires.none c.requires.some c.args.callee c.in-Some.frames
    (rw c.in-Some.is at c.in_ok-begun.ensures.row))

pub returns-clause-ready : goal.returns-clause-ready
returns-clause-ready g c =
    push_ready c.args.m.now c.machine_laws.ensures.machine c.requires.ready c.args.callee c.in-Some.frames (rw c.in-Some.is at c.in_ok-begun.ensures.stand)
    c.requires.within
