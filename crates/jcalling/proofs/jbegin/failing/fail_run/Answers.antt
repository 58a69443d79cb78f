use Rattle.jcalling.proofs.JbeginProofs.ThreadStarts.{fails_begins, full_begins, lives_in}
use Rattle.jcalling.proofs.jbegin.failing.fail_run.Goals as goal

pub returns-then-not-room-clause-comes : goal.returns-then-not-room-clause-comes
returns-then-not-room-clause-comes g c =
    let fails = rw c.if-not-room.true at c.in_ok-room.ensures.fails in
    rw c.full.ensures (full_begins c.args.m.now c.args.class c.requires.none c.requires.some c.raise_first.new.m fails)

pub end_thread-requires-clause-machine : goal.end_thread-requires-clause-machine
end_thread-requires-clause-machine g c = c.in_ok-room.ensures.fails.machine

pub end_thread-requires-clause-lives : goal.end_thread-requires-clause-lives
end_thread-requires-clause-lives g c =
    lives_in c.args.m.now c.raise_first.new.m c.args.class c.in_ok-room.room c.in_ok-room.ensures.fails c.requires.ready.lives

pub returns-clause-comes : goal.returns-clause-comes
returns-clause-comes g c =
    let fails = rw c.if-not-room.false at c.in_ok-room.ensures.fails in
    fails_begins c.args.m.now c.args.class c.requires.none c.requires.some c.machine_laws.ensures.behind c.machine_laws.ensures.number c.requires.ready.machine
    c.raise_first.new.m c.end_thread.new.m c.new-told.result c.tell_uncaught.new.told c.in_ok-came.came fails c.new-told.ensures c.in_ok-tell_uncaught.ensures
    c.in_ok-came.ensures.comes

pub returns-clause-fixed : goal.returns-clause-fixed
returns-clause-fixed g c =
    c.machine_laws.ensures.fixed c.args.m.now c.raise_first.new.m c.end_thread.new.m c.in_ok-room.ensures.fixed c.in_ok-came.ensures.fixed
