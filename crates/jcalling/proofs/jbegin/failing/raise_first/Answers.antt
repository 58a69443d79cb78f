use Rattle.jcalling.proofs.JbeginProofs.ThreadStarts.{fails_in}
use Rattle.jcalling.proofs.jbegin.failing.raise_first.Goals as goal

pub fail_beginning-requires : goal.fail_beginning-requires
fail_beginning-requires g c = record { built = c.requires.built }

pub returns-clause-fails : goal.returns-clause-fails
returns-clause-fails g c =
    fails_in c.args.m.now c.machine_laws.ensures.raised c.requires c.args.class c.in_ok-room.room c.fail_beginning.new.heap c.in_ok-room.ensures.row
    c.in_ok-room.ensures.heap c.in_ok-room.ensures.built c.in_ok-room.ensures.celled
