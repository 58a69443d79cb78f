use Rattle.jstepping.proofs.JcoreProofs.RaisedExceptions.{throws_in}
use Rattle.jstepping.proofs.jcore.raising.throw.Goals as goal

pub returns-clause-thrown : goal.returns-clause-thrown
returns-clause-thrown g c =
    throws_in c.args.m.now c.args.class c.in_ok-done-in-Some.done c.raise.new.frames c.raise.new.heap c.machine_laws.ensures.raised c.requires.machine c.requires.runs
    _ c.known.result.now c.in-Some.is c.known.ensures c.in_ok-done-in-Some.ensures.row c.in_ok-done-in-Some.ensures.stand
    c.in_ok-done-in-Some.ensures.heap c.in_ok-done-in-Some.ensures.built c.in_ok-done-in-Some.ensures.celled
