use Rattle.jstepping.proofs.JcoreProofs.ReadyMachines.{ended_ready}
use Rattle.jstepping.proofs.jcore.settling.end_thread.Goals as goal

pub returns-in-Goes-clause-ready : goal.returns-in-Goes-clause-ready
returns-in-Goes-clause-ready g c =
    ended_ready c.args.m.now c.args.failed c.end_turn.new.self c.requires.machine c.in_ok-end_turn.ensures.are (c.in_ok-end_turn.ensures.lives c.in-Goes.is) c.in_ok-end_turn.ensures.stay
