use Rattle.jcalling.proofs.JcallplainProofs.LibraryPreservation.{ran_in}
use Rattle.jcalling.proofs.jcallplain.running.run_call.Goals as goal

pub returns-clause-ran : goal.returns-clause-ran
returns-clause-ran g c =
    ran_in c.args.m.now c.args.call c.args.count c.in_ok-done-in-Some.done c.run.new.frames c.run.new.heap c.run.new.permissions c.alike_laws.ensures.left
    c.machine_laws.ensures.machine _ c.in-Some.is c.in_ok-done-in-Some.ensures.row c.in_ok-done-in-Some.ensures.stays c.in_ok-done-in-Some.ensures.below
    c.requires.calling.machine c.in_ok-done-in-Some.ensures.built c.in_ok-done-in-Some.ensures.celled c.in_ok-done-in-Some.ensures.held
