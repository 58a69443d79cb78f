use Rattle.jcalling.proofs.jcallcontext.finding.action_target.Goals as goal

pub by_interface-requires : goal.by_interface-requires
by_interface-requires g c = record { marks = c.requires.fixed.marks }
