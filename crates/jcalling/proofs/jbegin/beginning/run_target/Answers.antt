use Rattle.jcalling.proofs.jbegin.beginning.run_target.Goals as goal

pub by_interface-requires : goal.by_interface-requires
by_interface-requires g c = record { marks = c.requires.fixed.marks }
