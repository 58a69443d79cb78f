use Rattle.jcalling.proofs.jexecute.grouping.flow_group.Goals as goal

pub returns-in-Jump : goal.returns-in-Jump
returns-in-Jump c = rw c.in-Jump.is (c.jump_group.ensures _)
