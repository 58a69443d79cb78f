use Rattle.jcalling.proofs.jexecute.hastening.haste_of_flow.Goals as goal

pub returns-in-Jump : goal.returns-in-Jump
returns-in-Jump c = rw c.in-Jump.is (c.haste_of_jump.ensures 0)
