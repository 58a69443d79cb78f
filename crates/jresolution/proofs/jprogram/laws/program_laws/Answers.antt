use Rattle.jresolution.proofs.JprogramProofs.SuperclassOrder as extending
use Rattle.jresolution.proofs.JprogramProofs.ClassHeights as standing
use Rattle.jresolution.proofs.jprogram.laws.program_laws.Goals as goal

pub returns-clause-itself : goal.returns-clause-itself
returns-clause-itself c = extending.extends_itself

pub returns-clause-below_object : goal.returns-clause-below_object
returns-clause-below_object c = extending.extends_object

pub returns-clause-straight : goal.returns-clause-straight
returns-clause-straight c = standing.straight

pub returns-clause-layered : goal.returns-clause-layered
returns-clause-layered c = standing.layered

pub returns-clause-chain : goal.returns-clause-chain
returns-clause-chain c = λ p one two three good. extending.extends_chain p good one two three

pub returns-clause-once : goal.returns-clause-once
returns-clause-once c = λ p one two good. extending.extends_both p good one two

pub returns-clause-interfaces : goal.returns-clause-interfaces
returns-clause-interfaces c = extending.interfaces_extend
