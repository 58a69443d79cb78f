use Rattle.jresolution.proofs.JusesProofs.BranchNumbers.{good_if}
use Rattle.jresolution.proofs.juses.code.stored_code.Goals as goal

pub returns-clause-good : goal.returns-clause-good
returns-clause-good c = good_if c.args.class.now c.args.method.now c.code_in.result c.requires.good c.requires.there c.code_in.ensures
