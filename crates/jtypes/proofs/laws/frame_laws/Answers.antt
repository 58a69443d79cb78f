use Rattle.jtypes.proofs.FrameFits.{flag_kept, frame_along, frame_itself, no_long, tops_fit}
use Rattle.jtypes.proofs.laws.frame_laws.Goals as goal

pub returns-clause-itself : goal.returns-clause-itself
returns-clause-itself c = frame_itself

pub returns-clause-chain : goal.returns-clause-chain
returns-clause-chain c = frame_along

pub returns-clause-tops : goal.returns-clause-tops
returns-clause-tops c = tops_fit

pub returns-clause-long : goal.returns-clause-long
returns-clause-long c = no_long

pub returns-clause-flag : goal.returns-clause-flag
returns-clause-flag c = flag_kept
