use Rattle.jmove.proofs.LimitInvariance.{renumbered, same_can_move, same_limit}
use Rattle.jmove.proofs.MethodLimits.{short}
use Rattle.jmove.proofs.laws.limit_laws.Goals as goal

pub returns-clause-same_limit : goal.returns-clause-same_limit
returns-clause-same_limit g m n ks js h = same_limit m n ks js h

pub returns-clause-same_can_move : goal.returns-clause-same_can_move
returns-clause-same_can_move g m n ks js h can = same_can_move m n ks js h can

pub returns-clause-renumbered : goal.returns-clause-renumbered
returns-clause-renumbered g ks fs pool = renumbered ks fs pool

pub returns-clause-short : goal.returns-clause-short
returns-clause-short g m ks can none domain enter = short m ks can none domain enter
