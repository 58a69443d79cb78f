use Rattle.jparts.proofs.JpoolProofs.PoolLaws.{pool_law, one_reading, read_is, spelled}
use Rattle.jparts.proofs.jpool.laws.pool_laws.Goals as goal

pub returns-clause-one_reading : goal.returns-clause-one_reading
returns-clause-one_reading c = λ bytes rest others es fs s t. one_reading bytes rest others es fs (read_is bytes es rest s) t

pub returns-clause-no_fault : goal.returns-clause-no_fault
returns-clause-no_fault c = λ bytes rest es fits e. spelled bytes rest es fits e

pub returns-clause-else_fault : goal.returns-clause-else_fault
returns-clause-else_fault c = λ bytes rest es s. read_is bytes es rest s

pub returns-clause-within : goal.returns-clause-within
returns-clause-within c = pool_law.reading.within
