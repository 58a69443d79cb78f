use Rattle.jjob.proofs.JobPrefixes.{nothing_told}
use Rattle.jjob.proofs.told.Told.new.Goals as goal

pub returns : goal.returns
returns c = nothing_told c.new.result c.new-2.result c.new-3.result c.new.ensures c.new-2.ensures c.new-3.ensures
