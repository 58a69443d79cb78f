use Rattle.jgen.proofs.PoolAdditions.{text_there}
use Rattle.jgen.proofs.adding.put_text.Goals as goal

pub returns-clause-there : goal.returns-clause-there
returns-clause-there c = text_there c.put.result c.put.new.pool c.in_ok-e.e c.args.text.now c.in_ok-e.ensures c.put.ensures.there
