use Rattle.jinterned.proofs.CacheInvariants.{entered_right}
use Rattle.jinterned.proofs.table.Table.enter.Goals as goal

pub remember-requires-clause-there : goal.remember-requires-clause-there
remember-requires-clause-there c = (entered_right c.args.self.now c.make_entered.new.self c.args.c c.args.d c.in_ok-n.n c.requires c.in_ok-n.ensures.ok).0

pub remember-requires-clause-made : goal.remember-requires-clause-made
remember-requires-clause-made c = (entered_right c.args.self.now c.make_entered.new.self c.args.c c.args.d c.in_ok-n.n c.requires c.in_ok-n.ensures.ok).1
