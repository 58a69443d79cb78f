use Rattle.jinterned.proofs.PairLists.{run_here}
use Rattle.jinterned.proofs.lists.Lists.run.Goals as goal

pub returns : goal.returns
returns c =
    run_here c.self.inside.pairs c.self.inside.entries.items c.args.self.now c.args.n c.index-entry.result.now c.self.view_is c.self.invariant.0 c.requires.list c.index-entry.ensures
    c.args.i c.run.result.now c.requires.pair c.run.ensures
