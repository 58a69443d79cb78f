use Rattle.jstacks.proofs.ListUpdates.{set_at_piled}
use Rattle.jstacks.proofs.pile.Pile.set_at.Goals as goal

pub returns-clause-newest : goal.returns-clause-newest
returns-clause-newest g c = set_at_piled c.self.inside.start c.args.i _ c.args.item c.self.inside.items.items c.args.self.now c.self.view_is
