use Rattle.std.proofs.Common.{◌∙◌}
use Rattle.jstacks.proofs.ListUpdates.{set_piled}
use Rattle.jstacks.proofs.pile.Pile.set.Goals as goal

pub returns : goal.returns
returns g c =
    let all = c.len.ensures ∙ c.self.inside.items.ok.0 in
    rw all (set_piled c.self.inside.start c.args.i _ c.args.item c.self.inside.items.items c.args.self.now c.self.invariant.0 c.self.view_is c.requires)
