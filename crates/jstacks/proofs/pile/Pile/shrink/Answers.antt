use Rattle.std.proofs.Common.{◌∙◌}
use Rattle.jstacks.proofs.ListUpdates.{shrunk_piled}
use Rattle.jstacks.proofs.pile.Pile.shrink.Goals as goal

pub returns : goal.returns
returns g c =
    let all = c.len.ensures ∙ c.self.inside.items.ok.0 in
    rw (c.truncate.ensures.items, all) (shrunk_piled c.self.inside.start c.args.n _ c.self.inside.items.items c.args.self.now c.self.invariant.0 c.self.view_is c.requires)
