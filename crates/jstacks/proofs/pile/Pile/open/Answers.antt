use Rattle.std.proofs.Common.{◌∙◌, arith}
use Rattle.jstacks.proofs.ListUpdates.{opened, opened_falls}
use Rattle.jstacks.proofs.pile.Pile.open.Goals as goal

pub invariant_of-self-2 : goal.invariant_of-self-2
invariant_of-self-2 g c =
    let all = c.len-self-inside.ensures ∙ c.self.inside.items.ok.0 in
    rw (c.in_ok-push.ensures.items, all) (omega arith, opened_falls c.self.inside.start _ c.self.inside.starts.items c.self.invariant.0 c.self.invariant.1)

pub returns-clause-ok : goal.returns-clause-ok
returns-clause-ok g c =
    let all = c.len-self-inside.ensures ∙ c.self.inside.items.ok.0 in
    rw (c.in_ok-push.ensures.items, all) (opened c.self.inside.start c.self.inside.starts.items c.self.inside.items.items c.args.self.now c.self.view_is)
