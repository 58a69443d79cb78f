use Rattle.std.proofs.Common.{◌∙◌, ◌-◌, drop, ap₂}
use Rattle.std.proofs.lemmas.List.{take_rest}
use Rattle.jstacks.proofs.ListUpdates.{top_piled}
use Rattle.jstacks.proofs.pile.Pile.top.Goals as goal

pub returns : goal.returns
returns g c =
    let all = c.len.ensures ∙ c.self.inside.items.ok.0 in
    take_rest c.deref.result.now (c.len.result - c.args.n)
    ∙ ap₂ (λ k xs. drop (k - c.args.n) xs) all c.deref.ensures.value
    ∙ top_piled c.self.inside.start c.args.n _ c.self.inside.items.items c.args.self.now c.self.invariant.0 c.self.view_is c.requires
