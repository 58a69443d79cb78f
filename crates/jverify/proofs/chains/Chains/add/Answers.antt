use Rattle.std.proofs.Common.{length, sym, ap, subst, ◌∙◌}
use Rattle.jverify.specs.LocalChains.{Extends, values}
use Rattle.jverify.proofs.LocalChains.{newer, values_pushed}
use Rattle.jverify.proofs.chains.Chains.add.Goals as goal

pub returns-clause-chain : goal.returns-clause-chain
returns-clause-chain g c =
    let old = c.args.self.now in
    let same = c.in_ok-number.ensures.ok in
    ap (λ nodes. values nodes c.in_ok-number.number) same
    ∙ values_pushed c.behind-node.result old c.in_ok-number.number c.args.end c.args.kind (c.in_ok-number.ensures.number ∙ ap length same) c.behind-node.ensures.kind c.behind-node.ensures.parent

pub returns-clause-kept : goal.returns-clause-kept
returns-clause-kept g c = subst (λ nodes. Extends c.args.self.now nodes) (sym c.in_ok-number.ensures.ok) (newer c.behind-node.result c.args.self.now)
