use Rattle.std.proofs.Common.{◌≤◌, length, ap, subst, arith}
use Rattle.std.proofs.lemmas.List.{length-reverse}
use Rattle.jverify.specs.LocalChains.{IsLink, SaysMade}
use Rattle.jverify.proofs.LocalChains.{read_link, read_made}
use Rattle.jverify.proofs.chains.Chains.get.Goals as goal

pub returns-clause-link : goal.returns-clause-link
returns-clause-link c =
    let items = c.self.inside.nodes.items in
    let within : c.args.number ≤ length items = omega (arith, length-reverse items, ap length c.self.view_is) in
    subst (λ nodes. IsLink nodes c.args.number c.index.result.now) c.self.view_is
    (read_link items c.args.number c.index.result.now c.self.invariant.0 c.requires.some within c.index.ensures)

pub returns-clause-made : goal.returns-clause-made
returns-clause-made c =
    let items = c.self.inside.nodes.items in
    let within : c.args.number ≤ length items = omega (arith, length-reverse items, ap length c.self.view_is) in
    subst (λ nodes. SaysMade nodes c.args.number c.index.result.now) c.self.view_is
    (read_made items c.args.number c.index.result.now c.requires.some within c.index.ensures)
