use Rattle.std.proofs.Common.{length, ap, arith}
use Rattle.std.proofs.lemmas.List.{length-reverse}
use Rattle.jverify.proofs.LocalChains.{few_places}
use Rattle.jverify.proofs.chains.Chains.places.Goals as goal

pub returns-in-Some-clause-few : goal.returns-in-Some-clause-few
returns-in-Some-clause-few c =
    let items = c.self.inside.nodes.items in
    omega (arith, few_places c.args.self.now c.args.end, c.in-Some.ensures.link.places, c.self.invariant.1, length-reverse items, ap length c.self.view_is)
