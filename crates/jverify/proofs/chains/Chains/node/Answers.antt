use Rattle.std.proofs.Common.{ap, ◌∙◌}
use Rattle.jverify.specs.LocalChains.{chain}
use Rattle.jverify.proofs.LocalChains.{chain_root}
use Rattle.jverify.proofs.chains.Chains.node.Goals as goal

pub returns-then-number-eq0-clause-link : goal.returns-then-number-eq0-clause-link
returns-then-number-eq0-clause-link c = ap (chain c.args.self.now) c.if-number-eq0.true ∙ chain_root c.args.self.now
