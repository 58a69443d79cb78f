use Rattle.std.proofs.Common.{arith}
use Rattle.jverify.proofs.chains.Chains.made_with.Goals as goal

pub returns : goal.returns
returns g c = λ are. let rest = c.made.ensures (g.N.News.makes c.args.news.now) are in grind (arith, rest, c.is_made.ensures, c.if-not-is_made.false)
