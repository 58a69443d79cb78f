use Rattle.jperm.proofs.KeyChains.{Standing}
use Rattle.jperm.proofs.chains.chains_of.Given as goal

abbrev pub invariant-loop-member : goal.invariant-loop-member
invariant-loop-member l = Standing l.list l.member-index l.heads l.older
