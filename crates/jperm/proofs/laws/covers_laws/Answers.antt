use Rattle.jperm.proofs.ImplicationTransitivity as chain
use Rattle.jperm.proofs.Cover as cover
use Rattle.jperm.proofs.laws.covers_laws.Goals as goal

pub returns-clause-one : goal.returns-clause-one
returns-clause-one c = cover.one_covers

pub returns-clause-alone : goal.returns-clause-alone
returns-clause-alone c = cover.alone_covers

pub returns-clause-implied : goal.returns-clause-implied
returns-clause-implied c = chain.implied_covered

pub returns-clause-more : goal.returns-clause-more
returns-clause-more c = cover.more_covers

pub returns-clause-behind : goal.returns-clause-behind
returns-clause-behind c = cover.covers_behind

pub returns-clause-united : goal.returns-clause-united
returns-clause-united c = cover.united-append

pub returns-clause-others : goal.returns-clause-others
returns-clause-others c = cover.others_nothing
