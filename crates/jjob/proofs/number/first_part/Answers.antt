use Rattle.std.proofs.Common.{lit<}
use Rattle.jjob.proofs.TextSplits.{split_here, split_last}
use Rattle.jjob.proofs.number.first_part.Goals as goal

pub returns-in-Some-clause-some : goal.returns-in-Some-clause-some
returns-in-Some-clause-some c = let b = c.in-Some.ensures.byte (lit< tt) (λ w o h. h) in
    split_here 32 c.args.text.now c.in-Some.first.now c.in-Some.more.now b.2 b.0 b.1

pub returns-in-None-clause-none : goal.returns-in-None-clause-none
returns-in-None-clause-none c = split_last 32 c.args.text.now (c.in-None.ensures.byte (lit< tt) (λ w o h. h))
