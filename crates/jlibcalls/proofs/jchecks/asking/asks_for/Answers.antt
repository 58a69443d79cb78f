use Rattle.jlibcalls.proofs.jchecks.asking.asks_for.Goals as goal

pub returns-in-Ref : goal.returns-in-Ref
returns-in-Ref g c p shapes things constants kept = rw c.in-Ref.is (c.asked_of.ensures p shapes things constants kept)
