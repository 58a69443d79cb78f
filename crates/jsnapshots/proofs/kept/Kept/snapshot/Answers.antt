use Rattle.jsnapshots.proofs.Meanings.{keeps_grown}
use Rattle.jsnapshots.proofs.kept.Kept.snapshot.Goals as goal

pub returns-in-Ok-clause-earlier : goal.returns-in-Ok-clause-earlier
returns-in-Ok-clause-earlier c = keeps_grown c.args.self.now c.keep.new.self c.in-Ok.ensures.grown.0 c.in-Ok.ensures.grown.1
