use Rattle.jparts.proofs.JmapsProofs.FullLaws.{locals_map}
use Rattle.jparts.proofs.jmaps.laws.locals_laws.Goals as goal

pub returns : goal.returns
returns g c = λ f form written before. locals_map f form written before
