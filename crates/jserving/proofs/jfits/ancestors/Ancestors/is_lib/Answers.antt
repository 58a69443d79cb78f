use Rattle.jserving.proofs.JfitsProofs.SuperclassWalks.{lib_known}
use Rattle.jserving.proofs.jfits.ancestors.Ancestors.is_lib.Goals as goal

pub are_same-requires-clause-first : goal.are_same-requires-clause-first
are_same-requires-clause-first c = lib_known c.args.self.now c.order_law.ensures c.args.of c.requires.there
