use Rattle.jresolution.proofs.JprogramProofs.InterfaceSearch.{place_within}
use Rattle.std.proofs.Common.{length}
use Rattle.jresolution.proofs.jprogram.classes.NamedProgram.close.Goals as goal

pub set-requires : goal.set-requires
set-requires c = place_within c.args.self.now.parts c.args.name.now c.in-Some.i (length c.args.closed.now) c.in-Some.ensures c.requires
