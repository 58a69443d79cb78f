use Rattle.std.proofs.Common.{arith}
use Rattle.jresolution.specs.jprogram.ProgramClasses.{faces}
use Rattle.jresolution.specs.jprogram.InterfaceSearch.{waiting_names}
use Rattle.jresolution.specs.jprogram.FoundClasses.{seen}
use Rattle.jresolution.proofs.JprogramProofs.InterfaceSearch.{face_put}
use Rattle.jresolution.proofs.jprogram.searching.put_faces.Goals as goal

pub loop-k-preserved : goal.loop-k-preserved
loop-k-preserved c = (
  omega (arith, c.loop-k.invariant.0),
  face_put (faces (seen c.args.class)) c.loop-k.k c.in-Some.face c.loop-k.waiting.items c.push.new.self.items (waiting_names c.args.waiting.now.items) c.loop-k-test.true c.in-Some.ensures c.in_ok-push.ensures.items c.loop-k.invariant.1,
)
