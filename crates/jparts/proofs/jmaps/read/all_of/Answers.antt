use Rattle.jparts.specs.jmaps.StackMapFormat.{frame, frames, maps}
use Rattle.jparts.proofs.jmaps.read.all_of.Goals as goal

pub returns : goal.returns
unfolding maps frames frame
returns c = c.frames_of.ensures
