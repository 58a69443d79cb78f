use Rattle.jrewriting.proofs.JmoveclassLawsProofs.FrameClasses.{full_items, named_fits, raw_items}
use Rattle.jrewriting.proofs.jmoveclass_laws.laws.frame_laws.Goals as goal
use Rattle.jclass.specs.CodeFormat.{frames_in}

pub returns-clause-full : goal.returns-clause-full
returns-clause-full g pool first b h k = full_items pool first b h (raw_items pool (frames_in b) k)

pub returns-clause-written : goal.returns-clause-written
returns-clause-written g pool fs write fit k = named_fits pool fs write fit k
