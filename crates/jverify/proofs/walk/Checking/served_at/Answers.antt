use Rattle.jverify.specs.CheckedMethods.{frames_of, method_of, program_of}
use Rattle.jverify.specs.FrameFacts.{held_seen}
use Rattle.jverify.proofs.ServedFrames.{served_here}
use Rattle.jverify.proofs.walk.Checking.served_at.Goals as goal

pub returns : goal.returns
returns c =
    served_here (program_of c.args.self.now) (method_of c.args.self.now) (frames_of c.args.self.now) (held_seen (program_of c.args.self.now) c.args.f.now) c.args.at c.next_begin.result c.requires.serves c.next_begin.ensures
