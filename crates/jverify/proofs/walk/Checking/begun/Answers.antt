use Rattle.jverify.specs.CheckedMethods.{frames_of, method_of, program_of}
use Rattle.jverify.specs.FrameFacts.{is_served}
use Rattle.jverify.proofs.ServedFrames.{held_all}
use Rattle.jverify.proofs.walk.Checking.begun.Goals as goal

pub returns-clause-held : goal.returns-clause-held
returns-clause-held c =
    held_all c.args.self.now c.in_ok-begun.begun c.in_ok-begun.ensures.count c.in_ok-begun.ensures.from
    (c.in_ok-begun.ensures.served (is_served (program_of c.args.self.now) (method_of c.args.self.now) (frames_of c.args.self.now)) c.requires.known.served)
