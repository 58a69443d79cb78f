use Rattle.std.proofs.Common.{◌∙◌}
use Rattle.jverify.specs.CheckedMethods.{frames_of, method_of, program_of}
use Rattle.jverify.specs.FrameFacts.{held_seen}
use Rattle.jverify.proofs.ServedFrames.{served_later, served_still}
use Rattle.jverify.proofs.walk.Checking.serves_since.Goals as goal

pub returns-then-spans : goal.returns-then-spans
returns-then-spans c =
    served_still (program_of c.args.self.now) (method_of c.args.self.now) (frames_of c.args.self.now) (held_seen (program_of c.args.self.now) c.args.f.now) c.args.s c.args.at c.spans.result c.requires.served
    c.spans.ensures c.if-spans.true

pub returns : goal.returns
returns c =
    c.later_fit.ensures
    ∙ served_later (program_of c.args.self.now) (method_of c.args.self.now) (frames_of c.args.self.now) (held_seen (program_of c.args.self.now) c.args.f.now) c.args.s c.args.at c.requires.served
