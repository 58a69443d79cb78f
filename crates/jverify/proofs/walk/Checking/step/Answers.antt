use Rattle.jtyping.specs.jwelltyped.MethodPremises.{here_of}
use Rattle.jparts.specs.jcode.InstructionForms.{form}
use Rattle.jverify.specs.CheckedMethods.{IsCounted, frames_of, method_of, program_of}
use Rattle.jverify.specs.FrameFacts.{held_seen}
use Rattle.jverify.proofs.ServedFrames.{known_behind}
use Rattle.jverify.proofs.InstructionWalks.{told}
use Rattle.jverify.proofs.walk.Checking.step.Goals as goal

pub leave-requires : goal.leave-requires
leave-requires c =
    let p = program_of c.args.self.now in
    let m = method_of c.args.self.now in
    record {
      count = told (IsCounted c.args.self.now) c.in_ok-frame.field-0 c.in-Some.frame c.in_ok-frame.ensures.count c.in-Some.is;
      known = known_behind p m (frames_of c.args.self.now) (here_of p m c.args.o.now.at) m.pool (form c.args.o.now.op) (held_seen p c.args.f) c.in-Some.frame c.in_ok-frame.field-0 c.known_behind-known.result
          c.in-Some.is c.in_ok-frame.ensures.seen c.known_behind-known.ensures;
    }
