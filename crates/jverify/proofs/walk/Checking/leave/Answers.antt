use Rattle.jtyping.specs.jrule.InternedFrames.{seen}
use Rattle.jverify.specs.CheckedMethods.{frames_of, program_of}
use Rattle.jverify.proofs.InstructionTargets.{left}
use Rattle.jverify.proofs.walk.Checking.leave.Goals as goal

pub returns-clause-seen : goal.returns-clause-seen
returns-clause-seen c =
    left (program_of c.args.self.now) (frames_of c.args.self.now) c.args.o.now c.args.rest.now (seen (program_of c.args.self.now) c.args.g.frame) c.form_of-form.result c.branches_fit.result c.goes_on.result _
    c.form_of-form.ensures c.if-not-branches_fit.false c.branches_fit.ensures c.goes_on.ensures c.onward.ensures.seen
