use Rattle.std.proofs.Common.{subst}
use Rattle.jresolution.specs.jprogram.ProgramClasses.{Program}
use Rattle.jresolution.specs.juses.EntryUses.{AreUses}
use Rattle.jserving.proofs.JinvokeProofs.CallAnswers.{call_there}
use Rattle.jserving.proofs.jinvoke.method_lookup.MethodLookup.call_at.Goals as goal

pub returns : goal.returns
returns c =
    call_there c.args.self.now c.args.key c.uses.result.now.types c.form_of.result c.use_at.result c.call_in.result c.form_of.ensures
    (c.use_at.ensures c.args.self.now (subst (λ (p : Program). AreUses p c.uses.result.now) c.program.ensures c.uses.ensures)) c.call_in.ensures
