use Rattle.std.proofs.Common.{refl}
use Rattle.jsemantics.specs.jmachine.TextCalls.{string}
use Rattle.jlibcalls.proofs.jlibrary.texts.unit_at.Goals as goal

pub returns-in-Long : goal.returns-in-Long
unfolding string
returns-in-Long g c shapes p things constants =
    rw c.in-Long.is refl

pub returns-in-Ref : goal.returns-in-Ref
unfolding string
returns-in-Ref g c shapes p things constants =
    rw c.in-Ref.is refl

pub returns-in-Ctx : goal.returns-in-Ctx
unfolding string
returns-in-Ctx g c shapes p things constants =
    rw c.in-Ctx.is refl
