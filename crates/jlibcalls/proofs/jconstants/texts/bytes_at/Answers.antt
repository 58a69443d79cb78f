use Rattle.std.proofs.Common.{◌≡◌, Some, None, rules}
use Rattle.std.specs.Prelude.{slice_get}
use Rattle.jlibcalls.proofs.JconstantsProofs.PoolTexts.{text_nowhere}
use Rattle.jlibcalls.proofs.jconstants.texts.bytes_at.Goals as goal

pub returns-in-None : goal.returns-in-None
returns-in-None c =
    let none : slice_get c.args.p.now.parts c.args.class ≡ None = search rules in
    rw none (text_nowhere c.args.index)

pub returns-in-Some : goal.returns-in-Some
returns-in-Some c =
    let some : slice_get c.args.p.now.parts c.args.class ≡ Some c.in-Some.part.now = search rules in
    rw some (search rules)
