use Rattle.std.proofs.Common.{sym, ◌∙◌, arith}
use Rattle.jground.specs.jtext.Modified.{text}
use Rattle.jground.proofs.JformatProofs.FaultOffsets.{fails_at}
use Rattle.jground.proofs.JtextProofs.Groups.{text_law, read_is, read_spelled}
use Rattle.jground.proofs.jtext.modified.units_of.Goals as goal

pub returns-in-Ok-clause-found : goal.returns-in-Ok-clause-found
returns-in-Ok-clause-found c = rw (c.from_vec.ensures, c.into_vec.ensures) (read_spelled c.args.bytes.now c.in-Ok.units (λ i. omega (arith, c.type_inv.bytes i)) c.in-Ok.ensures)

pub returns-in-Ok-clause-only : goal.returns-in-Ok-clause-only
returns-in-Ok-clause-only c = λ u fit is. rw (c.from_vec.ensures, c.into_vec.ensures) (sym (read_is c.args.bytes.now u fit is) ∙ c.in-Ok.ensures)

pub returns-in-Err-clause-exact : goal.returns-in-Err-clause-exact
returns-in-Err-clause-exact c = rw c.stop_at.ensures (fails_at c.args.bytes.now c.in-Err.stop (text.read c.args.bytes.now) (text_law.within c.args.bytes.now) c.in-Err.ensures)

pub returns-in-Err-clause-only : goal.returns-in-Err-clause-only
returns-in-Err-clause-only c = λ u fit is.
    let exact = fails_at c.args.bytes.now c.in-Err.stop (text.read c.args.bytes.now) (text_law.within c.args.bytes.now) c.in-Err.ensures in
    rw c.stop_at.ensures (rw (read_is c.args.bytes.now u fit is) at exact)
