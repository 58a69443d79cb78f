use Rattle.std.proofs.Common.{◌+◌, ◌≤◌, length, arith}
use Rattle.jground.proofs.JformatProofs.Blocks.{inside}
use Rattle.jground.proofs.jformat.nested.inner_of.Goals as goal

pub overflow_add-result : goal.overflow_add-result
overflow_add-result g c =
    let le : c.in-Err-Fault.found.left + length c.in_ok-text.rest.now ≤ length c.args.bytes.now =
    inside c.args.cut c.args.count c.args.bytes.now c.in_ok-text.text.now c.in_ok-text.rest.now c.in-Err-Fault.found.left c.in_ok-text.ensures
    (g.met.R.BodyReader.within c.args.reader.now c.in_ok-text.text.now c.in-Err-Fault.found (rw c.in-Err-Fault.field-0-is at c.in-Err-Fault.ensures)) in
    omega arith
