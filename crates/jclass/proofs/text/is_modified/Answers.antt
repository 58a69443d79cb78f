use Rattle.std.proofs.Common.{◌∙◌, length, arith}
use Rattle.jclass.proofs.Texts.{text_begins, text_ends, text_goes_on, text_stops, text_over}
use Rattle.jclass.proofs.text.is_modified.Goals as goal

pub loop-init : goal.loop-init
loop-init c = text_begins _ c.args.bytes.now (omega arith)

pub returns-then-is_empty : goal.returns-then-is_empty
returns-then-is_empty c = text_ends _ c.loop.rest.now _ c.if-is_empty.ensures c.loop.invariant

pub returns-in_default : goal.returns-in_default
returns-in_default c = text_stops (length c.args.bytes.now) c.loop.counter c.loop.rest.now _ c.loop-test.true c.if-is_empty.ensures c.in_default.ensures c.loop.invariant

pub loop-preserved : goal.loop-preserved
loop-preserved c = text_goes_on (length c.args.bytes.now) c.loop.counter c.loop.rest.now c.in-Some.after.now _ c.loop-test.true c.if-is_empty.ensures c.in-Some.ensures c.loop.invariant

pub returns : goal.returns
returns c = c.is_empty-2.ensures ∙ text_over (length c.args.bytes.now) c.loop.counter c.loop.rest.now _ c.loop-test.false c.loop.invariant
