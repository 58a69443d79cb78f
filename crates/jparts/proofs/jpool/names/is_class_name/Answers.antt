use Rattle.std.proofs.Common.{sym, ◌∙◌, arith}
use Rattle.jparts.proofs.JpoolProofs.NameScans.{name_begins, name_empty, name_next, name_byte, name_bad, name_ends}
use Rattle.jparts.proofs.jpool.names.is_class_name.Goals as goal
use Rattle.jparts.proofs.jpool.names.is_class_name.Goals.{then-b-eq47+else-not-begun, else-b-eq47+else-not-is_name_byte}

pub loop-b-init : goal.loop-b-init
loop-b-init c = name_begins c.args.text.now

pub returns-then-not-begun : goal.returns-then-not-begun
returns-then-not-begun c = name_empty c.args.text.now c.loop-b.b-index c.loop-b.begun _ c.loop-b-test.true c.if-b-eq47.true c.if-not-begun.true c.loop-b.invariant

pub returns-then-not-is_name_byte : goal.returns-then-not-is_name_byte
returns-then-not-is_name_byte c = name_bad c.args.text.now c.loop-b.b-index c.loop-b.begun _ c.loop-b-test.true c.if-b-eq47.false (sym c.is_name_byte.ensures ∙ c.if-not-is_name_byte.true) c.loop-b.invariant

pub loop-b-preserved : goal.loop-b-preserved
loop-b-preserved c =
    elim c.if-b-eq47.branch [
      | then-b-eq47+else-not-begun w ↦ rw w.begun-is (name_next c.args.text.now c.loop-b.b-index c.loop-b.begun _ c.loop-b-test.true w.if-b-eq47.true w.if-not-begun.false c.loop-b.invariant)
      | else-b-eq47+else-not-is_name_byte w ↦ rw w.begun-is (name_byte c.args.text.now c.loop-b.b-index c.loop-b.begun _ c.loop-b-test.true w.if-b-eq47.false (sym w.is_name_byte.ensures ∙ w.if-not-is_name_byte.false) c.loop-b.invariant)
    ]

pub returns : goal.returns
returns c = name_ends c.args.text.now c.loop-b.b-index c.loop-b.begun _ (omega arith) c.loop-b.invariant
