use Rattle.std.proofs.Common.{◌≡◌, ◌<◌, true, false, length, rules}
use Rattle.jrows.specs.jcalls.Readiness.{AreCounted, is_reference}
use Rattle.jruntime.specs.jstate.HeapMeanings.{Things}
use Rattle.jrows.proofs.JcallsProofs.MethodReturns.{all_references, reference_other, reference_short}
use Rattle.jrows.proofs.jcalls.returns.return_ref.Goals as goal

pub returns-then-count-lt1-clause-row : goal.returns-then-count-lt1-clause-row
returns-then-count-lt1-clause-row g c =
    let few : length c.args.frames.now.newest.operands < 1 = search rules in
    reference_short c.args.heap.now c.args.counts c.args.marks.now c.args.frames.now c.args.frames.now few

pub returns-then-not-is_reference-clause-row : goal.returns-then-not-is_reference-clause-row
returns-then-not-is_reference-clause-row g c =
    let other : (things : Things) → AreCounted c.args.counts things → false ≡ is_reference things c.args.heap.now c.operand-value.result =
    λ things are. rw (← c.if-not-is_reference.true) (c.is_reference.ensures things are) in
    reference_other c.heap_laws.ensures.each c.args.heap.now c.args.counts c.args.marks.now c.args.frames.now c.args.frames.now c.operand-value.result
    c.operand-value.ensures other

pub returns-clause-row : goal.returns-clause-row
returns-clause-row g c =
    let fits : (things : Things) → AreCounted c.args.counts things → true ≡ is_reference things c.args.heap.now c.operand-value.result =
    λ things are. rw (← c.if-not-is_reference.false) (c.is_reference.ensures things are) in
    all_references c.heap_laws.ensures.each c.args.heap.now c.args.counts c.args.marks.now c.args.frames.now c.leave.new.frames c.operand-value.result
    c.operand-value.ensures c.leave.result fits c.leave.ensures.row
