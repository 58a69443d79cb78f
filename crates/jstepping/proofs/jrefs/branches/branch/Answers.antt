use Rattle.jparts.specs.declared.jcode.names.RefTest.TheVariants as tests
use Rattle.jstepping.proofs.JrefsProofs.OperandRows.{branch_as}
use Rattle.jstepping.proofs.jrefs.branches.branch.Goals as goal

pub returns-in-Null-clause-row : goal.returns-in-Null-clause-row
returns-in-Null-clause-row g c =
    branch_as c.args.x.now c.args.frames.now.newest c.if_null.new.frames.newest c.args.heap.now c.args.heap.now c.args.counts c.if_null.result
    c.args.test tests.Null c.in-Null.is c.args.to c.serves_test-serve.result c.serves_test-serve.ensures c.if_null.ensures.row

pub returns-in-NonNull-clause-row : goal.returns-in-NonNull-clause-row
returns-in-NonNull-clause-row g c =
    branch_as c.args.x.now c.args.frames.now.newest c.if_null-in-NonNull.new.frames.newest c.args.heap.now c.args.heap.now c.args.counts c.if_null-in-NonNull.result
    c.args.test tests.NonNull c.in-NonNull.is c.args.to c.serves_test-serve.result c.serves_test-serve.ensures c.if_null-in-NonNull.ensures.row

pub returns-in-Same-clause-row : goal.returns-in-Same-clause-row
returns-in-Same-clause-row g c =
    branch_as c.args.x.now c.args.frames.now.newest c.if_same.new.frames.newest c.args.heap.now c.args.heap.now c.args.counts c.if_same.result
    c.args.test tests.Same c.in-Same.is c.args.to c.serves_test-serve.result c.serves_test-serve.ensures c.if_same.ensures.row

pub returns-in-Other-clause-row : goal.returns-in-Other-clause-row
returns-in-Other-clause-row g c =
    branch_as c.args.x.now c.args.frames.now.newest c.if_same-in-Other.new.frames.newest c.args.heap.now c.args.heap.now c.args.counts c.if_same-in-Other.result
    c.args.test tests.Other c.in-Other.is c.args.to c.serves_test-serve.result c.serves_test-serve.ensures c.if_same-in-Other.ensures.row
