use Rattle.std.proofs.Common.{arith, drop}
use Rattle.jmove.specs.declared.method.Expand.TheVariants.{Same}
use Rattle.jmove.specs.AssemblyLines.{place_of}
use Rattle.jmove.specs.MethodExpansion.{expansions}
use Rattle.jmove.proofs.LineSequences.{end_above, within}
use Rattle.jmove.proofs.LabelTables.{inside, next_placed, near}
use Rattle.jmove.proofs.places.places_of.Goals as goal

pub overflow_cast-at : goal.overflow_cast-at
overflow_cast-at c = omega (arith, end_above c.loop-i.at (expansions c.args.s (drop c.loop-i.i c.args.kinds.now) (drop c.loop-i.i c.args.ops.now)), c.loop-i.invariant.same_end)

pub note-requires : goal.note-requires
note-requires c =
    inside (λ old. place_of old c.args.begin (expansions c.args.s c.args.kinds.now c.args.ops.now)) c.loop-i.table.items c.args.end c.args.length_of c.loop-i.at c.args.s c.args.kinds.now c.args.ops.now
    c.loop-i.i Same c.index-ops-i.result c.loop-i-test.true c.requires.same c.index-ops-i.is c.loop-i.invariant

pub reach-at-requires : goal.reach-at-requires
reach-at-requires c =
    omega (arith, within c.args.s c.args.kinds.now c.args.ops.now c.loop-i.i c.loop-i.at c.args.end Same c.index-ops-i.result c.loop-i-test.true c.requires.same c.index-ops-i.is c.loop-i.invariant.same_end)

pub loop-i-preserved : goal.loop-i-preserved
loop-i-preserved c =
    next_placed (λ old. place_of old c.args.begin (expansions c.args.s c.args.kinds.now c.args.ops.now)) c.loop-i.table.items c.args.end c.args.length_of c.loop-i.at c.args.s c.args.kinds.now c.args.ops.now
    c.loop-i.i Same c.index-ops-i.result c.note.new.table.items c.reach-at.result c.loop-i-test.true c.requires.same c.index-ops-i.is c.note.ensures c.reach-at.ensures c.loop-i.invariant

pub invariant_of-result : goal.invariant_of-result
invariant_of-result c = (c.requires.near, λ old. omega (arith, near c.loop-i.table.items c.args.end c.args.length_of c.loop-i.at c.args.begin c.args.s c.args.kinds.now c.args.ops.now c.loop-i.i (omega arith) c.requires.same c.requires.reached c.loop-i.invariant old))
