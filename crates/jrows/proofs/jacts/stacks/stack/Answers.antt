use Rattle.std.proofs.Common.{◌≡◌, Some, None}
use Rattle.jvalues.specs.jops.Shuffles.{shuffle}
use Rattle.jrows.specs.jacts.StackMoves.{laid}
use Rattle.jrows.proofs.JactsProofs.StackMoves.{few_go, if_moved, move_stuck, seen_four}
use Rattle.jrows.proofs.jacts.stacks.stack.Goals as goal

pub lay-requires-clause-few : goal.lay-requires-clause-few
lay-requires-clause-few g c =
    let xs = c.args.frames.now.newest.operands in
    let is : Some (laid c.in-Some.laid) ≡ shuffle c.args.op (seen_four xs) = rw (← c.top_at-a.ensures, ← c.top_at-b.ensures, ← c.top_at-c.ensures, ← c.top_at-d.ensures) c.in-Some.ensures.moves in
    few_go c.shuffle_laws.ensures.four c.shuffle_laws.ensures.below c.args.op xs c.in-Some.laid is

pub returns-in-None-clause-row : goal.returns-in-None-clause-row
returns-in-None-clause-row g c =
    let f = c.args.frames.now.newest in
    let is : None ≡ shuffle c.args.op (seen_four f.operands) = rw (← c.top_at-a.ensures, ← c.top_at-b.ensures, ← c.top_at-c.ensures, ← c.top_at-d.ensures) c.in-None.ensures.moves in
    move_stuck c.shuffle_laws.ensures.four f c.args.op f is

pub returns-in-Some-clause-row : goal.returns-in-Some-clause-row
returns-in-Some-clause-row g c =
    let f = c.args.frames.now.newest in
    let is : Some (laid c.in-Some.laid) ≡ shuffle c.args.op (seen_four f.operands) = rw (← c.top_at-a.ensures, ← c.top_at-b.ensures, ← c.top_at-c.ensures, ← c.top_at-d.ensures) c.in-Some.ensures.moves in
    if_moved c.shuffle_laws.ensures.four f c.args.op c.in-Some.laid is c.lay.result c.args.frames.now c.lay.new.frames c.lay.ensures.way c.lay.ensures.frames
