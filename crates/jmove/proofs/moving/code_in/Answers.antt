use Rattle.std.proofs.Common.{arith}
use Rattle.jmove.specs.MethodExpansion.{expansions}
use Rattle.jmove.specs.PlaceTables.{in_table}
use Rattle.jmove.proofs.LineSequences.{end_above}
use Rattle.jmove.proofs.MethodAssembly.{joined}
use Rattle.jmove.proofs.moving.code_in.Goals as goal

pub put_begin-requires : goal.put_begin-requires
put_begin-requires c = omega (arith, end_above c.args.at (expansions c.args.s c.args.kinds.now c.args.ops.now), c.requires.at, c.requires.near)

pub returns : goal.returns
returns c =
    joined (in_table c.args.places.now) c.args.begin.now c.args.s c.args.kinds.now c.args.ops.now c.args.at c.new-out.result.items c.put_begin.new.out.items c.put_expansions.new.out.items
    c.new-out.ensures.items c.in_ok-put_begin.ensures c.in_ok-put_expansions.ensures c.requires.at
