use Rattle.std.proofs.Common.{arith}
use Rattle.jrows.proofs.JtextsProofs.ConstantRows.{put_loads, same_statics}
use Rattle.jrows.proofs.jtexts.constants.make_constant.Goals as goal

pub returns-clause-row : goal.returns-clause-row
returns-clause-row g c p shapes things constants bytes held none =
    put_loads c.piece_laws.ensures.adds p shapes things constants c.args.units.now _ bytes c.args.heap.now c.put_units.new.heap c.in_ok-made.made c.requires (λ i. omega (arith, c.type_inv.units i)) held none
    c.in_ok-made.ensures.puts

pub returns-clause-statics : goal.returns-clause-statics
returns-clause-statics g c = same_statics c.args.units.now c.args.heap.now c.put_units.new.heap c.in_ok-made.made c.in_ok-made.ensures.puts
