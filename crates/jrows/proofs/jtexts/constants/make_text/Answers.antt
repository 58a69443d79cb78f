use Rattle.std.proofs.Common.{arith}
use Rattle.jrows.proofs.JtextsProofs.ConstantRows.{put_makes, same_statics}
use Rattle.jrows.proofs.jtexts.constants.make_text.Goals as goal

pub returns-clause-made : goal.returns-clause-made
returns-clause-made c p shapes things constants =
    put_makes c.piece_laws.ensures.adds p shapes things constants c.args.units.now c.args.heap.now c.put_units.new.heap c.in_ok-made.made c.requires (λ i. omega (arith, c.type_inv.units i)) c.in_ok-made.ensures.puts

pub returns-clause-statics : goal.returns-clause-statics
returns-clause-statics c = same_statics c.args.units.now c.args.heap.now c.put_units.new.heap c.in_ok-made.made c.in_ok-made.ensures.puts
