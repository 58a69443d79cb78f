use Rattle.jstepping.proofs.JrefsProofs.InstructionMeanings.{on_ok}
use Rattle.jstepping.proofs.JrefsProofs.OperandRows.{made_array}
use Rattle.jstepping.proofs.jrefs.making.make_array.Goals as goal

pub returns-clause-row : goal.returns-clause-row
returns-clause-row g c =
    made_array c.args.x.now c.args.frames.now.newest c.new_refs.new.frames.newest c.args.heap.now c.new_refs.new.heap c.requires.lasting c.new_refs.result
    c.args.array c.new_refs.ensures.row

pub returns-clause-celled : goal.returns-clause-celled
returns-clause-celled g c = on_ok c.new_refs.result (λ stay. stay c.args.x.now.shapes.now c.requires.celled) c.new_refs.ensures.celled
