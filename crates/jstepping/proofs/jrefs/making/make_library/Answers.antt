use Rattle.jresolution.specs.juses.PoolTables.{pool_at}
use Rattle.jstepping.proofs.JrefsProofs.InstructionMeanings.{on_ok}
use Rattle.jstepping.proofs.JrefsProofs.OperandRows.{made_library}
use Rattle.jstepping.proofs.jrefs.making.make_library.Goals as goal

pub returns-clause-row : goal.returns-clause-row
returns-clause-row g c =
    made_library c.args.x.now c.args.frames.now.newest c.new_library.new.frames.newest c.args.heap.now c.new_library.new.heap c.requires.lasting c.new_library.result
    (pool_at c.args.x.now.ancestors.now c.args.frames.now.newest.method.class) c.args.pool c.args.class c.requires.exact c.new_library.ensures.row

pub returns-clause-celled : goal.returns-clause-celled
returns-clause-celled g c = on_ok c.new_library.result (λ stay. stay c.args.x.now.shapes.now c.requires.celled) c.new_library.ensures.celled
