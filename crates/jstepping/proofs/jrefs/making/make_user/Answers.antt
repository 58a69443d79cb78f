use Rattle.jresolution.specs.juses.PoolTables.{pool_at}
use Rattle.jstepping.proofs.JrefsProofs.NewInstructions.{few, is_part}
use Rattle.jstepping.proofs.JrefsProofs.InstructionMeanings.{on_ok}
use Rattle.jstepping.proofs.JrefsProofs.OperandRows.{made_user}
use Rattle.jstepping.proofs.jrefs.making.make_user.Goals as goal

pub new_object-requires-clause-numbered : goal.new_object-requires-clause-numbered
new_object-requires-clause-numbered g c =
    few c.args.x.now c.requires.lasting c.args.class
    (is_part c.args.x.now c.requires.lasting (pool_at c.args.x.now.ancestors.now c.args.frames.now.newest.method.class) c.args.pool c.args.class c.requires.exact)

pub new_object-requires-clause-small : goal.new_object-requires-clause-small
new_object-requires-clause-small g c = c.requires.lasting.small c.args.class

pub returns-clause-row : goal.returns-clause-row
returns-clause-row g c =
    made_user c.args.x.now c.args.frames.now.newest c.new_object.new.frames.newest c.args.heap.now c.new_object.new.heap c.requires.lasting c.new_object.result
    (pool_at c.args.x.now.ancestors.now c.args.frames.now.newest.method.class) c.args.pool c.args.class c.requires.exact c.new_object.ensures.row

pub returns-clause-celled : goal.returns-clause-celled
returns-clause-celled g c = on_ok c.new_object.result (λ keeps. keeps c.requires.celled) c.new_object.ensures.celled
