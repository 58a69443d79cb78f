use Rattle.jlibcalls.proofs.JcontextsProofs.ContextOperands.{all_give}
use Rattle.jlibcalls.proofs.jcontexts.entering.enter.Goals as goal
use Rattle.jvalues.specs.declared.jops.value.Value.TheVariants as values

pub returns-clause-row : goal.returns-clause-row
returns-clause-row g c = all_give (values.Ctx c.args.number) c.args.count c.args.frames.now c.give.new.frames c.give.result c.give.ensures
