use Rattle.std.proofs.lemmas.Result.{on_ok_weaker}
use Rattle.jresolution.proofs.JprogramProofs.ImplementationRows.{puts_name}
use Rattle.jresolution.proofs.jprogram.classes.NamedProgram.put_name.Goals as goal

pub returns : goal.returns
returns c = on_ok_weaker c.put_some.result (λ h. puts_name c.args.self.now c.args.name.now c.number_of.result c.args.row.now c.put_some.new.row c.number_of.ensures h) c.put_some.ensures
