use Rattle.std.specs.Prelude.{codes}
use Rattle.jgen.specs.GeneratedClasses.{name}
use Rattle.jgen.proofs.TextConcatenation.{then_more}
use Rattle.jgen.proofs.texts.put_path.Goals as goal

pub returns : goal.returns
returns c = then_more c.args.out.now c.put_name.new.out c.extend.new.self (name c.args.i) (codes ".class") c.extend.result c.in_ok-put_name.ensures c.extend.ensures.ok
