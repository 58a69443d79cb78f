use Rattle.std.specs.Prelude.{codes, decimal}
use Rattle.jgen.proofs.TextConcatenation.{then_more}
use Rattle.jgen.proofs.texts.put_name.Goals as goal

pub returns : goal.returns
returns c = then_more c.args.out.now c.extend.new.self c.put_number.new.out (codes "G") (decimal c.args.i) c.put_number.result c.in_ok-extend.ensures.ok c.put_number.ensures
