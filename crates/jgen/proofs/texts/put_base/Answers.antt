use Rattle.std.proofs.Common.{◌++◌}
use Rattle.std.specs.Prelude.{codes, decimal}
use Rattle.jgen.proofs.TextConcatenation.{more, then_more}
use Rattle.jgen.proofs.texts.put_base.Goals as goal

pub returns : goal.returns
returns c =
    then_more c.args.out.now c.put_number.new.out c.extend-2.new.self (codes "file:/g" ++ decimal c.args.i) (codes "/") c.extend-2.result
    (more c.args.out.now c.extend.new.self c.put_number.new.out (codes "file:/g") (decimal c.args.i) c.in_ok-extend.ensures.ok c.in_ok-put_number.ensures) c.extend-2.ensures.ok
