use Rattle.std.proofs.Common.{◌++◌}
use Rattle.std.specs.Prelude.{codes}
use Rattle.jgen.specs.GeneratedFiles.{base, path}
use Rattle.jgen.proofs.TextConcatenation.{more, then_more}
use Rattle.jgen.proofs.texts.put_source.Goals as goal

pub returns : goal.returns
returns c =
    let i = c.args.i in
    let out = c.args.out.now in
    let one = more out c.extend.new.self c.put_base.new.out (codes "code ") (base i) c.in_ok-extend.ensures.ok c.in_ok-put_base.ensures in
    let two = more out c.put_base.new.out c.extend-2.new.self (codes "code " ++ base i) (codes "\nclass ") one c.in_ok-extend-2.ensures.ok in
    let three = more out c.extend-2.new.self c.put_path.new.out (codes "code " ++ base i ++ codes "\nclass ") (path i) two c.in_ok-put_path.ensures in
    then_more out c.put_path.new.out c.extend-3.new.self (codes "code " ++ base i ++ codes "\nclass " ++ path i) (codes "\n") c.extend-3.result three c.extend-3.ensures.ok
