use Rattle.std.proofs.Common.{◌++◌}
use Rattle.std.specs.Prelude.{codes}
use Rattle.jgen.specs.GeneratedFiles.{base}
use Rattle.jgen.proofs.TextConcatenation.{more, then_more}
use Rattle.jgen.proofs.texts.put_grant.Goals as goal

pub returns : goal.returns
returns c =
    let one = more c.args.out.now c.extend.new.self c.put_base.new.out (codes "grant codeBase \"") (base c.args.i) c.in_ok-extend.ensures.ok c.in_ok-put_base.ensures in
    then_more c.args.out.now c.put_base.new.out c.extend-2.new.self (codes "grant codeBase \"" ++ base c.args.i) (codes "\" { permission java.util.PropertyPermission \"p\", \"read\"; };\n") c.extend-2.result
    one c.extend-2.ensures.ok
