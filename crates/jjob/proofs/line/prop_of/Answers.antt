use Rattle.std.proofs.Common.{◌≡◌, false, lit<, rules}
use Rattle.std.specs.Prelude.{codes}
use Rattle.std.specs.Str.{bytes_eq}
use Rattle.jjob.proofs.JobParser.{says_other}
use Rattle.jjob.proofs.line.prop_of.Goals as goal

pub returns-then-ne-clause-none : goal.returns-then-ne-clause-none
returns-then-ne-clause-none c =
    let key = c.in-Some.ensures.byte (lit< tt) (λ w o h. h) in
    let other : bytes_eq c.in-Some.key.now (codes "prop") ≡ false = search rules in
    says_other c.args.line.now c.in-Some.key.now key.0 other
