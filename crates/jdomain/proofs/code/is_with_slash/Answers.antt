use Rattle.std.proofs.Common.{◌∙◌}
use Rattle.jdomain.proofs.Slashes.{with_slash, without_slash}
use Rattle.jdomain.proofs.code.is_with_slash.Goals as goal

pub returns-in-Some : goal.returns-in-Some
returns-in-Some c = c.eq.ensures ∙ with_slash _ _ c.in-Some.front.now c.in-Some.ensures.cases.0 c.in-Some.ensures.cases.1

pub returns-in-None : goal.returns-in-None
returns-in-None c = without_slash c.args.path.now c.args.directory.now c.in-None.ensures.cases
