use Rattle.std.proofs.Common.{rules, ap, sym, ◌∙◌}
use Rattle.std.specs.Prelude.{option_map}
use Rattle.jresolution.specs.juses.IndexedInstructions.{Jump, target}
use Rattle.jresolution.specs.juses.InternedInstructions.{test_of}
use Rattle.jresolution.proofs.juses.numbering.jump.Goals as goal

pub returns-in-Some : goal.returns-in-Some
returns-in-Some c = ap (option_map (Jump (test_of c.args.test))) (sym c.in-Some.is ∙ c.target.ensures ∙ ap (target c.args.ops.now c.args.at) (search rules))

pub returns-in-None : goal.returns-in-None
returns-in-None c = ap (option_map (Jump (test_of c.args.test))) (sym c.in-None.is ∙ c.target.ensures ∙ ap (target c.args.ops.now c.args.at) (search rules))
