use Rattle.std.proofs.Common.{length, ap, ◌∙◌}
use Rattle.jlinking.specs.jmembers.PoolTexts.{has_text}
use Rattle.jlinking.proofs.JmembersProofs.TextNumbers.{number_or, placed}
use Rattle.jlinking.proofs.jmembers.numbers.number_in.Goals as goal

pub returns-in-Some : goal.returns-in-Some
returns-in-Some c = ap (number_or (length c.args.entries.now)) (c.in-Some.ensures ∙ c.requires c.args.text.now) ∙ placed (has_text c.args.text.now) c.args.entries.now

pub returns-in-None : goal.returns-in-None
returns-in-None c = ap (number_or (length c.args.entries.now)) (c.in-None.ensures ∙ c.requires c.args.text.now) ∙ placed (has_text c.args.text.now) c.args.entries.now
