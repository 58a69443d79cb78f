use Rattle.std.proofs.lemmas.Bool.{ne_eqb}
use Rattle.jgen.proofs.MethodParts.{no_main}
use Rattle.jgen.proofs.class.put_main_of.Goals as goal

pub returns : goal.returns
returns c = no_main c.args.size c.args.i c.args.draft.now (ne_eqb c.args.i 0 c.if-i-eq0.false)
