use Rattle.std.proofs.Common.{sym, ◌∙◌}
use Rattle.jresolution.proofs.JprogramProofs.Order.{strict_apart}
use Rattle.jresolution.proofs.jprogram.classes.NamedProgram.is_apart.Goals as goal

pub returns-then-ordered : goal.returns-then-ordered
returns-then-ordered c = λ e. strict_apart c.args.self.now c.args.heights.now c.args.name.now (sym c.requires ∙ c.if-ordered.true) (sym c.is_strict.ensures ∙ e)

pub returns : goal.returns
returns c = λ e. absurd cc
