use Rattle.std.proofs.Common.{sym, ◌∙◌}
use Rattle.jlinking.proofs.JmembersProofs.FixedMethods.{fixed_none}
use Rattle.jlinking.proofs.jmembers.fixed.is_fixed.Goals as goal

pub returns-then-not-is_fixed_somewhere : goal.returns-then-not-is_fixed_somewhere
returns-then-not-is_fixed_somewhere c = sym (fixed_none c.args.program.now c.args.class.now c.args.name.now c.args.desc.now (sym c.is_fixed_somewhere.ensures ∙ c.if-not-is_fixed_somewhere.true))
