use Rattle.std.specs.Prelude.{option_map, option_to_list}
use Rattle.jvalues.specs.declared.jops.value.Value.TheVariants as values
use Rattle.jlibcalls.proofs.JcontextsProofs.ThreadEntries.{begins_so}
use Rattle.jlibcalls.proofs.jcontexts.beginning.begin.Goals as goal

pub returns-clause-row : goal.returns-clause-row
returns-clause-row g c =
    begins_so c.args.callee c.args.runnable c.args.inherited c.args.side c.in_ok-frames.frames
    (option_to_list (option_map (λ k. values.Ctx k) c.handed_on-ctx.result)) c.if-not-callee.false c.handed_on-ctx.ensures c.in_ok-frames.ensures
