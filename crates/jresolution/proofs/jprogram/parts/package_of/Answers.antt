use Rattle.std.proofs.Common.{◌∙◌}
use Rattle.jresolution.proofs.JprogramProofs.Packages.{package_at, package_end}
use Rattle.jresolution.proofs.jprogram.parts.package_of.Goals as goal

pub returns-then-name-end-eq47 : goal.returns-then-name-end-eq47
returns-then-name-end-eq47 c = c.split_at.ensures.front ∙ package_at c.args.name.now c.loop-end.end c.loop-end-test.true c.loop-end.invariant.0 c.loop-end.invariant.1 c.if-name-end-eq47.true

pub returns : goal.returns
returns c = package_end c.args.name.now c.loop-end.end c.loop-end-test.false c.loop-end.invariant.1
