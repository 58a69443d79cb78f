use Rattle.std.proofs.Common.{◌≡◌, drop}
use Rattle.jlinking.specs.jlink.LinkedPrograms.{domains_rise}
use Rattle.jlinking.proofs.jlink.linked.domains_rise.Given as goal

abbrev pub invariant-loop-part : goal.invariant-loop-part
invariant-loop-part l = domains_rise l.least (drop l.part-index l.parts) ≡ domains_rise 0 l.parts
