use Rattle.std.proofs.Common.{rules}
use Rattle.std.proofs.lemmas.List.Edits.{map_over_more}
use Rattle.jsemantics.specs.ProofNames.{dotted}
use Rattle.jstepping.proofs.jcore.telling.with_dots.Goals as goal

pub loop-unit-preserved : goal.loop-unit-preserved
loop-unit-preserved c = search (rules, map_over_more dotted)
