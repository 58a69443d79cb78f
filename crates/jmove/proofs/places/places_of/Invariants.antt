use Rattle.std.proofs.Common.{drop}
use Rattle.jmove.specs.AssemblyLines.{place_of}
use Rattle.jmove.specs.MethodExpansion.{expansions}
use Rattle.jmove.proofs.LabelTables.{At}
use Rattle.jmove.proofs.places.places_of.Given as goal

abbrev pub invariant-loop-i : goal.invariant-loop-i
invariant-loop-i l = At (λ old. place_of old l.begin (expansions l.s l.kinds l.ops)) l.table.items l.end l.length_of l.at l.s (drop l.i l.kinds) (drop l.i l.ops)
