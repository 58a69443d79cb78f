use Rattle.std.proofs.Common.{◌≡◌, ◌++◌, drop, map, take}
use Rattle.jtyping.specs.jrule.TypeSubstitution.{swapped}
use Rattle.jtyping.proofs.jrule.unready.Unready.all_swapped.Given as goal

abbrev pub invariant-loop-i : goal.invariant-loop-i
invariant-loop-i l = l.types.items ≡ map (swapped l.self l.new) (take l.i l.initial.types.items) ++ drop l.i l.initial.types.items
