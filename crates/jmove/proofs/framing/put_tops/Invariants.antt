use Rattle.std.proofs.Common.{◌≡◌, ◌++◌, replicate}
use Rattle.jparts.specs.declared.jmaps.types.MapType.TheVariants.{Top}
use Rattle.jmove.proofs.framing.put_tops.Given as goal

abbrev pub invariant-loop : goal.invariant-loop
invariant-loop l = l.types.items ≡ l.fn.types.items ++ replicate l.counter Top
