use Rattle.std.proofs.Common.{◌≡◌, ◌≤◌, ◌++◌, length, reverse}
use Rattle.std.specs.List.{flat_map}
use Rattle.jverify.specs.LocalChains.{values}
use Rattle.jverify.specs.FrameTables.{places}
use Rattle.jverify.proofs.declared.places_of.Given as goal

abbrev pub invariant-loop-number : goal.invariant-loop-number
invariant-loop-number l = record {
  within : l.number ≤ length l.chains;
  so_far : flat_map places (values l.chains l.number) ++ reverse l.places.items ≡ flat_map places (values l.chains l.fn.last);
}

abbrev pub decreases-loop-number : goal.decreases-loop-number
decreases-loop-number l = l.number
