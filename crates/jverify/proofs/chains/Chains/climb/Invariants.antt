use Rattle.std.proofs.Common.{◌≡◌, ◌-◌, ◌≤◌, length}
use Rattle.jparts.specs.jmaps.ExpandedFrames.{chopped}
use Rattle.jverify.specs.LocalChains.{values}
use Rattle.jverify.proofs.chains.Chains.climb.Given as goal

abbrev pub invariant-loop-done : goal.invariant-loop-done
invariant-loop-done l = record {
  within : l.last ≤ length l.self;
  so_far : chopped (l.count - l._done) (values l.self l.last) ≡ chopped l.count (values l.self l.fn.end);
}
