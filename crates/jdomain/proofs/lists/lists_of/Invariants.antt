use Rattle.std.proofs.Common.{◌≡◌, ◌<◌, All, length, map, take}
use Rattle.jdomain.specs.GrantShares.{Knows, list_at, taken}
use Rattle.jdomain.proofs.lists.lists_of.Given as goal

abbrev pub invariant-loop-source : goal.invariant-loop-source
invariant-loop-source l = record {
  lists : map (list_at l.all) l.numbers ≡ map (taken l.shares) (take l.source-index l.sources);
  there : All (λ k. k < length l.all) l.numbers;
  knows : Knows l.shares l.all l.known;
}
