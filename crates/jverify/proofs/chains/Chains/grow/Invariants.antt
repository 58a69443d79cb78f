use Rattle.std.proofs.Common.{◌≡◌, ◌≤◌, ◌++◌, length, take}
use Rattle.jverify.specs.LocalChains.{AreMade, Extends, values}
use Rattle.jverify.proofs.chains.Chains.grow.Given as goal

abbrev pub invariant-loop-kind : goal.invariant-loop-kind
invariant-loop-kind g l = record {
  within : l.last ≤ length l.self;
  so_far : values l.self l.last ≡ values l.fn.self l.fn.end ++ take l.kind-index l.kinds;
  kept : Extends l.fn.self l.self;
  made : AreMade (g.N.News.makes l.news) l.fn.self → AreMade (g.N.News.makes l.news) l.self;
}
