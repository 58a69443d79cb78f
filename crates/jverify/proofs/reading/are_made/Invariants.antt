use Rattle.std.proofs.Common.{◌≡◌, drop}
use Rattle.std.specs.List.{list_all}
use Rattle.jverify.specs.LocalChains.{is_made}
use Rattle.jverify.proofs.reading.are_made.Given as goal

abbrev pub invariant-loop-kind : goal.invariant-loop-kind
invariant-loop-kind g l = list_all (is_made (g.N.News.makes l.news)) (drop l.kind-index l.items) ≡ list_all (is_made (g.N.News.makes l.news)) l.items
