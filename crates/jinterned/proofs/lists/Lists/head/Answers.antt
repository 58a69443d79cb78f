use Rattle.std.proofs.Common.{length, ap, arith}
use Rattle.std.proofs.lemmas.List.{length-map}
use Rattle.jinterned.specs.PairLists.{list_of}
use Rattle.jinterned.proofs.PairLists.{head_here}
use Rattle.jinterned.proofs.lists.Lists.head.Goals as goal

pub index-requires : goal.index-requires
index-requires c =
    omega (arith, c.requires.list, ap length c.self.view_is, length-map c.self.inside.entries.items (list_of c.self.inside.pairs), c.self.inside.entries.ok.0)

pub returns : goal.returns
returns c =
    head_here c.self.inside.pairs c.self.inside.entries.items c.args.self.now c.args.n c.index.result.now c.self.view_is c.self.invariant.0 c.requires.list c.index.ensures
    c.self.invariant.1 c.requires.pair
