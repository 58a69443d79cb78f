use Rattle.std.proofs.Common.{◌∙◌, length, ap, arith}
use Rattle.std.proofs.lemmas.List.{length-map}
use Rattle.jinterned.specs.PairLists.{list_of}
use Rattle.jinterned.proofs.PairLists.{pair_here, place_there}
use Rattle.jinterned.proofs.lists.Lists.read.Goals as goal

pub index-requires : goal.index-requires
index-requires c =
    omega (arith, c.requires.list, ap length c.self.view_is, length-map c.self.inside.entries.items (list_of c.self.inside.pairs), c.self.inside.entries.ok.0)

pub overflow_add-first : goal.overflow_add-first
overflow_add-first c =
    omega (
      arith,
      place_there c.self.inside.pairs c.self.inside.entries.items c.args.self.now c.args.n c.index.result.now c.self.view_is c.self.invariant.0 c.requires.list c.index.ensures c.args.i c.requires.pair,
      c.len.ensures,
      c.len.type_inv,
    )

pub read-requires : goal.read-requires
read-requires c =
    place_there c.self.inside.pairs c.self.inside.entries.items c.args.self.now c.args.n c.index.result.now c.self.view_is c.self.invariant.0 c.requires.list c.index.ensures c.args.i c.requires.pair

pub returns : goal.returns
returns c =
    c.read.ensures
    ∙ pair_here c.self.inside.pairs c.self.inside.entries.items c.args.self.now c.args.n c.index.result.now c.self.view_is c.self.invariant.0 c.requires.list c.index.ensures c.args.i c.requires.pair
